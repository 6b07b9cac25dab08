use Rattle.std.proofs.Common.{rules, ◌≡◌, Some, ap, ◌∙◌}
use Rattle.gfx_model.specs.Events.Event.{CreateFence, DestroyFence, ResetFences, WaitForFences, GetFenceStatus, CreateSemaphore, DestroySemaphore}
use Rattle.gfx_grammar.specs.Rows.{with2, with3, with4}
use Rattle.gfx_text_grammar.specs.FieldReading.{read_field, read_made}
use Rattle.gfx_text_grammar.specs.Rows.{calls}
use Rattle.gfx_text.specs.Fields.{left_of}
use Rattle.gfx_text.specs.Places.{row_at}
use Rattle.gfx_text.proofs.reading.read_signals.Given.{Over}
use Rattle.gfx_text.proofs.reading.read_signals.Goals as goal

pub returns-in-Ok : goal.returns-in-Ok
unfolding row_at read_field read_made
returns-in-Ok g c = let is : c.args.row ≡ 34 = search rules in rw is (c.in-Ok.ensures (with3 CreateFence))

pub returns-in-Err : goal.returns-in-Err
unfolding row_at read_field read_made
returns-in-Err g c = let is : c.args.row ≡ 34 = search rules in rw is (c.in-Err.ensures (with3 CreateFence))

pub returns-in-Ok-read_whole : goal.returns-in-Ok-read_whole
unfolding row_at read_field read_made
returns-in-Ok-read_whole g c = let is : c.args.row ≡ 35 = search rules in rw is (c.in-Ok-read_whole.ensures (with2 DestroyFence))

pub returns-in-Err-read_whole : goal.returns-in-Err-read_whole
unfolding row_at read_field read_made
returns-in-Err-read_whole g c = let is : c.args.row ≡ 35 = search rules in rw is (c.in-Err-read_whole.ensures (with2 DestroyFence))

pub returns-in-Ok-read_whole-2 : goal.returns-in-Ok-read_whole-2
unfolding row_at read_field read_made
returns-in-Ok-read_whole-2 g c = let is : c.args.row ≡ 36 = search rules in rw is (c.in-Ok-read_whole-2.ensures (with2 ResetFences))

pub returns-in-Err-read_whole-2 : goal.returns-in-Err-read_whole-2
unfolding row_at read_field read_made
returns-in-Err-read_whole-2 g c = let is : c.args.row ≡ 36 = search rules in rw is (c.in-Err-read_whole-2.ensures (with2 ResetFences))

waits_read : (g : Over) (c : goal.In-Ok-read_whole-3 g) → row_at 1 (calls (g.I.ReadId.style c.args.ids.now) c.args.minor) c.args.row (left_of c.args.left)
    ≡ Some (WaitForFences c.in-Ok-read_whole-3.field-0-0.0 c.in-Ok-read_whole-3.field-0-1-0.0 c.in-Ok-read_whole-3.field-0-1-1-0.0 c.in-Ok-read_whole-3.field-0-1-1-1.0)
unfolding row_at read_field
waits_read g c =
    let is : c.args.row ≡ 37 = search rules in
    ap (λ n. row_at 1 (calls (g.I.ReadId.style c.args.ids.now) c.args.minor) n (left_of c.args.left)) is ∙ c.in-Ok-read_whole-3.ensures (with4 WaitForFences)

pub returns-in-Ok-read_whole-3 : goal.returns-in-Ok-read_whole-3
returns-in-Ok-read_whole-3 g c = let is = waits_read g c in search rules

pub returns-in-Err-read_whole-3 : goal.returns-in-Err-read_whole-3
unfolding row_at read_field read_made
returns-in-Err-read_whole-3 g c = let is : c.args.row ≡ 37 = search rules in rw is (c.in-Err-read_whole-3.ensures (with4 WaitForFences))

pub returns-in-Ok-read_whole-4 : goal.returns-in-Ok-read_whole-4
unfolding row_at read_field read_made
returns-in-Ok-read_whole-4 g c = let is : c.args.row ≡ 38 = search rules in rw is (c.in-Ok-read_whole-4.ensures (with3 GetFenceStatus))

pub returns-in-Err-read_whole-4 : goal.returns-in-Err-read_whole-4
unfolding row_at read_field read_made
returns-in-Err-read_whole-4 g c = let is : c.args.row ≡ 38 = search rules in rw is (c.in-Err-read_whole-4.ensures (with3 GetFenceStatus))

pub returns-in-Ok-read_whole-5 : goal.returns-in-Ok-read_whole-5
unfolding row_at read_field read_made
returns-in-Ok-read_whole-5 g c = let is : c.args.row ≡ 39 = search rules in rw is (c.in-Ok-read_whole-5.ensures (with2 CreateSemaphore))

pub returns-in-Err-read_whole-5 : goal.returns-in-Err-read_whole-5
unfolding row_at read_field read_made
returns-in-Err-read_whole-5 g c = let is : c.args.row ≡ 39 = search rules in rw is (c.in-Err-read_whole-5.ensures (with2 CreateSemaphore))

pub returns-in-Ok-read_whole-6 : goal.returns-in-Ok-read_whole-6
unfolding row_at read_field read_made
returns-in-Ok-read_whole-6 g c = let is : c.args.row ≡ 40 = search rules in rw is (c.in-Ok-read_whole-6.ensures (with2 DestroySemaphore))

pub returns-in-Err-read_whole-6 : goal.returns-in-Err-read_whole-6
unfolding row_at read_field read_made
returns-in-Err-read_whole-6 g c = let is : c.args.row ≡ 40 = search rules in rw is (c.in-Err-read_whole-6.ensures (with2 DestroySemaphore))
