use Rattle.std.proofs.Common.{sym, ◌∙◌}
use Rattle.gfx_model.specs.Blocks.{effect}
use Rattle.gfx_blocks.proofs.Saying.{meta_cut, message_said, unknown_meta, meta_without_thread, meta_refused, meta_said, read_meta-version, there_with}
use Rattle.gfx_blocks.proofs.payload.read_metadata.Goals as goal

pub returns-in_default : goal.returns-in_default
returns-in_default c = meta_cut c.args.minor c.args.bytes.now c.in_default.ensures

pub returns-then-id-eq1 : goal.returns-then-id-eq1
returns-then-id-eq1 c = message_said c.args.minor c.args.bytes.now c.in-Some.behind.now c.in-Some.id c.in-Some.ensures c.if-id-eq1.true

pub returns-then-not-is_row : goal.returns-then-not-is_row
returns-then-not-is_row c =
    unknown_meta c.args.minor c.args.bytes.now c.in-Some.behind.now c.in-Some.id c.in-Some.ensures c.if-id-eq1.false (sym c.is_row.ensures ∙ c.if-not-is_row.true)

pub returns-in_default-front_u64 : goal.returns-in_default-front_u64
returns-in_default-front_u64 c =
    meta_without_thread c.args.minor c.args.bytes.now c.in-Some.behind.now c.in-Some.id c.in-Some.ensures c.if-id-eq1.false
    (sym c.is_row.ensures ∙ c.if-not-is_row.false) c.in_default-front_u64.ensures

pub returns-in-Ok : goal.returns-in-Ok
returns-in-Ok c =
    meta_said c.args.minor c.args.bytes.now c.in-Some.behind.now c.in-Some-front_u64.fields.now c.in-Some.id c.in-Some-front_u64.thread _
    c.in-Some.ensures c.if-id-eq1.false c.in-Some-front_u64.ensures (read_meta-version c.args.minor 1 c.in-Some.id c.in-Some-front_u64.fields.now ∙ c.in-Ok.ensures)

pub returns-in-Err-BadParams : goal.returns-in-Err-BadParams
returns-in-Err-BadParams c =
    meta_refused c.args.minor c.args.bytes.now c.in-Some.behind.now c.in-Some-front_u64.fields.now c.in-Some.id c.in-Some-front_u64.thread
    c.in-Some.ensures c.if-id-eq1.false (sym c.is_row.ensures ∙ c.if-not-is_row.false) c.in-Some-front_u64.ensures
    (read_meta-version c.args.minor 1 c.in-Some.id c.in-Some-front_u64.fields.now ∙ (rw c.in-Err-BadParams.field-0-is at c.in-Err-BadParams.ensures))

pub returns-in-Err-WantMemory : goal.returns-in-Err-WantMemory
returns-in-Err-WantMemory c =
    there_with _ _ (effect c.in-Some-front_u64.thread)
    (λ e is. meta_said c.args.minor c.args.bytes.now c.in-Some.behind.now c.in-Some-front_u64.fields.now c.in-Some.id c.in-Some-front_u64.thread e
    c.in-Some.ensures c.if-id-eq1.false c.in-Some-front_u64.ensures (read_meta-version c.args.minor 1 c.in-Some.id c.in-Some-front_u64.fields.now ∙ is))
    (rw c.in-Err-WantMemory.field-0-is at c.in-Err-WantMemory.ensures)
