use Rattle.std.proofs.Common.{ℕ, ◌∙◌, ap, sym, if◌then◌else◌}
use Rattle.gfx_pages.specs.Lists.{overwrite}
use Rattle.gfx_device.specs.declared.rows.Rows.{Rows}
use Rattle.gfx_device.specs.Rows.{copied}
use Rattle.gfx_device.specs.Places.{places, after, changed, bytes_of}
use Rattle.gfx_device.proofs.Copies.{from_ok, same_handle_true, same_handle_false}
use Rattle.gfx_device.proofs.device.Device.run.Goals as goal
use Rattle.gfx_device.proofs.device.Device.run.Goals.{in-Put, in-PutGiven, in-Fill, in-Copy+then-to-from, in-Copy+else-to-from}

abbrev rows_of : ℕ → ℕ → ℕ → ℕ → ℕ → ℕ → Rows
rows_of to to_step from from_step size count = record {
  to_offset = to;
  to_step = to_step;
  from_offset = from;
  from_step = from_step;
  length = size;
  rows = count;
}

pub returns-in-Ok-clause-ok : goal.returns-in-Ok-clause-ok
returns-in-Ok-clause-ok c =
    elim c.match-op.branch [
      | in-Put w ↦
          (λ handle.
          ap (λ d. places d handle) w.self-is
          ∙ from_ok _ _ _ (sym w.done-is ∙ c.in-Ok.is) w.put-done.ensures.ok handle
          ∙ ap (λ b. changed w.in-Put.place (λ here. overwrite here w.in-Put.offset b) (places c.args.self.now) handle) w.items.ensures
          ∙ sym (ap (λ op. after op c.args.given.now (places c.args.self.now) handle) w.in-Put.is))
      | in-PutGiven w ↦
          (λ handle.
          ap (λ d. places d handle) w.self-is
          ∙ from_ok _ _ _ (sym w.done-is ∙ c.in-Ok.is) w.put-done-in-PutGiven.ensures.ok handle
          ∙ sym (ap (λ op. after op c.args.given.now (places c.args.self.now) handle) w.in-PutGiven.is))
      | in-Fill w ↦
          (λ handle.
          ap (λ d. places d handle) w.self-is
          ∙ from_ok _ _ _ (sym w.done-is ∙ c.in-Ok.is) w.fill-done.ensures.ok handle
          ∙ sym (ap (λ op. after op c.args.given.now (places c.args.self.now) handle) w.in-Fill.is))
      | in-Copy+then-to-from w ↦
          (λ handle.
          ap (λ d. places d handle) w.self-is
          ∙ from_ok _ _ _ (sym w.done-is ∙ c.in-Ok.is) w.copy_within.ensures.ok handle
          ∙ sym (ap (λ t. changed w.in-Copy.to (copied (rows_of w.in-Copy.to_offset w.in-Copy.to_step w.in-Copy.from_offset w.in-Copy.from_step w.in-Copy.length w.in-Copy.rows) (λ here. if t then here else bytes_of (places c.args.self.now) w.in-Copy.from) w.in-Copy.rows) (places c.args.self.now) handle) (same_handle_true w.in-Copy.to w.in-Copy.from w.if-to-from.true))
          ∙ sym (ap (λ op. after op c.args.given.now (places c.args.self.now) handle) w.in-Copy.is))
      | in-Copy+else-to-from w ↦
          (λ handle.
          ap (λ d. places d handle) w.self-is
          ∙ from_ok _ _ _ (sym w.done-is ∙ c.in-Ok.is) w.copy_between.ensures.ok handle
          ∙ sym (ap (λ t. changed w.in-Copy.to (copied (rows_of w.in-Copy.to_offset w.in-Copy.to_step w.in-Copy.from_offset w.in-Copy.from_step w.in-Copy.length w.in-Copy.rows) (λ here. if t then here else bytes_of (places c.args.self.now) w.in-Copy.from) w.in-Copy.rows) (places c.args.self.now) handle) (same_handle_false w.in-Copy.to w.in-Copy.from w.if-to-from.false))
          ∙ sym (ap (λ op. after op c.args.given.now (places c.args.self.now) handle) w.in-Copy.is))
    ]
