use Rattle.std.proofs.Common.{sym, ◌∙◌}
use Rattle.gfx_model.specs.Blocks.{effect}
use Rattle.gfx_blocks.proofs.Saying.{call_cut, unknown_call, call_without_thread, call_refused, call_said, there_with}
use Rattle.gfx_blocks.proofs.payload.read_call.Goals as goal

pub returns-in_default : goal.returns-in_default
returns-in_default c = call_cut c.args.minor c.args.bytes.now c.in_default.ensures

pub returns-then-not-is_row : goal.returns-then-not-is_row
returns-then-not-is_row c = unknown_call c.args.minor c.args.bytes.now c.in-Some.behind.now c.in-Some.id c.in-Some.ensures (sym c.is_row.ensures ∙ c.if-not-is_row.true)

pub returns-in_default-front_u64 : goal.returns-in_default-front_u64
returns-in_default-front_u64 c =
    call_without_thread c.args.minor c.args.bytes.now c.in-Some.behind.now c.in-Some.id c.in-Some.ensures (sym c.is_row.ensures ∙ c.if-not-is_row.false) c.in_default-front_u64.ensures

pub returns-in-Ok : goal.returns-in-Ok
returns-in-Ok c =
    call_said c.args.minor c.args.bytes.now c.in-Some.behind.now c.in-Some-front_u64.fields.now c.in-Some.id c.in-Some-front_u64.thread _
    c.in-Some.ensures c.in-Some-front_u64.ensures c.in-Ok.ensures

pub returns-in-Err-BadParams : goal.returns-in-Err-BadParams
returns-in-Err-BadParams c =
    call_refused c.args.minor c.args.bytes.now c.in-Some.behind.now c.in-Some-front_u64.fields.now c.in-Some.id c.in-Some-front_u64.thread
    c.in-Some.ensures (sym c.is_row.ensures ∙ c.if-not-is_row.false) c.in-Some-front_u64.ensures (rw c.in-Err-BadParams.field-0-is at c.in-Err-BadParams.ensures)

pub returns-in-Err-WantMemory : goal.returns-in-Err-WantMemory
returns-in-Err-WantMemory c =
    there_with _ _ (effect c.in-Some-front_u64.thread)
    (λ e is. call_said c.args.minor c.args.bytes.now c.in-Some.behind.now c.in-Some-front_u64.fields.now c.in-Some.id c.in-Some-front_u64.thread e
    c.in-Some.ensures c.in-Some-front_u64.ensures is)
    (rw c.in-Err-WantMemory.field-0-is at c.in-Err-WantMemory.ensures)
