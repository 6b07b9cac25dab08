use Rattle.std.proofs.Common.{◌≡◌, ◌++◌, List, ℕ, Some, sym, ap, ◌∙◌}
use Rattle.gfx_model.specs.Blocks.{minor_of}
use Rattle.gfx_list.proofs.Placing.{no_header}
use Rattle.gfx_list.proofs.parts.take_header.Goals as goal

pub returns-in-Ok-clause-takes : goal.returns-in-Ok-clause-takes
returns-in-Ok-clause-takes c =
    let (bytes, read, grown, is) = c.in-Ok.ensures.ok in
    let new : c.read_head.new.out.items ≡ bytes = grown ∙ ap (λ (xs : List ℕ). xs ++ bytes) c.requires in
    record { read = read ∙ ap Some (sym new); minor_is = is ∙ ap minor_of (sym new); version = c.in-Ok.ensures.version }

pub returns-in-Err-clause-fault : goal.returns-in-Err-clause-fault
returns-in-Err-clause-fault c = rw c.line_fault.ensures (no_header c.args.line.now c.in-Err.fault c.in-Err.ensures.bad)

pub returns-in-Err-clause-unchanged : goal.returns-in-Err-clause-unchanged
returns-in-Err-clause-unchanged c = c.in-Err.ensures.err ∙ c.requires
