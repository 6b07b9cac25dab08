use Rattle.std.proofs.Common.{◌≡◌, [], take, drop, subst, ◌∙◌, take-append-drop}
use Rattle.std.proofs.lemmas.Result.{err_from_is_err_and}
use Rattle.gfx_rewrite.specs.Held.{HeldPart}
use Rattle.gfx_rewrite.proofs.Holding.{held_none, part_failed, part_held, part_more}
use Rattle.gfx_rewrite.proofs.held.put_whole.Goals as goal

-- a prefix of the whole pieces was written
pub returns-in_err-write_whole-clause-err : goal.returns-in_err-write_whole-clause-err
returns-in_err-write_whole-clause-err g c =
    let p = err_from_is_err_and c.from_residual.result c.from_residual.ensures.1 in
    let bytes = c.args.bytes.now in
    let whole = c.whole_pieces-whole.result in
    let held = c.args.held.now.items in
    rw p.1 (subst (HeldPart _ _ held) (take-append-drop whole bytes)
    (part_more _ _ held (take whole bytes) (drop whole bytes) (part_failed _ _ (take whole bytes) held c.in_err-write_whole.ensures.failed c.requires)))

-- they were written, and there was no memory for the rest
pub returns-in_err-extend_from_slice-clause-err : goal.returns-in_err-extend_from_slice-clause-err
returns-in_err-extend_from_slice-clause-err g c =
    let p = err_from_is_err_and c.from_residual-in_err-extend_from_slice.result c.from_residual-in_err-extend_from_slice.ensures.1 in
    let bytes = c.args.bytes.now in
    let whole = c.whole_pieces-whole.result in
    let new = c.extend_from_slice.new.self.items in
    let none : new ≡ [] = c.in_err-extend_from_slice.ensures.items ∙ c.requires in
    rw p.1 (subst (HeldPart _ _ new) (take-append-drop whole bytes)
    (part_more _ _ new (take whole bytes) (drop whole bytes) (part_held _ _ new (take whole bytes) (held_none _ _ (take whole bytes) new c.in_ok-write_whole.ensures.bytes none))))
