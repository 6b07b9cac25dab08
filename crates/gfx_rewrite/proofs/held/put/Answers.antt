use Rattle.std.proofs.Common.{◌-◌, ◌++◌, take, drop, subst}
use Rattle.std.proofs.lemmas.List.{take_rest}
use Rattle.std.proofs.lemmas.Result.{err_from_is_err_and, on_err_weaker, on_ok_weaker}
use Rattle.std.specs.Io.KnownBytes.{Appends}
use Rattle.gfx_io.specs.Pieces.{AppendsPart}
use Rattle.gfx_rewrite.specs.Held.{Held, HeldPart}
use Rattle.gfx_rewrite.proofs.Holding.{held_behind, part_behind, part_failed, part_more, two_parts}
use Rattle.gfx_rewrite.proofs.held.put.Goals as goal

-- a prefix of the first piece was written
pub returns-in_err-write_held-clause-err : goal.returns-in_err-write_held-clause-err
returns-in_err-write_held-clause-err g c =
    let p = err_from_is_err_and c.from_residual-in_err-write_held.result c.from_residual-in_err-write_held.ensures.1 in
    let bytes = c.args.bytes.now in
    let free = 65536 - c.len-free.result in
    let held = c.args.held.now.items in
    let new = c.write_held.new.held.items in
    let part : AppendsPart _ _ (held ++ take free bytes) = subst (AppendsPart _ _) c.in_ok-extend_from_slice-2.ensures.items c.in_err-write_held.ensures.failed in
    rw p.1 (subst (HeldPart _ _ new) (two_parts held bytes free)
    (part_more _ _ new (held ++ take free bytes) (drop free bytes) (part_failed _ _ (held ++ take free bytes) new part c.in_err-write_held.ensures.none)))

-- it was written, and what follows
pub returns-clause-ok : goal.returns-clause-ok
returns-clause-ok g c =
    let bytes = c.args.bytes.now in
    let free = 65536 - c.len-free.result in
    let held = c.args.held.now.items in
    let first : Appends _ _ (held ++ take free bytes) = subst (Appends _ _) c.in_ok-extend_from_slice-2.ensures.items c.in_ok-write_held.ensures.bytes in
    on_ok_weaker c.put_whole.result
    (λ on. subst (Held _ _ _) (two_parts held bytes free) (held_behind _ _ _ (held ++ take free bytes) _ (drop free bytes) first (subst (Held _ _ _) (take_rest bytes free) on)))
    c.put_whole.ensures.ok

pub returns-clause-err : goal.returns-clause-err
returns-clause-err g c =
    let bytes = c.args.bytes.now in
    let free = 65536 - c.len-free.result in
    let held = c.args.held.now.items in
    let first : Appends _ _ (held ++ take free bytes) = subst (Appends _ _) c.in_ok-extend_from_slice-2.ensures.items c.in_ok-write_held.ensures.bytes in
    on_err_weaker c.put_whole.result
    (λ on. subst (HeldPart _ _ _) (two_parts held bytes free) (part_behind _ _ _ (held ++ take free bytes) _ (drop free bytes) first (subst (HeldPart _ _ _) (take_rest bytes free) on)))
    c.put_whole.ensures.err
