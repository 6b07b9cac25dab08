use Rattle.std.proofs.Common.{◌≡◌, ◌++◌, ◌∙◌, ap, subst, sym, map, OnOk}
use Rattle.std.specs.List.{AllByRecursion}
use Rattle.gfx_objects.specs.Object.{window_of}
use Rattle.gfx_objects.specs.Objects.{answers}
use Rattle.gfx_ops.specs.Operations.{buffer_op}
use Rattle.gfx_ops.specs.Regions.{IsNearRegion}
use Rattle.gfx_ops.proofs.Bounds.{near_size, copy_buffer_regions}
use Rattle.gfx_ops.proofs.Said.{unchanged, no_source, no_target, buffer_ops}
use Rattle.gfx_ops.proofs.copies.cmd_copy_buffer.Goals as goal

pub returns-in_default-clause-ok : goal.returns-in_default-clause-ok
returns-in_default-clause-ok c = unchanged _ _ (no_source _ _ _ _ _ c.in_default.ensures.window)

pub returns-in_default-window-clause-ok : goal.returns-in_default-window-clause-ok
returns-in_default-window-clause-ok c = unchanged _ _ (no_target _ _ _ _ _ (window_of c.in-Some.from) c.in-Some.ensures.window c.in_default-window.ensures.window)

pub append_each-requires : goal.append_each-requires
append_each-requires c =
    let v = answers c.args.objects.now in
    subst (λ rs. AllByRecursion IsNearRegion rs) (sym c.items.ensures)
    (copy_buffer_regions v c.args._cb c.args.source c.args.target c.args.regions.now
    (near_size v c.args.source (window_of c.in-Some.from) c.in-Some.ensures.window c.in-Some.ensures.ends)
    (near_size v c.args.target (window_of c.in-Some-window.to) c.in-Some-window.ensures.window c.in-Some-window.ensures.ends) c.requires.passes)

pub returns-clause-ok : goal.returns-clause-ok
returns-clause-ok c =
    let s = window_of c.in-Some.from in
    let t = window_of c.in-Some-window.to in
    subst (λ more. OnOk c.append_each.result (c.append_each.new.ops ≡ c.args.ops.now ++ more))
    (ap (map (buffer_op s t)) c.items.ensures
    ∙ buffer_ops (answers c.args.objects.now) c.args._cb c.args.source c.args.target c.args.regions.now s t c.in-Some.ensures.window c.in-Some-window.ensures.window)
    c.append_each.ensures.ok
