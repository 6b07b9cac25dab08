use Rattle.std.proofs.Common.{◌≡◌, ◌++◌, ◌∙◌, ap, subst, sym, map, OnOk}
use Rattle.std.specs.List.{AllByRecursion}
use Rattle.gfx_objects.specs.Object.{window_of}
use Rattle.gfx_objects.specs.Objects.{answers}
use Rattle.gfx_ops.specs.Operations.{image_op}
use Rattle.gfx_ops.specs.Regions.{IsImageRegion}
use Rattle.gfx_ops.proofs.Bounds.{copy_image_regions, wide_shape, tall_shape}
use Rattle.gfx_ops.proofs.Said.{unchanged, no_source_image, no_target_image, image_ops}
use Rattle.gfx_ops.proofs.copies.cmd_copy_image.Goals as goal

pub returns-in_default-clause-ok : goal.returns-in_default-clause-ok
returns-in_default-clause-ok c = unchanged _ _ (no_source_image _ _ _ _ _ _ _ c.in_default.ensures.window)

pub returns-in_default-window-clause-ok : goal.returns-in_default-window-clause-ok
returns-in_default-window-clause-ok c = unchanged _ _ (no_target_image _ _ _ _ _ _ _ (window_of c.in-Some.from) c.in-Some.ensures.window c.in_default-window.ensures.window)

pub append_each-requires : goal.append_each-requires
append_each-requires c =
    let v = answers c.args.objects.now in
    let p = c.shape_of-source_shape in
    let q = c.shape_of-target_shape in
    subst (λ rs. AllByRecursion IsImageRegion rs) (sym c.items.ensures)
    (copy_image_regions v c.args._cb c.args.source c.args._source_layout c.args.target c.args._target_layout c.args.regions.now
    (wide_shape v c.args.source p.result p.ensures.shape p.ensures.wide) (tall_shape v c.args.source p.result p.ensures.shape p.ensures.tall)
    (wide_shape v c.args.target q.result q.ensures.shape q.ensures.wide) (tall_shape v c.args.target q.result q.ensures.shape q.ensures.tall) c.requires.passes)

pub returns-clause-ok : goal.returns-clause-ok
returns-clause-ok c =
    let s = window_of c.in-Some.from in
    let t = window_of c.in-Some-window.to in
    let p = c.shape_of-source_shape in
    let q = c.shape_of-target_shape in
    subst (λ more. OnOk c.append_each.result (c.append_each.new.ops ≡ c.args.ops.now ++ more))
    (ap (map (image_op p.result q.result s t)) c.items.ensures
    ∙ image_ops (answers c.args.objects.now) c.args._cb c.args.source c.args._source_layout c.args.target c.args._target_layout c.args.regions.now s t p.result q.result
    c.in-Some.ensures.window c.in-Some-window.ensures.window p.ensures.shape q.ensures.shape)
    c.append_each.ensures.ok
