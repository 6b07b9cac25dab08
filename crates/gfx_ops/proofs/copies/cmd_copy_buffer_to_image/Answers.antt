use Rattle.std.proofs.Common.{◌≡◌, ◌++◌, ◌∙◌, ap, subst, sym, map, OnOk}
use Rattle.std.specs.List.{AllByRecursion}
use Rattle.gfx_objects.specs.Object.{window_of}
use Rattle.gfx_objects.specs.Objects.{answers}
use Rattle.gfx_ops.specs.Operations.{upload_op}
use Rattle.gfx_ops.specs.Regions.{IsMixedRegion}
use Rattle.gfx_ops.proofs.Bounds.{near_size, upload_regions, wide_shape, tall_shape}
use Rattle.gfx_ops.proofs.Said.{unchanged, no_upload_source, no_upload_target, upload_ops}
use Rattle.gfx_ops.proofs.copies.cmd_copy_buffer_to_image.Goals as goal

pub returns-in_default-clause-ok : goal.returns-in_default-clause-ok
returns-in_default-clause-ok c = unchanged _ _ (no_upload_source _ _ _ _ _ _ c.in_default.ensures.window)

pub returns-in_default-window-clause-ok : goal.returns-in_default-window-clause-ok
returns-in_default-window-clause-ok c = unchanged _ _ (no_upload_target _ _ _ _ _ _ (window_of c.in-Some.buffer) c.in-Some.ensures.window c.in_default-window.ensures.window)

pub append_each-requires : goal.append_each-requires
append_each-requires c =
    let v = answers c.args.objects.now in
    let p = c.shape_of-shape in
    subst (λ rs. AllByRecursion IsMixedRegion rs) (sym c.items.ensures)
    (upload_regions v c.args._cb c.args.source c.args.target c.args._layout c.args.regions.now
    (near_size v c.args.source (window_of c.in-Some.buffer) c.in-Some.ensures.window c.in-Some.ensures.ends)
    (wide_shape v c.args.target p.result p.ensures.shape p.ensures.wide) (tall_shape v c.args.target p.result p.ensures.shape p.ensures.tall) c.requires.passes)

pub returns-clause-ok : goal.returns-clause-ok
returns-clause-ok c =
    let s = window_of c.in-Some.buffer in
    let t = window_of c.in-Some-window.image in
    let p = c.shape_of-shape in
    subst (λ more. OnOk c.append_each.result (c.append_each.new.ops ≡ c.args.ops.now ++ more))
    (ap (map (upload_op p.result s t)) c.items.ensures
    ∙ upload_ops (answers c.args.objects.now) c.args._cb c.args.source c.args.target c.args._layout c.args.regions.now s t p.result
    c.in-Some.ensures.window c.in-Some-window.ensures.window p.ensures.shape)
    c.append_each.ensures.ok
