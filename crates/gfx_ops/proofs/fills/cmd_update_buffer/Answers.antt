use Rattle.std.proofs.Common.{◌≡◌, ◌≤◌, ◌+◌, ◌++◌, ◌∷◌, [], ◌∙◌, ap, subst, OnOk, arith}
use Rattle.gfx_types.specs.declared.op.Op.TheVariants as op
use Rattle.gfx_model.specs.Views.{size_of}
use Rattle.gfx_model.specs.Limits.{max_live_bytes}
use Rattle.gfx_objects.specs.Object.{window_of}
use Rattle.gfx_objects.specs.Objects.{answers}
use Rattle.gfx_ops.proofs.Bounds.{near_size, update_begins}
use Rattle.gfx_ops.proofs.Said.{unchanged, nothing_updated, update_ops}
use Rattle.gfx_ops.proofs.fills.cmd_update_buffer.Goals as goal

pub returns-in_default-clause-ok : goal.returns-in_default-clause-ok
returns-in_default-clause-ok c = unchanged _ _ (nothing_updated _ _ _ _ _ c.in_default.ensures.window)

pub update_op-requires : goal.update_op-requires
update_op-requires c =
    let v = answers c.args.objects.now in
    let w = window_of c.in-Some.window in
    let near : size_of v c.args.buffer ≤ max_live_bytes = near_size v c.args.buffer w c.in-Some.ensures.window c.in-Some.ensures.ends in
    let begins : c.args.offset ≤ size_of v c.args.buffer = update_begins v c.args._cb c.args.buffer c.args.offset c.args.bytes.now c.requires.passes in
    let ends : w.offset + w.length ≤ max_live_bytes = c.in-Some.ensures.ends in
    omega arith

pub returns-clause-ok : goal.returns-clause-ok
returns-clause-ok c =
    let v = answers c.args.objects.now in
    let w = window_of c.in-Some.window in
    subst (λ more. OnOk c.push.result (c.push.new.self ≡ c.args.ops.now ++ more))
    (ap (λ o. o ∷ []) c.update_op.ensures
    ∙ ap (λ bytes. op.Put w.place (w.offset + c.args.offset) bytes ∷ []) (c.of.ensures ∙ c.in_ok-bytes.ensures.items)
    ∙ update_ops v c.args._cb c.args.buffer c.args.offset c.args.bytes.now w c.in-Some.ensures.window)
    c.push.ensures.ok
