use Rattle.std.proofs.Common.{◌≡◌, ◌<◌, ◌≤◌, ◌+◌, ◌++◌, ◌∷◌, [], ◌∙◌, ap, subst, sym, OnOk, arith}
use Rattle.gfx_model.specs.Effects.{fill_size}
use Rattle.gfx_model.specs.Views.{size_of}
use Rattle.gfx_model.specs.Limits.{max_live_bytes}
use Rattle.gfx_objects.specs.Object.{window_of}
use Rattle.gfx_objects.specs.Objects.{answers}
use Rattle.gfx_ops.proofs.Bounds.{window_length, near_size, fill_begins}
use Rattle.gfx_ops.proofs.Said.{unchanged, nothing_filled, fill_ops}
use Rattle.gfx_ops.proofs.fills.cmd_fill_buffer.Goals as goal

pub returns-in_default-clause-ok : goal.returns-in_default-clause-ok
returns-in_default-clause-ok c = unchanged _ _ (nothing_filled _ _ _ _ _ _ c.in_default.ensures.window)

pub fill_op-requires : goal.fill_op-requires
fill_op-requires c =
    let v = answers c.args.objects.now in
    let w = window_of c.in-Some.window in
    let near : size_of v c.args.buffer ≤ max_live_bytes = near_size v c.args.buffer w c.in-Some.ensures.window c.in-Some.ensures.ends in
    let begins : c.args.offset < size_of v c.args.buffer = fill_begins v c.args._cb c.args.buffer c.args.offset c.args.size c.args.word c.requires.passes in
    let ends : w.offset + w.length ≤ max_live_bytes = c.in-Some.ensures.ends in
    omega arith

pub returns-clause-ok : goal.returns-clause-ok
returns-clause-ok c =
    let v = answers c.args.objects.now in
    let w = window_of c.in-Some.window in
    subst (λ more. OnOk c.push.result (c.push.new.self ≡ c.args.ops.now ++ more))
    (ap (λ o. o ∷ []) c.fill_op.ensures
    ∙ fill_ops v c.args._cb c.args.buffer c.args.offset c.args.size c.args.word (fill_size w.length c.args.offset c.args.size) w c.in-Some.ensures.window
    (ap (λ n. fill_size n c.args.offset c.args.size) (window_length v c.args.buffer w (sym c.in-Some.ensures.window))))
    c.push.ensures.ok
