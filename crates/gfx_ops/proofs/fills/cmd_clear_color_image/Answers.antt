use Rattle.std.proofs.Common.{◌≡◌, ◌++◌, ◌∙◌, ap, subst, OnOk}
use Rattle.gfx_model.specs.Effects.{clear_word}
use Rattle.gfx_objects.specs.Object.{window_of}
use Rattle.gfx_objects.specs.Objects.{answers}
use Rattle.gfx_ops.proofs.Said.{unchanged, nothing_cleared, clear_ops}
use Rattle.gfx_ops.proofs.fills.cmd_clear_color_image.Goals as goal

pub returns-in_default-clause-ok : goal.returns-in_default-clause-ok
returns-in_default-clause-ok c = unchanged _ _ (nothing_cleared _ _ _ _ _ _ _ _ c.in_default.ensures.window)

pub returns-clause-ok : goal.returns-clause-ok
returns-clause-ok c =
    subst (λ more. OnOk c.push.result (c.push.new.self ≡ c.args.ops.now ++ more))
    (clear_ops (answers c.args.objects.now) c.args._cb c.args.image c.args._layout c.args.c0 c.args.c1 c.args.c2 c.args.c3 c.clear_word.result (window_of c.in-Some.window) c.in-Some.ensures.window
    (c.clear_word.ensures ∙ ap (λ f. clear_word f c.args.c0 c.args.c1 c.args.c2 c.args.c3) c.format.ensures))
    c.push.ensures.ok
