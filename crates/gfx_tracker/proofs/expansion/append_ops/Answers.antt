use Rattle.std.proofs.Common.{◌≡◌, Bool, true, false, ℕ, [], ◌++◌, refl, sym, ap, ◌∙◌}
use Rattle.gfx_types.specs.declared.effect.Effect.TheVariants as effect
use Rattle.gfx_model.specs.Events.{event_of}
use Rattle.gfx_model.specs.Views.{View}
use Rattle.gfx_ops.specs.Operations.{listed}
use Rattle.gfx_tracker.specs.State.{state_answers}
use Rattle.gfx_tracker.specs.Operations.{ops_of}
use Rattle.gfx_tracker.proofs.Appended.{nothing_more}
use Rattle.gfx_tracker.proofs.expansion.append_ops.Goals as goal

marker_none : (v : View) (begin : Bool) (frame : ℕ) (with_layouts : Bool) → listed with_layouts (ops_of v (event_of (effect.Marker begin frame))) ≡ []
unfolding ops_of
marker_none v true frame with_layouts = refl
marker_none v false frame with_layouts = refl

pub returns-in-Marker-clause-ok : goal.returns-in-Marker-clause-ok
returns-in-Marker-clause-ok c =
    nothing_more c.args.ops.now
    ∙ ap (λ xs. c.args.ops.now ++ xs)
    (sym (ap (λ e. listed c.args.with_layouts (ops_of (state_answers c.args.state.now) (event_of e))) c.in-Marker.is ∙ marker_none (state_answers c.args.state.now) c.in-Marker.begin c.in-Marker.frame c.args.with_layouts))
