use Rattle.std.proofs.Common.{ap, ◌∙◌, ◌++◌, List, ℕ, is_some}
use Rattle.std.specs.Option.{unwrap_or}
use Rattle.gfx_model.specs.Events.{event_of_call}
use Rattle.gfx_model.specs.Events.Event.{BeginSection}
use Rattle.gfx_model.specs.Spelling.{spelling}
use Rattle.gfx_script.proofs.Keeping.{spelled_kept}
use Rattle.gfx_script.proofs.kept.Kept.of_call.Goals as goal

pub invariant_of-result : goal.invariant_of-result
invariant_of-result c =
    let e = event_of_call c.args.call.now in
    record {
      version = c.requires.version;
      is_read =
          ap is_some
          (spelled_kept c.args.minor e c.call_id.result c.encode.new.out.items c.call_id.ensures.id c.call_id.ensures.kind c.requires.fits
          (c.in_ok-encode.ensures.ok ∙ ap (λ (z : List ℕ). z ++ spelling c.args.minor e) c.new-fields.ensures.items));
    }

pub returns-clause-event : goal.returns-clause-event
returns-clause-event c =
    let e = event_of_call c.args.call.now in
    ap (λ o. unwrap_or o (BeginSection 0))
    (spelled_kept c.args.minor e c.call_id.result c.encode.new.out.items c.call_id.ensures.id c.call_id.ensures.kind c.requires.fits
    (c.in_ok-encode.ensures.ok ∙ ap (λ (z : List ℕ). z ++ spelling c.args.minor e) c.new-fields.ensures.items))
