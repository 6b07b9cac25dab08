use Rattle.std.proofs.Common.{ap, ◌∙◌, ◌++◌, List, ℕ, is_some}
use Rattle.std.specs.Option.{unwrap_or}
use Rattle.gfx_model.specs.Events.{event_of_meta}
use Rattle.gfx_model.specs.Events.Event.{BeginSection}
use Rattle.gfx_model.specs.Spelling.{spelling}
use Rattle.gfx_script.proofs.Keeping.{write_kept, write_spelled}
use Rattle.gfx_script.proofs.kept.Kept.of_write.Goals as goal

pub encode_meta-requires : goal.encode_meta-requires
encode_meta-requires c = write_spelled c.args.minor c.args.write.now c.requires.written c.requires.fits

pub invariant_of-result : goal.invariant_of-result
invariant_of-result c = record {
  version = c.requires.version;
  is_read =
      ap is_some
      (write_kept c.args.minor c.args.write.now c.encode_meta.new.out.items c.requires.written c.requires.fits
      (c.in_ok-encode_meta.ensures.ok ∙ ap (λ (z : List ℕ). z ++ spelling 1 (event_of_meta c.args.write.now)) c.new-fields.ensures.items));
}

pub returns-clause-event : goal.returns-clause-event
returns-clause-event c =
    ap (λ o. unwrap_or o (BeginSection 0))
    (write_kept c.args.minor c.args.write.now c.encode_meta.new.out.items c.requires.written c.requires.fits
    (c.in_ok-encode_meta.ensures.ok ∙ ap (λ (z : List ℕ). z ++ spelling 1 (event_of_meta c.args.write.now)) c.new-fields.ensures.items))
