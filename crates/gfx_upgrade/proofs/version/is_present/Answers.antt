use Rattle.std.proofs.Common.{sym, ap, ◌∙◌}
use Rattle.gfx_model.specs.Events.{event_of}
use Rattle.gfx_upgrade.specs.Upgraded.{is_present}
use Rattle.gfx_upgrade.proofs.UpgradedLaws.{no_marker, no_meta}
use Rattle.gfx_upgrade.proofs.version.is_present.Goals as goal

pub returns-in-Call : goal.returns-in-Call
returns-in-Call c = c.presents.ensures ∙ ap (λ e. is_present (event_of e)) (sym c.in-Call.is)

pub returns-in-Meta : goal.returns-in-Meta
returns-in-Meta c = sym (no_meta c.in-Meta.field-0) ∙ ap (λ e. is_present (event_of e)) (sym c.in-Meta.is)

pub returns-in-Marker : goal.returns-in-Marker
returns-in-Marker c = sym (no_marker c.in-Marker.begin c.in-Marker.frame) ∙ ap (λ e. is_present (event_of e)) (sym c.in-Marker.is)
