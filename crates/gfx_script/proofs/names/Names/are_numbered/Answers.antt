use Rattle.std.proofs.Common.{◌≡◌, Some, List, map, subst, true}
use Rattle.gfx_script_model.specs.Scripts.{Defined, number_of, may_use}
use Rattle.gfx_script.specs.Numbered.{definition_of}
use Rattle.gfx_script.proofs.NamePlaces.{only-number}
use Rattle.gfx_script.proofs.names.Names.are_numbered.Goals as goal

pub returns-clause-once : goal.returns-clause-once
returns-clause-once c = λ phase thread name n h.
    subst (λ (z : List Defined). number_of (may_use phase thread) z name ≡ Some n → number_of (λ d. true) z name ≡ Some n) c.self.view_is
    (only-number (may_use phase thread) (map definition_of c.self.inside.defined.items) c.self.inside.places name n c.self.invariant) h
