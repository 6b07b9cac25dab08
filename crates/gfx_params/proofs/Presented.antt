-- The one present of a call in version 1.
use Rattle.std.proofs.Common.{◌≡◌, ℕ, List, [], ◌∷◌, ◌++◌, length, slice_index_or, refl, arith}
use Rattle.gfx_types.specs.declared.lists.Present.{Present}
use Rattle.gfx_model.specs.Events.Event.{QueuePresentKHR}
use Rattle.gfx_model.specs.Spelling.{id_fields, list_of, present_fields, spelling, fields_of}
use Rattle.gfx_grammar.specs.Reads.{text_of}

pub one_spelled : (queue : ℕ) (waits : List ℕ) (ps : List Present) (d : Present) → length ps ≡ 1
    → spelling 1 (QueuePresentKHR queue waits ps) ≡ text_of (id_fields queue ++ (list_of id_fields waits ++ present_fields (slice_index_or ps 0 d)))
unfolding spelling fields_of
one_spelled queue waits (p ∷ []) d one = refl
one_spelled queue waits [] d one = absurd (omega (arith, one))
one_spelled queue waits (p ∷ q ∷ ps) d one = absurd (omega (arith, one))
