-- Images that are dropped one after another, where they are not live.
use Rattle.std.proofs.Common.{◌≡◌, ℕ, Bool, true, false, ◌&&◌, ◌||◌, not, if◌then◌else◌, ◌∙◌, List, [], ◌∷◌, ◌++◌, None, ◌==◌, arith}
use Rattle.std.proofs.lemmas.Bool.Decides.{nat_tests}
use Rattle.std.proofs.lemmas.List.Folds.{list_any-append}
use Rattle.gfx_types.specs.declared.op.Place.TheVariants as place
use Rattle.gfx_model.specs.Checks.{is_among}
use Rattle.gfx_replay.specs.Maps.{IsSet}
use Rattle.gfx_replay.specs.Held.{Bytes}

-- those of these images that are not live have nothing now, and every other place what it had
pub record AreDropped (old now : Bytes) (live : ℕ → Bool) (ids : List ℕ) : Type 0 where
  pub memories : (m : ℕ) → now (place.Memory m) ≡ old (place.Memory m)
  pub images : (x : ℕ) → now (place.Image x) ≡ (if is_among x ids && not (live x) then None else old (place.Image x))

module _ (old now : Bytes) (live : ℕ → Bool) (ids : List ℕ) (id : ℕ) (dropped : AreDropped old now live ids) where
  among_more : (x : ℕ) → is_among x (ids ++ id ∷ []) ≡ (is_among x ids || is_among x (id ∷ []))
  among_more x = list_any-append (λ y. y == x) ids (id ∷ [])

  -- one more, which is not live
  pub one_dropped : (new : Bytes) → live id ≡ false → IsSet now new (place.Image id) None → AreDropped old new live (ids ++ id ∷ [])
  one_dropped new dead set = record {
    memories = λ m. set (place.Memory m) ∙ dropped.memories m;
    images = λ x.
        let a = set (place.Image x) in
        let b = dropped.images x in
        let c = among_more x in
        let same : id ≡ x → live x ≡ false = λ p. rw p at dead in
        grind (arith, nat_tests, a, b, c, same);
  }

  -- one more, which is live
  pub one_stays : live id ≡ true → AreDropped old now live (ids ++ id ∷ [])
  one_stays alive = record {
    memories = dropped.memories;
    images = λ x.
        let b = dropped.images x in
        let c = among_more x in
        let same : id ≡ x → live x ≡ true = λ p. rw p at alive in
        grind (arith, nat_tests, b, c, same);
  }
