-- The live ids hold all buffers of which something is kept.
use Rattle.std.proofs.Common.{◌≡◌, ℕ, Bool, true, false, List, [], ◌∷◌, Option, Some, None, is_some, refl, ap, sym, ◌∙◌, arith}
use Rattle.std.specs.Prelude.{option_map, map as each}
use Rattle.std.specs.Ordering.{nat_cmp}
use Rattle.std.specs.FinMap as map
use Rattle.std.specs.FinMap.{entries, get-entries}
use Rattle.std.proofs.lemmas.Bool.Decides.{nat_tests}
use Rattle.gfx_model.specs.Questions.{Buffer}
use Rattle.gfx_model.specs.Checks.{is_among}
use Rattle.gfx_objects.specs.declared.object.Object.{Object}
use Rattle.gfx_objects.specs.Object.{made}
use Rattle.gfx_objects.specs.Objects.{Kept, answers}
use Rattle.gfx_commands.specs.Recordings.{HoldsKept}
use Rattle.gfx_tracker.specs.Gathered.{IsPlain}
use Rattle.gfx_tracker.proofs.Gathered.{dead_not, new_not_kept}

among : (es : List (ℕ × Object)) (x : ℕ) → is_some (map.find nat_cmp x es) ≡ true → is_among x (each (λ e. e.0) es) ≡ true
among [] x some = some
among (e ∷ es) x some = let rest = among es x in grind (arith, nat_tests, some, rest)

some_made : (o : Option Object) → is_some (option_map made o) ≡ is_some o
some_made None = refl
some_made (Some o) = refl

live_among : (k : Kept) (x : ℕ) → is_some ((answers k).live x) ≡ true → is_among x (answers k).ids ≡ true
unfolding answers
live_among k x live = among (entries k.rows) x (ap is_some (sym (get-entries k.rows x)) ∙ sym (some_made (map.get k.rows x)) ∙ live)

pub kept_among : (k : Kept) (b : ℕ → Buffer) → IsPlain (answers k).live b → HoldsKept b (answers k).ids
kept_among k b plain cb kept = live_among k cb (by (is_some ((answers k).live cb)) refl)
  where
    by : (t : Bool) → is_some ((answers k).live cb) ≡ t → is_some ((answers k).live cb) ≡ true
    by true is = is
    by false is = let gone = new_not_kept (b cb) (plain.plain cb (dead_not _ ((answers k).live cb) is)) in absurd (cc (gone, kept))
