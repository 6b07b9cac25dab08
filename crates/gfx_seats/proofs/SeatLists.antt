-- Lists of seats, as they are dealt and as they are gathered.
use Rattle.std.proofs.Common.{◌≡◌, ℕ, ◌+◌, ◌-◌, ◌<◌, List, [], ◌∷◌, ◌++◌, map, sym, ap, ◌∙◌, arith, append_assoc, Option}
use Rattle.std.proofs.lemmas.List.{map-append}
use Rattle.atomic_table.specs.Table.{Me}
use Rattle.gfx_seats.specs.declared.hand.Hand.{Hand}
use Rattle.gfx_seats.specs.declared.view.View.{View}
use Rattle.gfx_seats.specs.Hand.{fresh, fresh_from}
use Rattle.gfx_seats.specs.View.{gathered, first_hand, later_hands, staying, parting}
use Rattle.gfx_seats.proofs.Opens.{fresh-snoc, fresh-first}

pub popped : {S H : Type 0} (f : S → H) (xs ys : List S) (x : S) (h : H) (tail whole : List H) → xs ≡ ys ++ x ∷ [] → h ≡ f x → map f xs ++ tail ≡ whole → map f ys ++ (h ∷ tail) ≡ whole
popped f xs ys x h tail whole e he w = ap (λ z. map f ys ++ (z ∷ tail)) he ∙ (sym (append_assoc (map f ys) (f x ∷ []) tail) ∙ (ap (λ l. l ++ tail) (sym (map-append f ys (x ∷ []))) ∙ (ap (λ l. map f l ++ tail) (sym e) ∙ w)))

pub pushed : {S H : Type 0} (f : S → H) (xs ys : List S) (x : S) (hs : List H) (h : H) → ys ≡ xs ++ x ∷ [] → map f xs ≡ hs → f x ≡ h → map f ys ≡ hs ++ h ∷ []
pushed f xs ys x hs h e m he = ap (map f) e ∙ (map-append f xs (x ∷ []) ∙ (λ i. m i ++ he i ∷ []))

module _ {V E : Type 0} where
  -- a seat after it took in another
  pub joined-hand : (m : Me (Option V) (View E)) (v w : View E) (l : List (ℕ × Option V)) → m ≡ (gathered v w, l) → m.0.hand ≡ w.hand
  joined-hand m v w l e = ap (λ (z : Me (Option V) (View E)). z.0.hand) e

  pub joined-others : (m : Me (Option V) (View E)) (v w : View E) (l : List (ℕ × Option V)) → m ≡ (gathered v w, l) → w.others ≡ [] → m.0.others ≡ v.hand ∷ v.others
  joined-others m v w l e none_else = ap (λ (z : Me (Option V) (View E)). z.0.others) e ∙ ap (λ (z : List (Hand E)). z ++ v.hand ∷ v.others) none_else

  -- a seat that deals
  abbrev pub dealer : ℕ → ℕ → ℕ → ℕ → Me (Option V) (View E)
  dealer kind top t k = (record { hand = fresh kind top; others = fresh_from kind t k; notes = [] }, [])

  pub deal-others : (m : Me (Option V) (View E)) (kind top t k : ℕ) → m ≡ dealer kind top t k → 0 < k → m.0.others ≡ fresh kind t ∷ fresh_from kind (t + 1) (k - 1)
  deal-others m kind top t k e pos = ap (λ (z : Me (Option V) (View E)). z.0.others) e ∙ fresh-first E kind t k pos

  pub deal-parts : (m : Me (Option V) (View E)) (kind top t k : ℕ) → m ≡ dealer kind top t k → 0 < k → parting m.0 ≡ record { hand = fresh kind t; others = []; notes = [] }
  deal-parts m kind top t k e pos = ap (λ (z : List (Hand E)). let w : View E = record { hand = first_hand z; others = []; notes = [] } in w) (deal-others m kind top t k e pos)

  pub deal-stays : (m n : Me (Option V) (View E)) (kind top t k : ℕ) → m ≡ dealer kind top t k → 0 < k → n ≡ (staying m.0, m.1) → n ≡ dealer kind top (t + 1) (k - 1)
  deal-stays m n kind top t k e pos q = q ∙ (ap (λ (z : Me (Option V) (View E)). let u : Me (Option V) (View E) = (staying z.0, z.1) in u) e
      ∙ ap (λ (l : List (Hand E)). let u : Me (Option V) (View E) = (record { hand = fresh kind top; others = later_hands l; notes = [] }, []) in u) (fresh-first E kind t k pos))

module _ {E : Type 0} where
  pub dealt-more : (kind t : ℕ) → fresh_from {E = E} kind 0 t ++ fresh kind t ∷ [] ≡ fresh_from kind 0 (t + 1)
  dealt-more kind t = let e : 0 + t ≡ t = omega arith in sym (fresh-snoc E kind 0 t ∙ ap (λ (z : ℕ). fresh_from {E = E} kind 0 t ++ fresh kind z ∷ []) e)
