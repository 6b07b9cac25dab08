-- The acquired marks of a swapchain are set.
use Rattle.std.proofs.Common.{◌≡◌, ℕ, zero, suc, ◌+◌, Bool, true, false, cond, ◌&&◌, ◌||◌, ◌==◌, nat_le, nat_lt, fold, List, [], ◌∷◌, map, Some, if◌then◌else◌, refl, sym, ap, ◌∙◌, arith, is_some}
use mathlib.Core.Path.{fun_ext}
use Rattle.std.specs.List.{range_with_len}
use Rattle.std.proofs.lemmas.Bool.{eqb-true, eq-eqb, both_ways, false_from_ne_true}
use Rattle.std.proofs.lemmas.Bool.Decides.{nat_tests}
use Rattle.std.proofs.lemmas.List.FromFn.{length-map-range_with_len}
use Rattle.gfx_types.specs.declared.op.Place.{Place}
use Rattle.gfx_types.specs.declared.names.Kind.TheVariants as kind
use Rattle.gfx_model.specs.Events.Event.{SetSwapchainState}
use Rattle.gfx_model.specs.Spelling.{id_of}
use Rattle.gfx_model.specs.Steps.{Object}
use Rattle.gfx_model.specs.Steps.Step.{acquires, gives_back}
use Rattle.gfx_model.specs.Steps.Detail.{a_swapchain}
use Rattle.gfx_model.specs.Views.{View, is_live, images_in}
use Rattle.gfx_model.specs.Checks.{broken}
use Rattle.gfx_model.specs.Table.{checks_of, place_of, row_of, value}
use Rattle.gfx_model.specs.Effects.{effect_of, marks}
use Rattle.gfx_model.specs.After.{after, is_alive}
use Rattle.gfx_model.specs.Section.{Known, mark}
use Rattle.gfx_section_law.specs.Orderly.{IsOrderly}
use Rattle.gfx_section_law.proofs.Picks.{pick, also, also-in}
use Rattle.gfx_section_law.proofs.Builds.{Seen, Passes, next, bytes_step, ok}
use Rattle.gfx_section_law.proofs.Shown.{Cuts, shown, shown_answers, bytes_shown}
use Rattle.gfx_section_law.proofs.Objects.{live_ok}
use Rattle.gfx_section_law.proofs.Plain.{Starts}
use Rattle.gfx_section_law.proofs.Parts.{alsos, alsos-out}
use Rattle.gfx_section_law.proofs.Images.{images_is}
use Rattle.gfx_section_law.proofs.SwapchainFetch as its_fetch

module _ (k : Known) (n : ℕ) (orderly : IsOrderly k.answers) (done : ℕ → Bool) (x parent surface images format width height usage : ℕ)
    (is : k.answers.live x ≡ Some (record { parent = parent; detail = a_swapchain surface images format width height usage })) (starts : Starts k.answers x 7 done) where
  abbrev o : Object
  o = its_fetch.o k n orderly done x parent surface images format width height usage is starts

  abbrev parts : List ℕ
  parts = its_fetch.parts k n orderly done x parent surface images format width height usage is starts

  off : done x ≡ false
  off = its_fetch.off k n orderly done x parent surface images format width height usage is starts

  here : (c : Cuts) → c.made x ≡ true → (shown_answers k n c).live x ≡ Some o
  here = its_fetch.here k n orderly done x parent surface images format width height usage is starts

  abbrev fetching : Cuts
  fetching = its_fetch.fetching k n orderly done x parent surface images format width height usage is starts

  images_now : (c : Cuts) → c.made x ≡ true → images_in (shown_answers k n c) x ≡ images
  images_now = its_fetch.images_now k n orderly done x parent surface images format width height usage is starts

  lives : is_live k.answers kind.Swapchain x ≡ true
  lives = its_fetch.lives k n orderly done x parent surface images format width height usage is starts

  -- ---- its marks

  x_made : alsos parts (also x done) x ≡ true
  x_made = alsos-out parts (also x done) x (also-in x done)

  abbrev marked : ℕ → View
  marked j = record (shown_answers k n fetching) { acquired = λ y index. if (x == y) && nat_lt index j then k.answers.acquired y index else pick {X = ℕ → Bool} (λ index. false) k.answers.acquired done y index }

  mark_step : (j : ℕ) (a : Bool) → k.answers.acquired x j ≡ a → after (marked j) (if mark a == 1 then acquires x j else gives_back x j) ≡ marked (j + 1)
  unfolding after
  mark_step j true e = λ i. record (marked j) { acquired = fun_ext (λ y. fun_ext (λ index. at y index (x == y) refl (j == index) refl)) i }
    where
      rest : (y index : ℕ) → Bool
      rest y index = pick {X = ℕ → Bool} (λ index. false) k.answers.acquired done y index

      at : (y index : ℕ) (t : Bool) → (x == y) ≡ t → (u : Bool) → (j == index) ≡ u →
          (if t && u && is_alive (marked j) y then true else (if t && nat_lt index j then k.answers.acquired y index else pick {X = ℕ → Bool} (λ index. false) k.answers.acquired done y index))
          ≡ (if t && nat_lt index (j + 1) then k.answers.acquired y index else pick {X = ℕ → Bool} (λ index. false) k.answers.acquired done y index)
      at y index false p u q = refl
      at y index true p true q =
          let same : x ≡ y = eqb-true x y p in
          let now : j ≡ index = eqb-true j index q in
          let alive : is_alive (marked j) y ≡ true = ap (is_alive (marked j)) (sym same) ∙ ap is_some (here fetching x_made) in
          let l : nat_lt index (j + 1) ≡ true = grind (arith, nat_tests, now) in
          let v : k.answers.acquired y index ≡ true = (λ i. k.answers.acquired (sym same i) (sym now i)) ∙ e in
          ap (λ t. if t then true else (if nat_lt index j then k.answers.acquired y index else pick {X = ℕ → Bool} (λ index. false) k.answers.acquired done y index)) alive
          ∙ sym (ap (λ t. if t then k.answers.acquired y index else pick {X = ℕ → Bool} (λ index. false) k.answers.acquired done y index) l ∙ v)
      at y index true p false q =
          let l : nat_lt index j ≡ nat_lt index (j + 1) = grind (arith, nat_tests, q) in
          ap (λ t. if t then k.answers.acquired y index else pick {X = ℕ → Bool} (λ index. false) k.answers.acquired done y index) l
  mark_step j false e = λ i. record (marked j) { acquired = fun_ext (λ y. fun_ext (λ index. at y index (x == y) refl (j == index) refl)) i }
    where
      at : (y index : ℕ) (t : Bool) → (x == y) ≡ t → (u : Bool) → (j == index) ≡ u →
          (if t && u then false else (if t && nat_lt index j then k.answers.acquired y index else pick {X = ℕ → Bool} (λ index. false) k.answers.acquired done y index))
          ≡ (if t && nat_lt index (j + 1) then k.answers.acquired y index else pick {X = ℕ → Bool} (λ index. false) k.answers.acquired done y index)
      at y index false p u q = refl
      at y index true p true q =
          let same : x ≡ y = eqb-true x y p in
          let now : j ≡ index = eqb-true j index q in
          let l : nat_lt index (j + 1) ≡ true = grind (arith, nat_tests, now) in
          let v : k.answers.acquired y index ≡ false = (λ i. k.answers.acquired (sym same i) (sym now i)) ∙ e in
          sym (ap (λ t. if t then k.answers.acquired y index else pick {X = ℕ → Bool} (λ index. false) k.answers.acquired done y index) l ∙ v)
      at y index true p false q =
          let l : nat_lt index j ≡ nat_lt index (j + 1) = grind (arith, nat_tests, q) in
          ap (λ t. if t then k.answers.acquired y index else pick {X = ℕ → Bool} (λ index. false) k.answers.acquired done y index) l

  abbrev pub mark_at : ℕ → ℕ
  mark_at j = mark (k.answers.acquired x j)

  marks_fold : (j m : ℕ) → fold after (marked j) (marks x j (map mark_at (range_with_len j m))) ≡ marked (j + m)
  marks_fold j zero = ap marked (let e : j ≡ j + 0 = omega arith in e)
  marks_fold j (suc m) =
      ap (λ w. fold after w (marks x (j + 1) (map mark_at (range_with_len (j + 1) m)))) (mark_step j (k.answers.acquired x j) refl)
      ∙ marks_fold (j + 1) m ∙ ap marked (let e : j + 1 + m ≡ j + suc m = omega arith in e)

  marks_bytes : (j : ℕ) (bs : List ℕ) (f : Place → ℕ → ℕ) → fold bytes_step f (marks x j bs) ≡ f
  marks_bytes j [] f = refl
  marks_bytes j (a ∷ bs) f = ap (λ g. fold bytes_step g (marks x (j + 1) bs)) (cases (a == 1)) ∙ marks_bytes (j + 1) bs f
    where
      cases : (t : Bool) → bytes_step f (if t then acquires x j else gives_back x j) ≡ f
      cases true = refl
      cases false = refl

  marks_first : shown_answers k n fetching ≡ marked 0
  marks_first = λ i. record (marked 0) { acquired = fun_ext (λ y. fun_ext (λ index. at y index (x == y))) i }
    where
      at : (y index : ℕ) (t : Bool) → pick {X = ℕ → Bool} (λ index. false) k.answers.acquired done y index
          ≡ (if t && nat_lt index 0 then k.answers.acquired y index else pick {X = ℕ → Bool} (λ index. false) k.answers.acquired done y index)
      at y index false = refl
      at y index true = sym (ap (λ t. if t then k.answers.acquired y index else pick {X = ℕ → Bool} (λ index. false) k.answers.acquired done y index) (let l : nat_lt index 0 ≡ false = grind (arith, nat_tests) in l))

  abbrev pub marking : Cuts
  marking = record fetching { acquired = also x done }

  x_images : images_in k.answers x ≡ images
  x_images = images_is k.answers orderly x parent surface images format width height usage is

  marks_last : marked (0 + images) ≡ shown_answers k n marking
  marks_last = λ i. record (marked (0 + images)) { acquired = fun_ext (λ y. fun_ext (λ index. at y index (x == y) refl (nat_lt index (0 + images)) refl)) i }
    where
      at : (y index : ℕ) (t : Bool) → (x == y) ≡ t → (u : Bool) → nat_lt index (0 + images) ≡ u →
          (if t && u then k.answers.acquired y index else pick {X = ℕ → Bool} (λ index. false) k.answers.acquired done y index)
          ≡ cond {A = ℕ → Bool} (t || done y) (k.answers.acquired y) (λ index. false) index
      at y index false p u q = refl
      at y index true p true q = refl
      at y index true p false q =
          let same : x ≡ y = eqb-true x y p in
          ap (λ t. cond {A = ℕ → Bool} t (k.answers.acquired y) (λ index. false) index) (ap done (sym same) ∙ off)
          ∙ sym (false_from_ne_true (k.answers.acquired y index) (λ a.
          let l = (orderly.acquired x index (ap (λ z. k.answers.acquired z index) same ∙ a)).1 in
          let m = x_images in
          absurd (both_ways (nat_lt index (0 + images)) q (grind (arith, nat_tests, l, m)))))

  pub marks_pass : Passes (shown_answers k n fetching) (checks_of (SetSwapchainState x (map mark_at (range_with_len 0 images))))
  unfolding id_of place_of row_of broken
  marks_pass = (
    refl,
    (
      live_ok k n fetching kind.Swapchain x x_made lives,
      (ok _ _ (eq-eqb _ _ (length-map-range_with_len mark_at 0 images ∙ sym (images_now fetching x_made))), each (range_with_len 0 images)),
    ),
  )
    where
      flag_ok : (t : Bool) → nat_le (mark t) 1 ≡ true
      flag_ok true = refl
      flag_ok false = refl

      each : (js : List ℕ) → Passes (shown_answers k n fetching) (map (λ a. value (nat_le a 1)) (map mark_at js))
      each [] = tt
      each (j ∷ js) = (ok _ _ (flag_ok (k.answers.acquired x j)), each js)

  pub marks_leave : next (shown k n fetching) (SetSwapchainState x (map mark_at (range_with_len 0 images))) ≡ shown k n marking
  unfolding effect_of after
  marks_leave =
      ap (λ w. let r : Seen = record { answers = fold after w (marks x 0 (map mark_at (range_with_len 0 images))); bytes = fold bytes_step (bytes_shown k done) (marks x 0 (map mark_at (range_with_len 0 images))) } in r) marks_first
      ∙ (λ i. record { answers = (marks_fold 0 images ∙ marks_last) i; bytes = marks_bytes 0 (map mark_at (range_with_len 0 images)) (bytes_shown k done) i })
