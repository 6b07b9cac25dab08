-- The forms that code computes are what is needed and asked for.
use Rattle.std.proofs.Common.{◌≡◌, ℕ, zero, suc, ◌+◌, ◌-◌, ◌<◌, ◌≤◌, Bool, true, false, refl, sym, ◌∙◌, ap, subst, arith, List, [], ◌∷◌, ◌++◌, length, append_assoc, Option, Some, None, option_and_then, not, ◌==◌, ◌&&◌, nat_le, nat_lt, ◌⊎◌, inl, inr}
use Rattle.std.specs.Prelude.{Contains}
use Rattle.std.specs.List.{list_any, range_with_len}
use Rattle.std.specs.Option.{option_map_or}
use Rattle.std.proofs.lemmas.Bool.{eqb-true, eqb-false, eq-eqb, and_parts, and_from, or_left, or_right, or_cases, leb-true, ltb-true, le-leb, lt-ltb, not-true}
use Rattle.gfx_types.specs.declared.op.Place.{Place}
use Rattle.gfx_types.specs.declared.op.Place.TheVariants as place
use Rattle.gfx_types.specs.declared.lists.Present.{Present}
use Rattle.gfx_model.specs.Events.{Event}
use Rattle.gfx_model.specs.Events.Event.{QueuePresentKHR, CreateInstance}
use Rattle.gfx_model.specs.Steps.{Change}
use Rattle.gfx_model.specs.Steps.Change.{put, fill, copy, set_layout}
use Rattle.gfx_model.specs.Questions.{executed_changes}
use Rattle.gfx_model.specs.Views.{View, size_of, image_at}
use Rattle.gfx_model.specs.Bytes.{same_place, covers_byte}
use Rattle.gfx_model.specs.Effects.{steps_of}
use Rattle.gfx_model.specs.History.{onto, view, executed}
use Rattle.gfx_feature_model.specs.Lean.{arrives, changes_since, IsAsked}
use Rattle.gfx_feature_model.specs.Lean.Needed.{by_name, as_parent, as_memory, as_surface, as_image, as_resource}
use Rattle.gfx_laws.proofs.Cases.{by_test}
use Rattle.gfx_feature_model.specs.Asked.{Questions, below, below_all, event_changes, shown_at, asked_by}
use Rattle.gfx_lean_law.specs.Computed.{NeededIsMarked, AskedByWalk, ComputedIsNeeded}
use Rattle.gfx_lean_law.proofs.Simulation.{changed_onto-append, executed-event, executed-onto}
use Rattle.gfx_lean_law.proofs.Range.{since_are}
use Rattle.gfx_lean_law.proofs.Contained.{contains_here, contains_later}

-- ---- needed ids

pub needed_is_marked : NeededIsMarked
needed_is_marked v range id a _ (by_name x live named) = a.named x live named
needed_is_marked v range id a _ (as_parent x live n) = a.parent x live (needed_is_marked v range id a x n)
needed_is_marked v range id a _ (as_memory x m usable is n) = a.memory x m usable is (needed_is_marked v range id a x n)
needed_is_marked v range id a _ (as_surface x s is n) = a.surface x s is (needed_is_marked v range id a x n)
needed_is_marked v range id a _ (as_image x i there n) = a.image x i there (needed_is_marked v range id a x n)
needed_is_marked v range id a _ (as_resource cb r kept there n) = a.resource cb r kept there (needed_is_marked v range id a cb n)

-- ---- one change

same_place_is : (a b : Place) → same_place a b ≡ true → a ≡ b
same_place_is (place.Memory m) (place.Memory n) e = ap place.Memory (eqb-true m n e)
same_place_is (place.Image x) (place.Image y) e = ap place.Image (eqb-true x y e)
same_place_is (place.Memory m) (place.Image y) e = absurd (cc)
same_place_is (place.Image x) (place.Memory n) e = absurd (cc)

same_place_refl : (a : Place) → same_place a a ≡ true
same_place_refl (place.Memory m) = eq-eqb m m refl
same_place_refl (place.Image x) = eq-eqb x x refl

-- what it says that a range of a place has a byte
covered : (to : Place) (offset n : ℕ) (at : Place) (i : ℕ) → covers_byte to offset n at i ≡ true → (to ≡ at) × (offset ≤ i) × (i < offset + n)
covered to offset n at i e =
    let parts = and_parts (same_place to at && nat_le offset i) (nat_lt i (offset + n)) e in
    let first = and_parts (same_place to at) (nat_le offset i) parts.0 in
    (same_place_is to at first.0, leb-true offset i first.1, ltb-true i (offset + n) parts.1)

covers : (to : Place) (offset n i : ℕ) → offset ≤ i → i < offset + n → covers_byte to offset n to i ≡ true
covers to offset n i low high =
    and_from (same_place to to && nat_le offset i) (nat_lt i (offset + n)) (and_from (same_place to to) (nat_le offset i) (same_place_refl to) (le-leb offset i low)) (lt-ltb i (offset + n) high)

-- a question above changes that arrives below them
pub record Comes (asked : Questions) (cs : List Change) (to : Place) (j : ℕ) : Type 0 where
  at : Place
  i : ℕ
  is_asked : asked at i ≡ true
  comes : arrives cs at i ≡ Some (to, j)

-- what is not answered is passed on
passed : (t : Bool) (o p : Option (Place × ℕ)) → t ≡ false → (elim t as (λ t. Option (Place × ℕ)) [ true ↦ o | false ↦ p ]) ≡ p
passed true o p e = absurd (cc)
passed false o p e = refl

taken_up : (t : Bool) (o p : Option (Place × ℕ)) → t ≡ true → (elim t as (λ t. Option (Place × ℕ)) [ true ↦ o | false ↦ p ]) ≡ o
taken_up true o p e = refl
taken_up false o p e = absurd (cc)

from_below : (c : Change) (asked : Questions) (cs : List Change) (to : Place) (j : ℕ) → Comes (below c asked) cs to j → Comes asked (c ∷ cs) to j
unfolding arrives
from_below (put target offset bytes) asked cs to j b =
    let parts = and_parts (asked b.at b.i) _ b.is_asked in
    record { at = b.at; i = b.i; is_asked = parts.0; comes = passed (covers_byte target offset (length bytes) b.at b.i) None (arrives cs b.at b.i) (not-true _ parts.1) ∙ b.comes }
from_below (fill target offset n word) asked cs to j b =
    let parts = and_parts (asked b.at b.i) _ b.is_asked in
    record { at = b.at; i = b.i; is_asked = parts.0; comes = passed (covers_byte target offset n b.at b.i) None (arrives cs b.at b.i) (not-true _ parts.1) ∙ b.comes }
from_below (copy target target_offset source source_offset n) asked cs to j b =
    by (or_cases (asked b.at b.i && not (covers_byte target target_offset n b.at b.i)) _ b.is_asked)
  where
    by : ((asked b.at b.i && not (covers_byte target target_offset n b.at b.i)) ≡ true)
        ⊎ ((covers_byte source source_offset n b.at b.i && asked target (target_offset + (b.i - source_offset))) ≡ true) →
        Comes asked (copy target target_offset source source_offset n ∷ cs) to j
    by (inl e) =
        let parts = and_parts (asked b.at b.i) _ e in
        record {
          at = b.at;
          i = b.i;
          is_asked = parts.0;
          comes = passed (covers_byte target target_offset n b.at b.i) (arrives cs source (source_offset + (b.i - target_offset))) (arrives cs b.at b.i) (not-true _ parts.1) ∙ b.comes;
        }
    by (inr e) =
        let parts = and_parts (covers_byte source source_offset n b.at b.i) _ e in
        let c = covered source source_offset n b.at b.i parts.0 in
        let low = c.1 in let high = c.2 in
        let i = target_offset + (b.i - source_offset) in
        let back : source_offset + (i - target_offset) ≡ b.i = omega (arith, low) in
        record {
          at = target;
          i = i;
          is_asked = parts.1;
          comes = taken_up (covers_byte target target_offset n target i) (arrives cs source (source_offset + (i - target_offset))) (arrives cs target i)
              (covers target target_offset n i (omega arith) (omega (arith, low, high)))
              ∙ ap (λ i. arrives cs source i) back ∙ ap (λ p. arrives cs p b.i) c.0 ∙ b.comes;
        }
from_below (set_layout image layout) asked cs to j b = record { at = b.at; i = b.i; is_asked = b.is_asked; comes = b.comes }

to_below : (c : Change) (asked : Questions) (cs : List Change) (to : Place) (j : ℕ) → Comes asked (c ∷ cs) to j → Comes (below c asked) cs to j
unfolding arrives
to_below (put target offset bytes) asked cs to j a = by (covers_byte target offset (length bytes) a.at a.i) refl a.comes
  where
    by : (t : Bool) → covers_byte target offset (length bytes) a.at a.i ≡ t → (elim t as (λ t. Option (Place × ℕ)) [ true ↦ None | false ↦ arrives cs a.at a.i ]) ≡ Some (to, j) → Comes (below (put target offset bytes) asked) cs to j
    by true e comes = absurd (cc)
    by false e comes = record { at = a.at; i = a.i; is_asked = and_from (asked a.at a.i) _ a.is_asked (ap not e); comes = comes }
to_below (fill target offset n word) asked cs to j a = by (covers_byte target offset n a.at a.i) refl a.comes
  where
    by : (t : Bool) → covers_byte target offset n a.at a.i ≡ t → (elim t as (λ t. Option (Place × ℕ)) [ true ↦ None | false ↦ arrives cs a.at a.i ]) ≡ Some (to, j) → Comes (below (fill target offset n word) asked) cs to j
    by true e comes = absurd (cc)
    by false e comes = record { at = a.at; i = a.i; is_asked = and_from (asked a.at a.i) _ a.is_asked (ap not e); comes = comes }
to_below (copy target target_offset source source_offset n) asked cs to j a = by (covers_byte target target_offset n a.at a.i) refl a.comes
  where
    from : ℕ
    from = source_offset + (a.i - target_offset)

    by : (t : Bool) → covers_byte target target_offset n a.at a.i ≡ t →
        (elim t as (λ t. Option (Place × ℕ)) [ true ↦ arrives cs source from | false ↦ arrives cs a.at a.i ]) ≡ Some (to, j) → Comes (below (copy target target_offset source source_offset n) asked) cs to j
    by true e comes =
        let c = covered target target_offset n a.at a.i e in
        let low = c.1 in let high = c.2 in
        let back : target_offset + (from - source_offset) ≡ a.i = omega (arith, low) in
        record {
          at = source;
          i = from;
          is_asked = or_right (asked source from && not (covers_byte target target_offset n source from)) _
              (and_from (covers_byte source source_offset n source from) _ (covers source source_offset n from (omega arith) (omega (arith, low, high)))
              (ap (λ i. asked target i) back ∙ ap (λ p. asked p a.i) c.0 ∙ a.is_asked));
          comes = comes;
        }
    by false e comes = record {
      at = a.at;
      i = a.i;
      is_asked = or_left (asked a.at a.i && not (covers_byte target target_offset n a.at a.i)) _ (and_from (asked a.at a.i) _ a.is_asked (ap not e));
      comes = comes;
    }
to_below (set_layout image layout) asked cs to j a = record { at = a.at; i = a.i; is_asked = a.is_asked; comes = a.comes }

-- ---- all changes

some_pair : (a b : Place × ℕ) → Some a ≡ Some b → a ≡ b
some_pair a b e = cc

from_all : (cs : List Change) (asked : Questions) (to : Place) (j : ℕ) → below_all cs asked to j ≡ true → Comes asked cs to j
unfolding arrives
from_all [] asked to j e = record { at = to; i = j; is_asked = e; comes = refl }
from_all (c ∷ cs) asked to j e = from_below c asked cs to j (from_all cs (below c asked) to j e)

to_all : (cs : List Change) (asked : Questions) (to : Place) (j : ℕ) → Comes asked cs to j → below_all cs asked to j ≡ true
unfolding arrives
to_all [] asked to j a = let p = some_pair (a.at, a.i) (to, j) a.comes in sym (ap (λ (q : Place × ℕ). asked q.0 q.1) p) ∙ a.is_asked
to_all (c ∷ cs) asked to j a = to_all cs (below c asked) to j (to_below c asked cs to j a)

-- what arrives below some changes goes on below more
arrives_append : (cs ds : List Change) (at : Place) (i : ℕ) → arrives (cs ++ ds) at i ≡ option_and_then (λ (p : Place × ℕ). arrives ds p.0 p.1) (arrives cs at i)
unfolding arrives
arrives_append [] ds at i = refl
arrives_append (put target offset bytes ∷ cs) ds at i = by (covers_byte target offset (length bytes) at i) (arrives_append cs ds at i)
  where
    by : (t : Bool) → arrives (cs ++ ds) at i ≡ option_and_then (λ (p : Place × ℕ). arrives ds p.0 p.1) (arrives cs at i) →
        (elim t as (λ t. Option (Place × ℕ)) [ true ↦ None | false ↦ arrives (cs ++ ds) at i ])
        ≡ option_and_then (λ (p : Place × ℕ). arrives ds p.0 p.1) (elim t as (λ t. Option (Place × ℕ)) [ true ↦ None | false ↦ arrives cs at i ])
    by true e = refl
    by false e = e
arrives_append (fill target offset n word ∷ cs) ds at i = by (covers_byte target offset n at i) (arrives_append cs ds at i)
  where
    by : (t : Bool) → arrives (cs ++ ds) at i ≡ option_and_then (λ (p : Place × ℕ). arrives ds p.0 p.1) (arrives cs at i) →
        (elim t as (λ t. Option (Place × ℕ)) [ true ↦ None | false ↦ arrives (cs ++ ds) at i ])
        ≡ option_and_then (λ (p : Place × ℕ). arrives ds p.0 p.1) (elim t as (λ t. Option (Place × ℕ)) [ true ↦ None | false ↦ arrives cs at i ])
    by true e = refl
    by false e = e
arrives_append (copy target target_offset source source_offset n ∷ cs) ds at i =
    by (covers_byte target target_offset n at i) (arrives_append cs ds source (source_offset + (i - target_offset))) (arrives_append cs ds at i)
  where
    from : ℕ
    from = source_offset + (i - target_offset)

    by : (t : Bool) → arrives (cs ++ ds) source from ≡ option_and_then (λ (p : Place × ℕ). arrives ds p.0 p.1) (arrives cs source from) →
        arrives (cs ++ ds) at i ≡ option_and_then (λ (p : Place × ℕ). arrives ds p.0 p.1) (arrives cs at i) →
        (elim t as (λ t. Option (Place × ℕ)) [ true ↦ arrives (cs ++ ds) source from | false ↦ arrives (cs ++ ds) at i ])
        ≡ option_and_then (λ (p : Place × ℕ). arrives ds p.0 p.1) (elim t as (λ t. Option (Place × ℕ)) [ true ↦ arrives cs source from | false ↦ arrives cs at i ])
    by true d e = d
    by false d e = e
arrives_append (set_layout image layout ∷ cs) ds at i = arrives_append cs ds at i

-- ---- the changes since a history

abbrev since_all : List Event → List Event → List Change
since_all [] h = []
since_all (e ∷ front) h = since_all front (e ∷ h) ++ event_changes h e

event_is : (e : Event) (h : List Event) → executed (e ∷ h) ≡ event_changes h e ++ executed h
unfolding executed_changes
event_is e h =
    executed-event e h ∙ changed_onto-append (steps_of (view h) e) [] (executed h)
    ∙ ap (λ cs. cs ++ executed h) (sym (executed-onto (steps_of (view h) e) []))

since_all_is : (front h : List Event) → executed (onto front h) ≡ since_all front h ++ executed h
since_all_is [] h = refl
since_all_is (e ∷ front) h =
    since_all_is front (e ∷ h) ∙ ap (λ cs. since_all front (e ∷ h) ++ cs) (event_is e h) ∙ sym (append_assoc (since_all front (e ∷ h)) (event_changes h e) (executed h))

changes_are : (front h : List Event) → changes_since h (onto front h) ≡ since_all front h
changes_are front h = since_are h (onto front h) (since_all front h) (since_all_is front h)

-- ---- what a present shows

-- it is a byte of the image of a present
abbrev shows : View → Place → ℕ → Present → Bool
shows v at j p = option_map_or (λ image. same_place (place.Image image) at && nat_lt j (size_of v image)) (image_at v p.swapchain p.index) false

any_found : (t : Present → Bool) (ps : List Present) → list_any t ps ≡ true → (p : Present) × Contains ps p × (t p ≡ true)
any_found t [] e = absurd (cc)
any_found t (p ∷ ps) e = by (or_cases (t p) (list_any t ps) e) (any_found t ps)
  where
    by : (t p ≡ true) ⊎ (list_any t ps ≡ true) → (list_any t ps ≡ true → (p : Present) × Contains ps p × (t p ≡ true)) → (q : Present) × Contains (p ∷ ps) q × (t q ≡ true)
    by (inl here) more = (p, contains_here p ps, here)
    by (inr rest) more = let r = more rest in (r.0, contains_later p ps r.0 r.1, r.2)

any_has : (t : Present → Bool) (ps : List Present) (p : Present) → Contains ps p → t p ≡ true → list_any t ps ≡ true
any_has t [] p there e = absurd (let low = there.1 in omega (arith, low))
any_has t (q ∷ ps) p (zero, low, is) e = or_left (t q) (list_any t ps) (ap t is ∙ e)
any_has t (q ∷ ps) p (suc i, low, is) e = or_right (t q) (list_any t ps) (any_has t ps p (i, omega (arith, low), is) e)

-- an image whose byte is shown
shown_image : (v : View) (at : Place) (j : ℕ) (o : Option ℕ) → option_map_or (λ image. same_place (place.Image image) at && nat_lt j (size_of v image)) o false ≡ true →
    (image : ℕ) × (o ≡ Some image) × (place.Image image ≡ at) × (j < size_of v image)
shown_image v at j None e = absurd (cc)
shown_image v at j (Some image) e =
    let parts = and_parts (same_place (place.Image image) at) (nat_lt j (size_of v image)) e in
    (image, refl, same_place_is (place.Image image) at parts.0, ltb-true j (size_of v image) parts.1)

shown_sound : (h : List Event) (e : Event) (range : List Event) (at : Place) (j : ℕ) → shown_at h e at j ≡ true → IsAsked h (e ∷ range) at j
unfolding arrives
shown_sound h (QueuePresentKHR queue waits presents) range at j e =
    let found = any_found (shows (view h) at j) presents e in
    let image = shown_image (view h) at j (image_at (view h) (found.0).swapchain (found.0).index) found.2 in
    record {
      front = [];
      queue = queue;
      waits = waits;
      presents = presents;
      rest = range;
      stands = refl;
      shown = found.0;
      is_shown = found.1;
      image = image.0;
      is_image = image.1;
      i = j;
      inside = image.3;
      comes = ap (λ cs. arrives cs (place.Image image.0) j) (changes_are [] h) ∙ ap (λ p. Some (p, j)) image.2;
    }
shown_sound h (CreateInstance instance api) range at j e = absurd (cc)
shown_sound h _ range at j e = absurd (cc)

-- ---- the walk

later_sound : (h : List Event) (e : Event) (range : List Event) (at p : Place) (j q : ℕ) → IsAsked (e ∷ h) range p q → arrives (event_changes h e) p q ≡ Some (at, j) → IsAsked h (e ∷ range) at j
later_sound h e range at p j q a comes = record {
  front = e ∷ a.front;
  queue = a.queue;
  waits = a.waits;
  presents = a.presents;
  rest = a.rest;
  stands = ap (λ es. e ∷ es) a.stands;
  shown = a.shown;
  is_shown = a.is_shown;
  image = a.image;
  is_image = a.is_image;
  i = a.i;
  inside = a.inside;
  comes = ap (λ cs. arrives cs (place.Image a.image) a.i) (changes_are (e ∷ a.front) h)
      ∙ arrives_append (since_all a.front (e ∷ h)) (event_changes h e) (place.Image a.image) a.i
      ∙ ap (option_and_then (λ (p : Place × ℕ). arrives (event_changes h e) p.0 p.1)) (ap (λ cs. arrives cs (place.Image a.image) a.i) (sym (changes_are a.front (e ∷ h))) ∙ a.comes)
      ∙ comes;
}

sound : (range h : List Event) (at : Place) (j : ℕ) → asked_by h range at j ≡ true → IsAsked h range at j
sound [] h at j e = absurd (cc)
sound (x ∷ range) h at j e = by (or_cases (shown_at h x at j) _ e) (λ p q. sound range (x ∷ h) p q)
  where
    by : (shown_at h x at j ≡ true) ⊎ (below_all (event_changes h x) (asked_by (x ∷ h) range) at j ≡ true) →
        ((p : Place) (q : ℕ) → asked_by (x ∷ h) range p q ≡ true → IsAsked (x ∷ h) range p q) → IsAsked h (x ∷ range) at j
    by (inl here) more = shown_sound h x range at j here
    by (inr rest) more = let c = from_all (event_changes h x) (asked_by (x ∷ h) range) at j rest in later_sound h x range at c.at j c.i (more c.at c.i c.is_asked) c.comes

shown_complete : (h : List Event) (queue : ℕ) (waits : List ℕ) (presents : List Present) (p : Present) (image i : ℕ) (at : Place) (j : ℕ) →
    Contains presents p → image_at (view h) p.swapchain p.index ≡ Some image → i < size_of (view h) image → ◌≡◌ {A = Place × ℕ} (place.Image image, i) (at, j) → shown_at h (QueuePresentKHR queue waits presents) at j ≡ true
shown_complete h queue waits presents p image i at j there is inside same =
    subst (λ (r : Place × ℕ). shown_at h (QueuePresentKHR queue waits presents) r.0 r.1 ≡ true) same
    (any_has (shows (view h) (place.Image image) i) presents p there
    (ap (λ o. option_map_or (λ x. same_place (place.Image x) (place.Image image) && nat_lt i (size_of (view h) x)) o false) is
    ∙ and_from (same_place (place.Image image) (place.Image image)) (nat_lt i (size_of (view h) image)) (same_place_refl (place.Image image)) (lt-ltb i (size_of (view h) image) inside)))

head_same : (x y : Event) (xs ys : List Event) → x ∷ xs ≡ y ∷ ys → x ≡ y
head_same x y xs ys e = cc

tail_same : (x y : Event) (xs ys : List Event) → x ∷ xs ≡ y ∷ ys → xs ≡ ys
tail_same x y xs ys e = cc

complete : (range h : List Event) (at : Place) (j : ℕ) → IsAsked h range at j → asked_by h range at j ≡ true
unfolding arrives
complete [] h at j a = by a.front a.stands
  where
    by : (front : List Event) → [] ≡ front ++ QueuePresentKHR a.queue a.waits a.presents ∷ a.rest → asked_by h [] at j ≡ true
    by [] e = absurd (cc)
    by (f ∷ fs) e = absurd (cc)
complete (x ∷ range) h at j a = by a.front refl a.stands (λ p q. complete range (x ∷ h) p q)
  where
    image_here : (front : List Event) → a.front ≡ front → image_at (view (onto front h)) (a.shown).swapchain (a.shown).index ≡ Some a.image
    image_here front e = subst (λ front. image_at (view (onto front h)) (a.shown).swapchain (a.shown).index ≡ Some a.image) e a.is_image

    inside_here : (front : List Event) → a.front ≡ front → a.i < size_of (view (onto front h)) a.image
    inside_here front e = subst (λ front. a.i < size_of (view (onto front h)) a.image) e a.inside

    comes_here : (front : List Event) → a.front ≡ front → arrives (since_all front h) (place.Image a.image) a.i ≡ Some (at, j)
    comes_here front e = ap (λ cs. arrives cs (place.Image a.image) a.i) (sym (changes_are front h)) ∙ subst (λ front. arrives (changes_since h (onto front h)) (place.Image a.image) a.i ≡ Some (at, j)) e a.comes

    by : (front : List Event) → a.front ≡ front → x ∷ range ≡ front ++ QueuePresentKHR a.queue a.waits a.presents ∷ a.rest →
        ((p : Place) (q : ℕ) → IsAsked (x ∷ h) range p q → asked_by (x ∷ h) range p q ≡ true) → asked_by h (x ∷ range) at j ≡ true
    by [] is stands more =
        or_left (shown_at h x at j) _
        (subst (λ x. shown_at h x at j ≡ true) (sym (head_same x (QueuePresentKHR a.queue a.waits a.presents) range a.rest stands))
        (shown_complete h a.queue a.waits a.presents a.shown a.image a.i at j a.is_shown (image_here [] is) (inside_here [] is) (some_pair (place.Image a.image, a.i) (at, j) (comes_here [] is))))
    by (f ∷ fs) is stands more =
        or_right (shown_at h x at j) (below_all (event_changes h x) (asked_by (x ∷ h) range) at j) (split (arrives (since_all fs (f ∷ h)) (place.Image a.image) a.i) refl
        (sym (arrives_append (since_all fs (f ∷ h)) (event_changes h f) (place.Image a.image) a.i) ∙ comes_here (f ∷ fs) is))
      where
        same : f ≡ x
        same = sym (head_same x f range (fs ++ QueuePresentKHR a.queue a.waits a.presents ∷ a.rest) stands)

        split : (o : Option (Place × ℕ)) → arrives (since_all fs (f ∷ h)) (place.Image a.image) a.i ≡ o →
            option_and_then (λ (p : Place × ℕ). arrives (event_changes h f) p.0 p.1) o ≡ Some (at, j) → below_all (event_changes h x) (asked_by (x ∷ h) range) at j ≡ true
        split None e comes = absurd (cc)
        split (Some p) e comes =
            to_all (event_changes h x) (asked_by (x ∷ h) range) at j (record {
              at = p.0;
              i = p.1;
              is_asked = more p.0 p.1 (subst (λ x. IsAsked (x ∷ h) range p.0 p.1) same (record {
                front = fs;
                queue = a.queue;
                waits = a.waits;
                presents = a.presents;
                rest = a.rest;
                stands = tail_same x f range (fs ++ QueuePresentKHR a.queue a.waits a.presents ∷ a.rest) stands;
                shown = a.shown;
                is_shown = a.is_shown;
                image = a.image;
                is_image = image_here (f ∷ fs) is;
                i = a.i;
                inside = inside_here (f ∷ fs) is;
                comes = ap (λ cs. arrives cs (place.Image a.image) a.i) (changes_are fs (f ∷ h)) ∙ e;
              }));
              comes = ap (λ x. arrives (event_changes h x) p.0 p.1) (sym same) ∙ comes;
            })

pub asked_by_walk : AskedByWalk
asked_by_walk h range at j = (sound range h at j, complete range h at j)

-- ---- what is kept

range_found : (t : ℕ → Bool) (a n : ℕ) → list_any t (range_with_len a n) ≡ true → (j : ℕ) × (a ≤ j) × (j < a + n) × (t j ≡ true)
range_found t a zero e = absurd (cc)
range_found t a (suc n) e = by (or_cases (t a) (list_any t (range_with_len (a + 1) n)) e) (range_found t (a + 1) n)
  where
    by : (t a ≡ true) ⊎ (list_any t (range_with_len (a + 1) n) ≡ true) → (list_any t (range_with_len (a + 1) n) ≡ true → (j : ℕ) × (a + 1 ≤ j) × (j < a + 1 + n) × (t j ≡ true)) →
        (j : ℕ) × (a ≤ j) × (j < a + suc n) × (t j ≡ true)
    by (inl here) more = (a, omega arith, omega arith, here)
    by (inr rest) more = let r = more rest in let low = r.1 in let high = r.2 in (r.0, omega (arith, low), omega (arith, high), r.3)

range_has : (t : ℕ → Bool) (a n j : ℕ) → a ≤ j → j < a + n → t j ≡ true → list_any t (range_with_len a n) ≡ true
range_has t a zero j low high e = absurd (omega (arith, low, high))
range_has t a (suc n) j low high e = by_test _ (a == j)
    (λ same. or_left (t a) _ (ap t (eqb-true a j same) ∙ e))
    (λ other. let apart = eqb-false a j other in or_right (t a) (list_any t (range_with_len (a + 1) n)) (range_has t (a + 1) n j (omega arith) (omega arith) e))

pub computed_is_needed : ComputedIsNeeded
computed_is_needed h range id marked each = record {
  needed = needed_is_marked (view h) range id marked;
  only = each;
  asked = λ m offset n j low high a. range_has (asked_by h range (place.Memory m)) offset n j low high (complete range h (place.Memory m) j a);
  only_asked = λ m offset n e.
      let found = range_found (asked_by h range (place.Memory m)) offset n e in
      (found.0, found.1, found.2, sound range h (place.Memory m) found.0 found.3);
}
