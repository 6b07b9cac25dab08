-- The accesses of a range ask for what its frames ask for.
use Rattle.std.proofs.Common.{◌≡◌, ℕ, Bool, true, false, ◌&&◌, ◌||◌, List, [], ◌∷◌, ◌++◌, length, flat_map, nat_lt, Option, Some, None, refl, sym, ◌∙◌, ap, append_assoc}
use Rattle.std.specs.List.{list_any}
use Rattle.std.specs.Option.{option_map_or}
use Rattle.gfx_types.specs.declared.op.Op.{Op}
use Rattle.gfx_types.specs.declared.op.Op.TheVariants as op
use Rattle.gfx_types.specs.declared.op.Place.{Place}
use Rattle.gfx_types.specs.declared.lists.Present.{Present}
use Rattle.gfx_types.specs.declared.op.Place.TheVariants as place
use Rattle.gfx_model.specs.Events.{Event}
use Rattle.gfx_model.specs.Events.Event.{QueuePresentKHR, CreateInstance}
use Rattle.gfx_model.specs.Steps.{Change}
use Rattle.gfx_model.specs.Views.{View, size_of, image_at}
use Rattle.gfx_model.specs.Bytes.{same_place}
use Rattle.gfx_model.specs.Effects.{changes_of_op, rows_copied}
use Rattle.gfx_model.specs.History.{onto, view}
use Rattle.gfx_feature_model.specs.Asked.{Questions, below, below_all, event_changes, shown_at, asked_by}
use Rattle.gfx_asked.specs.declared.access.Access.{Access}
use Rattle.gfx_asked.specs.declared.access.Access.TheVariants.{Show}
use Rattle.gfx_asked.specs.Accesses.{accesses_of_op, shown_by, before, before_all}
use Rattle.gfx_asked.specs.Law.{passed_by, StandFor, AccessesStand}

-- the questions before changes, the oldest first
abbrev pub before_changes : List Change → Questions → Questions
before_changes [] asked = asked
before_changes (c ∷ cs) asked = below c (before_changes cs asked)

pub below-onto : (cs ds : List Change) (asked : Questions) → below_all (onto cs ds) asked ≡ below_all ds (before_changes cs asked)
below-onto [] ds asked = refl
below-onto (c ∷ cs) ds asked = below-onto cs (c ∷ ds) asked

changes-append : (cs ds : List Change) (asked : Questions) → before_changes (cs ++ ds) asked ≡ before_changes cs (before_changes ds asked)
changes-append [] ds asked = refl
changes-append (c ∷ cs) ds asked = ap (below c) (changes-append cs ds asked)

accesses-append : (xs bs : List Access) (asked : Questions) → before_all (xs ++ bs) asked ≡ before_all xs (before_all bs asked)
accesses-append [] bs asked = refl
accesses-append (a ∷ xs) bs asked = ap (before a) (accesses-append xs bs asked)

op_same : (given : List ℕ) (o : Op) (asked : Questions) → before_all (accesses_of_op (length given) o) asked ≡ before_changes (changes_of_op given o) asked
op_same given (op.Put at offset bytes) asked = refl
op_same given (op.PutGiven at offset) asked = refl
op_same given (op.Fill at offset n word) asked = refl
op_same given (op.Copy to to_offset to_step source source_offset source_step n rows) asked =
    below-onto (rows_copied to to_offset to_step source source_offset source_step n rows) [] asked
op_same given (op.SetLayout image layout) asked = refl

ops_same : (given : List ℕ) (ops : List Op) (asked : Questions) → before_all (flat_map (accesses_of_op (length given)) ops) asked ≡ before_changes (flat_map (changes_of_op given) ops) asked
ops_same given [] asked = refl
ops_same given (o ∷ ops) asked =
    accesses-append (accesses_of_op (length given) o) (flat_map (accesses_of_op (length given)) ops) asked
    ∙ ap (before_all (accesses_of_op (length given) o)) (ops_same given ops asked)
    ∙ op_same given o (before_changes (flat_map (changes_of_op given) ops) asked)
    ∙ sym (changes-append (changes_of_op given o) (flat_map (changes_of_op given) ops) asked)

or_assoc : (a b c : Bool) → (a || b) || c ≡ a || (b || c)
or_assoc true b c = refl
or_assoc false b c = refl

-- it is a byte of this image
abbrev shows : View → Place → ℕ → Present → Bool
shows v at j p = option_map_or (λ image. same_place (place.Image image) at && nat_lt j (size_of v image)) (image_at v p.swapchain p.index) false

presents_same : (v : View) (presents : List Present) (asked : Questions) (at : Place) (j : ℕ) →
    before_all (flat_map (λ p. option_map_or (λ image. Show image (size_of v image) ∷ []) (image_at v p.swapchain p.index) []) presents) asked at j
    ≡ list_any (shows v at j) presents || asked at j
presents_same v [] asked at j = refl
presents_same v (p ∷ ps) asked at j = by (image_at v p.swapchain p.index) (presents_same v ps asked at j)
  where
    more : List Access
    more = flat_map (λ p. option_map_or (λ image. Show image (size_of v image) ∷ []) (image_at v p.swapchain p.index) []) ps

    by : (o : Option ℕ) → before_all more asked at j ≡ list_any (shows v at j) ps || asked at j →
        before_all (option_map_or (λ image. Show image (size_of v image) ∷ []) o [] ++ more) asked at j
        ≡ (option_map_or (λ image. same_place (place.Image image) at && nat_lt j (size_of v image)) o false || list_any (shows v at j) ps) || asked at j
    by None rest = rest
    by (Some image) rest =
        ap (λ t. same_place (place.Image image) at && nat_lt j (size_of v image) || t) rest
        ∙ sym (or_assoc (same_place (place.Image image) at && nat_lt j (size_of v image)) (list_any (shows v at j) ps) (asked at j))

shown_same : (h : List Event) (e : Event) (asked : Questions) (at : Place) (j : ℕ) → before_all (shown_by (view h) e) asked at j ≡ shown_at h e at j || asked at j
shown_same h (QueuePresentKHR queue waits presents) asked at j = presents_same (view h) presents asked at j
shown_same h (CreateInstance instance api) asked at j = refl
shown_same h _ asked at j = refl

range-append : (h range : List Event) (e : Event) (asked : Questions) → passed_by h (range ++ e ∷ []) asked ≡ passed_by h range (passed_by (onto range h) (e ∷ []) asked)
range-append h [] e asked = refl
range-append h (x ∷ range) e asked = λ i at j. shown_at h x at j || below_all (event_changes h x) (range-append (x ∷ h) range e asked i) at j

event_same : (h : List Event) (e : Event) (given : List ℕ) (ops : List Op) (asked : Questions) → event_changes h e ≡ onto (flat_map (changes_of_op given) ops) [] →
    before_all (shown_by (view h) e ++ flat_map (accesses_of_op (length given)) ops) asked ≡ passed_by h (e ∷ []) asked
event_same h e given ops asked is =
    let ops_are : before_all (flat_map (accesses_of_op (length given)) ops) asked ≡ below_all (event_changes h e) asked =
    ops_same given ops asked ∙ sym (below-onto (flat_map (changes_of_op given) ops) [] asked) ∙ ap (λ cs. below_all cs asked) (sym is) in
    accesses-append (shown_by (view h) e) (flat_map (accesses_of_op (length given)) ops) asked
    ∙ ap (before_all (shown_by (view h) e)) ops_are
    ∙ (λ i at j. shown_same h e (below_all (event_changes h e) asked) at j i)

more : (h range : List Event) (accesses : List Access) (e : Event) (given : List ℕ) (ops : List Op) → StandFor h range accesses →
    event_changes (onto range h) e ≡ onto (flat_map (changes_of_op given) ops) [] →
    StandFor h (range ++ e ∷ []) (accesses ++ shown_by (view (onto range h)) e ++ flat_map (accesses_of_op (length given)) ops)
more h range accesses e given ops s is = record {
  same = λ asked.
      ap (λ xs. before_all xs asked) (append_assoc accesses (shown_by (view (onto range h)) e) (flat_map (accesses_of_op (length given)) ops))
      ∙ accesses-append accesses (shown_by (view (onto range h)) e ++ flat_map (accesses_of_op (length given)) ops) asked
      ∙ s.same (before_all (shown_by (view (onto range h)) e ++ flat_map (accesses_of_op (length given)) ops) asked)
      ∙ ap (passed_by h range) (event_same (onto range h) e given ops asked is)
      ∙ sym (range-append h range e asked);
}

passed_none : (h range : List Event) → passed_by h range (λ at j. false) ≡ asked_by h range
passed_none h [] = refl
passed_none h (e ∷ range) = λ i at j. shown_at h e at j || below_all (event_changes h e) (passed_none (e ∷ h) range i) at j

pub accesses_stand : AccessesStand
accesses_stand = record {
  none = λ h. record { same = λ asked. refl };
  more = more;
  asked = λ h range accesses s. s.same (λ at j. false) ∙ passed_none h range;
}
