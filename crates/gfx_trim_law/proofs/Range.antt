-- The blocks of a range of frames: what they say goes on after the boundary without markers, and shows just the frames of the range.
use Rattle.std.proofs.Common.{◌≡◌, ℕ, ◌+◌, ◌^◌, ◌<◌, ◌≤◌, ◌==◌, ◌||◌, nat_le, Bool, true, false, refl, sym, ◌∙◌, ap, subst, List, [], ◌∷◌, ◌++◌, filter, cond, arith, append-nil}
use Rattle.std.specs.List.{AllByRecursion}
use Rattle.std.proofs.lemmas.Bool.{le-leb, lt-leb}
use Rattle.std.proofs.lemmas.Bool.Decides.{nat_tests}
use Rattle.gfx_types.specs.declared.frame.Frame.{Frame}
use Rattle.gfx_model.specs.Events.{Event}
use Rattle.gfx_model.specs.Blocks.{Whole, Content}
use Rattle.gfx_model.specs.Blocks.Content.{skipped, effect}
use Rattle.gfx_model.specs.History.{onto, view, is_valid}
use Rattle.gfx_model.specs.Frames.{frames}
use Rattle.gfx_model.specs.Meaning.{events_onto, frames_to, has_frame}
use Rattle.gfx_model.specs.Trimmed.{Cut, cut_before, reaches, boundary, history_to, range_from}
use Rattle.gfx_model.proofs.Cutting.{shown_is_reached}
use Rattle.gfx_model.proofs.Lists.{filter_append, filter_none, all_along}
use Rattle.gfx_laws.specs.Laws.{IsNoMarker, frames_after}
use Rattle.gfx_laws.proofs.Lists.{all_before, all_behind}
use Rattle.gfx_laws.proofs.Ranges.{valid_before, frames_parts}
use Rattle.gfx_section_law.specs.Law.{IsAtBoundary}
use Rattle.gfx_trim_law.specs.Law.{frames_from}
use Rattle.gfx_trim_law.proofs.Numbers.{IsNoBegin, numbered, rises, no_markers, number_of}
use Rattle.gfx_trim_law.proofs.Cuts.{with_said, events_in, onto_events, onto_parts, valid_start, cut}
use Rattle.gfx_trim_law.proofs.Boundary.{IsBoundary, boundary_there, at_boundary}

-- ---- frames by their numbers

filter_all : {X : Type 0} (t : X → Bool) (xs : List X) → AllByRecursion (λ x. t x ≡ true) xs → filter t xs ≡ xs
filter_all t [] a = refl
filter_all t (x ∷ xs) a = ap (λ b. cond b (x ∷ filter t xs) (filter t xs)) a.0 ∙ ap (λ r. x ∷ r) (filter_all t xs a.1)

-- the frames before the range, those of the range, and those behind it
cut_frames : (first last : ℕ) (before own behind : List Frame) → first ≤ last → AllByRecursion (λ f. f.number < first) before
    → AllByRecursion (λ f. first ≤ f.number) own → AllByRecursion (λ f. f.number < last + 1) own → AllByRecursion (λ f. last + 1 ≤ f.number) behind
    → frames_from first (frames_to last ((before ++ own) ++ behind)) ≡ own
cut_frames first last before own behind ordered b low high later =
    let up_to : Frame → Bool = λ f. nat_le f.number last in
    let from : Frame → Bool = λ f. nat_le first f.number in
    let kept_before : frames_to last before ≡ before = filter_all up_to before (all_along _ _ (λ f n. le-leb f.number last (omega (arith, n, ordered))) before b) in
    let kept : frames_to last own ≡ own = filter_all up_to own (all_along _ _ (λ f n. le-leb f.number last (omega (arith, n))) own high) in
    let dropped : frames_to last behind ≡ [] = filter_none up_to behind (all_along _ _ (λ f n. lt-leb f.number last (omega (arith, n))) behind later) in
    let shown : frames_to last ((before ++ own) ++ behind) ≡ before ++ own =
    filter_append up_to (before ++ own) behind ∙ ap (λ r. frames_to last (before ++ own) ++ r) dropped ∙ append-nil (frames_to last (before ++ own))
    ∙ filter_append up_to before own ∙ ap (λ r. r ++ frames_to last own) kept_before ∙ ap (λ r. before ++ r) kept in
    ap (frames_from first) shown ∙ filter_append from before own
    ∙ ap (λ r. r ++ frames_from first own) (filter_none from before (all_along _ _ (λ f n. lt-leb first f.number (omega (arith, n))) before b))
    ∙ filter_all from own (all_along _ _ (λ f n. le-leb first f.number n) own low)

not_there : (first last : ℕ) (fs : List Frame) → first ≤ last → AllByRecursion (λ f. f.number < first) fs → has_frame last fs ≡ false
not_there first last [] ordered a = refl
not_there first last (f ∷ fs) ordered a =
    let other : (f.number == last) ≡ false = grind (arith, nat_tests, a.0, ordered) in
    ap (λ b. b || has_frame last fs) other ∙ not_there first last fs ordered a.1

-- ---- the range

events_in-append : (xs ys : List Whole) → events_in (xs ++ ys) ≡ events_in xs ++ events_in ys
events_in-append [] ys = refl
events_in-append (w ∷ xs) ys = by w.content (events_in-append xs ys)
  where
    by : (c : Content) → events_in (xs ++ ys) ≡ events_in xs ++ events_in ys → with_said c (events_in (xs ++ ys)) ≡ with_said c (events_in xs) ++ events_in ys
    by skipped same = same
    by (effect thread e) same = ap (λ (es : List Event). e ∷ es) same

-- the range from a cut, among blocks without a fault
pub record IsRange (first last : ℕ) (ws : List Whole) (c : Cut) : Type 0 where
  pub start : IsBoundary first ws c
  pub at : IsAtBoundary (history_to c)
  pub reached : reaches (last + 1) (history_to c) c.rest ≡ true
  -- what follows the range
  pub behind : List Whole
  pub parts : range_from last c ++ behind ≡ c.rest
  pub markers : AllByRecursion IsNoMarker (events_in (range_from last c))
  pub valid : is_valid (onto (events_in (range_from last c)) (history_to c)) ≡ true
  pub shown : frames_from first (frames_to last (frames (events_onto ws []))) ≡ frames_after (history_to c) (events_in (range_from last c))

pub in_range : (first last : ℕ) (ws : List Whole) → is_valid (events_onto ws []) ≡ true → first ≤ last →
    has_frame first (frames (events_onto ws [])) ≡ true → has_frame last (frames (events_onto ws [])) ≡ true → IsRange first last ws (boundary first ws)
in_range first last ws valid ordered first_there last_there =
    let c : Cut = boundary first ws in
    let start = at_boundary first ws valid (boundary_there first ws valid first_there) in
    let h : List Event = history_to c in
    -- the history of the whole list, from the cut on
    let whole : events_onto ws [] ≡ events_onto c.rest h = ap (λ (ws : List Whole). events_onto ws []) (sym start.parts) ∙ onto_parts c.front c.rest [] in
    let valid_rest : is_valid (events_onto c.rest h) ≡ true = ap is_valid (sym whole) ∙ valid in
    let valid_h : is_valid h ≡ true = valid_start c.rest h valid_rest in
    let numbers = numbered h valid_h in
    let before : AllByRecursion (λ f. f.number < first) (frames h) = all_along _ _ (λ f n. omega (arith, n.1, start.number)) (frames h) numbers.shown in
    let reached = shown_is_reached last h c.rest (not_there first last (frames h) ordered before) (ap (λ (h : List Event). has_frame last (frames h)) (sym whole) ∙ last_there) in
    let d : Cut = cut_before (last + 1) h c.rest in
    let k = cut (last + 1) c.rest h reached valid_rest in
    let es : List Event = events_in d.front in
    let now : List Event = onto es h in
    let through : events_onto d.front h ≡ now = onto_events d.front h in
    let rest : events_onto c.rest h ≡ onto (events_in d.rest) now =
    ap (λ (ws : List Whole). events_onto ws h) (sym k.parts) ∙ onto_parts d.front d.rest h ∙ onto_events d.rest (events_onto d.front h) ∙ ap (onto (events_in d.rest)) through in
    let valid_now : is_valid now ≡ true = valid_before (events_in d.rest) now (ap is_valid (sym rest) ∙ valid_rest) in
    let next : (view now).next_frame ≡ last + 1 = ap (λ (h : List Event). (view h).next_frame) (sym through) ∙ k.number in
    let quiet : AllByRecursion IsNoBegin (es ++ events_in d.rest) =
    subst (AllByRecursion IsNoBegin) (ap events_in (sym k.parts) ∙ events_in-append d.front d.rest) start.quiet in
    let quiet_es = all_before IsNoBegin es (events_in d.rest) quiet in
    let shown_now = all_behind _ (frames h) (frames_after h es) (subst (AllByRecursion (λ f. f.number < last + 1)) (frames_parts es h)
    (all_along _ _ (λ f n. omega (arith, n.1, next)) (frames now) (numbered now valid_now).shown)) in
    let later = rises (events_in d.rest) now (all_behind IsNoBegin es (events_in d.rest) quiet) in
    let all : frames (events_onto ws []) ≡ (frames h ++ frames_after h es) ++ frames_after now (events_in d.rest) =
    ap frames (whole ∙ rest) ∙ frames_parts (events_in d.rest) now ∙ ap (λ (fs : List Frame). fs ++ frames_after now (events_in d.rest)) (frames_parts es h) in
    record {
      start = start;
      at = record {
        valid = valid_h;
        closed = start.closed;
        low = numbers.low;
        high = omega (arith, start.number, number_of (λ n. n ≤ 2 ^ 62) first (frames (events_onto ws [])) first_there (all_along _ _ (λ f n. n.2) _ (numbered (events_onto ws []) valid).shown));
      };
      reached = reached;
      behind = d.rest;
      parts = k.parts;
      markers = no_markers es h quiet_es start.closed valid_now;
      valid = valid_now;
      shown = ap (λ (fs : List Frame). frames_from first (frames_to last fs)) all
          ∙ cut_frames first last (frames h) (frames_after h es) (frames_after now (events_in d.rest)) ordered before
          (all_along _ _ (λ f n. omega (arith, n, start.number)) (frames_after h es) (rises es h quiet_es).shown) shown_now
          (all_along _ _ (λ f n. omega (arith, n, next)) (frames_after now (events_in d.rest)) later.shown);
    }
