-- A block that a leaner takes.
use Rattle.std.proofs.Common.{◌≡◌, ◌≢◌, ℕ, ◌+◌, ◌||◌, Bool, true, false, List, [], ◌∷◌, ◌++◌, Option, Some, None, refl, sym, ap, subst, ◌∙◌}
use Rattle.std.specs.Prelude.{IfErr, IfOk, Result, Ok, Err}
use Rattle.std.proofs.lemmas.Bool.{eqb-true}
use Rattle.gfx_model.specs.Events.{Event}
use Rattle.gfx_model.specs.Blocks.{Content, Whole}
use Rattle.gfx_model.specs.Blocks.Content.{skipped, effect}
use Rattle.gfx_model.specs.Meaning.{content_onto, events_onto}
use Rattle.gfx_model.specs.History.{view}
use Rattle.gfx_model.specs.Trimmed.{Cut, boundary, content_begins, cuts_before, history_to, range_from}
use Rattle.gfx_feature_model.specs.Lean.{event_in, events_in}
use Rattle.gfx_asked.specs.Law.{StandFor}
use Rattle.gfx_asked.proofs.Stand.{accesses_stand}
use Rattle.gfx_needed.specs.NeededIds.{IsSearched}
use Rattle.gfx_model.specs.Frames.{frames}
use Rattle.gfx_player.specs.Fed.{history_of}
use Rattle.gfx_player.specs.Meanings.{first_of}
use Rattle.gfx_replay.specs.Replayer.{StandsFor}
use Rattle.gfx_player.specs.Walks.{HasReplayed, IsReplayedAlike}
use Rattle.gfx_player.specs.declared.player.Player.{Player}
use Rattle.gfx_player.proofs.Walking.{history_more, replayed_alike}
use Rattle.gfx_range.specs.Follower.{Followed, Follows}
use Rattle.gfx_range.specs.Range.{IsFresh, IsGathered, IsSameNeed}
use Rattle.gfx_range.specs.declared.follower.Follower.{Follower}
use Rattle.gfx_range.specs.declared.range.Range.{Range}
use Rattle.gfx_trim.specs.Cutters.{is_number, number_by}
use Rattle.gfx_trim.specs.Phases.{Continues, IsBefore, IsPhase, IsWaiting, IsWriting}
use Rattle.gfx_trim.specs.Written.{acts, has_effect}
use Rattle.gfx_trim.specs.declared.phase.Phase.{Phase}
use Rattle.gfx_trim.specs.declared.phase.Phase.TheVariants as phase
use Rattle.gfx_trim.proofs.Cutting.{behind}
use Rattle.gfx_trim.proofs.Growing.{boundary_on, range_on}
use Rattle.gfx_trim.proofs.Phases.{closed_at, history_along}
use Rattle.gfx_trim.proofs.Steps.{ends_frame, extends, now_before, now_waiting, reached_by, still_before, still_waiting, still_writing, waiting_history}
use Rattle.gfx_trim.proofs.Taking.{start_before, start_waiting}
use Rattle.gfx_lean.specs.Leaner.{GoesOn, HasRangeOf, IsAfter, IsFollowed, IsGathering, IsOfSameRange, Takes}
use Rattle.gfx_lean.specs.declared.leaner.Leaner.{Leaner}

-- what follows one block more
pub followed_on : (f : Follower) (fed : List Whole) (w : Whole) (number : Option ℕ) → Followed f (history_of fed) w.content number → Follows f (history_of (fed ++ w ∷ []))
followed_on f fed w number d = subst (Follows f) (sym (history_more fed w)) d.follows

-- a cut in this phase
after_by : (new : Leaner) (q : Player) (fed : List Whole) (p : Phase) → new.phase ≡ p → Follows new.follower (history_of fed) → IsPhase p new.first new.last new.range.blocks.items fed →
    IsGathering p new.first new.range q fed → IsAfter new q fed
after_by new q fed p is follows there gathers = record {
  follows = follows;
  phase = subst (λ p. IsPhase p new.first new.last new.range.blocks.items fed) (sym is) there;
  gathers = subst (λ p. IsGathering p new.first new.range q fed) (sym is) gathers;
}

-- the same range, and the same blocks of it
pub record IsSame (old new : Leaner) : Type 0 where
  pub range : IsOfSameRange old new
  pub blocks : new.range ≡ old.range

pub same_but : (old new : Leaner) → new ≡ record old { follower = new.follower } → IsSame old new
same_but old new same = record {
  range = record { first = ap (λ (c : Leaner). c.first) same; last = ap (λ (c : Leaner). c.last) same; minor = ap (λ (c : Leaner). c.minor) same };
  blocks = ap (λ (c : Leaner). c.range) same;
}

-- what holds where a call was done
pub if_ok : {E : Type 0} (r : Result Bool E) (P Q : Bool → Type 0) → IfOk r P → ((b : Bool) → P b → Q b) → IfOk r Q
if_ok (Ok b) P Q p f = f b p
if_ok (Err e) P Q p f = tt

pub if_err : {T E : Type 0} (r : Result T E) (P Q : E → Type 0) → IfErr r P → ((e : E) → P e → Q e) → IfErr r Q
if_err (Ok b) P Q p f = tt
if_err (Err e) P Q p f = f e p

before_phase : (c : Leaner) (p : Player) (fed : List Whole) → c.phase ≡ phase.Before → IsAfter c p fed → IsBefore c.first c.range.blocks.items fed × (HasReplayed p fed × IsFresh c.range)
before_phase c p fed is a =
    (subst (λ p. IsPhase p c.first c.last c.range.blocks.items fed) is a.phase, subst (λ q. IsGathering q c.first c.range p fed) is a.gathers)

pub waiting_phase : (c : Leaner) (p : Player) (fed : List Whole) → c.phase ≡ phase.Waiting → IsAfter c p fed → IsWaiting c.first c.range.blocks.items fed × (HasReplayed p fed × IsFresh c.range)
waiting_phase c p fed is a =
    (subst (λ p. IsPhase p c.first c.last c.range.blocks.items fed) is a.phase, subst (λ q. IsGathering q c.first c.range p fed) is a.gathers)

pub writing_phase : (c : Leaner) (p : Player) (fed : List Whole) → c.phase ≡ phase.Writing → IsAfter c p fed → IsWriting c.first c.last fed × HasRangeOf c.first c.range p fed
writing_phase c p fed is a =
    (subst (λ p. IsPhase p c.first c.last c.range.blocks.items fed) is a.phase, subst (λ q. IsGathering q c.first c.range p fed) is a.gathers)

pub replayed_before : (c : Leaner) (p : Player) (fed : List Whole) → c.phase ≡ phase.Before → IsAfter c p fed → HasReplayed p fed
replayed_before c p fed is a = (before_phase c p fed is a).1.0

-- before the first block
pub starts_waiting : (c : Leaner) (p : Player) → c.first ≡ 1 → c.range.blocks.items ≡ [] → c.phase ≡ phase.Waiting → Follows c.follower [] → IsFresh c.range → HasReplayed p [] → IsAfter c p []
starts_waiting c p one none is follows fresh replayed = after_by c p [] phase.Waiting is follows (start_waiting c.first c.last c.range.blocks.items phase.Waiting one none refl) (replayed, fresh)

pub starts_before : (c : Leaner) (p : Player) → c.first ≢ 1 → c.range.blocks.items ≡ [] → c.phase ≡ phase.Before → Follows c.follower [] → IsFresh c.range → HasReplayed p [] → IsAfter c p []
starts_before c p other none is follows fresh replayed = after_by c p [] phase.Before is follows (start_before c.first c.last c.range.blocks.items phase.Before other none refl) (replayed, fresh)

-- ---- before the range

module _ (old new : Leaner) (p q : Player) (fed : List Whole) (w : Whole) (number : Option ℕ) (is : old.phase ≡ phase.Before) (a : IsAfter old p fed) (same : IsSame old new)
    (followed : Followed new.follower (history_of fed) w.content number) (replayed : HasReplayed q (fed ++ w ∷ [])) where
  pub passes_cut : new.phase ≡ phase.Waiting → cuts_before old.first (history_of fed) w.content ≡ true → GoesOn old new q fed w
  passes_cut now cuts =
      let b = before_phase old p fed is a in
      let there = now_waiting old.first old.range.blocks.items fed w b.0 cuts in
      record {
        after = after_by new q (fed ++ w ∷ []) phase.Waiting now (followed_on new.follower fed w number followed)
            (subst (λ n. IsWaiting n new.range.blocks.items (fed ++ w ∷ [])) (sym same.range.first) (subst (λ (r : Range). IsWaiting old.first r.blocks.items (fed ++ w ∷ [])) (sym same.blocks) there))
            (replayed, subst IsFresh (sym same.blocks) b.1.1);
        range = same.range;
      }

  pub passes_on : new.phase ≡ phase.Before → cuts_before old.first (history_of fed) w.content ≡ false → GoesOn old new q fed w
  passes_on now none =
      let b = before_phase old p fed is a in
      let there = still_before old.first old.range.blocks.items fed w b.0 none in
      record {
        after = after_by new q (fed ++ w ∷ []) phase.Before now (followed_on new.follower fed w number followed)
            (subst (λ n. IsBefore n new.range.blocks.items (fed ++ w ∷ [])) (sym same.range.first) (subst (λ (r : Range). IsBefore old.first r.blocks.items (fed ++ w ∷ [])) (sym same.blocks) there))
            (replayed, subst IsFresh (sym same.blocks) b.1.1);
        range = same.range;
      }

-- ---- where the range begins

fresh_same : (old new : Range) → IsSameNeed old new → IsFresh old → IsFresh new
fresh_same old new same f = record { needed = λ v. subst (IsSearched v []) (sym same.needed) (f.needed v); accesses = same.accesses ∙ f.accesses }

-- a skipped block is kept
pub keeps_on : (old new : Leaner) (p : Player) (fed : List Whole) (w : Whole) → old.phase ≡ phase.Waiting → IsAfter old p fed → w.content ≡ skipped → IsOfSameRange old new → new.phase ≡ old.phase →
    new.follower ≡ old.follower → new.range.blocks.items ≡ old.range.blocks.items ++ w.bytes → IsSameNeed old.range new.range → GoesOn old new p fed w
keeps_on old new p fed w is a skips range same follower bytes need =
    let b = waiting_phase old p fed is a in
    let there = still_waiting old.first old.range.blocks.items fed w b.0 skips in
    let h : history_of (fed ++ w ∷ []) ≡ history_of fed = history_more fed w ∙ ap (λ c. content_onto c (history_of fed)) skips in
    record {
      after = after_by new p (fed ++ w ∷ []) phase.Waiting (same ∙ is)
          (subst (λ f. Follows f (history_of (fed ++ w ∷ []))) (sym follower) (subst (Follows old.follower) (sym h) a.follows))
          (subst (λ n. IsWaiting n new.range.blocks.items (fed ++ w ∷ [])) (sym range.first) (subst (λ k. IsWaiting old.first k (fed ++ w ∷ [])) (sym bytes) there)) (
            record {
              replays = subst (λ h. StandsFor p.replayer h) (sym h) b.1.0.replays;
              first = b.1.0.first ∙ ap (λ h. first_of (frames h)) (sym h);
            },
            fresh_same old.range new.range need b.1.1,
          );
      range = range;
    }

-- a section begins
pub restarts : (old new : Leaner) (p q : Player) (fed : List Whole) (w : Whole) (number : Option ℕ) → old.phase ≡ phase.Waiting → IsAfter old p fed → IsOfSameRange old new → new.phase ≡ phase.Before →
    content_begins w.content false ≡ true → Followed new.follower (history_of fed) w.content number → HasReplayed q (fed ++ w ∷ []) → new.range.blocks.items ≡ [] → IsSameNeed old.range new.range → GoesOn old new q fed w
restarts old new p q fed w number is a range now begins followed replayed none need =
    let b = waiting_phase old p fed is a in
    record {
      after = after_by new q (fed ++ w ∷ []) phase.Before now (followed_on new.follower fed w number followed)
          (subst (λ k. IsBefore new.first k (fed ++ w ∷ [])) (sym none) (now_before new.first fed w begins followed.fine))
          (replayed, fresh_same old.range new.range need b.1.1);
      range = range;
    }

-- blocks without an effect say nothing
quiet_events : (ws : List Whole) → has_effect ws ≡ false → events_in ws ≡ []
quiet_events [] none = refl
quiet_events (w ∷ ws) none = by w.content none (quiet_events ws)
  where
    by : (c : Content) → (acts c || has_effect ws) ≡ false → (has_effect ws ≡ false → events_in ws ≡ []) → event_in c ++ events_in ws ≡ []
    by skipped none later = later none
    by (effect thread e) none later = absurd cc

-- the first effect of the range comes next
pub begins_range : (c : Leaner) (p : Player) (fed : List Whole) → c.phase ≡ phase.Waiting → IsAfter c p fed → IsFollowed c p fed
begins_range c p fed is a =
    let b = waiting_phase c p fed is a in
    let h = history_to (boundary c.first fed) in
    let es = quiet_events (boundary c.first fed).rest b.0.quiet in
    record {
      follows = a.follows;
      has = record {
        replays = subst (λ h. StandsFor p.replayer h) (sym (waiting_history c.first c.range.blocks.items fed b.0)) b.1.0.replays;
        gathered = record {
          needed = subst (λ es. IsSearched (view h) es c.range.needed) (sym es) (b.1.1.needed (view h));
          accesses = subst (λ es. StandFor h es c.range.accesses) (sym es) (subst (StandFor h []) (sym b.1.1.accesses) (accesses_stand.none h));
          bytes = b.0.same;
        };
      };
    }

-- ---- in the range

number_there : (last : ℕ) (o : Option ℕ) → is_number last o ≡ true → o ≡ Some last
number_there last None is = absurd cc
number_there last (Some n) is = ap Some (eqb-true n last is)

pub gathers : (t : Bool) (old new : Leaner) (p : Player) (fed : List Whole) (w : Whole) (number : Option ℕ) → t ≡ is_number old.last number → IsFollowed old p fed → Continues old.first old.last fed w →
    IsOfSameRange old new → new.phase ≡ phase.Writing → Followed new.follower (history_of fed) w.content number → IsGathered new.range (history_to (boundary old.first fed)) ((boundary old.first fed).rest ++ w ∷ []) →
    Takes t old new p fed w
gathers t old new p fed w number answer was g range now followed gathered = by t (answer ∙ ap (is_number old.last) followed.shows)
  where
    h : List Event
    h = history_of fed

    cut : boundary old.first (fed ++ w ∷ []) ≡ behind (boundary old.first fed) (w ∷ [])
    cut = boundary_on old.first fed (w ∷ []) g.there g.section

    has : (first : ℕ) → first ≡ old.first → HasRangeOf first new.range p (fed ++ w ∷ [])
    has first is = subst (λ first. HasRangeOf first new.range p (fed ++ w ∷ [])) (sym is) (record {
      replays = subst (λ (c : Cut). StandsFor p.replayer (history_to c)) (sym cut) was.has.replays;
      gathered = subst (λ (c : Cut). IsGathered new.range (history_to c) c.rest) (sym cut) gathered;
    })

    reached : cuts_before (old.last + 1) h w.content ≡ is_number old.last (number_by h w.content)
    reached = ends_frame old.last h w.content (closed_at old.first fed was.follows.valid g.there) followed.fine

    follows : Follows new.follower (history_of (fed ++ w ∷ []))
    follows = followed_on new.follower fed w number followed

    by : (t : Bool) → t ≡ is_number old.last (number_by h w.content) → Takes t old new p fed w
    by true same =
        let e = extends 1 old.first old.last fed w g in
        record {
          ends = record {
            valid = follows.valid;
            there = e.there;
            reached = reached_by old.first old.last fed w g ∙ reached ∙ sym same;
            some = e.range;
            shows = number_there old.last (number_by h w.content) (sym same);
          };
          has = has old.first refl;
          all = ap (range_from old.last) cut ∙ range_on old.last (boundary old.first fed) w g.going ∙ ap (λ (c : Cut). c.rest) (sym cut);
          range = range;
        }
    by false same = record {
      after = after_by new p (fed ++ w ∷ []) phase.Writing now follows
          (subst (λ n. IsWriting n new.last (fed ++ w ∷ [])) (sym range.first) (subst (λ n. IsWriting old.first n (fed ++ w ∷ [])) (sym range.last) (still_writing old.first old.last fed w g (reached ∙ sym same))))
          (has new.first range.first);
      range = range;
    }

-- the history that is followed is that of the range behind the boundary
pub range_history : (first : ℕ) (fed : List Whole) → history_of fed ≡ events_onto (boundary first fed).rest (history_to (boundary first fed))
range_history first fed = sym (history_along first fed)

-- a player that replayed alike
pub after_alike : (c : Leaner) (p q : Player) (fed : List Whole) → IsReplayedAlike p q → IsAfter c p fed → IsAfter c q fed
after_alike c p q fed same a = record { follows = a.follows; phase = a.phase; gathers = by c.phase a.gathers }
  where
    by : (f : Phase) → IsGathering f c.first c.range p fed → IsGathering f c.first c.range q fed
    by phase.Before g = (replayed_alike p q fed same g.0, g.1)
    by phase.Waiting g = (replayed_alike p q fed same g.0, g.1)
    by phase.Writing g = record { replays = subst (λ r. StandsFor r (history_to (boundary c.first fed))) (sym same.replayer) g.replays; gathered = g.gathered }
