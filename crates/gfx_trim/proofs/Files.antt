-- A file that is trimmed, block by block, and what the call answers where it stops.
use Rattle.std.proofs.Common.{◌≡◌, ◌≤◌, ◌⊎◌, inl, inr, ◌+◌, ◌-◌, ◌==◌, ◌||◌, cond, if◌then◌else◌, ℕ, Bool, true, false, List, [], ◌∷◌, ◌++◌, Option, Some, None, Ok, Err, refl, sym, ap, subst, ◌∙◌, arith}
use Rattle.std.specs.Prelude.{option_map, unwrap_or}
use Rattle.std.specs.Io.KnownBytes.{Appends}
use Rattle.std.proofs.lemmas.Bool.{eq-eqb, or_left, or_right}
use Rattle.std.proofs.lemmas.List.Folds.{list_any-append}
use Rattle.gfx_io.specs.Pieces.{AppendsPart}
use Rattle.gfx_io.specs.Told.{IfTold}
use Rattle.gfx_types.specs.declared.frame.Frame.{Frame}
use Rattle.gfx_types.specs.declared.names.Fault.{Fault}
use Rattle.gfx_model.specs.Events.{Event}
use Rattle.gfx_model.specs.Blocks.{Whole, minor_of}
use Rattle.gfx_model.specs.Blocks.End.{clean}
use Rattle.gfx_model.specs.History.{is_valid, view}
use Rattle.gfx_model.specs.Views.{View}
use Rattle.gfx_model.specs.Frames.{frames}
use Rattle.gfx_model.specs.Meaning.{content_fault, has_frame}
use Rattle.gfx_model.specs.Trimmed.{Cut, cut_before, reaches, is_first, boundary, has_boundary, history_to, range_from, trimmed_by}
use Rattle.gfx_model.proofs.Cutting.{shown_is_reached}
use Rattle.gfx_model.proofs.Lists.{all_along}
use Rattle.gfx_grammar.specs.Splitting.{Blocks, blocks_of}
use Rattle.gfx_trim_law.proofs.Boundary.{at_boundary, boundary_there}
use Rattle.gfx_trim_law.proofs.Prefix.{prefix, valid_more}
use Rattle.gfx_trim_law.proofs.Cuts.{valid_start}
use Rattle.gfx_trim_law.proofs.Each.{begun_is_shown}
use Rattle.gfx_trim_law.proofs.Numbers.{numbered, number_of}
use Rattle.gfx_replay.specs.Fed.{frame_by}
use Rattle.gfx_decode.proofs.Told.{told_if}
use Rattle.gfx_io.proofs.Appending.{appends_none, part_of, whole_part}
use Rattle.gfx_player.specs.declared.fault.PlayFault.{PlayFault}
use Rattle.gfx_player.specs.declared.fault.PlayFault.TheVariants as play
use Rattle.gfx_player.specs.declared.player.Player.{Player}
use Rattle.gfx_player.specs.Ends.{BeginsWith, EndsBehind, StopsBehind}
use Rattle.gfx_player.specs.Fed.{IsUnfinished, IsFed, history_of}
use Rattle.gfx_player.specs.Meanings.{first_in, history_in, last_in, valid_from}
use Rattle.gfx_player.specs.Walks.{HasRead, IsReadAlike, IsReplayedAlike, Refuses, first_frame_of, next_frame_of}
use Rattle.gfx_player.proofs.Feeding.{read_through}
use Rattle.gfx_player.proofs.Judging.{judged_given, valid_on}
use Rattle.gfx_player.proofs.Playing.{told_beside}
use Rattle.gfx_player.proofs.Walking.{fed_begins, frames_with, history_more, read_alike, refused_stops, replayed_alike}
use Rattle.gfx_trim.specs.declared.cutter.Cutter.{Cutter}
use Rattle.gfx_trim.specs.declared.phase.Phase.{Phase}
use Rattle.gfx_trim.specs.declared.phase.Phase.TheVariants as phase
use Rattle.gfx_trim.specs.Cutters.{IsAfter, Ends, GoesOn, number_by, text_by}
use Rattle.gfx_trim.specs.Numbers.{IsOutside}
use Rattle.gfx_trim.specs.Phases.{IsPhase}
use Rattle.gfx_trim.specs.Trims.{Answers, AnswersKeeping, IsBehindLast, trimmed}
use Rattle.gfx_trim.specs.Written.{has_effect, written, written_of}
use Rattle.gfx_trim.proofs.Cutting.{quiet_reaches}
use Rattle.gfx_trim.proofs.Growing.{grown, text_some, text_whole}
use Rattle.gfx_trim.proofs.Keeping.{HasShown, file_shows, kept, trimmed_then}
use Rattle.gfx_trim.proofs.Numbers.{inside, outside}
use Rattle.gfx_trim.proofs.Phases.{history_along}

-- ---- what is written of a file, by the blocks that were read

text_none : (m first last : ℕ) → written_of m first last [] ≡ []
unfolding written_of cut_before
text_none m first last = by (is_first first [])
  where
    text : Cut → List ℕ
    text c = if has_effect (range_from last c) then trimmed_by m first last c else []

    by : (b : Bool) → text (cond {A = Cut} b (record { front = []; rest = [] }) (record { front = []; rest = [] })) ≡ []
    by true = refl
    by false = refl

text_all : (first last : ℕ) (fed : List Whole) (all : List ℕ) (b : BeginsWith fed all) → is_valid (history_of fed) ≡ true →
    written first last all ≡ written_of (minor_of all) first last (fed ++ valid_from (history_of fed) b.later.items)
text_all first last fed all b valid =
    ap (λ (b : Blocks). written_of (minor_of all) first last (valid_from [] b.items)) b.is
    ∙ ap (written_of (minor_of all) first last) (valid_on fed b.later.items [] valid)

-- a prefix of what is written of blocks without a fault is one of what is written of the file
front_of : (first last : ℕ) (fed : List Whole) (all : List ℕ) (before after : Option (List ℕ)) → BeginsWith fed all → is_valid (history_of fed) ≡ true →
    AppendsPart before after (written_of (minor_of all) first last fed) → AppendsPart before after (written first last all)
front_of first last fed all before after b valid part =
    let g = grown (minor_of all) first last fed (valid_from (history_of fed) b.later.items) in
    subst (AppendsPart before after) (sym (text_all first last fed all b valid ∙ g.is)) (part_of before after (written_of (minor_of all) first last fed) g.tail part)

-- of no blocks nothing is written in either version
in_version : (first last m n : ℕ) (fed : List Whole) → (fed ≡ []) ⊎ (m ≡ n) → written_of m first last fed ≡ written_of n first last fed
in_version first last m n fed (inl none) =
    ap (written_of m first last) none ∙ text_none m first last ∙ sym (text_none n first last) ∙ ap (written_of n first last) (sym none)
in_version first last m n fed (inr same) = ap (λ m. written_of m first last fed) same

-- ---- a range that is not whole in the blocks that were read

-- a frame from the range's first on is not shown before it
pub not_before : (first last : ℕ) (ws : List Whole) → is_valid (history_of ws) ≡ true → has_boundary first ws ≡ true → first ≤ last → has_frame last (frames (history_to (boundary first ws))) ≡ false
not_before first last ws valid there ordered = by (has_frame last (frames (history_to (boundary first ws)))) refl
  where
    h : List Event
    h = history_to (boundary first ws)

    here : is_valid h ≡ true
    here = valid_start (boundary first ws).rest h (ap is_valid (history_along first ws) ∙ valid)

    by : (b : Bool) → has_frame last (frames h) ≡ b → b ≡ false
    by true shown =
        let below = number_of (λ n. n + 1 ≤ (view h).next_frame) last (frames h) shown (all_along _ _ (λ f s. omega (arith, s.1)) (frames h) (numbered h here).shown) in
        absurd (omega (arith, below, (at_boundary first ws valid there).number, ordered))
    by false none = refl

-- frame `last` is not reached from where the range begins
pub outside_going : (first last : ℕ) (ws : List Whole) → is_valid (history_of ws) ≡ true → first ≤ last → has_boundary first ws ≡ true → reaches (last + 1) (history_to (boundary first ws)) (boundary first ws).rest ≡ false →
    IsOutside first last (history_of ws)
outside_going first last ws valid ordered there going =
    outside first last (history_of ws) valid ordered (λ one two.
    let reached = shown_is_reached last (history_to (boundary first ws)) (boundary first ws).rest (not_before first last ws valid there ordered)
    (ap (λ h. has_frame last (frames h)) (history_along first ws) ∙ two) in absurd cc)

outside_ahead : (first last : ℕ) (ws : List Whole) → is_valid (history_of ws) ≡ true → first ≤ last → has_boundary first ws ≡ false → IsOutside first last (history_of ws)
outside_ahead first last ws valid ordered none =
    outside first last (history_of ws) valid ordered (λ one two. let there = boundary_there first ws valid one in absurd cc)

pub outside_phase : (p : Phase) (first last : ℕ) (kept : List ℕ) (ws : List Whole) → is_valid (history_of ws) ≡ true → first ≤ last → IsPhase p first last kept ws → IsOutside first last (history_of ws)
outside_phase phase.Before first last kept ws valid ordered g = outside_ahead first last ws valid ordered g.ahead
outside_phase phase.Waiting first last kept ws valid ordered g =
    outside_going first last ws valid ordered g.there (quiet_reaches (last + 1) (boundary first ws).rest (history_to (boundary first ws)) g.quiet)
outside_phase phase.Writing first last kept ws valid ordered g = outside_going first last ws valid ordered g.there g.going

pub none_outside : (first last : ℕ) → first ≤ last → IsOutside first last []
unfolding frames
none_outside first last ordered = outside first last [] refl ordered (λ one two. absurd cc)

-- ---- a file that is being cut

-- blocks of a file were read and taken, none of them the last of the range, and what is to be written of them was
pub record Cutting (first last : ℕ) (p : Player) (c : Cutter) (fed : List Whole) (file left before after : Option (List ℕ)) : Type 0 where
  pub stands : IsAfter c p fed
  pub read : HasRead p fed file left
  pub first_is : c.first ≡ first
  pub last_is : c.last ≡ last
  pub minor_is : c.minor ≡ p.minor
  pub text : Appends before after (text_by c fed)

pub start : (first last : ℕ) (p : Player) (c : Cutter) (file left taken : Option (List ℕ)) → IsAfter c p [] → HasRead p [] file left → c.first ≡ first → c.last ≡ last → c.minor ≡ p.minor →
    Cutting first last p c [] file left taken taken
start first last p c file left taken stands read first_is last_is minor_is = record {
  stands = stands;
  read = read;
  first_is = first_is;
  last_is = last_is;
  minor_is = minor_is;
  text = subst (Appends taken taken) (sym (text_none c.minor c.first c.last)) (appends_none taken);
}

-- the text in the words of the file
text_is : (first last m : ℕ) (c : Cutter) (fed : List Whole) → c.first ≡ first → c.last ≡ last → c.minor ≡ m → text_by c fed ≡ written_of m first last fed
text_is first last m c fed first_is last_is minor_is =
    ap (λ m. written_of m c.first c.last fed) minor_is ∙ ap (λ a. written_of m a c.last fed) first_is ∙ ap (λ b. written_of m first b fed) last_is

valid_of : (first last : ℕ) (p : Player) (c : Cutter) (fed : List Whole) (file left before after : Option (List ℕ)) → Cutting first last p c fed file left before after → is_valid (history_of fed) ≡ true
valid_of first last p c fed file left before after g = g.stands.replayed.replays.stands.valid

outside_of : (first last : ℕ) (p : Player) (c : Cutter) (fed : List Whole) (file left before after : Option (List ℕ)) → first ≤ last → Cutting first last p c fed file left before after → IsOutside first last (history_of fed)
outside_of first last p c fed file left before after ordered g =
    let low : c.first ≤ c.last = omega (arith, ordered, g.first_is, g.last_is) in
    let far = outside_phase c.phase c.first c.last c.kept.items fed (valid_of first last p c fed file left before after g) low g.stands.phase in
    subst (λ a. IsOutside a last (history_of fed)) g.first_is (subst (λ b. IsOutside c.first b (history_of fed)) g.last_is far)

-- one block more
pub cut_more : (first last : ℕ) (p mid q : Player) (old new : Cutter) (fed : List Whole) (w : Whole) (file left rest before middle after : Option (List ℕ)) → Cutting first last p old fed file left before middle →
    HasRead mid (fed ++ w ∷ []) file rest → mid.minor ≡ p.minor → IsReadAlike mid q → GoesOn old new q fed w → Appends before after (text_by old (fed ++ w ∷ [])) →
    Cutting first last q new (fed ++ w ∷ []) file rest before after
cut_more first last p mid q old new fed w file left rest before middle after c read minor same goes text =
    let minor_is : new.minor ≡ old.minor = goes.range.minor in
    record {
      stands = goes.after;
      read = read_alike mid q (fed ++ w ∷ []) file rest same read;
      first_is = goes.range.first ∙ c.first_is;
      last_is = goes.range.last ∙ c.last_is;
      minor_is = minor_is ∙ c.minor_is ∙ sym minor ∙ sym same.minor;
      text = subst (Appends before after)
          (text_is old.first old.last old.minor old (fed ++ w ∷ []) refl refl refl ∙ sym (text_is old.first old.last old.minor new (fed ++ w ∷ []) goes.range.first goes.range.last minor_is)) text;
    }

-- ---- no further block is taken

failed : (first last : ℕ) (before after : Option (List ℕ)) (why : PlayFault) (all left : List ℕ) → Answers first last before after (Err why) all left → AnswersKeeping first last before after (Err why) all left
failed first last before after why all left a = (a, λ fit. tt)

stops : (first last : ℕ) (fed : List Whole) (why : PlayFault) (before after : Option (List ℕ)) (all rest : List ℕ) → is_valid (history_of fed) ≡ true → IsOutside first last (history_of fed) →
    Appends before after (written_of (minor_of all) first last fed) → StopsBehind fed why all rest → Answers first last before after (Err why) all rest
stops first last fed (play.Bad fault block offset) before after all rest valid far text s = record {
  end = s.stops.ends;
  outside = subst (IsOutside first last) (sym s.stops.history) far;
  file = subst (Appends before after) (sym (ap (written_of (minor_of all) first last) s.stops.blocks)) text;
}
stops first last fed (play.NoSuchFrame low high) before after all rest valid far text s = absurd s.stops
stops first last fed play.ReadFault before after all rest valid far text s =
    let g = s.stops in
    let judged = judged_given fed all rest g valid in
    record {
      given = g.given;
      parts = g.parts;
      cut = subst (λ ws. IsUnfinished ws g.given) (sym g.blocks) g.cut;
      lawful = judged.ends;
      outside = subst (IsOutside first last) (sym judged.history) far;
      file = subst (Appends before after) (sym (ap (written_of (minor_of g.given) first last) judged.blocks ∙ in_version first last (minor_of g.given) (minor_of all) fed g.minor)) text;
      front = front_of first last fed all before after s.begins valid (whole_part before after (written_of (minor_of all) first last fed) text);
    }
stops first last fed play.SinkFault before after all rest valid far text s = absurd s.stops
stops first last fed play.WantMemory before after all rest valid far text s =
    front_of first last fed all before after s.begins valid (whole_part before after (written_of (minor_of all) first last fed) text)

-- the header
pub open_fails : (first last : ℕ) (why : PlayFault) (file rest taken : Option (List ℕ)) → first ≤ last → IfTold file rest (StopsBehind [] why) → IfTold file rest (AnswersKeeping first last taken taken (Err why))
open_fails first last why file rest taken ordered told =
    told_if file rest (StopsBehind [] why) (AnswersKeeping first last taken taken (Err why)) told
    (λ all rest s. failed first last taken taken why all rest
    (stops first last [] why taken taken all rest refl (none_outside first last ordered) (subst (Appends taken taken) (sym (text_none (minor_of all) first last)) (appends_none taken)) s))

-- the next block
pub next_fails : (first last : ℕ) (p : Player) (c : Cutter) (fed : List Whole) (why : PlayFault) (file left rest before after : Option (List ℕ)) → first ≤ last → Cutting first last p c fed file left before after →
    IfTold file rest (StopsBehind fed why) → IfTold file rest (AnswersKeeping first last before after (Err why))
next_fails first last p c fed why file left rest before after ordered g told =
    told_beside file left rest _ (StopsBehind fed why) (AnswersKeeping first last before after (Err why)) g.read.told told
    (λ all left rest was s. failed first last before after why all rest
    (stops first last fed why before after all rest (valid_of first last p c fed file _ before after g) (outside_of first last p c fed file _ before after ordered g)
    (subst (Appends before after) (text_is first last (minor_of all) c fed g.first_is g.last_is (g.minor_is ∙ was.1)) g.text) s))

-- a prefix of a block without a fault was written
front_more : (first last : ℕ) (p mid : Player) (c : Cutter) (fed : List Whole) (w : Whole) (file left rest before middle after : Option (List ℕ)) → Cutting first last p c fed file left before middle →
    HasRead mid (fed ++ w ∷ []) file rest → mid.minor ≡ p.minor → content_fault (history_of fed) w.content ≡ None → AppendsPart before after (text_by c (fed ++ w ∷ [])) →
    IfTold file rest (λ all rest. AppendsPart before after (written first last all))
front_more first last p mid c fed w file left rest before middle after g read minor fine part =
    told_if file rest _ (λ all rest. AppendsPart before after (written first last all)) read.told
    (λ all rest was. front_of first last (fed ++ w ∷ []) all before after (fed_begins (fed ++ w ∷ []) mid.decoder all rest was.0)
    (ap is_valid (history_more fed w) ∙ valid_more (history_of fed) w.content g.stands.replayed.replays.stands.valid fine)
    (subst (AppendsPart before after) (text_is first last (minor_of all) c (fed ++ w ∷ []) g.first_is g.last_is (g.minor_is ∙ sym minor ∙ was.1)) part))

-- a block that is not taken, or not written whole
pub take_fails : (first last : ℕ) (p mid : Player) (c : Cutter) (fed : List Whole) (w : Whole) (why : PlayFault) (file left rest before middle after : Option (List ℕ)) → first ≤ last →
    Cutting first last p c fed file left before middle → HasRead mid (fed ++ w ∷ []) file rest → mid.minor ≡ p.minor → Refuses (history_of fed) w why →
    ((fault : Fault) (block offset : ℕ) → why ≡ play.Bad fault block offset → after ≡ middle) → AppendsPart before after (text_by c (fed ++ w ∷ [])) → IfTold file rest (AnswersKeeping first last before after (Err why))
take_fails first last p mid c fed w (play.Bad fault block offset) file left rest before middle after ordered g read minor refuses same part =
    next_fails first last p c fed (play.Bad fault block offset) file left rest before after ordered (record {
      stands = g.stands;
      read = g.read;
      first_is = g.first_is;
      last_is = g.last_is;
      minor_is = g.minor_is;
      text = subst (λ t. Appends before t (text_by c fed)) (sym (same fault block offset refl)) g.text;
    })
    (refused_stops mid fed w (play.Bad fault block offset) file rest g.stands.replayed.replays.stands.valid read tt refuses)
take_fails first last p mid c fed w (play.NoSuchFrame low high) file left rest before middle after ordered g read minor refuses same part = absurd refuses
take_fails first last p mid c fed w play.ReadFault file left rest before middle after ordered g read minor refuses same part = absurd refuses
take_fails first last p mid c fed w play.SinkFault file left rest before middle after ordered g read minor refuses same part =
    told_if file rest _ (AnswersKeeping first last before after (Err play.SinkFault)) (front_more first last p mid c fed w file left rest before middle after g read minor refuses part)
    (λ all rest part. failed first last before after play.SinkFault all rest part)
take_fails first last p mid c fed w play.WantMemory file left rest before middle after ordered g read minor refuses same part =
    told_if file rest _ (AnswersKeeping first last before after (Err play.WantMemory)) (front_more first last p mid c fed w file left rest before middle after g read minor refuses part)
    (λ all rest part. failed first last before after play.WantMemory all rest part)

-- the clean end of the file
pub file_ends : (first last : ℕ) (p q : Player) (c : Cutter) (fed : List Whole) (why : PlayFault) (file left rest before after : Option (List ℕ)) → first ≤ last → Cutting first last p c fed file left before after →
    IsReplayedAlike p q → IfTold file rest (λ all rest. EndsBehind fed clean all × (rest ≡ [])) → why ≡ play.NoSuchFrame (first_frame_of q) (next_frame_of q - 1) → IfTold file rest (AnswersKeeping first last before after (Err why))
file_ends first last p q c fed why file left rest before after ordered g same told is =
    let done = replayed_alike p q fed same g.stands.replayed in
    let next : next_frame_of q ≡ (view (history_of fed)).next_frame = ap (λ (v : View). v.next_frame) done.replays.stands.answers_same in
    subst (λ e. IfTold file rest (AnswersKeeping first last before after (Err e))) (sym is)
    (told_beside file left rest _ (λ all rest. EndsBehind fed clean all × (rest ≡ [])) (AnswersKeeping first last before after (Err (play.NoSuchFrame (first_frame_of q) (next_frame_of q - 1)))) g.read.told told
    (λ all left rest was end. failed first last before after (play.NoSuchFrame (first_frame_of q) (next_frame_of q - 1)) all rest (record {
      end = end.0.ends;
      outside = subst (IsOutside first last) (sym end.0.history) (outside_of first last p c fed file _ before after ordered g);
      low_is = ap (λ n. unwrap_or q.first n) next ∙ ap (λ o. unwrap_or o (view (history_of fed)).next_frame) done.first ∙ ap first_in (sym end.0.history);
      high_is = ap (λ n. n - 1) next ∙ ap last_in (sym end.0.history);
      file = subst (Appends before after)
          (text_is first last (minor_of all) c fed g.first_is g.last_is (g.minor_is ∙ was.1) ∙ sym (ap (written_of (minor_of all) first last) end.0.blocks)) g.text;
      read = end.1;
    })))

-- ---- the last block of the range

-- a present shows its frame
pub shown_by : (n : ℕ) (fed : List Whole) (w : Whole) → number_by (history_of fed) w.content ≡ Some n → has_frame n (frames (history_of (fed ++ w ∷ []))) ≡ true
shown_by n fed w is = by _ refl is
  where
    by : (o : Option Frame) → frame_by (history_of fed) w.content ≡ o → option_map (λ (f : Frame). f.number) o ≡ Some n → has_frame n (frames (history_of (fed ++ w ∷ []))) ≡ true
    by None none same = absurd cc
    by (Some f) there same =
        let number : f.number ≡ n = cc in
        ap (has_frame n) (frames_with fed w (Some f) there)
        ∙ list_any-append (λ (f : Frame). f.number == n) (frames (history_of fed)) (f ∷ [])
        ∙ or_right (has_frame n (frames (history_of fed))) ((f.number == n) || false) (or_left (f.number == n) false (eq-eqb f.number n number))

pub has_shown : (first last : ℕ) (fed : List Whole) (w : Whole) → Ends first last fed w → HasShown first last (fed ++ w ∷ [])
has_shown first last fed w e = record { valid = e.valid; there = e.there; reached = e.reached; shown = shown_by last fed w e.shows }

pub valid_history : (all : List ℕ) → is_valid (history_in all) ≡ true
valid_history all = let p = prefix (blocks_of all).items [] (blocks_of all).end refl in ap is_valid p.history ∙ p.valid

pub behind_last : (last : ℕ) (p : Player) (all rest : List ℕ) (fed : List Whole) (w : Whole) → IsFed (fed ++ w ∷ []) p.decoder all rest → number_by (history_of fed) w.content ≡ Some last → IsBehindLast last all rest
behind_last last p all rest fed w f shows = record { fed = fed; block = w; through = read_through fed w p.decoder all rest f; shows = shows }

cut_whole : (first last : ℕ) (p : Player) (all rest : List ℕ) (fed : List Whole) (w : Whole) (before after : Option (List ℕ)) → first ≤ last → Ends first last fed w → IsFed (fed ++ w ∷ []) p.decoder all rest →
    Appends before after (written_of (minor_of all) first last (fed ++ w ∷ [])) → AnswersKeeping first last before after (Ok tt) all rest
cut_whole first last p all rest fed w before after ordered e f text =
    let b = fed_begins (fed ++ w ∷ []) p.decoder all rest f in
    let h = has_shown first last fed w e in
    let is : written_of (minor_of all) first last (fed ++ w ∷ []) ≡ trimmed first last all =
    text_some (minor_of all) first last (fed ++ w ∷ []) e.some ∙ sym (trimmed_then first last (fed ++ w ∷ []) all h b) in
    let file = subst (Appends before after) is text in (
      record {
        inside = inside first last (history_in all) (valid_history all)
            (file_shows first (fed ++ w ∷ []) all h.valid b (begun_is_shown first last (fed ++ w ∷ []) h.valid h.there ordered h.shown))
            (file_shows last (fed ++ w ∷ []) all h.valid b h.shown);
        file = file;
        all = text_all first last (fed ++ w ∷ []) all b e.valid
            ∙ text_whole (minor_of all) first last (fed ++ w ∷ []) (valid_from (history_of (fed ++ w ∷ [])) b.later.items) e.some e.reached
            ∙ is;
        behind = behind_last last p all rest fed w f e.shows;
      },
      λ fit. kept first last (fed ++ w ∷ []) all before after ordered h b fit file,
    )

pub cut_done : (first last : ℕ) (p mid : Player) (c : Cutter) (fed : List Whole) (w : Whole) (file left rest before middle after : Option (List ℕ)) → first ≤ last → Cutting first last p c fed file left before middle →
    HasRead mid (fed ++ w ∷ []) file rest → mid.minor ≡ p.minor → Ends c.first c.last fed w → Appends before after (text_by c (fed ++ w ∷ [])) → IfTold file rest (AnswersKeeping first last before after (Ok tt))
cut_done first last p mid c fed w file left rest before middle after ordered g read minor ends text =
    let e : Ends first last fed w = subst (λ a. Ends a last fed w) g.first_is (subst (λ b. Ends c.first b fed w) g.last_is ends) in
    told_if file rest _ (AnswersKeeping first last before after (Ok tt)) read.told
    (λ all rest was. cut_whole first last mid all rest fed w before after ordered e was.0
    (subst (Appends before after) (text_is first last (minor_of all) c (fed ++ w ∷ []) g.first_is g.last_is (g.minor_is ∙ sym minor ∙ was.1)) text))
