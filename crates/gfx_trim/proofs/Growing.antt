-- What is written, with more blocks read.
use Rattle.std.proofs.Common.{◌≡◌, ℕ, ◌+◌, ◌==◌, ◌&&◌, ◌||◌, Bool, true, false, cond, not, if◌then◌else◌, refl, sym, ◌∙◌, ap, List, [], ◌∷◌, ◌++◌, append_assoc}
use Rattle.std.specs.Prelude.{flat_map}
use Rattle.std.proofs.lemmas.Bool.{or_parts, or_left}
use Rattle.std.proofs.lemmas.List.{append-nil}
use Rattle.std.proofs.lemmas.List.Folds.{list_any-append}
use Rattle.std.proofs.lemmas.Grind.{flat_map-append}
use Rattle.gfx_model.specs.Events.{Event}
use Rattle.gfx_model.specs.Blocks.{Whole}
use Rattle.gfx_model.specs.Meaning.{events_onto}
use Rattle.gfx_model.specs.Spelling.{encoding, header}
use Rattle.gfx_model.specs.Section.{section}
use Rattle.gfx_model.specs.Trimmed.{Cut, cut_before, reaches, has_section, is_first, boundary, has_boundary, history_to, range_from, file_of, trimmed_by}
use Rattle.gfx_trim.specs.Written.{acts, has_effect, range_in, written_of}
use Rattle.gfx_trim.proofs.Cutting.{behind, or_more, reaches_more, cut_found, cut_ahead, cut_all, cut_one, cut_none, cut_parts, quiet_reaches, reaches_acts, acted_section}

-- ---- where the frame begins

-- the boundary, where it is told whether it is at the start
abbrev cut_at : ℕ → List Whole → Bool → Cut
cut_at first ws t = cond t (record { front = []; rest = ws }) (cut_before first [] ws)

pub boundary_on : (first : ℕ) (ws more : List Whole) → has_boundary first ws ≡ true → has_section (ws ++ more) ≡ has_section ws → boundary first (ws ++ more) ≡ behind (boundary first ws) more
boundary_on first ws more there same = ap (λ t. cut_at first (ws ++ more) ((first == 1) && not t)) same ∙ by (is_first first ws) there
  where
    by : (t : Bool) → (t || reaches first [] ws) ≡ true → cut_at first (ws ++ more) t ≡ behind (cut_at first ws t) more
    by true there = refl
    by false there = cut_found first [] ws more there

pub begun_on : (first : ℕ) (ws more : List Whole) → has_boundary first ws ≡ true → has_section (ws ++ more) ≡ has_section ws → has_boundary first (ws ++ more) ≡ true
begun_on first ws more there same =
    ap (λ t. ((first == 1) && not t) || reaches first [] (ws ++ more)) same
    ∙ ap (λ t. is_first first ws || t) (reaches_more first [] ws more)
    ∙ or_more (is_first first ws) (reaches first [] ws) (reaches first (events_onto ws []) more)
    ∙ or_left (is_first first ws || reaches first [] ws) (reaches first (events_onto ws []) more) there

-- blocks in whose range is an effect
pub begun_acts : (first : ℕ) (ws : List Whole) → has_boundary first ws ≡ true → has_effect (boundary first ws).rest ≡ true → has_effect ws ≡ true
begun_acts first ws there some = by (is_first first ws) there some
  where
    by : (t : Bool) → (t || reaches first [] ws) ≡ true → has_effect (cut_at first ws t).rest ≡ true → has_effect ws ≡ true
    by true there some = some
    by false there some = reaches_acts first [] ws there

-- ---- the range

pub range_all : (last : ℕ) (c : Cut) → reaches (last + 1) (history_to c) c.rest ≡ false → range_from last c ≡ c.rest
range_all last c going = ap (λ (k : Cut). k.front) (cut_all (last + 1) (history_to c) c.rest going)

pub range_on : (last : ℕ) (c : Cut) (w : Whole) → reaches (last + 1) (history_to c) c.rest ≡ false → range_from last (behind c (w ∷ [])) ≡ c.rest ++ w ∷ []
range_on last c w going =
    ap (λ (k : Cut). k.front) (cut_ahead (last + 1) (history_to c) c.rest (w ∷ []) going)
    ∙ ap (λ ws. c.rest ++ ws) (cut_one (last + 1) (events_onto c.rest (history_to c)) w)

-- ---- the text

text_none : (m first last : ℕ) (ws : List Whole) → has_effect (range_in first last ws) ≡ false → written_of m first last ws ≡ []
unfolding written_of
text_none m first last ws none = ap (λ t. if t then trimmed_by m first last (boundary first ws) else []) none

pub text_some : (m first last : ℕ) (ws : List Whole) → has_effect (range_in first last ws) ≡ true → written_of m first last ws ≡ trimmed_by m first last (boundary first ws)
unfolding written_of
text_some m first last ws some = ap (λ t. if t then trimmed_by m first last (boundary first ws) else []) some

-- frame `first` doesn't begin in these blocks
no_range : (first last : ℕ) (ws : List Whole) → has_boundary first ws ≡ false → has_effect (range_in first last ws) ≡ false
no_range first last ws none =
    let parts = or_parts (is_first first ws) (reaches first [] ws) none in
    let there : boundary first ws ≡ record { front = ws; rest = [] } = ap (cut_at first ws) parts.0 ∙ cut_all first [] ws parts.1 in
    ap (λ (c : Cut). has_effect (range_from last c)) there ∙ ap (λ (c : Cut). has_effect c.front) (cut_none (last + 1) (events_onto ws []))

pub text_before : (m first last : ℕ) (ws : List Whole) → has_boundary first ws ≡ false → written_of m first last ws ≡ []
text_before m first last ws none = text_none m first last ws (no_range first last ws none)

-- its range has no effect yet
pub text_waiting : (m first last : ℕ) (ws : List Whole) → has_effect (boundary first ws).rest ≡ false → written_of m first last ws ≡ []
text_waiting m first last ws none =
    let c : Cut = boundary first ws in
    text_none m first last ws (ap has_effect (range_all last c (quiet_reaches (last + 1) c.rest (history_to c) none)) ∙ none)

-- the range goes on
pub text_going : (m first last : ℕ) (ws : List Whole) → has_effect (boundary first ws).rest ≡ true → reaches (last + 1) (history_to (boundary first ws)) (boundary first ws).rest ≡ false →
    written_of m first last ws ≡ file_of m (section (history_to (boundary first ws)) first) (boundary first ws).rest
text_going m first last ws some going =
    let c : Cut = boundary first ws in
    let all = range_all last c going in
    text_some m first last ws (ap has_effect all ∙ some) ∙ ap (file_of m (section (history_to c) first)) all

-- more blocks in a file
file_more : (m : ℕ) (made : List Event) (ws more : List Whole) → file_of m made (ws ++ more) ≡ file_of m made ws ++ flat_map (λ w. w.bytes) more
file_more m made ws more =
    ap (λ l. header m ++ flat_map (encoding m 0) made ++ l) (flat_map-append (λ (w : Whole). w.bytes) ws more)
    ∙ sym (append_assoc (header m ++ flat_map (encoding m 0) made) (flat_map (λ w. w.bytes) ws) (flat_map (λ w. w.bytes) more))

file_on : (m : ℕ) (made : List Event) (ws : List Whole) (w : Whole) → file_of m made (ws ++ w ∷ []) ≡ file_of m made ws ++ w.bytes
file_on m made ws w = file_more m made ws (w ∷ []) ∙ ap (λ l. file_of m made ws ++ l) (append-nil w.bytes)

-- a list with an effect has one with another block behind it
some_on : (ws : List Whole) (w : Whole) → (has_effect ws || acts w.content) ≡ true → has_effect (ws ++ w ∷ []) ≡ true
some_on ws w some = list_any-append (λ (w : Whole). acts w.content) ws (w ∷ []) ∙ ap (λ t. has_effect ws || t) (or_false (acts w.content)) ∙ some
  where
    or_false : (b : Bool) → (b || false) ≡ b
    or_false true = refl
    or_false false = refl

-- one block more of the range, among which is an effect
pub record Extends (m first last : ℕ) (ws : List Whole) (w : Whole) : Type 0 where
  pub there : has_boundary first (ws ++ w ∷ []) ≡ true
  pub cut : boundary first (ws ++ w ∷ []) ≡ behind (boundary first ws) (w ∷ [])
  pub range : has_effect (range_in first last (ws ++ w ∷ [])) ≡ true
  pub text : written_of m first last (ws ++ w ∷ []) ≡ file_of m (section (history_to (boundary first ws)) first) (boundary first ws).rest ++ w.bytes

pub goes_on : (m first last : ℕ) (ws : List Whole) (w : Whole) → has_boundary first ws ≡ true → has_section (ws ++ w ∷ []) ≡ has_section ws →
    reaches (last + 1) (history_to (boundary first ws)) (boundary first ws).rest ≡ false → (has_effect (boundary first ws).rest || acts w.content) ≡ true → Extends m first last ws w
goes_on m first last ws w there same going some =
    let c : Cut = boundary first ws in
    let cut = boundary_on first ws (w ∷ []) there same in
    let blocks : range_in first last (ws ++ w ∷ []) ≡ c.rest ++ w ∷ [] = ap (range_from last) cut ∙ range_on last c w going in
    let range : has_effect (range_in first last (ws ++ w ∷ [])) ≡ true = ap has_effect blocks ∙ some_on c.rest w some in
    record {
      there = begun_on first ws (w ∷ []) there same;
      cut = cut;
      range = range;
      text = text_some m first last (ws ++ w ∷ []) range
          ∙ ap (file_of m (section (history_to (boundary first (ws ++ w ∷ []))) first)) blocks
          ∙ ap (λ (k : Cut). file_of m (section (history_to k) first) (c.rest ++ w ∷ [])) cut
          ∙ file_on m (section (history_to c) first) c.rest w;
    }

-- what is written of some blocks is the prefix of what is written of more
pub record Grown (m first last : ℕ) (ws more : List Whole) : Type 0 where
  pub tail : List ℕ
  pub is : written_of m first last (ws ++ more) ≡ written_of m first last ws ++ tail

-- a range with an effect has begun
range_begun : (first last : ℕ) (ws : List Whole) → has_effect (range_in first last ws) ≡ true → has_boundary first ws ≡ true
range_begun first last ws some = by (has_boundary first ws) refl
  where
    by : (b : Bool) → has_boundary first ws ≡ b → b ≡ true
    by true is = refl
    by false is = let none = sym some ∙ no_range first last ws is in absurd cc

-- an effect in a prefix of a cut
front_acts : (n : ℕ) (h : List Event) (ws : List Whole) → has_effect (cut_before n h ws).front ≡ true → has_effect ws ≡ true
front_acts n h ws some =
    ap has_effect (sym (cut_parts n h ws)) ∙ list_any-append (λ (w : Whole). acts w.content) (cut_before n h ws).front (cut_before n h ws).rest
    ∙ or_left (has_effect (cut_before n h ws).front) (has_effect (cut_before n h ws).rest) some

-- blocks behind a range that is whole don't matter for it
pub text_whole : (m first last : ℕ) (ws more : List Whole) → has_effect (range_in first last ws) ≡ true → reaches (last + 1) (history_to (boundary first ws)) (boundary first ws).rest ≡ true →
    written_of m first last (ws ++ more) ≡ written_of m first last ws
text_whole m first last ws more some there =
    let c : Cut = boundary first ws in
    let begun = range_begun first last ws some in
    let acting = begun_acts first ws begun (front_acts (last + 1) (history_to c) c.rest some) in
    let cut = boundary_on first ws more begun (acted_section ws more acting) in
    let same : range_in first last (ws ++ more) ≡ range_in first last ws = ap (range_from last) cut ∙ ap (λ (k : Cut). k.front) (cut_found (last + 1) (history_to c) c.rest more there) in
    text_some m first last (ws ++ more) (ap has_effect same ∙ some)
    ∙ ap (file_of m (section (history_to (boundary first (ws ++ more))) first)) same
    ∙ ap (λ (k : Cut). file_of m (section (history_to k) first) (range_in first last ws)) cut
    ∙ sym (text_some m first last ws some)

pub grown : (m first last : ℕ) (ws more : List Whole) → Grown m first last ws more
grown m first last ws more = by (has_effect (range_in first last ws)) refl
  where
    c : Cut
    c = boundary first ws

    further : boundary first (ws ++ more) ≡ behind c more → has_effect (range_in first last ws) ≡ true → (b : Bool) → reaches (last + 1) (history_to c) c.rest ≡ b → Grown m first last ws more
    further cut some true there = record {
      tail = [];
      is = text_whole m first last ws more some there ∙ sym (append-nil (written_of m first last ws));
    }
    further cut some false going =
        let others : List Whole = (cut_before (last + 1) (events_onto c.rest (history_to c)) more).front in
        let all = range_all last c going in
        let longer : range_in first last (ws ++ more) ≡ c.rest ++ others = ap (range_from last) cut ∙ ap (λ (k : Cut). k.front) (cut_ahead (last + 1) (history_to c) c.rest more going) in
        let own : has_effect c.rest ≡ true = ap has_effect (sym all) ∙ some in
        record {
          tail = flat_map (λ w. w.bytes) others;
          is = text_some m first last (ws ++ more) (ap has_effect longer ∙ list_any-append (λ (w : Whole). acts w.content) c.rest others ∙ or_left (has_effect c.rest) (has_effect others) own)
              ∙ ap (file_of m (section (history_to (boundary first (ws ++ more))) first)) longer
              ∙ ap (λ (k : Cut). file_of m (section (history_to k) first) (c.rest ++ others)) cut
              ∙ file_more m (section (history_to c) first) c.rest others
              ∙ ap (λ (r : List Whole). file_of m (section (history_to c) first) r ++ flat_map (λ w. w.bytes) others) (sym all)
              ∙ ap (λ l. l ++ flat_map (λ w. w.bytes) others) (sym (text_some m first last ws some));
        }

    by : (b : Bool) → has_effect (range_in first last ws) ≡ b → Grown m first last ws more
    by false none = record { tail = written_of m first last (ws ++ more); is = ap (λ l. l ++ written_of m first last (ws ++ more)) (sym (text_none m first last ws none)) }
    by true some =
        let there = range_begun first last ws some in
        let acting = begun_acts first ws there (front_acts (last + 1) (history_to c) c.rest some) in
        further (boundary_on first ws more there (acted_section ws more acting)) some (reaches (last + 1) (history_to c) c.rest) refl
