-- The trimmed file is read again: it has just the blocks of the section and those of the range, and ends cleanly.
use Rattle.std.proofs.Common.{◌≡◌, ℕ, ◌^◌, ◌≤◌, ◌⊎◌, true, false, refl, sym, ◌∙◌, ap, subst, List, [], ◌∷◌, ◌++◌, map, length, arith, length-append}
use Rattle.std.specs.List.{AllByRecursion}
use Rattle.gfx_types.specs.declared.frame.Frame.{Frame}
use Rattle.gfx_model.specs.Events.{Event}
use Rattle.gfx_model.specs.Events.Event.{BeginSection, EndSection}
use Rattle.gfx_model.specs.Spelling.{HasSpelling, payload, header}
use Rattle.gfx_model.specs.Blocks.{Position, Whole, Content, AreBlocks, first_position, next_position}
use Rattle.gfx_model.specs.Blocks.Content.{skipped, effect}
use Rattle.gfx_model.specs.Blocks.End.{clean}
use Rattle.gfx_model.specs.History.{onto, view, is_valid}
use Rattle.gfx_model.specs.Frames.{frames}
use Rattle.gfx_model.specs.Meaning.{Judged, Means, content_onto, events_onto}
use Rattle.gfx_model.specs.Trimmed.{file_of}
use Rattle.gfx_model.specs.Section.{section}
use Rattle.gfx_grammar.specs.Framing.{placed, CanBeWritten, IsUnmarked, made_part, part_of, file_parts, HaveRoom, event_begins, says_begin}
use Rattle.gfx_grammar.specs.Splitting.{Blocks}
use Rattle.gfx_grammar.proofs.BlockLaws.{blocks_are_computed}
use Rattle.gfx_grammar.proofs.FileLaws.{file_is_read, file_has_room}
use Rattle.gfx_laws.specs.Laws.{IsNoMarker, frames_after}
use Rattle.gfx_model.proofs.Lists.{all_along}
use Rattle.gfx_laws.proofs.Lists.{all_zip}
use Rattle.gfx_section_law.specs.Law.{IsAtBoundary, IsBuilding}
use Rattle.gfx_section_law.proofs.SectionLaws.{section_covers, section_runs, section_spelled}
use Rattle.gfx_trim_law.proofs.Cuts.{with_said, events_in, onto_events}
use Rattle.gfx_trim_law.proofs.Prefix.{judge-valid}
use Rattle.gfx_trim_law.proofs.Standing.{IsStanding}
use Rattle.gfx_trim_law.proofs.Bytes.{file_bytes}

-- ---- what is said

pub placed_onto : (at : Position) (made : List Event) (ws : List Whole) (m : ℕ) (h : List Event) → events_onto (placed at (file_parts m made ws)) h ≡ events_onto ws (onto made h)
placed_onto at [] ws m h = standing_onto at ws h
  where
    standing_onto : (at : Position) (ws : List Whole) (h : List Event) → events_onto (placed at (map part_of ws)) h ≡ events_onto ws h
    standing_onto at [] h = refl
    standing_onto at (w ∷ ws) h = standing_onto (next_position at w.bytes) ws (content_onto w.content h)
placed_onto at (e ∷ made) ws m h = placed_onto (next_position at (made_part m e).bytes) made ws m (e ∷ h)

-- ---- the section in a file

pub building_unmarked : (e : Event) → IsBuilding e → IsUnmarked e
building_unmarked (BeginSection frame) b = absurd b
building_unmarked (EndSection frame) b = absurd b
building_unmarked e b = (refl, refl)

-- blocks that say no marker begin no section
pub none_begin : (ws : List Whole) → AllByRecursion IsNoMarker (events_in ws) → AllByRecursion (λ w. says_begin w.content ≡ false) ws
none_begin [] a = tt
none_begin (w ∷ ws) a = by w.content a (none_begin ws)
  where
    one : (e : Event) → IsNoMarker e → event_begins e ≡ false
    one (BeginSection frame) n = absurd n
    one e n = refl

    by : (c : Content) → AllByRecursion IsNoMarker (with_said c (events_in ws)) → (AllByRecursion IsNoMarker (events_in ws) → AllByRecursion (λ w. says_begin w.content ≡ false) ws) →
        (says_begin c ≡ false) × AllByRecursion (λ w. says_begin w.content ≡ false) ws
    by skipped a later = (refl, later a)
    by (effect thread e) a later = (one e a.0, later a.1)

-- blocks that can follow a section
pub record AreBehind (m : ℕ) (ws : List Whole) : Type 0 where
  pub standing : AllByRecursion (IsStanding m) ws
  pub few : length ws ≤ 2 ^ 32
  pub unbegun : AllByRecursion (λ w. says_begin w.content ≡ false) ws

-- a history at a boundary, and blocks that go on after it
pub record IsWritten (m : ℕ) (h : List Event) (ws : List Whole) : Type 0 where
  pub version : (m ≡ 1) ⊎ (m ≡ 2)
  pub at : IsAtBoundary h
  pub spelled : AllByRecursion (HasSpelling m) h
  pub behind : AreBehind m ws

-- ---- a section of built events

-- a section with what is built between its markers
abbrev pub between_markers : ℕ → List Event → List Event
between_markers n made = BeginSection n ∷ made ++ EndSection n ∷ []

-- blocks of what is built can be written in this version
pub record IsBuilt (m n : ℕ) (made : List Event) : Type 0 where
  pub shape : AllByRecursion IsBuilding made
  pub few : length (between_markers n made) ≤ 2 ^ 32
  pub small : AllByRecursion (λ e. length (payload m 0 e) ≤ 2 ^ 27) (between_markers n made)
  pub spelled : AllByRecursion (HasSpelling m) (between_markers n made)

module _ (m n : ℕ) (made : List Event) (ws : List Whole) (version : (m ≡ 1) ⊎ (m ≡ 2)) (built : IsBuilt m n made) (behind : AreBehind m ws) where
  can_write : AllByRecursion (CanBeWritten m 0) (between_markers n made)
  can_write =
      all_zip (HasSpelling m) (λ e. length (payload m 0 e) ≤ 2 ^ 27) (CanBeWritten m 0)
      (λ e fits small. record { fits = fits; thread_fits = (omega arith, λ marker. refl); small = small })
      (between_markers n made) built.spelled built.small

  file_room : HaveRoom (first_position (header m)) (file_parts m (between_markers n made) ws)
  file_room =
      let long = built.few in
      file_has_room m n made ws can_write (all_along IsBuilding IsUnmarked building_unmarked made built.shape)
      (omega (arith, long, length-append made (EndSection n ∷ [])))
      (all_zip _ _ _ (λ w s b. (s.0, s.1, b)) ws behind.standing behind.unbegun) behind.few

  file_blocks : AreBlocks (file_of m (between_markers n made) ws) (placed (first_position (header m)) (file_parts m (between_markers n made) ws)) clean
  file_blocks =
      let fit = file_bytes m (between_markers n made) ws built.spelled (all_along _ _ (λ w s. s.1) ws behind.standing) in
      let read = file_is_read m (between_markers n made) ws version can_write (all_along _ _ (λ w s. s.0) ws behind.standing) file_room in
      subst (λ (b : Blocks). AreBlocks (file_of m (between_markers n made) ws) b.items b.end) read (blocks_are_computed (file_of m (between_markers n made) ws) fit).0

  -- what the file means: the frames that the section and the blocks behind it show
  pub built_means : (shown : List Frame) → is_valid (onto (events_in ws) (onto (between_markers n made) [])) ≡ true →
      frames (onto (events_in ws) (onto (between_markers n made) [])) ≡ shown → Means (file_of m (between_markers n made) ws) shown clean
  built_means shown valid same =
      let blocks = placed (first_position (header m)) (file_parts m (between_markers n made) ws) in
      let said : events_onto blocks [] ≡ onto (events_in ws) (onto (between_markers n made) []) =
      placed_onto (first_position (header m)) (between_markers n made) ws m [] ∙ onto_events ws (onto (between_markers n made) []) in
      let judged = judge-valid blocks [] clean (ap is_valid said ∙ valid) in
      record {
        blocks = blocks;
        blocks_end = clean;
        are = file_blocks;
        shows = sym (ap (λ (j : Judged). frames j.history) judged ∙ ap frames said ∙ same);
        ends = sym (ap (λ (j : Judged). j.end) judged);
      }

-- ---- the section of a history

-- what it means: the frames of the blocks behind the section
pub file_means : (m : ℕ) (h : List Event) (ws : List Whole) → IsWritten m h ws → AllByRecursion IsNoMarker (events_in ws) → is_valid (onto (events_in ws) h) ≡ true →
    Means (file_of m (section h (view h).next_frame) ws) (frames_after h (events_in ws)) clean
file_means m h ws is markers valid =
    let n = (view h).next_frame in
    let law = section_covers m h is.at in
    let f = section_runs h (events_in ws) is.at markers valid in
    let built : IsBuilt m n law.made = record {
      shape = law.shape;
      few = subst (λ (es : List Event). length es ≤ 2 ^ 32) law.framed law.few;
      small = subst (AllByRecursion (λ e. length (payload m 0 e) ≤ 2 ^ 27)) law.framed law.small;
      spelled = subst (AllByRecursion (HasSpelling m)) law.framed (section_spelled m h is.at is.spelled);
    } in
    subst (λ (es : List Event). Means (file_of m es ws) (frames_after h (events_in ws)) clean) (sym law.framed)
    (built_means m n law.made ws is.version built is.behind (frames_after h (events_in ws))
    (ap (λ (es : List Event). is_valid (onto (events_in ws) (onto es []))) (sym law.framed) ∙ f.valid)
    (ap (λ (es : List Event). frames (onto (events_in ws) (onto es []))) (sym law.framed) ∙ f.same))
