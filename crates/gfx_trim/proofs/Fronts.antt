-- What is written before the first effect of a range.
use Rattle.std.proofs.Common.{◌≡◌, ℕ, true, List, [], ◌++◌, Option, sym, ap, subst, ◌∙◌}
use Rattle.std.specs.Prelude.{flat_map}
use Rattle.std.specs.Io.KnownBytes.{Appends}
use Rattle.gfx_io.specs.Pieces.{AppendsPart}
use Rattle.gfx_model.specs.Events.{Event}
use Rattle.gfx_model.specs.Blocks.{Whole}
use Rattle.gfx_model.specs.History.{is_valid, executed}
use Rattle.gfx_model.specs.Section.{section}
use Rattle.gfx_model.specs.Spelling.{encoding, header}
use Rattle.gfx_model.specs.Stands.{Stands}
use Rattle.gfx_model.specs.Trimmed.{boundary, file_of, history_to}
use Rattle.gfx_model.specs.Meaning.{events_onto}
use Rattle.gfx_tracker.specs.Tracker.{answers}
use Rattle.gfx_tracker.specs.declared.tracker.Tracker.{Tracker}
use Rattle.gfx_replay.specs.Replayer.{bytes_of, StandsFor}
use Rattle.gfx_replay.specs.declared.replayer.Replayer.{Replayer}
use Rattle.gfx_state.specs.Stored.{HasPlaces, IsStored}
use Rattle.gfx_trim.specs.Cutters.{opening}
use Rattle.gfx_trim.specs.Phases.{IsWaiting}
use Rattle.gfx_io.proofs.Appending.{appends_then, part_of, part_then}
use Rattle.gfx_trim.proofs.Steps.{waiting_history}
use Rattle.gfx_trim.proofs.Stored.{replay_places, replay_stands, replay_stored}
use Rattle.gfx_state.proofs.Versions.{section_in_versions}

-- ---- what the section asks for

pub places_for : (r : Replayer) (t : Tracker) → t ≡ r.tracker → (h : List Event) → StandsFor r h → HasPlaces (answers t) (bytes_of r)
places_for r t is h s = subst (λ (t : Tracker). HasPlaces (answers t) (bytes_of r)) (sym is) (replay_places r h s)

pub stands_for : (r : Replayer) (t : Tracker) → t ≡ r.tracker → (h : List Event) → StandsFor r h → Stands (answers t) h
stands_for r t is h s = subst (λ (t : Tracker). Stands (answers t) h) (sym is) (replay_stands r h s)

pub stored_for : (r : Replayer) (t : Tracker) → t ≡ r.tracker → (h : List Event) → StandsFor r h → IsStored (answers t) (bytes_of r) (executed h)
stored_for r t is h s = subst (λ (t : Tracker). IsStored (answers t) (bytes_of r) (executed h)) (sym is) (replay_stored r h s)

-- ---- its parts

opening_is : (m : ℕ) (h : List Event) (first : ℕ) (kept : List ℕ) → is_valid h ≡ true → opening m h first kept ≡ (header m ++ flat_map (encoding 1 0) (section h first)) ++ kept
unfolding opening
opening_is m h first kept valid = ap (λ l. header m ++ l ++ kept) (section_in_versions m first h valid)

pub front_header : (m : ℕ) (h : List Event) (first : ℕ) (kept piece : List ℕ) (a b : Option (List ℕ)) → is_valid h ≡ true → piece ≡ header m → AppendsPart a b piece → AppendsPart a b (opening m h first kept)
front_header m h first kept piece a b valid is part =
    subst (AppendsPart a b) (sym (opening_is m h first kept valid))
    (part_of a b (header m ++ flat_map (encoding 1 0) (section h first)) kept (part_of a b (header m) (flat_map (encoding 1 0) (section h first)) (subst (AppendsPart a b) is part)))

pub front_section : (m : ℕ) (h : List Event) (first : ℕ) (kept piece : List ℕ) (a b c : Option (List ℕ)) → is_valid h ≡ true → piece ≡ header m → Appends a b piece →
    AppendsPart b c (flat_map (encoding 1 0) (section h first)) → AppendsPart a c (opening m h first kept)
front_section m h first kept piece a b c valid is whole part =
    subst (AppendsPart a c) (sym (opening_is m h first kept valid))
    (part_of a c (header m ++ flat_map (encoding 1 0) (section h first)) kept (part_then a b c (header m) (flat_map (encoding 1 0) (section h first)) (subst (Appends a b) is whole) part))

both : (m : ℕ) (h : List Event) (first : ℕ) (piece : List ℕ) (a b c : Option (List ℕ)) → piece ≡ header m → Appends a b piece → Appends b c (flat_map (encoding 1 0) (section h first)) →
    Appends a c (header m ++ flat_map (encoding 1 0) (section h first))
both m h first piece a b c is one two = appends_then a b c (header m) (flat_map (encoding 1 0) (section h first)) (subst (Appends a b) is one) two

pub front_kept : (m : ℕ) (h : List Event) (first : ℕ) (kept piece : List ℕ) (a b c d : Option (List ℕ)) → is_valid h ≡ true → piece ≡ header m → Appends a b piece →
    Appends b c (flat_map (encoding 1 0) (section h first)) → AppendsPart c d kept → AppendsPart a d (opening m h first kept)
front_kept m h first kept piece a b c d valid is one two part =
    subst (AppendsPart a d) (sym (opening_is m h first kept valid))
    (part_then a c d (header m ++ flat_map (encoding 1 0) (section h first)) kept (both m h first piece a b c is one two) part)

pub whole_opening : (m : ℕ) (h : List Event) (first : ℕ) (kept piece : List ℕ) (a b c d : Option (List ℕ)) → is_valid h ≡ true → piece ≡ header m → Appends a b piece →
    Appends b c (flat_map (encoding 1 0) (section h first)) → Appends c d kept → Appends a d (opening m h first kept)
whole_opening m h first kept piece a b c d valid is one two three =
    subst (Appends a d) (sym (opening_is m h first kept valid))
    (appends_then a c d (header m ++ flat_map (encoding 1 0) (section h first)) kept (both m h first piece a b c is one two) three)

-- the file of a range without an effect is what is written before its first
pub opening_file : (m first : ℕ) (kept : List ℕ) (ws : List Whole) → IsWaiting first kept ws → file_of m (section (history_to (boundary first ws)) first) (boundary first ws).rest ≡ opening m (events_onto ws []) first kept
unfolding opening
opening_file m first kept ws g =
    ap (λ (h : List Event). file_of m (section h first) (boundary first ws).rest) (waiting_history first kept ws g)
    ∙ ap (λ l. header m ++ flat_map (encoding m 0) (section (events_onto ws []) first) ++ l) (sym g.same)
