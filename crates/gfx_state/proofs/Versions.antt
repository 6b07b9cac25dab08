-- The events of a section, and what is kept of them, are spelled alike in both versions.
use Rattle.std.proofs.Common.{◌≡◌, ℕ, Bool, true, false, List, [], ◌∷◌, ◌++◌, ◌==◌, length, filter, flat_map, if◌then◌else◌, refl, ap, ◌∙◌}
use Rattle.std.specs.List.{AllByRecursion}
use Rattle.std.specs.Option.{option_map_or}
use Rattle.std.specs.Int.{to_le_bytes, w32, w64}
use Rattle.gfx_model.specs.Events.{Event}
use Rattle.gfx_model.specs.Events.Event.{FillMemory, AllocateCommandBuffers, QueuePresentKHR, BeginSection, EndSection}
use Rattle.gfx_model.specs.Spelling.{Field, fields_of, field_bytes, spelling, payload, encoding, block_bytes, type_of, id_of}
use Rattle.gfx_model.specs.History.{is_valid, view}
use Rattle.gfx_model.specs.Views.{View}
use Rattle.gfx_model.specs.Section.{section, known, group, section_order}
use Rattle.gfx_feature_model.specs.Lean.{Keep, subject_of, allocated, kept_block, kept_events, kept_section}
use Rattle.gfx_model.proofs.Lists.{all_append, all_along}
use Rattle.gfx_section_law.specs.Law.{IsBuilding}
use Rattle.gfx_section_law.proofs.OrderlyHistories.{orderly_history}
use Rattle.gfx_section_law.proofs.Shape.{groups_quiet}
use Rattle.gfx_state.specs.Versions.{SectionInVersions, KeptInVersions}

-- the block of an event is the same in version m as in version 1
abbrev IsSame : ℕ → Event → Type 0
IsSame m e = encoding m 0 e ≡ encoding 1 0 e

by_fields : (m : ℕ) (e : Event) → fields_of m e ≡ fields_of 1 e → IsSame m e
unfolding encoding payload spelling
by_fields m e same =
    ap (λ (fs : List Field). block_bytes (type_of e) (to_le_bytes w32 (id_of e) ++ (if type_of e == 2 then [] else to_le_bytes w64 0) ++ flat_map field_bytes fs)) same

same_built : (m : ℕ) (e : Event) → IsBuilding e → fields_of m e ≡ fields_of 1 e
unfolding fields_of
same_built m (QueuePresentKHR queue waits presents) building = absurd building
same_built m _ building = refl

same_markers : (m n : ℕ) → (fields_of m (BeginSection n) ≡ fields_of 1 (BeginSection n)) × (fields_of m (EndSection n) ≡ fields_of 1 (EndSection n))
unfolding fields_of
same_markers m n = (refl, refl)

all_same : (m : ℕ) (es : List Event) → AllByRecursion (IsSame m) es → flat_map (encoding m 0) es ≡ flat_map (encoding 1 0) es
all_same m [] same = refl
all_same m (e ∷ es) same = ap (λ l. l ++ flat_map (encoding m 0) es) same.0 ∙ ap (λ l. encoding 1 0 e ++ l) (all_same m es same.1)

section_alike : (m n : ℕ) (h : List Event) → is_valid h ≡ true → AllByRecursion (IsSame m) (section h n)
unfolding section
section_alike m n h valid =
    let made = flat_map (group (known h)) section_order in
    let markers = same_markers m n in
    let inner = all_along IsBuilding (IsSame m) (λ e built. by_fields m e (same_built m e built)) made (groups_quiet (known h) (orderly_history h valid) section_order) in
    (by_fields m (BeginSection n) markers.0, all_append (IsSame m) made (EndSection n ∷ []) inner (by_fields m (EndSection n) markers.1, tt))

pub section_in_versions : SectionInVersions
section_in_versions m n h valid = all_same m (section h n) (section_alike m n h valid)

-- ---- what is kept of it

module _ (m : ℕ) (v : View) (k : Keep) where
  block_alike : (e : Event) → IsSame m e → AllByRecursion (IsSame m) (kept_block k e)
  block_alike (FillMemory memory offset bytes) same = by (k.fill memory offset (length bytes))
    where
      by : (b : Bool) → AllByRecursion (IsSame m) (if b then FillMemory memory offset bytes ∷ [] else [])
      by true = (same, tt)
      by false = tt
  block_alike (AllocateCommandBuffers device pool buffers) same = by (filter k.id buffers)
    where
      by : (cbs : List ℕ) → AllByRecursion (IsSame m) (allocated device pool cbs)
      by [] = tt
      by (cb ∷ cbs) = let all = AllocateCommandBuffers device pool (cb ∷ cbs) in (by_fields m all (same_built m all tt), tt)
  block_alike _ same = (same, tt)

  one_alike : (e : Event) → IsSame m e → AllByRecursion (IsSame m) (kept_events v k e)
  one_alike e same = by (option_map_or k.id (subject_of v e) true)
    where
      by : (b : Bool) → AllByRecursion (IsSame m) (if b then kept_block k e else [])
      by true = block_alike e same
      by false = tt

  all_alike : (es : List Event) → AllByRecursion (IsSame m) es → AllByRecursion (IsSame m) (flat_map (kept_events v k) es)
  all_alike [] same = tt
  all_alike (e ∷ es) same = all_append (IsSame m) (kept_events v k e) (flat_map (kept_events v k) es) (one_alike e same.0) (all_alike es same.1)

pub kept_in_versions : KeptInVersions
unfolding kept_section
kept_in_versions m n k h valid = all_same m (kept_section k h n) (all_alike m (view h) k (section h n) (section_alike m n h valid))
