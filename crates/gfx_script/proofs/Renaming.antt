-- Events with other ids: their fields, and the ids that they name and make.
use Rattle.std.proofs.Common.{◌≡◌, ℕ, nat_eq, Bool, true, false, cond, List, [], ◌∷◌, ◌++◌, map, flat_map, length, refl, sym, ap, ◌∙◌, arith}
use Rattle.std.proofs.lemmas.List.{map-append}
use Rattle.gfx_types.specs.declared.lists.Barrier.{Barrier}
use Rattle.gfx_types.specs.declared.lists.Present.{Present}
use Rattle.gfx_types.specs.declared.lists.Submit.{Submit}
use Rattle.gfx_model.specs.Events.{Event}
use Rattle.gfx_model.specs.Events.Event.{QueuePresentKHR}
use Rattle.gfx_model.specs.Spelling.{IsOfVersion}
use Rattle.gfx_model.specs.Fields.{Atom, Value, Named, Records, field, one_present, named_presents, named_fields, barrier_atoms, buffer_region_atoms, image_region_atoms, mixed_region_atoms, present_atoms}
use Rattle.gfx_model.specs.Fields.Records.{barriers, buffer_regions, image_regions, mixed_regions, presents}
use Rattle.gfx_model.specs.Fields.Value.{names, makes, maybe, wide, short, raw, names_each, makes_each, shorts, records, submitted}
use Rattle.gfx_script_model.specs.Ids.{atom_ids, named_by, made_by, barrier_ids, present_ids, submit_ids, uses_of, defines_of, map_ids}
use Rattle.gfx_script.specs.Puts.{HasIds}
use Rattle.gfx_script.proofs.Filling.{one_event}
use Rattle.std.proofs.lemmas.Simd.{map-map}
use Rattle.std.proofs.lemmas.Bool.Decides.{nat_tests}

-- records with other ids
abbrev pub records_ids : (ℕ → ℕ) → Records → Records
records_ids f (barriers xs) = barriers (map (barrier_ids f) xs)
records_ids f (presents xs) = presents (map (present_ids f) xs)
records_ids f (buffer_regions xs) = buffer_regions xs
records_ids f (image_regions xs) = image_regions xs
records_ids f (mixed_regions xs) = mixed_regions xs

-- a value with other ids
abbrev pub value_ids : (ℕ → ℕ) → Value → Value
value_ids f (names n) = names (f n)
value_ids f (makes n) = makes (f n)
value_ids f (maybe n) = maybe (f n)
value_ids f (names_each xs) = names_each (map f xs)
value_ids f (makes_each xs) = makes_each (map f xs)
value_ids f (records rs) = records (records_ids f rs)
value_ids f (submitted ss) = submitted (map (submit_ids f) ss)
value_ids f (wide n) = wide n
value_ids f (short n) = short n
value_ids f (raw bytes) = raw bytes
value_ids f (shorts ns) = shorts ns

-- a field with other ids
abbrev pub field_ids : (ℕ → ℕ) → Named → Named
field_ids f g = record { name = g.name; value = value_ids f g.value }

presents_renamed : (m : ℕ) (f : ℕ → ℕ) (ps : List Present) → named_presents m (map (present_ids f) ps) ≡ map (field_ids f) (named_presents m ps)
presents_renamed m f ps = by (nat_eq m 1) ps
  where
    by : (b : Bool) (qs : List Present) → cond b (one_present (map (present_ids f) qs)) (field "presents" (records (presents (map (present_ids f) qs))) ∷ [])
        ≡ map (field_ids f) (cond b (one_present qs) (field "presents" (records (presents qs)) ∷ []))
    by true [] = refl
    by true (p ∷ []) = refl
    by true (p ∷ q ∷ qs) = refl
    by false qs = refl

-- the fields of an event with other ids are its fields with other ids
pub fields_renamed : (m : ℕ) (f : ℕ → ℕ) (e : Event) → named_fields m (map_ids f e) ≡ map (field_ids f) (named_fields m e)
unfolding map_ids
fields_renamed m f (QueuePresentKHR queue waits ps) =
    ap (λ (z : List Named). field "queue" (names (f queue)) ∷ field "waits" (names_each (map f waits)) ∷ z) (presents_renamed m f ps)
fields_renamed m f _ = refl

-- ---- the ids

submits_name : (f : ℕ → ℕ) (ss : List Submit)
    → flat_map (λ s. s.waits ++ s.cbs ++ s.signals) (map (submit_ids f) ss) ≡ map f (flat_map (λ s. s.waits ++ s.cbs ++ s.signals) ss)
submits_name f [] = refl
submits_name f (s ∷ ss) =
    ap (λ (z : List ℕ). map f s.waits ++ map f s.cbs ++ map f s.signals ++ z) (submits_name f ss)
    ∙ sym (map-append f (s.waits ++ s.cbs ++ s.signals) (flat_map (λ s. s.waits ++ s.cbs ++ s.signals) ss)
    ∙ ap (λ (z : List ℕ). z ++ map f (flat_map (λ s. s.waits ++ s.cbs ++ s.signals) ss)) (map-append f (s.waits ++ s.cbs) s.signals ∙ ap (λ (z : List ℕ). z ++ map f s.signals) (map-append f s.waits s.cbs)))

barriers_name : (f : ℕ → ℕ) (bs : List Barrier)
    → flat_map (flat_map atom_ids) (map barrier_atoms (map (barrier_ids f) bs)) ≡ map f (flat_map (flat_map atom_ids) (map barrier_atoms bs))
barriers_name f [] = refl
barriers_name f (b ∷ bs) = ap (λ (z : List ℕ). f b.image ∷ z) (barriers_name f bs)

presents_name : (f : ℕ → ℕ) (ps : List Present)
    → flat_map (flat_map atom_ids) (map present_atoms (map (present_ids f) ps)) ≡ map f (flat_map (flat_map atom_ids) (map present_atoms ps))
presents_name f [] = refl
presents_name f (p ∷ ps) = ap (λ (z : List ℕ). f p.swapchain ∷ z) (presents_name f ps)

-- records without ids name none
pub no_names : {X : Type 0} (atoms : X → List Atom) → ((x : X) → flat_map atom_ids (atoms x) ≡ []) → (xs : List X) → flat_map (flat_map atom_ids) (map atoms xs) ≡ []
no_names atoms none [] = refl
no_names atoms none (x ∷ xs) = ap (λ (z : List ℕ). z ++ flat_map (flat_map atom_ids) (map atoms xs)) (none x) ∙ no_names atoms none xs

no_ids_renamed : (f : ℕ → ℕ) (xs : List ℕ) → xs ≡ [] → xs ≡ map f xs
no_ids_renamed f xs e = e ∙ ap (map f) (sym e)

value_names : (f : ℕ → ℕ) (v : Value) → named_by (value_ids f v) ≡ map f (named_by v)
value_names f (names n) = refl
value_names f (maybe n) = refl
value_names f (names_each xs) = refl
value_names f (records (barriers bs)) = barriers_name f bs
value_names f (records (presents ps)) = presents_name f ps
value_names f (records (buffer_regions rs)) = no_ids_renamed f _ (no_names buffer_region_atoms (λ r. refl) rs)
value_names f (records (image_regions rs)) = no_ids_renamed f _ (no_names image_region_atoms (λ r. refl) rs)
value_names f (records (mixed_regions rs)) = no_ids_renamed f _ (no_names mixed_region_atoms (λ r. refl) rs)
value_names f (submitted ss) = submits_name f ss
value_names f (makes n) = refl
value_names f (wide n) = refl
value_names f (short n) = refl
value_names f (raw bytes) = refl
value_names f (makes_each xs) = refl
value_names f (shorts ns) = refl

value_makes : (f : ℕ → ℕ) (v : Value) → made_by (value_ids f v) ≡ map f (made_by v)
value_makes f (makes n) = refl
value_makes f (makes_each xs) = refl
value_makes f (names n) = refl
value_makes f (maybe n) = refl
value_makes f (names_each xs) = refl
value_makes f (records rs) = refl
value_makes f (submitted ss) = refl
value_makes f (wide n) = refl
value_makes f (short n) = refl
value_makes f (raw bytes) = refl
value_makes f (shorts ns) = refl

-- the ids of fields, by what a value has
ids_of_fields : (of : Value → List ℕ) (f : ℕ → ℕ) → ((v : Value) → of (value_ids f v) ≡ map f (of v)) → (fs : List Named)
    → flat_map (λ g. of g.value) (map (field_ids f) fs) ≡ map f (flat_map (λ g. of g.value) fs)
ids_of_fields of f each [] = refl
ids_of_fields of f each (g ∷ fs) =
    ap (λ (z : List ℕ). z ++ flat_map (λ g. of g.value) (map (field_ids f) fs)) (each g.value)
    ∙ ap (λ (z : List ℕ). map f (of g.value) ++ z) (ids_of_fields of f each fs)
    ∙ sym (map-append f (of g.value) (flat_map (λ g. of g.value) fs))

-- the ids that an event with other ids names
pub uses_renamed : (m : ℕ) (f : ℕ → ℕ) (e : Event) → uses_of m (map_ids f e) ≡ map f (uses_of m e)
unfolding uses_of
uses_renamed m f e = ap (flat_map (λ g. named_by g.value)) (fields_renamed m f e) ∙ ids_of_fields named_by f (value_names f) (named_fields m e)

-- and those that it makes
pub defines_renamed : (m : ℕ) (f : ℕ → ℕ) (e : Event) → defines_of m (map_ids f e) ≡ map f (defines_of m e)
unfolding defines_of
defines_renamed m f e = ap (flat_map (λ g. made_by g.value)) (fields_renamed m f e) ∙ ids_of_fields made_by f (value_makes f) (named_fields m e)

-- ---- both versions

same_numbers : {a b : ℕ} → nat_eq a b ≡ true → a ≡ b
same_numbers {a} {b} e = grind (arith, nat_tests, e)

version_uses : (m : ℕ) (waits : List ℕ) (ps : List Present) → (m ≡ 1 → length ps ≡ 1)
    → flat_map (λ g. named_by g.value) (named_presents m ps) ≡ flat_map (λ g. named_by g.value) (named_presents 2 ps)
version_uses m waits ps one = by (nat_eq m 1) refl ps one
  where
    by : (b : Bool) → nat_eq m 1 ≡ b → (qs : List Present) → (m ≡ 1 → length qs ≡ 1)
        → flat_map (λ g. named_by g.value) (cond b (one_present qs) (field "presents" (records (presents qs)) ∷ [])) ≡ flat_map (λ g. named_by g.value) (named_presents 2 qs)
    by true e [] h = absurd (let one : length {A = Present} [] ≡ 1 = h (same_numbers e) in omega arith)
    by true e (q ∷ []) h = refl
    by true e (q ∷ r ∷ qs) h = absurd (let one : length (q ∷ r ∷ qs) ≡ 1 = h (same_numbers e) in omega arith)
    by false e qs h = refl

-- an event names the same ids in both versions
pub uses_in_versions : (m : ℕ) (e : Event) → IsOfVersion m e → uses_of m e ≡ uses_of 2 e
unfolding uses_of
uses_in_versions m (QueuePresentKHR queue waits ps) h = ap (λ (z : List ℕ). queue ∷ (waits ++ z)) (version_uses m waits ps h)
uses_in_versions m _ h = refl

-- and makes the same
pub defines_in_versions : (m : ℕ) (e : Event) → defines_of m e ≡ defines_of 2 e
unfolding defines_of
defines_in_versions m (QueuePresentKHR queue waits ps) = by (nat_eq m 1) ps
  where
    by : (b : Bool) (qs : List Present)
        → flat_map (λ g. made_by g.value) (cond b (one_present qs) (field "presents" (records (presents qs)) ∷ [])) ≡ []
    by true [] = refl
    by true (q ∷ []) = refl
    by true (q ∷ r ∷ qs) = refl
    by false qs = refl
defines_in_versions m _ = refl

-- ---- twice

twice_barriers : (f : ℕ → ℕ) (bs : List Barrier) → map (barrier_ids (λ _. 0)) (map (barrier_ids f) bs) ≡ map (barrier_ids (λ _. 0)) bs
twice_barriers f bs = map-map (barrier_ids (λ _. 0)) (barrier_ids f) bs

twice_presents : (f : ℕ → ℕ) (ps : List Present) → map (present_ids (λ _. 0)) (map (present_ids f) ps) ≡ map (present_ids (λ _. 0)) ps
twice_presents f ps = map-map (present_ids (λ _. 0)) (present_ids f) ps

abbrev none : ℕ → ℕ
none _ = 0

twice_ids : (f : ℕ → ℕ) (xs : List ℕ) → map none (map f xs) ≡ map none xs
twice_ids f xs = map-map none f xs

twice_submits : (f : ℕ → ℕ) (ss : List Submit) → map (submit_ids (λ _. 0)) (map (submit_ids f) ss) ≡ map (submit_ids (λ _. 0)) ss
twice_submits f [] = refl
twice_submits f (s ∷ ss) =
    let this : submit_ids (λ _. 0) (submit_ids f s) ≡ submit_ids (λ _. 0) s =
    (λ i. record { waits = twice_ids f s.waits i; cbs = twice_ids f s.cbs i; signals = twice_ids f s.signals i }) in
    λ i. this i ∷ twice_submits f ss i

-- without ids an event is what it is with other ids
pub blank_renamed : (f : ℕ → ℕ) (e : Event) → map_ids (λ _. 0) (map_ids f e) ≡ map_ids (λ _. 0) e
unfolding map_ids
blank_renamed f (Event.AllocateCommandBuffers device pool buffers) = ap (λ (z : List ℕ). Event.AllocateCommandBuffers 0 0 z) (twice_ids f buffers)
blank_renamed f (Event.FreeCommandBuffers device pool buffers) = ap (λ (z : List ℕ). Event.FreeCommandBuffers 0 0 z) (twice_ids f buffers)
blank_renamed f (Event.CmdPipelineBarrier cb bs) = ap (λ (z : List Barrier). Event.CmdPipelineBarrier 0 z) (twice_barriers f bs)
blank_renamed f (Event.ResetFences device fences) = ap (λ (z : List ℕ). Event.ResetFences 0 z) (twice_ids f fences)
blank_renamed f (Event.WaitForFences device fences wait_all answer) = ap (λ (z : List ℕ). Event.WaitForFences 0 z wait_all answer) (twice_ids f fences)
blank_renamed f (Event.QueueSubmit queue submits fence) = ap (λ (z : List Submit). Event.QueueSubmit 0 z 0) (twice_submits f submits)
blank_renamed f (Event.GetSwapchainImagesKHR device swapchain images) = ap (λ (z : List ℕ). Event.GetSwapchainImagesKHR 0 0 z) (twice_ids f images)
blank_renamed f (QueuePresentKHR queue waits ps) = λ i. QueuePresentKHR 0 (twice_ids f waits i) (twice_presents f ps i)
blank_renamed f _ = refl

-- an event with these ids is the one with other ids, where they are what `f` gives
pub renamed : (f : ℕ → ℕ) (before after : Event) (named made : List ℕ) → HasIds before named made after
    → named ≡ map f (uses_of 2 before) → made ≡ map f (defines_of 2 before) → after ≡ map_ids f before
renamed f before after named made h n d =
    one_event after (map_ids f before) (h.others ∙ sym (blank_renamed f before)) (h.uses ∙ n ∙ sym (uses_renamed 2 f before)) (h.defines ∙ d ∙ sym (defines_renamed 2 f before))
