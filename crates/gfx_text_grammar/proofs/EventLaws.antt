-- What is read of an event shows so, and what shows so is read: a short case for each row.
use Rattle.std.proofs.Common.{◌≡◌, ℕ, ◌&&◌, Bool, true, false, cond, nat_eq, List, [], ◌∷◌, length, Option, Some, refl, sym, ap, subst, ◌∙◌, arith, inl, inr, codes}
use Rattle.std.proofs.lemmas.Option.{cond_some}
use Rattle.std.specs.List.{AllByRecursion}
use Rattle.std.proofs.lemmas.Bool.Decides.{nat_tests}
use Rattle.std.proofs.lemmas.Bool.{cond-false, cond-true, eqb-true, and_parts, cases_Bool}
use Rattle.gfx_types.specs.declared.lists.Present.{Present}
use Rattle.gfx_model.specs.Events.{Event}
use Rattle.gfx_model.specs.Events.Event.{CreateInstance, DestroyInstance, CreateHeadlessSurfaceEXT, DestroySurfaceKHR, CreateDevice, DestroyDevice, GetDeviceQueue, AllocateMemory, FreeMemory, MapMemory, UnmapMemory, CreateBuffer, DestroyBuffer, BindBufferMemory, CreateImage, DestroyImage, BindImageMemory, CreateCommandPool, DestroyCommandPool, ResetCommandPool, AllocateCommandBuffers, FreeCommandBuffers, BeginCommandBuffer, EndCommandBuffer, ResetCommandBuffer, CmdPipelineBarrier, CmdFillBuffer, CmdUpdateBuffer, CmdCopyBuffer, CmdCopyImage, CmdCopyBufferToImage, CmdCopyImageToBuffer, CmdClearColorImage, CreateFence, DestroyFence, ResetFences, WaitForFences, GetFenceStatus, CreateSemaphore, DestroySemaphore, QueueSubmit, QueueWaitIdle, DeviceWaitIdle, CreateSwapchainKHR, DestroySwapchainKHR, GetSwapchainImagesKHR, AcquireNextImageKHR, QueuePresentKHR, FillMemory, InitImage, SetSwapchainState, SetSemaphoreState, BeginSection, EndSection}
use Rattle.gfx_model.specs.Spelling.{IsOfVersion, type_of}
use Rattle.gfx_model.specs.Checks.{same_list}
use Rattle.gfx_script_model.specs.Statements.{is_empty}
use Rattle.gfx_script_model.specs.EventNames.{event_name}
use Rattle.gfx_model.specs.Fields.{Named, field, named_fields, barrier_atoms, buffer_region_atoms, image_region_atoms, mixed_region_atoms, present_atoms, Records}
use Rattle.gfx_model.specs.Fields.Value.{names, short, names_each, records}
use Rattle.gfx_grammar.specs.Reading.{◌>>=◌}
use Rattle.gfx_grammar.specs.Rows.{with1, with2, with3, with4, with5, with6, with7, with8}
use Rattle.gfx_grammar.proofs.NumberLaws.{bind_some}
use Rattle.gfx_grammar.proofs.EventLaws.{chosen}
use Rattle.gfx_text_grammar.specs.Reading.{Style, read_present}
use Rattle.gfx_text_grammar.specs.Reads.{IsStyle}
use Rattle.gfx_text_grammar.specs.FieldReading.{Left, FieldReader, ◌⊛◌, with_fields, ReadsFields, nothing, ShowsFields}
use Rattle.gfx_script_model.specs.FieldText.{FieldsFit}
use Rattle.gfx_text_grammar.specs.Rows.{id_field, short_field, ids_field, records_field, if_nothing_left, exactly, with_one, present_row, Rows, by_name, calls, metas, markers, rows_of, read_event}
use Rattle.gfx_text_grammar.proofs.ValueLaws.{reads_barrier, reads_buffer_region, reads_image_region, reads_mixed_region, reads_present}
use Rattle.gfx_text_grammar.proofs.FieldLaws.{reads_new, reads_new_each, ◌⊠⊠◌, reads_id_field, reads_maybe_field, reads_wide_field, reads_short_field, reads_raw_field, reads_ids_field, reads_words_field, reads_records_field, reads_submits_field}
use Rattle.gfx_model.specs.Fields.Records.{barriers, buffer_regions, image_regions, mixed_regions}
use Rattle.gfx_text_grammar.proofs.Lists.{same_list-true}

-- ---- a row

no_texts : (xs : List (List ℕ)) → is_empty xs ≡ true → xs ≡ []
no_texts [] h = refl
no_texts (x ∷ xs) h = absurd cc

nothing_left_some : (e : Event) (left : Left) (y : Event) → if_nothing_left e left ≡ Some y → (left ≡ nothing) × (e ≡ y)
nothing_left_some e left y is =
    let h = cond_some (is_empty left.0 && is_empty left.1) e y is in
    let p = and_parts (is_empty left.0) (is_empty left.1) h.0 in
    (ap (λ (z : List (List ℕ)). (z, left.1)) (no_texts left.0 p.0) ∙ ap (λ (z : List (List ℕ)). ([], z)) (no_texts left.1 p.1), h.1)

-- the event that the row builds has these fields, is of this version, and has this name and type
abbrev IsBuilt : ℕ → ℕ → List ℕ → Event → List Named → Type 0
IsBuilt m kind name e fields = (named_fields m e ≡ fields) × IsOfVersion m e × (event_name e ≡ name) × (type_of e ≡ kind)

row_takes : (s : Style) (m kind : ℕ) (name : List ℕ) {X : Type 0} (build : X → Event) (r : FieldReader X) (t : X → List Named) → ReadsFields s r t
    → ((x : X) → IsBuilt m kind name (build x) (t x)) → (left : Left) (e : Event) → exactly build r left ≡ Some e → ShowsFields s m kind name left e
unfolding exactly
row_takes s m kind name build r t p built left e is =
    let a = bind_some (r left) (λ x. if_nothing_left (build x.0) x.1) e is in
    let x = a.0.0 in
    let end = nothing_left_some (build x) a.0.1 e a.2 in
    let g = p.takes left x a.0.1 a.1 in
    let b = built x in
    let same : left ≡ with_fields s (t x) nothing = g.0 ∙ ap (with_fields s (t x)) end.0 in
    subst (λ (z : Event). ShowsFields s m kind name left z) end.1
    (subst (λ (fs : List Named). FieldsFit s.ids fs) (sym b.0) g.1, same ∙ ap (λ (fs : List Named). with_fields s fs nothing) (sym b.0), b.1, b.2, b.3)

-- what the row shows is read
row_again : (s : Style) (m : ℕ) {X : Type 0} (build : X → Event) {r : FieldReader X} {t : X → List Named} → ReadsFields s r t
    → ((x : X) → named_fields m (build x) ≡ t x) → (x : X) → FieldsFit s.ids (named_fields m (build x))
    → exactly build r (with_fields s (named_fields m (build x)) nothing) ≡ Some (build x)
unfolding exactly
row_again s m {X} build {r} {t} p same x fits =
    ap (λ (fs : List Named). exactly build r (with_fields s fs nothing)) (same x)
    ∙ ap (λ (o : Option (X × Left)). o >>= λ v. if_nothing_left (build v.0) v.1) (p.again x nothing (subst (λ (fs : List Named). FieldsFit s.ids fs) (same x) fits))

-- the row of an event: it reads events of this type and name that show so, and the event again
record Row (s : Style) (m : ℕ) (e : Event) : Type 0 where
  read : Left → Option Event
  takes : (left : Left) (f : Event) → read left ≡ Some f → ShowsFields s m (type_of e) (event_name e) left f
  again : IsOfVersion m e → FieldsFit s.ids (named_fields m e) → read (with_fields s (named_fields m e) nothing) ≡ Some e

row : {s : Style} {m : ℕ} {X : Type 0} (build : X → Event) (x : X) {r : FieldReader X} {t : X → List Named} → ReadsFields s r t
    → {kind : ℕ} {name : List ℕ} → ((y : X) → IsBuilt m kind name (build y) (t y)) → Row s m (build x)
row {s} {m} build x {r} {t} p {kind} {name} built = record {
  read = exactly build r;
  takes = λ left f is.
      let h = row_takes s m kind name build r t p built left f is in
      (h.0, h.1, h.2, h.3 ∙ sym (built x).2, h.4 ∙ sym (built x).3);
  again = λ version fits. row_again s m build p (λ y. (built y).0) x fits;
}

-- ---- presents

reads_one : {s : Style} → IsStyle s
    → ReadsFields s (id_field s "queue" ⊛ ids_field s "waits" ⊛ id_field s "swapchain" ⊛ short_field "index")
    (λ x. field "queue" (names x.0) ∷ field "waits" (names_each x.1.0) ∷ field "swapchain" (names x.1.1.0) ∷ field "index" (short x.1.1.1) ∷ [])
reads_one {s} is = reads_id_field is "queue" ⊠⊠ reads_ids_field is "waits" ⊠⊠ reads_id_field is "swapchain" ⊠⊠ reads_short_field s "index"

reads_many : {s : Style} → IsStyle s
    → ReadsFields s (id_field s "queue" ⊛ ids_field s "waits" ⊛ records_field "presents" (read_present s))
    (λ x. field "queue" (names x.0) ∷ field "waits" (names_each x.1.0) ∷ field "presents" (records (Records.presents x.1.1)) ∷ [])
reads_many {s} is = reads_id_field is "queue" ⊠⊠ reads_ids_field is "waits" ⊠⊠ reads_records_field s "presents" Records.presents present_atoms (λ x. refl) (reads_present is)

present_one : (m : ℕ) → nat_eq m 1 ≡ true → (x : ℕ × (List ℕ × (ℕ × ℕ))) → named_fields m (with_one x)
    ≡ field "queue" (names x.0) ∷ field "waits" (names_each x.1.0) ∷ field "swapchain" (names x.1.1.0) ∷ field "index" (short x.1.1.1) ∷ []
present_one m one x = rw one refl

present_many : (m : ℕ) → nat_eq m 1 ≡ false → (x : ℕ × (List ℕ × List Present)) → named_fields m (with3 QueuePresentKHR x)
    ≡ field "queue" (names x.0) ∷ field "waits" (names_each x.1.0) ∷ field "presents" (records (Records.presents x.1.1)) ∷ []
present_many m many x = rw many refl

not_one : (m : ℕ) → nat_eq m 1 ≡ false → m ≡ 1 → ⊥
not_one m not is = grind (arith, nat_tests)

present_takes : {s : Style} → IsStyle s → (m : ℕ) (left : Left) (e : Event) → present_row s m left ≡ Some e → ShowsFields s m 4 (codes "QueuePresentKHR") left e
unfolding present_row event_name type_of
present_takes {s} is m left e eq =
    elim (chosen (nat_eq m 1) _ _ _ eq) [
      | inl one ↦ row_takes s m 4 (codes "QueuePresentKHR") with_one _ _ (reads_one is) (λ x. (present_one m one.0 x, λ is. refl, refl, refl)) left e one.1
      | inr many ↦ row_takes s m 4 (codes "QueuePresentKHR") (with3 QueuePresentKHR) _ _ (reads_many is) (λ x. (present_many m many.0 x, λ is. absurd (not_one m many.0 is), refl, refl)) left e many.1
    ]

present_again_one : {s : Style} → IsStyle s → (m : ℕ) → nat_eq m 1 ≡ true → (queue : ℕ) (waits : List ℕ) (presents : List Present) → length presents ≡ 1
    → FieldsFit s.ids (named_fields m (QueuePresentKHR queue waits presents))
    → exactly with_one (id_field s "queue" ⊛ ids_field s "waits" ⊛ id_field s "swapchain" ⊛ short_field "index") (with_fields s (named_fields m (QueuePresentKHR queue waits presents)) nothing)
    ≡ Some (QueuePresentKHR queue waits presents)
present_again_one is m one queue waits [] long fits = absurd (omega (arith, long))
present_again_one {s} is m one queue waits (p ∷ []) long fits = row_again s m with_one (reads_one is) (present_one m one) (queue, (waits, (p.swapchain, p.index))) fits
present_again_one is m one queue waits (p ∷ q ∷ ps) long fits = absurd (omega (arith, long))

present_again : {s : Style} → IsStyle s → (m queue : ℕ) (waits : List ℕ) (presents : List Present) → (m ≡ 1 → length presents ≡ 1)
    → FieldsFit s.ids (named_fields m (QueuePresentKHR queue waits presents))
    → present_row s m (with_fields s (named_fields m (QueuePresentKHR queue waits presents)) nothing) ≡ Some (QueuePresentKHR queue waits presents)
unfolding present_row
present_again {s} is m queue waits presents version fits =
    elim (cases_Bool (nat_eq m 1)) [
      | inl one ↦ cond-true (nat_eq m 1) _ _ one ∙ present_again_one is m one queue waits presents (version (eqb-true m 1 one)) fits
      | inr many ↦ cond-false (nat_eq m 1) _ _ many ∙ row_again s m (with3 QueuePresentKHR) (reads_many is) (present_many m many) (queue, (waits, presents)) fits
    ]

-- ---- the tables

row_of : {s : Style} → IsStyle s → (m : ℕ) (e : Event) → Row s m e
unfolding event_name type_of
row_of {s} is m (CreateInstance a b) =
    row (with2 CreateInstance) (a, b) (reads_new "instance" is ⊠⊠ reads_short_field s "api") (λ y. (refl, tt, refl, refl))
row_of {s} is m (DestroyInstance a) =
    row (with1 DestroyInstance) a (reads_id_field is "instance") (λ y. (refl, tt, refl, refl))
row_of {s} is m (CreateHeadlessSurfaceEXT a b) =
    row (with2 CreateHeadlessSurfaceEXT) (a, b) (reads_id_field is "instance"
    ⊠⊠ reads_new "surface" is) (λ y. (refl, tt, refl, refl))
row_of {s} is m (DestroySurfaceKHR a b) =
    row (with2 DestroySurfaceKHR) (a, b) (reads_id_field is "instance"
    ⊠⊠ reads_id_field is "surface") (λ y. (refl, tt, refl, refl))
row_of {s} is m (CreateDevice a b) =
    row (with2 CreateDevice) (a, b) (reads_id_field is "instance" ⊠⊠ reads_new "device" is) (λ y. (refl, tt, refl, refl))
row_of {s} is m (DestroyDevice a) = row (with1 DestroyDevice) a (reads_id_field is "device") (λ y. (refl, tt, refl, refl))
row_of {s} is m (GetDeviceQueue a b) =
    row (with2 GetDeviceQueue) (a, b) (reads_id_field is "device" ⊠⊠ reads_new "queue" is) (λ y. (refl, tt, refl, refl))
row_of {s} is m (AllocateMemory a b c) =
    row (with3 AllocateMemory) (a, (b, c)) (reads_id_field is "device" ⊠⊠ reads_new "memory" is
    ⊠⊠ reads_wide_field s "size") (λ y. (refl, tt, refl, refl))
row_of {s} is m (FreeMemory a b) =
    row (with2 FreeMemory) (a, b) (reads_id_field is "device" ⊠⊠ reads_id_field is "memory") (λ y. (refl, tt, refl, refl))
row_of {s} is m (MapMemory a b c d) =
    row (with4 MapMemory) (a, (b, (c, d))) (reads_id_field is "device" ⊠⊠ reads_id_field is "memory"
    ⊠⊠ reads_wide_field s "offset" ⊠⊠ reads_wide_field s "size") (λ y. (refl, tt, refl, refl))
row_of {s} is m (UnmapMemory a b) =
    row (with2 UnmapMemory) (a, b) (reads_id_field is "device" ⊠⊠ reads_id_field is "memory") (λ y. (refl, tt, refl, refl))
row_of {s} is m (CreateBuffer a b c d) =
    row (with4 CreateBuffer) (a, (b, (c, d))) (reads_id_field is "device" ⊠⊠ reads_new "buffer" is
    ⊠⊠ reads_wide_field s "size" ⊠⊠ reads_short_field s "usage") (λ y. (refl, tt, refl, refl))
row_of {s} is m (DestroyBuffer a b) =
    row (with2 DestroyBuffer) (a, b) (reads_id_field is "device" ⊠⊠ reads_id_field is "buffer") (λ y. (refl, tt, refl, refl))
row_of {s} is m (BindBufferMemory a b c d) =
    row (with4 BindBufferMemory) (a, (b, (c, d))) (reads_id_field is "device" ⊠⊠ reads_id_field is "buffer"
    ⊠⊠ reads_id_field is "memory" ⊠⊠ reads_wide_field s "offset") (λ y. (refl, tt, refl, refl))
row_of {s} is m (CreateImage a b c d e f) =
    row (with6 CreateImage) (a, (b, (c, (d, (e, f))))) (reads_id_field is "device" ⊠⊠ reads_new "image" is
    ⊠⊠ reads_short_field s "format" ⊠⊠ reads_short_field s "width" ⊠⊠ reads_short_field s "height"
    ⊠⊠ reads_short_field s "usage") (λ y. (refl, tt, refl, refl))
row_of {s} is m (DestroyImage a b) =
    row (with2 DestroyImage) (a, b) (reads_id_field is "device" ⊠⊠ reads_id_field is "image") (λ y. (refl, tt, refl, refl))
row_of {s} is m (BindImageMemory a b c d) =
    row (with4 BindImageMemory) (a, (b, (c, d))) (reads_id_field is "device" ⊠⊠ reads_id_field is "image"
    ⊠⊠ reads_id_field is "memory" ⊠⊠ reads_wide_field s "offset") (λ y. (refl, tt, refl, refl))
row_of {s} is m (CreateCommandPool a b c) =
    row (with3 CreateCommandPool) (a, (b, c)) (reads_id_field is "device" ⊠⊠ reads_new "pool" is
    ⊠⊠ reads_short_field s "flags") (λ y. (refl, tt, refl, refl))
row_of {s} is m (DestroyCommandPool a b) =
    row (with2 DestroyCommandPool) (a, b) (reads_id_field is "device"
    ⊠⊠ reads_id_field is "pool") (λ y. (refl, tt, refl, refl))
row_of {s} is m (ResetCommandPool a b) =
    row (with2 ResetCommandPool) (a, b) (reads_id_field is "device" ⊠⊠ reads_id_field is "pool") (λ y. (refl, tt, refl, refl))
row_of {s} is m (AllocateCommandBuffers a b c) =
    row (with3 AllocateCommandBuffers) (a, (b, c)) (reads_id_field is "device" ⊠⊠ reads_id_field is "pool"
    ⊠⊠ reads_new_each "buffers" is) (λ y. (refl, tt, refl, refl))
row_of {s} is m (FreeCommandBuffers a b c) =
    row (with3 FreeCommandBuffers) (a, (b, c)) (reads_id_field is "device" ⊠⊠ reads_id_field is "pool"
    ⊠⊠ reads_ids_field is "buffers") (λ y. (refl, tt, refl, refl))
row_of {s} is m (BeginCommandBuffer a b) =
    row (with2 BeginCommandBuffer) (a, b) (reads_id_field is "cb" ⊠⊠ reads_short_field s "flags") (λ y. (refl, tt, refl, refl))
row_of {s} is m (EndCommandBuffer a) = row (with1 EndCommandBuffer) a (reads_id_field is "cb") (λ y. (refl, tt, refl, refl))
row_of {s} is m (ResetCommandBuffer a) =
    row (with1 ResetCommandBuffer) a (reads_id_field is "cb") (λ y. (refl, tt, refl, refl))
row_of {s} is m (CmdPipelineBarrier a b) =
    row (with2 CmdPipelineBarrier) (a, b) (reads_id_field is "cb"
    ⊠⊠ reads_records_field s "barriers" barriers barrier_atoms (λ x. refl) (reads_barrier is)) (λ y. (refl, tt, refl, refl))
row_of {s} is m (CmdFillBuffer a b c d e) =
    row (with5 CmdFillBuffer) (a, (b, (c, (d, e)))) (reads_id_field is "cb" ⊠⊠ reads_id_field is "buffer"
    ⊠⊠ reads_wide_field s "offset" ⊠⊠ reads_wide_field s "size" ⊠⊠ reads_short_field s "word") (λ y. (refl, tt, refl, refl))
row_of {s} is m (CmdUpdateBuffer a b c d) =
    row (with4 CmdUpdateBuffer) (a, (b, (c, d))) (reads_id_field is "cb" ⊠⊠ reads_id_field is "buffer"
    ⊠⊠ reads_wide_field s "offset" ⊠⊠ reads_raw_field s "bytes") (λ y. (refl, tt, refl, refl))
row_of {s} is m (CmdCopyBuffer a b c d) =
    row (with4 CmdCopyBuffer) (a, (b, (c, d))) (reads_id_field is "cb"
    ⊠⊠ reads_id_field is "source" ⊠⊠ reads_id_field is "target"
    ⊠⊠ reads_records_field s "regions" buffer_regions buffer_region_atoms (λ x. refl) (reads_buffer_region is))
    (λ y. (refl, tt, refl, refl))
row_of {s} is m (CmdCopyImage a b c d e f) =
    row (with6 CmdCopyImage) (a, (b, (c, (d, (e, f))))) (reads_id_field is "cb"
    ⊠⊠ reads_id_field is "source" ⊠⊠ reads_short_field s "source_layout"
    ⊠⊠ reads_id_field is "target" ⊠⊠ reads_short_field s "target_layout"
    ⊠⊠ reads_records_field s "regions" image_regions image_region_atoms (λ x. refl) (reads_image_region is))
    (λ y. (refl, tt, refl, refl))
row_of {s} is m (CmdCopyBufferToImage a b c d e) =
    row (with5 CmdCopyBufferToImage) (a, (b, (c, (d, e)))) (reads_id_field is "cb"
    ⊠⊠ reads_id_field is "source" ⊠⊠ reads_id_field is "target" ⊠⊠ reads_short_field s "layout"
    ⊠⊠ reads_records_field s "regions" mixed_regions mixed_region_atoms (λ x. refl) (reads_mixed_region is))
    (λ y. (refl, tt, refl, refl))
row_of {s} is m (CmdCopyImageToBuffer a b c d e) =
    row (with5 CmdCopyImageToBuffer) (a, (b, (c, (d, e)))) (reads_id_field is "cb"
    ⊠⊠ reads_id_field is "source" ⊠⊠ reads_short_field s "layout" ⊠⊠ reads_id_field is "target"
    ⊠⊠ reads_records_field s "regions" mixed_regions mixed_region_atoms (λ x. refl) (reads_mixed_region is))
    (λ y. (refl, tt, refl, refl))
row_of {s} is m (CmdClearColorImage a b c d e f g) =
    row (with7 CmdClearColorImage) (a, (b, (c, (d, (e, (f, g)))))) (reads_id_field is "cb" ⊠⊠ reads_id_field is "image"
    ⊠⊠ reads_short_field s "layout" ⊠⊠ reads_short_field s "c0" ⊠⊠ reads_short_field s "c1" ⊠⊠ reads_short_field s "c2"
    ⊠⊠ reads_short_field s "c3") (λ y. (refl, tt, refl, refl))
row_of {s} is m (CreateFence a b c) =
    row (with3 CreateFence) (a, (b, c)) (reads_id_field is "device" ⊠⊠ reads_new "fence" is
    ⊠⊠ reads_short_field s "flags") (λ y. (refl, tt, refl, refl))
row_of {s} is m (DestroyFence a b) =
    row (with2 DestroyFence) (a, b) (reads_id_field is "device" ⊠⊠ reads_id_field is "fence") (λ y. (refl, tt, refl, refl))
row_of {s} is m (ResetFences a b) =
    row (with2 ResetFences) (a, b) (reads_id_field is "device" ⊠⊠ reads_ids_field is "fences") (λ y. (refl, tt, refl, refl))
row_of {s} is m (WaitForFences a b c d) =
    row (with4 WaitForFences) (a, (b, (c, d))) (reads_id_field is "device" ⊠⊠ reads_ids_field is "fences"
    ⊠⊠ reads_short_field s "wait_all" ⊠⊠ reads_short_field s "answer") (λ y. (refl, tt, refl, refl))
row_of {s} is m (GetFenceStatus a b c) =
    row (with3 GetFenceStatus) (a, (b, c)) (reads_id_field is "device" ⊠⊠ reads_id_field is "fence"
    ⊠⊠ reads_short_field s "answer") (λ y. (refl, tt, refl, refl))
row_of {s} is m (CreateSemaphore a b) =
    row (with2 CreateSemaphore) (a, b) (reads_id_field is "device" ⊠⊠ reads_new "semaphore" is) (λ y. (refl, tt, refl, refl))
row_of {s} is m (DestroySemaphore a b) =
    row (with2 DestroySemaphore) (a, b) (reads_id_field is "device"
    ⊠⊠ reads_id_field is "semaphore") (λ y. (refl, tt, refl, refl))
row_of {s} is m (QueueSubmit a b c) =
    row (with3 QueueSubmit) (a, (b, c)) (reads_id_field is "queue" ⊠⊠ reads_submits_field is "submits"
    ⊠⊠ reads_maybe_field is "fence") (λ y. (refl, tt, refl, refl))
row_of {s} is m (QueueWaitIdle a) = row (with1 QueueWaitIdle) a (reads_id_field is "queue") (λ y. (refl, tt, refl, refl))
row_of {s} is m (DeviceWaitIdle a) = row (with1 DeviceWaitIdle) a (reads_id_field is "device") (λ y. (refl, tt, refl, refl))
row_of {s} is m (CreateSwapchainKHR a b c d e f g h) =
    row (with8 CreateSwapchainKHR) (a, (b, (c, (d, (e, (f, (g, h))))))) (reads_id_field is "device"
    ⊠⊠ reads_new "swapchain" is ⊠⊠ reads_id_field is "surface" ⊠⊠ reads_short_field s "images"
    ⊠⊠ reads_short_field s "format" ⊠⊠ reads_short_field s "width" ⊠⊠ reads_short_field s "height"
    ⊠⊠ reads_short_field s "usage") (λ y. (refl, tt, refl, refl))
row_of {s} is m (DestroySwapchainKHR a b) =
    row (with2 DestroySwapchainKHR) (a, b) (reads_id_field is "device"
    ⊠⊠ reads_id_field is "swapchain") (λ y. (refl, tt, refl, refl))
row_of {s} is m (GetSwapchainImagesKHR a b c) =
    row (with3 GetSwapchainImagesKHR) (a, (b, c)) (reads_id_field is "device" ⊠⊠ reads_id_field is "swapchain"
    ⊠⊠ reads_new_each "images" is) (λ y. (refl, tt, refl, refl))
row_of {s} is m (AcquireNextImageKHR a b c d e f) =
    row (with6 AcquireNextImageKHR) (a, (b, (c, (d, (e, f))))) (reads_id_field is "device" ⊠⊠ reads_id_field is "swapchain"
    ⊠⊠ reads_maybe_field is "semaphore" ⊠⊠ reads_maybe_field is "fence" ⊠⊠ reads_short_field s "index"
    ⊠⊠ reads_short_field s "answer") (λ y. (refl, tt, refl, refl))
row_of {s} is m (QueuePresentKHR queue waits ps) =
    record { read = present_row s m; takes = present_takes is m; again = present_again is m queue waits ps }
row_of {s} is m (FillMemory a b c) =
    row (with3 FillMemory) (a, (b, c)) (reads_id_field is "memory" ⊠⊠ reads_wide_field s "offset"
    ⊠⊠ reads_raw_field s "bytes") (λ y. (refl, tt, refl, refl))
row_of {s} is m (InitImage a b c) =
    row (with3 InitImage) (a, (b, c)) (reads_id_field is "image"
    ⊠⊠ reads_short_field s "layout" ⊠⊠ reads_raw_field s "bytes") (λ y. (refl, tt, refl, refl))
row_of {s} is m (SetSwapchainState a b) =
    row (with2 SetSwapchainState) (a, b) (reads_id_field is "swapchain"
    ⊠⊠ reads_words_field s "acquired") (λ y. (refl, tt, refl, refl))
row_of {s} is m (SetSemaphoreState a b) =
    row (with2 SetSemaphoreState) (a, b) (reads_id_field is "semaphore"
    ⊠⊠ reads_short_field s "signalled") (λ y. (refl, tt, refl, refl))
row_of {s} is m (BeginSection a) = row (with1 BeginSection) a (reads_wide_field s "frame") (λ y. (refl, tt, refl, refl))
row_of {s} is m (EndSection a) = row (with1 EndSection) a (reads_wide_field s "frame") (λ y. (refl, tt, refl, refl))

infixr 5 ◌&◌
◌&◌ : {A B : Type 0} → A → B → A × B
a & b = (a, b)

-- each row of a table reads events of its type and name that show so
abbrev AreRead : Style → ℕ → ℕ → Rows → Type 0
AreRead s m kind rows = AllByRecursion (λ row. (left : Left) (e : Event) → row.1 left ≡ Some e → ShowsFields s m kind row.0 left e) rows

calls_read : {s : Style} → IsStyle s → (m : ℕ) → AreRead s m 4 (calls s m)
unfolding row_of row event_name type_of
calls_read {s} is m =
    let at = λ (e : Event). (row_of is m e).takes in
    at (CreateInstance 0 0) & at (DestroyInstance 0) & at (CreateHeadlessSurfaceEXT 0 0) & at (DestroySurfaceKHR 0 0)
    & at (CreateDevice 0 0) & at (DestroyDevice 0) & at (GetDeviceQueue 0 0) & at (AllocateMemory 0 0 0)
    & at (FreeMemory 0 0) & at (MapMemory 0 0 0 0) & at (UnmapMemory 0 0) & at (CreateBuffer 0 0 0 0)
    & at (DestroyBuffer 0 0) & at (BindBufferMemory 0 0 0 0) & at (CreateImage 0 0 0 0 0 0) & at (DestroyImage 0 0)
    & at (BindImageMemory 0 0 0 0) & at (CreateCommandPool 0 0 0) & at (DestroyCommandPool 0 0)
    & at (ResetCommandPool 0 0) & at (AllocateCommandBuffers 0 0 []) & at (FreeCommandBuffers 0 0 [])
    & at (BeginCommandBuffer 0 0) & at (EndCommandBuffer 0) & at (ResetCommandBuffer 0) & at (CmdPipelineBarrier 0 [])
    & at (CmdFillBuffer 0 0 0 0 0) & at (CmdUpdateBuffer 0 0 0 []) & at (CmdCopyBuffer 0 0 0 [])
    & at (CmdCopyImage 0 0 0 0 0 []) & at (CmdCopyBufferToImage 0 0 0 0 []) & at (CmdCopyImageToBuffer 0 0 0 0 [])
    & at (CmdClearColorImage 0 0 0 0 0 0 0) & at (CreateFence 0 0 0) & at (DestroyFence 0 0) & at (ResetFences 0 [])
    & at (WaitForFences 0 [] 0 0) & at (GetFenceStatus 0 0 0) & at (CreateSemaphore 0 0) & at (DestroySemaphore 0 0)
    & at (QueueSubmit 0 [] 0) & at (QueueWaitIdle 0) & at (DeviceWaitIdle 0) & at (CreateSwapchainKHR 0 0 0 0 0 0 0 0)
    & at (DestroySwapchainKHR 0 0) & at (GetSwapchainImagesKHR 0 0 []) & at (AcquireNextImageKHR 0 0 0 0 0 0)
    & at (QueuePresentKHR 0 [] []) & tt

metas_read : {s : Style} → IsStyle s → (m : ℕ) → AreRead s m 3 (metas s)
unfolding row_of row event_name type_of
metas_read {s} is m =
    let at = λ (e : Event). (row_of is m e).takes in
    at (FillMemory 0 0 []) & at (InitImage 0 0 []) & at (SetSwapchainState 0 []) & at (SetSemaphoreState 0 0) & tt

markers_read : {s : Style} → IsStyle s → (m : ℕ) → AreRead s m 2 (markers s)
unfolding row_of row event_name type_of
markers_read {s} is m =
    let at = λ (e : Event). (row_of is m e).takes in
    at (BeginSection 0) & at (EndSection 0) & tt

by_kind : {s : Style} → IsStyle s → (m kind : ℕ) (b4 b3 b2 : Bool) → nat_eq kind 4 ≡ b4 → nat_eq kind 3 ≡ b3 → nat_eq kind 2 ≡ b2
    → AreRead s m kind (cond b4 (calls s m) (cond b3 (metas s) (cond b2 (markers s) [])))
by_kind {s} is m kind true b3 b2 is4 is3 is2 = subst (λ k. AreRead s m k (calls s m)) (sym (eqb-true kind 4 is4)) (calls_read is m)
by_kind {s} is m kind false true b2 is4 is3 is2 = subst (λ k. AreRead s m k (metas s)) (sym (eqb-true kind 3 is3)) (metas_read is m)
by_kind {s} is m kind false false true is4 is3 is2 = subst (λ k. AreRead s m k (markers s)) (sym (eqb-true kind 2 is2)) (markers_read is m)
by_kind {s} is m kind false false false is4 is3 is2 = tt

by_name_takes : (s : Style) (m kind : ℕ) (name : List ℕ) (rows : Rows) → AreRead s m kind rows → (left : Left) (e : Event) → by_name rows name left ≡ Some e
    → ShowsFields s m kind name left e
unfolding by_name
by_name_takes s m kind name [] all left e eq = absurd cc
by_name_takes s m kind name (row ∷ rows) all left e eq =
    elim (chosen (same_list row.0 name) _ _ _ eq) [
      | inl here ↦ subst (λ (k : List ℕ). ShowsFields s m kind k left e) (same_list-true row.0 name here.0) (all.0 left e here.1)
      | inr later ↦ by_name_takes s m kind name rows all.1 left e later.1
    ]

-- what is read shows so
pub read_is_shown : (s : Style) → IsStyle s → (m kind : ℕ) (name : List ℕ) (left : Left) (e : Event) → read_event s m kind name left ≡ Some e → ShowsFields s m kind name left e
unfolding read_event
read_is_shown s is m kind name left e eq =
    by_name_takes s m kind name (rows_of s m kind) (by_kind is m kind (nat_eq kind 4) (nat_eq kind 3) (nat_eq kind 2) refl refl refl) left e eq

-- ---- an event that shows so

found : {s : Style} (is : IsStyle s) (m : ℕ) (e : Event) (left : Left) → read_event s m (type_of e) (event_name e) left ≡ (row_of is m e).read left
unfolding read_event by_name row_of row event_name type_of
found is m (DestroyInstance a) left = refl
found is m _ left = refl

pub shown_is_read : (s : Style) → IsStyle s → (m : ℕ) (e : Event) → IsOfVersion m e → FieldsFit s.ids (named_fields m e)
    → read_event s m (type_of e) (event_name e) (with_fields s (named_fields m e) nothing) ≡ Some e
shown_is_read s is m e version fits = found is m e (with_fields s (named_fields m e) nothing) ∙ (row_of is m e).again version fits
