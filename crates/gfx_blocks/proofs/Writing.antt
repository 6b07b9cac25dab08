-- The bytes of a block that is written.
use Rattle.std.proofs.Common.{◌≡◌, ℕ, ◌+◌, ◌-◌, Bool, true, false, cond, nat_eq, List, ◌++◌, length, take, drop, refl, sym, ap, ◌∙◌, arith, append_assoc, length-append}
use Rattle.std.proofs.Math.Path.{ap₂}
use Rattle.std.proofs.lemmas.List.{take_at, drop_at, drop-drop}
use Rattle.std.specs.Int.{to_le_bytes, w32, w64}
use lib.Seq.{paste}
use Rattle.gfx_types.specs.declared.effect.Effect.TheVariants.{Marker}
use Rattle.gfx_types.specs.declared.effect.Meta.{Meta}
use Rattle.gfx_types.specs.declared.effect.Meta.TheVariants.{FillMemory, InitImage, SetSwapchainState, SetSemaphoreState}
use Rattle.gfx_model.specs.Events.{Event, event_of, event_of_meta}
use Rattle.gfx_model.specs.Spelling.{HasSpelling, spelling, fields_of, id_of, type_of, payload, encoding}

-- a metadata has the same fields in each version
pub meta_spelling : (m : ℕ) (x : Meta) → spelling m (event_of_meta x) ≡ spelling 1 (event_of_meta x)
unfolding spelling fields_of
meta_spelling m (FillMemory memory offset bytes) = refl
meta_spelling m (InitImage image layout bytes) = refl
meta_spelling m (SetSwapchainState swapchain acquired) = refl
meta_spelling m (SetSemaphoreState semaphore signalled) = refl

pub meta_fits : (m : ℕ) (x : Meta) → HasSpelling m (event_of_meta x) → HasSpelling 1 (event_of_meta x)
unfolding fields_of
meta_fits m (FillMemory memory offset bytes) h = record { version = h.version; fields = h.fields }
meta_fits m (InitImage image layout bytes) h = record { version = h.version; fields = h.fields }
meta_fits m (SetSwapchainState swapchain acquired) h = record { version = h.version; fields = h.fields }
meta_fits m (SetSemaphoreState semaphore signalled) h = record { version = h.version; fields = h.fields }

-- the fields follow the id and the thread
pub threaded : (m t kind id : ℕ) (e : Event) (old front new : List ℕ) → type_of e ≡ kind → nat_eq kind 2 ≡ false → id ≡ id_of e
    → front ≡ old ++ to_le_bytes w64 0 ++ to_le_bytes w32 kind ++ to_le_bytes w32 id ++ to_le_bytes w64 t
    → new ≡ front ++ spelling m e → new ≡ old ++ to_le_bytes w64 0 ++ to_le_bytes w32 (type_of e) ++ payload m t e
unfolding payload
threaded m t kind id e old front new type other number grown more =
    more ∙ ap (λ l. l ++ spelling m e) grown ∙ rw (type, other, number) (simp append_assoc)

-- a marker's frame follows its kind
pub marked : (m t frame kind : ℕ) (begin : Bool) (old new : List ℕ) → kind ≡ cond begin 1 2
    → new ≡ old ++ to_le_bytes w64 0 ++ to_le_bytes w32 2 ++ to_le_bytes w32 kind ++ to_le_bytes w64 frame
    → new ≡ old ++ to_le_bytes w64 0 ++ to_le_bytes w32 (type_of (event_of (Marker begin frame))) ++ payload m t (event_of (Marker begin frame))
unfolding payload type_of id_of spelling fields_of
marked m t frame kind true old new is more = more ∙ rw is (simp append_assoc)
marked m t frame kind false old new is more = more ∙ rw is (simp append_assoc)

-- the size of the payload, written into the place of the 0
pub sized : (m t : ℕ) (e : Event) (old mid : List ℕ) (a number : ℕ) → a ≡ length old
    → mid ≡ old ++ to_le_bytes w64 0 ++ to_le_bytes w32 (type_of e) ++ payload m t e
    → number ≡ length mid - a - 12 → paste mid a (to_le_bytes w64 number) 8 ≡ old ++ encoding m t e
unfolding encoding
sized m t e old mid a number from put count =
    let front = to_le_bytes w64 0 in
    let kind = to_le_bytes w32 (type_of e) in
    let rest = kind ++ payload m t e in
    let parts : mid ≡ old ++ (front ++ rest) = put ∙ simp append_assoc in
    let long : length mid ≡ length old + (8 + (4 + length (payload m t e))) =
    ap length parts ∙ length-append old (front ++ rest) ∙ ap (λ l. length old + l) (length-append front rest ∙ ap (λ l. 8 + l) (length-append kind (payload m t e))) in
    let before : take a mid ≡ old = ap (take a) parts ∙ take_at old (front ++ rest) a (sym from) in
    let after : drop (a + 8) mid ≡ rest =
    sym (drop-drop 8 a mid) ∙ ap (drop 8) (ap (drop a) parts ∙ drop_at old (front ++ rest) a (sym from)) in
    let counted : number ≡ length (payload m t e) = omega (arith, count, long, from) in
    let size : to_le_bytes w64 number ≡ to_le_bytes w64 (length (payload m t e)) = ap (to_le_bytes w64) counted in
    ap₂ (λ u v. u ++ v) (ap₂ (λ u v. u ++ v) before size) after ∙ simp append_assoc
