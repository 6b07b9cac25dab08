-- What is kept is read again.
use Rattle.std.proofs.Common.{◌≡◌, ℕ, ◌≤◌, nat_eq, true, false, List, [], ◌∷◌, length, Some, refl, sym, ap, ◌∙◌, arith}
use Rattle.std.proofs.lemmas.Bool.{cond-false}
use Rattle.std.proofs.lemmas.Bool.Decides.{nat_tests}
use Rattle.std.proofs.lemmas.List.{length-map}
use Rattle.gfx_types.specs.declared.effect.Meta.{Meta}
use Rattle.gfx_types.specs.declared.effect.Meta.TheVariants as meta
use Rattle.gfx_model.specs.Events.{Event, event_of_meta}
use Rattle.gfx_model.specs.Events.Event.{FillMemory}
use Rattle.gfx_model.specs.Spelling.{HasSpelling, spelling, fields_of, id_of, type_of}
use Rattle.gfx_grammar.specs.Reads.{AreBytes}
use Rattle.gfx_grammar.specs.Rows.{read_meta, read_event}
use Rattle.gfx_grammar.proofs.EventLaws.{spelled_is_read, read_is_spelled}
use Rattle.gfx_script_model.specs.Ids.{defines_of, map_ids}
use Rattle.gfx_script_model.specs.Statements.{may_be_written}
use Rattle.gfx_script.specs.Kept.{kept_event}
use Rattle.gfx_script.specs.Puts.{HasIds}
use Rattle.gfx_script.proofs.Renaming.{defines_renamed}

positive : (e : Event) → 1 ≤ id_of e
unfolding id_of
positive (Event.CreateInstance instance api) = omega arith
positive _ = omega arith

not_zero : (n : ℕ) → 1 ≤ n → nat_eq n 0 ≡ false
not_zero n h = grind (arith, nat_tests, h)

-- a call
pub kept_call : (m : ℕ) (e : Event) → type_of e ≡ 4 → HasSpelling m e → kept_event m (id_of e) (spelling m e) ≡ Some e
kept_call m e type fits =
    cond-false (nat_eq (id_of e) 0) _ _ (not_zero (id_of e) (positive e))
    ∙ ap (λ k. read_event m k (id_of e) (spelling m e)) (sym type) ∙ spelled_is_read m (spelling m e) e (record { fits = fits; same = refl })

-- a write is spelled alike in both versions
pub write_fits : (m memory offset : ℕ) (bytes : List ℕ) → HasSpelling m (FillMemory memory offset bytes) → HasSpelling 1 (FillMemory memory offset bytes)
unfolding fields_of
write_fits m memory offset bytes h = record { version = tt; fields = h.fields }

-- a write
pub kept_write : (m memory offset : ℕ) (bytes : List ℕ) → HasSpelling m (FillMemory memory offset bytes)
    → kept_event m 0 (spelling 1 (FillMemory memory offset bytes)) ≡ Some (FillMemory memory offset bytes)
unfolding id_of type_of
kept_write m memory offset bytes h =
    spelled_is_read 1 (spelling 1 (FillMemory memory offset bytes)) (FillMemory memory offset bytes) (record { fits = write_fits m memory offset bytes h; same = refl })

-- a call whose fields are spelled
pub spelled_kept : (m : ℕ) (e : Event) (call : ℕ) (fields : List ℕ) → call ≡ id_of e → type_of e ≡ 4 → HasSpelling m e → fields ≡ spelling m e → kept_event m call fields ≡ Some e
spelled_kept m e call fields id type fits same = (λ i. kept_event m (id i) (same i)) ∙ kept_call m e type fits

-- a write whose fields are spelled
pub write_kept : (m : ℕ) (write : Meta) (fields : List ℕ) → may_be_written (event_of_meta write) ≡ true → HasSpelling m (event_of_meta write)
    → fields ≡ spelling 1 (event_of_meta write) → kept_event m 0 fields ≡ Some (event_of_meta write)
unfolding type_of
write_kept m (meta.FillMemory memory offset bytes) fields w h same = ap (kept_event m 0) same ∙ kept_write m memory offset bytes.now h
write_kept m (meta.InitImage image layout bytes) fields w h same = absurd cc
write_kept m (meta.SetSwapchainState swapchain acquired) fields w h same = absurd cc
write_kept m (meta.SetSemaphoreState semaphore signalled) fields w h same = absurd cc

-- and a write has a spelling in version 1
pub write_spelled : (m : ℕ) (write : Meta) → may_be_written (event_of_meta write) ≡ true → HasSpelling m (event_of_meta write) → HasSpelling 1 (event_of_meta write)
unfolding type_of
write_spelled m (meta.FillMemory memory offset bytes) w h = write_fits m memory offset bytes.now h
write_spelled m (meta.InitImage image layout bytes) w h = absurd cc
write_spelled m (meta.SetSwapchainState swapchain acquired) w h = absurd cc
write_spelled m (meta.SetSemaphoreState semaphore signalled) w h = absurd cc

-- what is read as a write
pub read_written : (write : Meta) → id_of (event_of_meta write) ≡ 2 → type_of (event_of_meta write) ≡ 3 → may_be_written (event_of_meta write) ≡ true
unfolding id_of type_of
read_written (meta.FillMemory memory offset bytes) n k = refl
read_written (meta.InitImage image layout bytes) n k = absurd cc
read_written (meta.SetSwapchainState swapchain acquired) n k = absurd cc
read_written (meta.SetSemaphoreState semaphore signalled) n k = absurd cc

-- what is read of kept fields is a write
pub fields_written : (fields : List ℕ) (write : Meta) → AreBytes fields → read_meta 1 2 fields ≡ Some (event_of_meta write) → may_be_written (event_of_meta write) ≡ true
fields_written fields write bytes h =
    let s = read_is_spelled 1 3 2 fields (event_of_meta write) bytes h in
    read_written write s.1 s.2

-- a write makes nothing
pub nothing_made : (before after : Event) (named made : List ℕ) → HasIds before named [] after → length made ≡ length (defines_of 2 before) → HasIds before named made after
nothing_made before after named made h n =
    let blank : ℕ → ℕ = λ _. 0 in
    let count : (e : Event) → length (defines_of 2 (map_ids blank e)) ≡ length (defines_of 2 e) = λ e. ap length (defines_renamed 2 blank e) ∙ length-map (defines_of 2 e) blank in
    let none : length made ≡ 0 = n ∙ sym (count before) ∙ ap (λ e. length (defines_of 2 e)) (sym h.others) ∙ count after ∙ ap length h.defines in
    record { uses = h.uses; defines = h.defines ∙ sym (empty made none); others = h.others }
  where
    empty : (xs : List ℕ) → length xs ≡ 0 → xs ≡ []
    empty [] e = refl
    empty (x ∷ xs) e = absurd (omega (arith, e))
