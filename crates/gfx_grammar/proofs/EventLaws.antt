-- What is read of an event is spelled so, and what is spelled so is read: a short case for each row.
use Rattle.std.proofs.Common.{◌≡◌, ℕ, Bool, true, false, cond, nat_eq, List, [], ◌∷◌, ◌++◌, length, Option, Some, refl, sym, ap, subst, ◌∙◌, arith, ◌⊎◌, inl, inr}
use Rattle.std.specs.List.{AllByRecursion}
use Rattle.std.proofs.lemmas.Bool.Decides.{nat_tests}
use Rattle.std.proofs.lemmas.Bool.{cond-false, cond-true, eqb-true}
use Rattle.std.proofs.lemmas.List.{append-nil}
use Rattle.gfx_types.specs.declared.lists.Present.{Present}
use Rattle.gfx_model.specs.Events.{Event}
use Rattle.gfx_model.specs.Spelling.{Field, id_fields, list_of, present_fields, IsOfVersion, Spells, spelling, fields_of, id_of, type_of}
use Rattle.gfx_grammar.specs.Reading.{◌>>=◌, Reader, ◌⊗◌, read_id, read_ids, read_present}
use Rattle.gfx_grammar.specs.Rows.{if_none_left, exactly, with1, with2, with3, with4, with5, with6, with7, with8, with_one_present, present_row, Rows, by_row, calls, metas, markers, rows_of, read_event}
use Rattle.gfx_grammar.specs.Laws.{ReadIsSpelled, SpelledIsRead}
use Rattle.gfx_grammar.specs.Reads.{AreBytes, Reads, Fits, text_of}
use Rattle.gfx_grammar.proofs.NumberLaws.{some_is, bind_some}
use Rattle.gfx_grammar.proofs.ReaderLaws.{◌⊠◌, reads_raw, reads_list}
use Rattle.gfx_grammar.proofs.FieldLaws.{reads_id, reads_u32, reads_u64, reads_ids, reads_words, reads_barrier, reads_buffer_region, reads_image_region, reads_mixed_region, reads_submit, reads_present}

pub chosen : {X : Type 0} (b : Bool) (x y z : X) → cond b x y ≡ z → ((b ≡ true) × (x ≡ z)) ⊎ ((b ≡ false) × (y ≡ z))
chosen true x y z h = inl (refl, h)
chosen false x y z h = inr (refl, h)

empty : (rest : List ℕ) → length rest ≡ 0 → rest ≡ []
empty [] h = refl
empty (b ∷ rest) h = absurd (omega (arith, h))

none_left_some : {X : Type 0} (x : X) (rest : List ℕ) (y : X) → if_none_left x rest ≡ Some y → (rest ≡ []) × (x ≡ y)
none_left_some x rest y e =
    elim (chosen (nat_eq (length rest) 0) _ _ _ e) [
      | inl end ↦ (empty rest (eqb-true (length rest) 0 end.0), some_is x y end.1)
      | inr left ↦ absurd cc
    ]

abbrev pub IsRead : ℕ → ℕ → ℕ → List ℕ → Event → Type 0
IsRead m kind n bytes e = Spells m e bytes × (id_of e ≡ n) × (type_of e ≡ kind)

-- the row reads what is spelled alone
pub record ReadsRow (m kind n : ℕ) (read : List ℕ → Option Event) : Type 0 where
  pub takes : (bytes : List ℕ) (e : Event) → AreBytes bytes → read bytes ≡ Some e → IsRead m kind n bytes e

-- the event that the row builds has these fields, is of this version, and has this number and type
abbrev IsBuilt : ℕ → ℕ → ℕ → Event → List Field → Type 0
IsBuilt m kind n e fields = (fields_of m e ≡ fields) × IsOfVersion m e × (id_of e ≡ n) × (type_of e ≡ kind)

row_takes : (m kind n : ℕ) {X : Type 0} (build : X → Event) (r : Reader X) (t : X → List Field) → Reads r t → ((x : X) → IsBuilt m kind n (build x) (t x))
    → (bytes : List ℕ) (e : Event) → AreBytes bytes → exactly build r bytes ≡ Some e → IsRead m kind n bytes e
unfolding exactly spelling
row_takes m kind n build r t p built bytes e h eq =
    let a = bind_some (r bytes) (λ x. if_none_left (build x.0) x.1) e eq in
    let x = a.0.0 in
    let end = none_left_some (build x) a.0.1 e a.2 in
    let g = p.takes bytes x a.0.1 h a.1 in
    let b = built x in
    let is : bytes ≡ text_of (t x) = g.0.parts ∙ ap (λ (z : List ℕ). text_of (t x) ++ z) end.0 ∙ append-nil (text_of (t x)) in
    let spells : Spells m (build x) bytes = record {
      fits = record { version = b.1; fields = subst (λ (fs : List Field). Fits fs) (sym b.0) g.1 };
      same = is ∙ ap (λ (fs : List Field). text_of fs) (sym b.0);
    } in
    subst (λ (z : Event). IsRead m kind n bytes z) end.1 (spells, b.2, b.3)

row : (m kind n : ℕ) {X : Type 0} (build : X → Event) {r : Reader X} {t : X → List Field} → Reads r t → ((x : X) → IsBuilt m kind n (build x) (t x))
    → ReadsRow m kind n (exactly build r)
row m kind n {X} build {r} {t} p built = record { takes = row_takes m kind n build r t p built }

-- what the row spells is read
row_again : (m : ℕ) {X : Type 0} (build : X → Event) (r : Reader X) (t : X → List Field) → Reads r t
    → ((x : X) → fields_of m (build x) ≡ t x) → (x : X) (bytes : List ℕ) → Spells m (build x) bytes → exactly build r bytes ≡ Some (build x)
unfolding exactly spelling
row_again m build r t p same x bytes s =
    let is : bytes ≡ text_of (t x) ++ [] = s.same ∙ ap (λ (fs : List Field). text_of fs) (same x) ∙ sym (append-nil (text_of (t x))) in
    ap (exactly build r) is
    ∙ ap (λ o. o >>= λ x. if_none_left (build x.0) x.1) (p.again x [] (subst (λ (fs : List Field). Fits fs) (same x) s.fits.fields))

-- ---- presents

abbrev fields_one : ℕ × (List ℕ × Present) → List Field
fields_one x = id_fields x.0 ++ (list_of id_fields x.1.0 ++ present_fields x.1.1)

abbrev fields_many : ℕ × (List ℕ × List Present) → List Field
fields_many x = id_fields x.0 ++ (list_of id_fields x.1.0 ++ list_of present_fields x.1.1)

present_one : (m : ℕ) → nat_eq m 1 ≡ true → (x : ℕ × (List ℕ × Present)) → fields_of m (with_one_present x) ≡ fields_one x
unfolding fields_of
present_one m one x = rw one refl

present_many : (m : ℕ) → nat_eq m 1 ≡ false → (x : ℕ × (List ℕ × List Present)) → fields_of m (with3 Event.QueuePresentKHR x) ≡ fields_many x
unfolding fields_of
present_many m many x = rw many refl

not_one : (m : ℕ) → nat_eq m 1 ≡ false → m ≡ 1 → ⊥
not_one m not is = grind (arith, nat_tests)

present_takes : (m : ℕ) (bytes : List ℕ) (e : Event) → AreBytes bytes → present_row m bytes ≡ Some e → IsRead m 4 48 bytes e
unfolding present_row id_of type_of
present_takes m bytes e h eq =
    elim (chosen (nat_eq m 1) _ _ _ eq) [
      | inl one ↦ row_takes m 4 48 with_one_present _ fields_one (reads_id ⊠ reads_ids ⊠ reads_present) (λ x. (present_one m one.0 x, λ is. refl, refl, refl)) bytes e h one.1
      | inr many ↦ row_takes m 4 48 (with3 Event.QueuePresentKHR) _ fields_many (reads_id ⊠ reads_ids ⊠ reads_list reads_present) (λ x. (present_many m many.0 x, λ is. absurd (not_one m many.0 is), refl, refl)) bytes e h many.1
    ]

present_again_one : (m : ℕ) → nat_eq m 1 ≡ true → (queue : ℕ) (waits : List ℕ) (presents : List Present) → length presents ≡ 1 → (bytes : List ℕ) → Spells m (Event.QueuePresentKHR queue waits presents) bytes
    → exactly with_one_present (read_id ⊗ read_ids ⊗ read_present) bytes ≡ Some (Event.QueuePresentKHR queue waits presents)
present_again_one m one queue waits [] long bytes s = absurd (omega (arith, long))
present_again_one m one queue waits (p ∷ []) long bytes s = row_again m with_one_present _ fields_one (reads_id ⊠ reads_ids ⊠ reads_present) (present_one m one) (queue, (waits, p)) bytes s
present_again_one m one queue waits (p ∷ q ∷ ps) long bytes s = absurd (omega (arith, long))

either : (b : Bool) → (b ≡ true) ⊎ (b ≡ false)
either true = inl refl
either false = inr refl

present_again : (m queue : ℕ) (waits : List ℕ) (presents : List Present) (bytes : List ℕ) → Spells m (Event.QueuePresentKHR queue waits presents) bytes
    → present_row m bytes ≡ Some (Event.QueuePresentKHR queue waits presents)
unfolding present_row
present_again m queue waits presents bytes s =
    elim (either (nat_eq m 1)) [
      | inl one ↦ cond-true (nat_eq m 1) _ _ one ∙ present_again_one m one queue waits presents (s.fits.version (eqb-true m 1 one)) bytes s
      | inr many ↦ cond-false (nat_eq m 1) _ _ many ∙ row_again m (with3 Event.QueuePresentKHR) _ fields_many (reads_id ⊠ reads_ids ⊠ reads_list reads_present) (present_many m many) (queue, (waits, presents)) bytes s
    ]

-- ---- the tables

infixr 5 ◌&◌
◌&◌ : {A B : Type 0} → A → B → A × B
a & b = (a, b)

abbrev AreRead : ℕ → ℕ → Rows → Type 0
AreRead m kind rows = AllByRecursion (λ row. ReadsRow m kind row.0 row.1) rows

calls_read : (m : ℕ) → AreRead m 4 (calls m)
unfolding fields_of id_of type_of
calls_read m =
    row m 4 1 _ (reads_id ⊠ reads_u32) (λ x. (refl, tt, refl, refl))
    & row m 4 2 _ reads_id (λ x. (refl, tt, refl, refl))
    & row m 4 3 _ (reads_id ⊠ reads_id) (λ x. (refl, tt, refl, refl))
    & row m 4 4 _ (reads_id ⊠ reads_id) (λ x. (refl, tt, refl, refl))
    & row m 4 5 _ (reads_id ⊠ reads_id) (λ x. (refl, tt, refl, refl))
    & row m 4 6 _ reads_id (λ x. (refl, tt, refl, refl))
    & row m 4 7 _ (reads_id ⊠ reads_id) (λ x. (refl, tt, refl, refl))
    & row m 4 8 _ (reads_id ⊠ reads_id ⊠ reads_u64) (λ x. (refl, tt, refl, refl))
    & row m 4 9 _ (reads_id ⊠ reads_id) (λ x. (refl, tt, refl, refl))
    & row m 4 10 _ (reads_id ⊠ reads_id ⊠ reads_u64 ⊠ reads_u64) (λ x. (refl, tt, refl, refl))
    & row m 4 11 _ (reads_id ⊠ reads_id) (λ x. (refl, tt, refl, refl))
    & row m 4 12 _ (reads_id ⊠ reads_id ⊠ reads_u64 ⊠ reads_u32) (λ x. (refl, tt, refl, refl))
    & row m 4 13 _ (reads_id ⊠ reads_id) (λ x. (refl, tt, refl, refl))
    & row m 4 14 _ (reads_id ⊠ reads_id ⊠ reads_id ⊠ reads_u64) (λ x. (refl, tt, refl, refl))
    & row m 4 15 _ (reads_id ⊠ reads_id ⊠ reads_u32 ⊠ reads_u32 ⊠ reads_u32 ⊠ reads_u32) (λ x. (refl, tt, refl, refl))
    & row m 4 16 _ (reads_id ⊠ reads_id) (λ x. (refl, tt, refl, refl))
    & row m 4 17 _ (reads_id ⊠ reads_id ⊠ reads_id ⊠ reads_u64) (λ x. (refl, tt, refl, refl))
    & row m 4 18 _ (reads_id ⊠ reads_id ⊠ reads_u32) (λ x. (refl, tt, refl, refl))
    & row m 4 19 _ (reads_id ⊠ reads_id) (λ x. (refl, tt, refl, refl))
    & row m 4 20 _ (reads_id ⊠ reads_id) (λ x. (refl, tt, refl, refl))
    & row m 4 21 _ (reads_id ⊠ reads_id ⊠ reads_ids) (λ x. (refl, tt, refl, refl))
    & row m 4 22 _ (reads_id ⊠ reads_id ⊠ reads_ids) (λ x. (refl, tt, refl, refl))
    & row m 4 23 _ (reads_id ⊠ reads_u32) (λ x. (refl, tt, refl, refl))
    & row m 4 24 _ reads_id (λ x. (refl, tt, refl, refl))
    & row m 4 25 _ reads_id (λ x. (refl, tt, refl, refl))
    & row m 4 26 _ (reads_id ⊠ reads_list reads_barrier) (λ x. (refl, tt, refl, refl))
    & row m 4 27 _ (reads_id ⊠ reads_id ⊠ reads_u64 ⊠ reads_u64 ⊠ reads_u32) (λ x. (refl, tt, refl, refl))
    & row m 4 28 _ (reads_id ⊠ reads_id ⊠ reads_u64 ⊠ reads_raw) (λ x. (refl, tt, refl, refl))
    & row m 4 29 _ (reads_id ⊠ reads_id ⊠ reads_id ⊠ reads_list reads_buffer_region) (λ x. (refl, tt, refl, refl))
    & row m 4 30 _ (reads_id ⊠ reads_id ⊠ reads_u32 ⊠ reads_id ⊠ reads_u32 ⊠ reads_list reads_image_region) (λ x. (refl, tt, refl, refl))
    & row m 4 31 _ (reads_id ⊠ reads_id ⊠ reads_id ⊠ reads_u32 ⊠ reads_list reads_mixed_region) (λ x. (refl, tt, refl, refl))
    & row m 4 32 _ (reads_id ⊠ reads_id ⊠ reads_u32 ⊠ reads_id ⊠ reads_list reads_mixed_region) (λ x. (refl, tt, refl, refl))
    & row m 4 33 _ (reads_id ⊠ reads_id ⊠ reads_u32 ⊠ reads_u32 ⊠ reads_u32 ⊠ reads_u32 ⊠ reads_u32) (λ x. (refl, tt, refl, refl))
    & row m 4 34 _ (reads_id ⊠ reads_id ⊠ reads_u32) (λ x. (refl, tt, refl, refl))
    & row m 4 35 _ (reads_id ⊠ reads_id) (λ x. (refl, tt, refl, refl))
    & row m 4 36 _ (reads_id ⊠ reads_ids) (λ x. (refl, tt, refl, refl))
    & row m 4 37 _ (reads_id ⊠ reads_ids ⊠ reads_u32 ⊠ reads_u32) (λ x. (refl, tt, refl, refl))
    & row m 4 38 _ (reads_id ⊠ reads_id ⊠ reads_u32) (λ x. (refl, tt, refl, refl))
    & row m 4 39 _ (reads_id ⊠ reads_id) (λ x. (refl, tt, refl, refl))
    & row m 4 40 _ (reads_id ⊠ reads_id) (λ x. (refl, tt, refl, refl))
    & row m 4 41 _ (reads_id ⊠ reads_list reads_submit ⊠ reads_id) (λ x. (refl, tt, refl, refl))
    & row m 4 42 _ reads_id (λ x. (refl, tt, refl, refl))
    & row m 4 43 _ reads_id (λ x. (refl, tt, refl, refl))
    & row m 4 44 _ (reads_id ⊠ reads_id ⊠ reads_id ⊠ reads_u32 ⊠ reads_u32 ⊠ reads_u32 ⊠ reads_u32 ⊠ reads_u32) (λ x. (refl, tt, refl, refl))
    & row m 4 45 _ (reads_id ⊠ reads_id) (λ x. (refl, tt, refl, refl))
    & row m 4 46 _ (reads_id ⊠ reads_id ⊠ reads_ids) (λ x. (refl, tt, refl, refl))
    & row m 4 47 _ (reads_id ⊠ reads_id ⊠ reads_id ⊠ reads_id ⊠ reads_u32 ⊠ reads_u32) (λ x. (refl, tt, refl, refl))
    & record { takes = present_takes m }
    & tt

metas_read : (m : ℕ) → AreRead m 3 metas
unfolding fields_of id_of type_of
metas_read m =
    row m 3 2 _ (reads_id ⊠ reads_u64 ⊠ reads_raw) (λ x. (refl, tt, refl, refl))
    & row m 3 3 _ (reads_id ⊠ reads_u32 ⊠ reads_raw) (λ x. (refl, tt, refl, refl))
    & row m 3 4 _ (reads_id ⊠ reads_words) (λ x. (refl, tt, refl, refl))
    & row m 3 5 _ (reads_id ⊠ reads_u32) (λ x. (refl, tt, refl, refl))
    & tt

markers_read : (m : ℕ) → AreRead m 2 markers
unfolding fields_of id_of type_of
markers_read m =
    row m 2 1 _ reads_u64 (λ x. (refl, tt, refl, refl))
    & row m 2 2 _ reads_u64 (λ x. (refl, tt, refl, refl))
    & tt

by_kind : (m kind : ℕ) (b4 b3 b2 : Bool) → nat_eq kind 4 ≡ b4 → nat_eq kind 3 ≡ b3 → nat_eq kind 2 ≡ b2
    → AreRead m kind (cond b4 (calls m) (cond b3 metas (cond b2 markers [])))
by_kind m kind true b3 b2 is4 is3 is2 = subst (λ k. AreRead m k (calls m)) (sym (eqb-true kind 4 is4)) (calls_read m)
by_kind m kind false true b2 is4 is3 is2 = subst (λ k. AreRead m k metas) (sym (eqb-true kind 3 is3)) (metas_read m)
by_kind m kind false false true is4 is3 is2 = subst (λ k. AreRead m k markers) (sym (eqb-true kind 2 is2)) (markers_read m)
by_kind m kind false false false is4 is3 is2 = tt

by_row_takes : (m kind n : ℕ) (rows : Rows) → AreRead m kind rows → (bytes : List ℕ) (e : Event) → AreBytes bytes → by_row rows n bytes ≡ Some e → IsRead m kind n bytes e
unfolding by_row
by_row_takes m kind n [] all bytes e h eq = absurd cc
by_row_takes m kind n (row ∷ rows) all bytes e h eq =
    elim (chosen (nat_eq row.0 n) _ _ _ eq) [
      | inl here ↦ subst (λ k. IsRead m kind k bytes e) (eqb-true row.0 n here.0) (all.0.takes bytes e h here.1)
      | inr later ↦ by_row_takes m kind n rows all.1 bytes e h later.1
    ]

pub read_is_spelled : ReadIsSpelled
unfolding read_event
read_is_spelled m kind n bytes e h eq =
    by_row_takes m kind n (rows_of m kind) (by_kind m kind (nat_eq kind 4) (nat_eq kind 3) (nat_eq kind 2) refl refl refl) bytes e h eq

-- ---- an event that is spelled

pub spelled_is_read : SpelledIsRead
unfolding read_event by_row fields_of id_of type_of
spelled_is_read m bytes (Event.CreateInstance a b) s = row_again m (with2 Event.CreateInstance) _ _ (reads_id ⊠ reads_u32) (λ x. refl) (a, b) bytes s
spelled_is_read m bytes (Event.DestroyInstance a) s = row_again m (with1 Event.DestroyInstance) _ _ reads_id (λ x. refl) a bytes s
spelled_is_read m bytes (Event.CreateHeadlessSurfaceEXT a b) s = row_again m (with2 Event.CreateHeadlessSurfaceEXT) _ _ (reads_id ⊠ reads_id) (λ x. refl) (a, b) bytes s
spelled_is_read m bytes (Event.DestroySurfaceKHR a b) s = row_again m (with2 Event.DestroySurfaceKHR) _ _ (reads_id ⊠ reads_id) (λ x. refl) (a, b) bytes s
spelled_is_read m bytes (Event.CreateDevice a b) s = row_again m (with2 Event.CreateDevice) _ _ (reads_id ⊠ reads_id) (λ x. refl) (a, b) bytes s
spelled_is_read m bytes (Event.DestroyDevice a) s = row_again m (with1 Event.DestroyDevice) _ _ reads_id (λ x. refl) a bytes s
spelled_is_read m bytes (Event.GetDeviceQueue a b) s = row_again m (with2 Event.GetDeviceQueue) _ _ (reads_id ⊠ reads_id) (λ x. refl) (a, b) bytes s
spelled_is_read m bytes (Event.AllocateMemory a b c) s = row_again m (with3 Event.AllocateMemory) _ _ (reads_id ⊠ reads_id ⊠ reads_u64) (λ x. refl) (a, (b, c)) bytes s
spelled_is_read m bytes (Event.FreeMemory a b) s = row_again m (with2 Event.FreeMemory) _ _ (reads_id ⊠ reads_id) (λ x. refl) (a, b) bytes s
spelled_is_read m bytes (Event.MapMemory a b c d) s = row_again m (with4 Event.MapMemory) _ _ (reads_id ⊠ reads_id ⊠ reads_u64 ⊠ reads_u64) (λ x. refl) (a, (b, (c, d))) bytes s
spelled_is_read m bytes (Event.UnmapMemory a b) s = row_again m (with2 Event.UnmapMemory) _ _ (reads_id ⊠ reads_id) (λ x. refl) (a, b) bytes s
spelled_is_read m bytes (Event.CreateBuffer a b c d) s = row_again m (with4 Event.CreateBuffer) _ _ (reads_id ⊠ reads_id ⊠ reads_u64 ⊠ reads_u32) (λ x. refl) (a, (b, (c, d))) bytes s
spelled_is_read m bytes (Event.DestroyBuffer a b) s = row_again m (with2 Event.DestroyBuffer) _ _ (reads_id ⊠ reads_id) (λ x. refl) (a, b) bytes s
spelled_is_read m bytes (Event.BindBufferMemory a b c d) s = row_again m (with4 Event.BindBufferMemory) _ _ (reads_id ⊠ reads_id ⊠ reads_id ⊠ reads_u64) (λ x. refl) (a, (b, (c, d))) bytes s
spelled_is_read m bytes (Event.CreateImage a b c d e f) s = row_again m (with6 Event.CreateImage) _ _ (reads_id ⊠ reads_id ⊠ reads_u32 ⊠ reads_u32 ⊠ reads_u32 ⊠ reads_u32) (λ x. refl) (a, (b, (c, (d, (e, f))))) bytes s
spelled_is_read m bytes (Event.DestroyImage a b) s = row_again m (with2 Event.DestroyImage) _ _ (reads_id ⊠ reads_id) (λ x. refl) (a, b) bytes s
spelled_is_read m bytes (Event.BindImageMemory a b c d) s = row_again m (with4 Event.BindImageMemory) _ _ (reads_id ⊠ reads_id ⊠ reads_id ⊠ reads_u64) (λ x. refl) (a, (b, (c, d))) bytes s
spelled_is_read m bytes (Event.CreateCommandPool a b c) s = row_again m (with3 Event.CreateCommandPool) _ _ (reads_id ⊠ reads_id ⊠ reads_u32) (λ x. refl) (a, (b, c)) bytes s
spelled_is_read m bytes (Event.DestroyCommandPool a b) s = row_again m (with2 Event.DestroyCommandPool) _ _ (reads_id ⊠ reads_id) (λ x. refl) (a, b) bytes s
spelled_is_read m bytes (Event.ResetCommandPool a b) s = row_again m (with2 Event.ResetCommandPool) _ _ (reads_id ⊠ reads_id) (λ x. refl) (a, b) bytes s
spelled_is_read m bytes (Event.AllocateCommandBuffers a b c) s = row_again m (with3 Event.AllocateCommandBuffers) _ _ (reads_id ⊠ reads_id ⊠ reads_ids) (λ x. refl) (a, (b, c)) bytes s
spelled_is_read m bytes (Event.FreeCommandBuffers a b c) s = row_again m (with3 Event.FreeCommandBuffers) _ _ (reads_id ⊠ reads_id ⊠ reads_ids) (λ x. refl) (a, (b, c)) bytes s
spelled_is_read m bytes (Event.BeginCommandBuffer a b) s = row_again m (with2 Event.BeginCommandBuffer) _ _ (reads_id ⊠ reads_u32) (λ x. refl) (a, b) bytes s
spelled_is_read m bytes (Event.EndCommandBuffer a) s = row_again m (with1 Event.EndCommandBuffer) _ _ reads_id (λ x. refl) a bytes s
spelled_is_read m bytes (Event.ResetCommandBuffer a) s = row_again m (with1 Event.ResetCommandBuffer) _ _ reads_id (λ x. refl) a bytes s
spelled_is_read m bytes (Event.CmdPipelineBarrier a b) s = row_again m (with2 Event.CmdPipelineBarrier) _ _ (reads_id ⊠ reads_list reads_barrier) (λ x. refl) (a, b) bytes s
spelled_is_read m bytes (Event.CmdFillBuffer a b c d e) s = row_again m (with5 Event.CmdFillBuffer) _ _ (reads_id ⊠ reads_id ⊠ reads_u64 ⊠ reads_u64 ⊠ reads_u32) (λ x. refl) (a, (b, (c, (d, e)))) bytes s
spelled_is_read m bytes (Event.CmdUpdateBuffer a b c d) s = row_again m (with4 Event.CmdUpdateBuffer) _ _ (reads_id ⊠ reads_id ⊠ reads_u64 ⊠ reads_raw) (λ x. refl) (a, (b, (c, d))) bytes s
spelled_is_read m bytes (Event.CmdCopyBuffer a b c d) s = row_again m (with4 Event.CmdCopyBuffer) _ _ (reads_id ⊠ reads_id ⊠ reads_id ⊠ reads_list reads_buffer_region) (λ x. refl) (a, (b, (c, d))) bytes s
spelled_is_read m bytes (Event.CmdCopyImage a b c d e f) s = row_again m (with6 Event.CmdCopyImage) _ _ (reads_id ⊠ reads_id ⊠ reads_u32 ⊠ reads_id ⊠ reads_u32 ⊠ reads_list reads_image_region) (λ x. refl) (a, (b, (c, (d, (e, f))))) bytes s
spelled_is_read m bytes (Event.CmdCopyBufferToImage a b c d e) s = row_again m (with5 Event.CmdCopyBufferToImage) _ _ (reads_id ⊠ reads_id ⊠ reads_id ⊠ reads_u32 ⊠ reads_list reads_mixed_region) (λ x. refl) (a, (b, (c, (d, e)))) bytes s
spelled_is_read m bytes (Event.CmdCopyImageToBuffer a b c d e) s = row_again m (with5 Event.CmdCopyImageToBuffer) _ _ (reads_id ⊠ reads_id ⊠ reads_u32 ⊠ reads_id ⊠ reads_list reads_mixed_region) (λ x. refl) (a, (b, (c, (d, e)))) bytes s
spelled_is_read m bytes (Event.CmdClearColorImage a b c d e f g) s = row_again m (with7 Event.CmdClearColorImage) _ _ (reads_id ⊠ reads_id ⊠ reads_u32 ⊠ reads_u32 ⊠ reads_u32 ⊠ reads_u32 ⊠ reads_u32) (λ x. refl) (a, (b, (c, (d, (e, (f, g)))))) bytes s
spelled_is_read m bytes (Event.CreateFence a b c) s = row_again m (with3 Event.CreateFence) _ _ (reads_id ⊠ reads_id ⊠ reads_u32) (λ x. refl) (a, (b, c)) bytes s
spelled_is_read m bytes (Event.DestroyFence a b) s = row_again m (with2 Event.DestroyFence) _ _ (reads_id ⊠ reads_id) (λ x. refl) (a, b) bytes s
spelled_is_read m bytes (Event.ResetFences a b) s = row_again m (with2 Event.ResetFences) _ _ (reads_id ⊠ reads_ids) (λ x. refl) (a, b) bytes s
spelled_is_read m bytes (Event.WaitForFences a b c d) s = row_again m (with4 Event.WaitForFences) _ _ (reads_id ⊠ reads_ids ⊠ reads_u32 ⊠ reads_u32) (λ x. refl) (a, (b, (c, d))) bytes s
spelled_is_read m bytes (Event.GetFenceStatus a b c) s = row_again m (with3 Event.GetFenceStatus) _ _ (reads_id ⊠ reads_id ⊠ reads_u32) (λ x. refl) (a, (b, c)) bytes s
spelled_is_read m bytes (Event.CreateSemaphore a b) s = row_again m (with2 Event.CreateSemaphore) _ _ (reads_id ⊠ reads_id) (λ x. refl) (a, b) bytes s
spelled_is_read m bytes (Event.DestroySemaphore a b) s = row_again m (with2 Event.DestroySemaphore) _ _ (reads_id ⊠ reads_id) (λ x. refl) (a, b) bytes s
spelled_is_read m bytes (Event.QueueSubmit a b c) s = row_again m (with3 Event.QueueSubmit) _ _ (reads_id ⊠ reads_list reads_submit ⊠ reads_id) (λ x. refl) (a, (b, c)) bytes s
spelled_is_read m bytes (Event.QueueWaitIdle a) s = row_again m (with1 Event.QueueWaitIdle) _ _ reads_id (λ x. refl) a bytes s
spelled_is_read m bytes (Event.DeviceWaitIdle a) s = row_again m (with1 Event.DeviceWaitIdle) _ _ reads_id (λ x. refl) a bytes s
spelled_is_read m bytes (Event.CreateSwapchainKHR a b c d e f g h) s = row_again m (with8 Event.CreateSwapchainKHR) _ _ (reads_id ⊠ reads_id ⊠ reads_id ⊠ reads_u32 ⊠ reads_u32 ⊠ reads_u32 ⊠ reads_u32 ⊠ reads_u32) (λ x. refl) (a, (b, (c, (d, (e, (f, (g, h))))))) bytes s
spelled_is_read m bytes (Event.DestroySwapchainKHR a b) s = row_again m (with2 Event.DestroySwapchainKHR) _ _ (reads_id ⊠ reads_id) (λ x. refl) (a, b) bytes s
spelled_is_read m bytes (Event.GetSwapchainImagesKHR a b c) s = row_again m (with3 Event.GetSwapchainImagesKHR) _ _ (reads_id ⊠ reads_id ⊠ reads_ids) (λ x. refl) (a, (b, c)) bytes s
spelled_is_read m bytes (Event.AcquireNextImageKHR a b c d e f) s = row_again m (with6 Event.AcquireNextImageKHR) _ _ (reads_id ⊠ reads_id ⊠ reads_id ⊠ reads_id ⊠ reads_u32 ⊠ reads_u32) (λ x. refl) (a, (b, (c, (d, (e, f))))) bytes s
spelled_is_read m bytes (Event.QueuePresentKHR a b c) s = present_again m a b c bytes s
spelled_is_read m bytes (Event.FillMemory a b c) s = row_again m (with3 Event.FillMemory) _ _ (reads_id ⊠ reads_u64 ⊠ reads_raw) (λ x. refl) (a, (b, c)) bytes s
spelled_is_read m bytes (Event.InitImage a b c) s = row_again m (with3 Event.InitImage) _ _ (reads_id ⊠ reads_u32 ⊠ reads_raw) (λ x. refl) (a, (b, c)) bytes s
spelled_is_read m bytes (Event.SetSwapchainState a b) s = row_again m (with2 Event.SetSwapchainState) _ _ (reads_id ⊠ reads_words) (λ x. refl) (a, b) bytes s
spelled_is_read m bytes (Event.SetSemaphoreState a b) s = row_again m (with2 Event.SetSemaphoreState) _ _ (reads_id ⊠ reads_u32) (λ x. refl) (a, b) bytes s
spelled_is_read m bytes (Event.BeginSection a) s = row_again m (with1 Event.BeginSection) _ _ reads_u64 (λ x. refl) a bytes s
spelled_is_read m bytes (Event.EndSection a) s = row_again m (with1 Event.EndSection) _ _ reads_u64 (λ x. refl) a bytes s
