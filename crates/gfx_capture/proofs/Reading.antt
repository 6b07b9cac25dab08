-- Blocks that are written of entries are read as these.
use Rattle.std.proofs.Common.{◌≡◌, ℕ, suc, ◌+◌, ◌≤◌, List, [], ◌∷◌, ◌++◌, length, drop, refl, sym, ap, ◌∙◌, arith, append-nil, append_assoc, length-append, Some}
use Rattle.std.specs.List.{AllByRecursion}
use Rattle.std.proofs.lemmas.List.{drop_at}
use Rattle.gfx_model.specs.Events.{Event}
use Rattle.gfx_model.specs.Spelling.{encoding}
use Rattle.gfx_model.specs.Blocks.{size_field, type_field, payload_field, effect}
use Rattle.gfx_script_model.specs.Runs.{Entry, log_bytes}
use Rattle.gfx_grammar.specs.Rows.{read_content}
use Rattle.gfx_grammar.specs.Framing.{CanBeWritten, IsBlock}
use Rattle.gfx_grammar.proofs.FramingLaws.{size_field-append, type_field-append, payload_field-append}
use Rattle.gfx_grammar.proofs.WrittenLaws.{encoding-block}
use Rattle.gfx_capture.specs.Entry.{entry, said, entries_in, AreEntries}

-- the block of an entry is its first
first_read : (m n t : ℕ) (e : Event) (rest : List ℕ) → CanBeWritten m t e → entries_in m (suc n) (encoding m t e ++ rest) ≡ entry t e ∷ entries_in m n rest
unfolding entries_in
first_read m n t e rest can =
    let block = encoding m t e in
    let all = block ++ rest in
    let is : IsBlock m block (effect t e) = encoding-block m t e can in
    let there : 12 ≤ length block = omega (arith, is.long) in
    let size : size_field all ≡ size_field block = size_field-append block rest there in
    let kind : type_field all ≡ type_field block = type_field-append block rest there in
    let load : payload_field all ≡ payload_field block = payload_field-append block rest (omega (arith, is.long)) in
    let content : read_content m (type_field all) (payload_field all) ≡ Some (effect t e) =
    ap (λ k. read_content m k (payload_field all)) kind ∙ ap (read_content m (type_field block)) load ∙ is.payload in
    ap (λ c. said c (entries_in m n (drop (12 + size_field all) all))) content
    ∙ ap (λ l. entry t e ∷ entries_in m n l) (drop_at block rest (12 + size_field all) (omega (arith, size, is.long)))

entries_read : (m : ℕ) (es : List Entry) → AllByRecursion (λ e. CanBeWritten m e.thread e.event) es → entries_in m (length es) (log_bytes m es) ≡ es
unfolding entries_in
entries_read m [] can = refl
entries_read m (e ∷ es) can = first_read m (length es) e.thread e.event (log_bytes m es) can.0 ∙ ap (λ l. e ∷ l) (entries_read m es can.1)

pub read : (m n : ℕ) (bytes : List ℕ) (es : List Entry) → AreEntries m n bytes es → entries_in m n bytes ≡ es
read m n bytes es are = ap (λ k. entries_in m k bytes) (sym are.count) ∙ ap (entries_in m (length es)) are.spelled ∙ entries_read m es are.written

-- ---- one block more

pub log_bytes-append : (m : ℕ) (xs ys : List Entry) → log_bytes m (xs ++ ys) ≡ log_bytes m xs ++ log_bytes m ys
log_bytes-append m [] ys = refl
log_bytes-append m (x ∷ xs) ys = ap (λ l. encoding m x.thread x.event ++ l) (log_bytes-append m xs ys) ∙ sym (append_assoc (encoding m x.thread x.event) (log_bytes m xs) (log_bytes m ys))

module _ {X : Type 0} where
  pub all-snoc : (P : X → Type 0) (xs : List X) (x : X) → AllByRecursion P xs → P x → AllByRecursion P (xs ++ x ∷ [])
  all-snoc P [] x all p = (p, tt)
  all-snoc P (y ∷ ys) x all p = (all.0, all-snoc P ys x all.1 p)

pub more : (m n t : ℕ) (e : Event) (bytes : List ℕ) (es : List Entry) → AreEntries m n bytes es → CanBeWritten m t e → AreEntries m (n + 1) (bytes ++ encoding m t e) (es ++ entry t e ∷ [])
more m n t e bytes es are can = record {
  count = length-append es (entry t e ∷ []) ∙ ap (λ k. k + 1) are.count;
  spelled = ap (λ l. l ++ encoding m t e) are.spelled ∙ sym (log_bytes-append m es (entry t e ∷ []) ∙ ap (λ l. log_bytes m es ++ l) (append-nil (encoding m t e)));
  written = all-snoc (λ e. CanBeWritten m e.thread e.event) es (entry t e) are.written can;
}
