-- Memories that are found by their places.
use Rattle.std.proofs.Common.{◌≡◌, ℕ, zero, suc, ◌+◌, ◌-◌, ◌<◌, ◌≤◌, false, refl, ap, sym, ◌∙◌, List, [], ◌∷◌, ◌++◌, length, set, get_or, drop, ◌==◌, ◌⊎◌, Some, None, arith, inl, inr}
use Rattle.std.specs.Ordering.{nat_cmp}
use Rattle.std.specs.FinMap as fin
use Rattle.std.proofs.lemmas.List.{drop-map, length-map, length-append, drop-append-le, get_or_append_left, drop-set-add, get_or-drop, length-drop}
use Rattle.std.proofs.Math.Seq.{get_or-append_seam, drop-cons}
use Rattle.std.proofs.lemmas.Bool.{cases_eq, ne_eqb, or_parts}
use Rattle.gfx_model.specs.Checks.{is_among}
use Rattle.gfx_shadow.specs.declared.memory.MemoryBytes.{MemoryBytes}
use Rattle.gfx_shadow.specs.Memories.{numbers_of}
use Rattle.gfx_shadow.specs.Places.{IsAt, ArePlaces}
use Rattle.gfx_shadow.proofs.Adding.{among-append}
use Rattle.gfx_shadow.proofs.Keys.{inserted, insert_beside, removed, remove_beside}

-- ---- a memory that is left, among all

pub numbers_left : (first : ℕ) (ms : List MemoryBytes) → numbers_of (drop first ms) ≡ drop first (numbers_of ms)
numbers_left first ms = sym (drop-map (λ m. m.memory) first ms)

pub set_left : (first at : ℕ) (ms : List MemoryBytes) (x : MemoryBytes) → first ≤ at → drop first (set ms at x) ≡ set (drop first ms) (at - first) x
set_left first at ms x low =
    let e : at ≡ first + (at - first) = omega (arith, low) in
    ap (λ k. drop first (set ms k x)) e ∙ drop-set-add first ms (at - first) x

pub numbers_set : (ms : List MemoryBytes) (at : ℕ) (x : MemoryBytes) → ((d : MemoryBytes) → x.memory ≡ (get_or ms at d).memory) → numbers_of (set ms at x) ≡ numbers_of ms
numbers_set [] at x e = refl
numbers_set (m ∷ ms) zero x e = ap (λ n. n ∷ numbers_of ms) (e x)
numbers_set (m ∷ ms) (suc at) x e = ap (λ l. m.memory ∷ l) (numbers_set ms at x e)

pub number_at : (ms : List MemoryBytes) (at : ℕ) (d : MemoryBytes) → at < length ms → (get_or ms at d).memory ≡ get_or (numbers_of ms) at 0
number_at [] at d l = absurd (omega (arith, l))
number_at (m ∷ ms) zero d l = refl
number_at (m ∷ ms) (suc at) d l = number_at ms at d (omega (arith, l))

module _ (ms : List MemoryBytes) (first memory at : ℕ) (h : IsAt first (numbers_of ms) memory at) where
  below : at < length ms
  below = let l = h.inside in let e = length-map ms (λ m. m.memory) in omega (arith, l, e)

  pub inside_left : at - first < length (drop first ms)
  inside_left = let l = below in let e = length-drop first ms in let f = h.left in omega (arith, l, e, f)

  pub stands_left : (d : MemoryBytes) → (get_or (drop first ms) (at - first) d).memory ≡ memory
  stands_left d =
      let f = h.left in
      let e : first + (at - first) ≡ at = omega (arith, f) in
      ap (λ m. m.memory) (get_or-drop first ms (at - first) d ∙ ap (λ k. get_or ms k d) e) ∙ number_at ms at d below ∙ h.same 0

  pub row_left : (r : MemoryBytes) → r ≡ get_or ms at r → r ≡ get_or (drop first ms) (at - first) r
  row_left r is =
      let f = h.left in
      let e : at ≡ first + (at - first) = omega (arith, f) in
      is ∙ ap (λ k. get_or ms k r) e ∙ sym (get_or-drop first ms (at - first) r)

-- ---- places

-- a memory more, behind the others
pub places_new : (first memory : ℕ) (numbers : List ℕ) (places : fin.FinMap nat_cmp ℕ) → first ≤ length numbers → ArePlaces first numbers places
    → ArePlaces first (numbers ++ memory ∷ []) (fin.insert places memory (length numbers))
places_new first memory numbers places front p = record {
  found = λ m at e. found m at e (cases_eq m memory);
  missing = λ m e. missing m e (cases_eq m memory);
}
  where
    more : length (numbers ++ memory ∷ []) ≡ length numbers + 1
    more = length-append numbers (memory ∷ [])

    found : (m at : ℕ) → fin.get (fin.insert places memory (length numbers)) m ≡ Some at → (m ≡ memory) ⊎ (m ≡ memory → ⊥) → IsAt first (numbers ++ memory ∷ []) m at
    found m at e (inl same) =
        let here : Some at ≡ Some (length numbers) = sym e ∙ ap (fin.get (fin.insert places memory (length numbers))) same ∙ inserted places memory (length numbers) in
        let a : at ≡ length numbers = cc in
        record {
          left = let l = more in omega (arith, front, a);
          inside = let l = more in omega (arith, l, a);
          same = λ d. ap (λ k. get_or (numbers ++ memory ∷ []) k d) a ∙ get_or-append_seam numbers memory [] d ∙ sym same;
        }
    found m at e (inr other) =
        let old = p.found m at (sym (insert_beside places memory m (length numbers) other) ∙ e) in
        record {
          left = old.left;
          inside = let l = more in let i = old.inside in omega (arith, l, i);
          same = λ d. get_or_append_left numbers (memory ∷ []) d at old.inside ∙ old.same d;
        }

    missing : (m : ℕ) → fin.get (fin.insert places memory (length numbers)) m ≡ None → (m ≡ memory) ⊎ (m ≡ memory → ⊥) → is_among m (drop first (numbers ++ memory ∷ [])) ≡ false
    missing m e (inl same) = absurd (
        let here : None ≡ Some (length numbers) = sym e ∙ ap (fin.get (fin.insert places memory (length numbers))) same ∙ inserted places memory (length numbers) in cc)
    missing m e (inr other) =
        let old = p.missing m (sym (insert_beside places memory m (length numbers) other) ∙ e) in
        ap (is_among m) (drop-append-le first numbers (memory ∷ []) front)
        ∙ among-append (drop first numbers) m memory old (ne_eqb memory m (λ s. other (sym s)))

-- the first memory that is left goes
pub places_fewer : (first memory : ℕ) (numbers : List ℕ) (places : fin.FinMap nat_cmp ℕ) → first < length numbers → ((d : ℕ) → get_or numbers first d ≡ memory)
    → is_among memory (drop (first + 1) numbers) ≡ false → ArePlaces first numbers places → ArePlaces (first + 1) numbers (fin.remove places memory)
places_fewer first memory numbers places some here other p = record {
  found = λ m at e. found m at e (cases_eq m memory);
  missing = λ m e. missing m e (cases_eq m memory);
}
  where
    front : drop first numbers ≡ get_or numbers first 0 ∷ drop (first + 1) numbers
    front = let e : suc first ≡ first + 1 = omega arith in drop-cons numbers first 0 some ∙ ap (λ k. get_or numbers first 0 ∷ drop k numbers) e

    found : (m at : ℕ) → fin.get (fin.remove places memory) m ≡ Some at → (m ≡ memory) ⊎ (m ≡ memory → ⊥) → IsAt (first + 1) numbers m at
    found m at e (inl same) = absurd (let none : None ≡ Some at = sym (removed places memory) ∙ ap (fin.get (fin.remove places memory)) (sym same) ∙ e in cc)
    found m at e (inr apart) =
        let old = p.found m at (sym (remove_beside places memory m apart) ∙ e) in
        let further : at ≡ first → ⊥ = λ s. apart (sym (old.same 0) ∙ ap (λ k. get_or numbers k 0) s ∙ here 0) in
        record {
          left = let l = old.left in omega (arith, l, further);
          inside = old.inside;
          same = old.same;
        }

    missing : (m : ℕ) → fin.get (fin.remove places memory) m ≡ None → (m ≡ memory) ⊎ (m ≡ memory → ⊥) → is_among m (drop (first + 1) numbers) ≡ false
    missing m e (inl same) = ap (λ n. is_among n (drop (first + 1) numbers)) same ∙ other
    missing m e (inr apart) =
        let old = p.missing m (sym (remove_beside places memory m apart) ∙ e) in
        (or_parts (get_or numbers first 0 == m) (is_among m (drop (first + 1) numbers)) (ap (is_among m) (sym front) ∙ old)).1

-- no memory is left, and no place
pub places_none : (places : fin.FinMap nat_cmp ℕ) (first : ℕ) (numbers : List ℕ) → length numbers ≤ first → ArePlaces first numbers places → ArePlaces 0 [] places
places_none places first numbers all p = record {
  found = λ m at e. let old = p.found m at e in let l = old.left in let i = old.inside in absurd (omega (arith, l, i, all));
  missing = λ m e. refl;
}
