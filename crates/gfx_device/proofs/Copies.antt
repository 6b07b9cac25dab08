-- Places of a device after one of them has changed.
use Rattle.std.proofs.Common.{◌≡◌, ◌≢◌, ℕ, ◌<◌, Bool, true, false, cond, inl, inr, List, length, get_or, Option, Some, None, refl, ap, sym, ◌∙◌}
use Rattle.std.specs.Prelude.{Result, Ok, Err, OnOk, unwrap_or, []}
use Rattle.std.specs.Option.{option_map}
use Rattle.std.proofs.lemmas.Bool.{cases_lt, eq-eqb, ne_eqb, eqb-true, eqb-false}
use Rattle.std.proofs.lemmas.List.{get_or_past, get_or-set_same, get_or-set_other}
use Rattle.slab.specs.Slab.{Slab, get, with_value, Updates}
use Rattle.gfx_device.specs.declared.op.Handle.{Handle}
use Rattle.gfx_device.specs.Places.{Places, IsChanged, same_handle}

abbrev pub of_slab : Slab (List ℕ) → Places
of_slab s handle = get s handle.key

same_key : (a b : Handle) → a.key ≡ b.key → a ≡ b
same_key a b e = ap (λ k. record { key = k }) e

-- from what one handle has and what the others have
pub changed_from : (old new : Places) (at : Handle) (f : List ℕ → List ℕ) (b : List ℕ) → old at ≡ Some b → new at ≡ Some (f b)
    → ((handle : Handle) → handle ≢ at → new handle ≡ old handle) → IsChanged at f old new
changed_from old new at f b was is others handle = by (same_handle handle at) refl
  where
    by : (t : Bool) → same_handle handle at ≡ t → new handle ≡ cond t (option_map f (old handle)) (old handle)
    by true e =
        let same = same_key handle at (eqb-true handle.key at.key e) in
        ap new same ∙ is ∙ sym (ap (option_map f) (ap old same ∙ was))
    by false e = others handle (λ same. eqb-false handle.key at.key e (ap (λ h. h.key) same))

-- the value under one key was written
pub changed_slot : (s : Slab (List ℕ)) (at : Handle) (f : List ℕ → List ℕ) (b x : List ℕ) → get s at.key ≡ Some b → x ≡ f b
    → IsChanged at f (of_slab s) (of_slab (with_value s at.key x))
changed_slot s at f b x was is =
    changed_from (of_slab s) (of_slab (with_value s at.key x)) at f b was
    (get_or-set_same s.slots at.key (Some x) None (there s.slots at.key b was) ∙ ap (λ v. Some v) is)
    (λ handle other. get_or-set_other s.slots at.key handle.key (Some x) None (λ same. other (same_key handle at same)))
  where
    there : (slots : List (Option (List ℕ))) (key : ℕ) (b : List ℕ) → get_or slots key None ≡ Some b → key < length slots
    there slots key b was =
        elim (cases_lt key (length slots)) [ inl h ↦ h | inr h ↦ absurd (let e : None ≡ Some b = sym (get_or_past slots key None h) ∙ was in (cc)) ]

-- one value was taken out, changed and put back under its key
pub changed_back : (s taken back : Slab (List ℕ)) (at : Handle) (key : ℕ) (f : List ℕ → List ℕ) (b x : List ℕ) → get s at.key ≡ Some b
    → Updates s taken at.key None → key ≡ at.key → Updates taken back key (Some x) → x ≡ f b → IsChanged at f (of_slab s) (of_slab back)
changed_back s taken back at key f b x was out same into is =
    changed_from (of_slab s) (of_slab back) at f b was
    (ap (get back) (sym same) ∙ into.changed ∙ ap (λ v. Some v) is)
    (λ handle other.
    let apart : handle.key ≢ at.key = λ e. other (same_key handle at e) in
    into.others handle.key (λ e. apart (e ∙ same)) ∙ out.others handle.key apart)

-- what holds where a call answered Ok
pub from_ok : {T E : Type 0} (r : Result T E) (v : T) (P : Type 0) → r ≡ Ok v → OnOk r P → P
from_ok (Ok x) v P e h = h
from_ok (Err x) v P e h = absurd (cc)

-- the source of a copy from another place, while the target is taken out
pub same_source : (s taken : Slab (List ℕ)) (to from : Handle) (source : List ℕ) → ¬ (to.key ≡ from.key) → Updates s taken to.key None
    → get taken from.key ≡ Some source → source ≡ unwrap_or (get s from.key) []
same_source s taken to from source apart out is =
    sym (ap (λ o. unwrap_or o []) (sym (out.others from.key (λ e. apart (sym e))) ∙ is))

pub same_handle_true : (a b : Handle) → a.key ≡ b.key → same_handle a b ≡ true
same_handle_true a b e = eq-eqb a.key b.key e

pub same_handle_false : (a b : Handle) → ¬ (a.key ≡ b.key) → same_handle a b ≡ false
same_handle_false a b e = ne_eqb a.key b.key e
