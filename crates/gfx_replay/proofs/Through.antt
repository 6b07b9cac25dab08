-- The bytes of places through their handles.
use Rattle.std.proofs.Common.{◌≡◌, ◌≢◌, ℕ, Bool, true, false, cond, refl, sym, ap, ◌∙◌, subst, List, length, Option, Some, None, is_some, option_and_then, unwrap_or}
use Rattle.std.specs.Option.{option_map}
use Rattle.std.proofs.lemmas.Bool.{eqb-true, eqb-false}
use Rattle.gfx_types.specs.declared.op.Place.{Place}
use Rattle.gfx_device.specs.declared.op.Handle.{Handle}
use Rattle.gfx_device.specs.Places.{Sets, KeepsOthers, IsChanged, same_handle}
use Rattle.gfx_model.specs.Steps.{Change}
use Rattle.gfx_model.specs.Bytes.{byte, same_place}
use Rattle.gfx_replay.specs.Maps.{IsSet}
use Rattle.gfx_replay.specs.Handles.{IsSound}
use Rattle.gfx_replay.specs.Held.{AreLeft, Holds}
use Rattle.gfx_replay.specs.Places.{through}
use Rattle.gfx_replay.proofs.Covering.{same_place-true, left_same}

abbrev pub Handles : Type 0
Handles = Place → Option Handle

abbrev pub Under : Type 0
Under = Handle → Option (List ℕ)

-- the handle of another place is another
pub other_handle : (h : Handles) (d : Under) → IsSound h d → (a b : Place) (i j : Handle) → h a ≡ Some i → h b ≡ Some j → same_place a b ≡ false → j ≢ i
other_handle h d sound a b i j is_i is_j apart same =
    let one = sound.own a b i is_i (is_j ∙ ap (λ k. Some k) same) in absurd (cc)

-- ---- one handle has changed bytes

-- a place that has as many bytes as it had is there
some_by_size : (a b : Option (List ℕ)) → option_map length b ≡ option_map length a → is_some a ≡ true → is_some b ≡ true
some_by_size None b e there = absurd (cc)
some_by_size (Some x) None e there = absurd (cc)
some_by_size (Some x) (Some y) e there = refl

pub kept_sound : (h : Handles) (d more : Under) (k : Handle) → IsSound h d → KeepsOthers d more k → IsSound h more
kept_sound h d more k sound kept = record {
  own = sound.own;
  there = λ at j is. by at j is (same_handle j k) refl;
}
  where
    by : (at : Place) (j : Handle) → h at ≡ Some j → (t : Bool) → same_handle j k ≡ t → is_some (more j) ≡ true
    by at j is true e =
        let same : j ≡ k = ap (λ i. record { key = i }) (eqb-true j.key k.key e) in
        some_by_size (d j) (more j) (ap (λ i. option_map length (more i)) same ∙ kept.size ∙ sym (ap (λ i. option_map length (d i)) same)) (sound.there at j is)
    by at j is false e = ap is_some (kept.others j (λ same. eqb-false j.key k.key e (ap (λ i. i.key) same))) ∙ sound.there at j is

-- what holds changes holds more of them, which are left of the one place
pub holds_changed : (h : Handles) (d more : Under) (to : Place) (k : Handle) (f : List ℕ → List ℕ) (es with : List Change) → IsSound h d → h to ≡ Some k →
    IsChanged k f d more → ((xs : List ℕ) → d k ≡ Some xs → AreLeft es to xs → AreLeft with to (f xs)) →
    ((at : Place) (i : ℕ) → same_place to at ≡ false → byte with at i ≡ byte es at i) → Holds (through h d) es → Holds (through h more) with
holds_changed h d more to k f es with sound is changed left others holds = record { left = λ at bytes e. by at bytes (h at) refl e }
  where
    at_place : (bytes : List ℕ) (o : Option (List ℕ)) → d k ≡ o → option_map f o ≡ Some bytes → AreLeft with to bytes
    at_place bytes None e was = absurd (cc)
    at_place bytes (Some xs) e was =
        let same : f xs ≡ bytes = cc in
        subst (AreLeft with to) same (left xs e (holds.left to xs (ap (option_and_then d) is ∙ e)))

    at_handle : (at : Place) (bytes : List ℕ) (j : Handle) → h at ≡ Some j → more j ≡ Some bytes → (t : Bool) → same_handle j k ≡ t → AreLeft with at bytes
    at_handle at bytes j e was true same =
        let one : j ≡ k = ap (λ i. record { key = i }) (eqb-true j.key k.key same) in
        let here : to ≡ at = same_place-true to at (sound.own to at k is (e ∙ ap (λ i. Some i) one)) in
        subst (λ a. AreLeft with a bytes) here
        (at_place bytes (d k) refl (sym (ap (λ t. cond t (option_map f (d j)) (d j)) same ∙ ap (λ i. option_map f (d i)) one) ∙ sym (changed j) ∙ was))
    at_handle at bytes j e was false same =
        let had : d j ≡ Some bytes = sym (ap (λ t. cond t (option_map f (d j)) (d j)) same) ∙ sym (changed j) ∙ was in
        let apart : same_place to at ≡ false = apart_by (same_place to at) refl in
        left_same es with at bytes (λ i. others at i apart) (holds.left at bytes (ap (option_and_then d) e ∙ had))
      where
        apart_by : (t : Bool) → same_place to at ≡ t → same_place to at ≡ false
        apart_by false p = p
        apart_by true p =
            let one : Some k ≡ Some j = sym is ∙ ap h (same_place-true to at p) ∙ e in
            let keys : j.key ≡ k.key = ap (λ (o : Option Handle). unwrap_or (option_map (λ i. i.key) o) 0) (sym one) in
            absurd (eqb-false j.key k.key same keys)

    by : (at : Place) (bytes : List ℕ) (o : Option Handle) → h at ≡ o → option_and_then more o ≡ Some bytes → AreLeft with at bytes
    by at bytes None e was = absurd (cc)
    by at bytes (Some j) e was = at_handle at bytes j e was (same_handle j k) refl

-- ---- a place is added or dropped

-- a handle that has bytes is not one that has none
not_vacant : (d : Under) (i j : Handle) → d i ≡ None → is_some (d j) ≡ true → j ≢ i
not_vacant d i j none some same = let e : d j ≡ None = ap d same ∙ none in absurd (cc)

pub added_sound : (h with : Handles) (d more : Under) (here : Place) (k : Handle) (zeros : List ℕ) → IsSound h d → d k ≡ None → Sets d more k (Some zeros) → IsSet h with here (Some k) →
    IsSound with more
added_sound h with d more here k zeros sound vacant sets set = record {
  own = λ a b j is_a is_b. own a b j is_a is_b (same_place here a) refl (same_place here b) refl;
  there = λ a j is. there a j is (same_place here a) refl;
}
  where
    was : (a : Place) (j : Handle) → with a ≡ Some j → same_place here a ≡ false → h a ≡ Some j
    was a j is e = sym (set a ∙ ap (λ t. cond t (Some k) (h a)) e) ∙ is

    now : (a : Place) (j : Handle) → with a ≡ Some j → same_place here a ≡ true → k ≡ j
    now a j is e = let same : Some k ≡ Some j = sym (set a ∙ ap (λ t. cond t (Some k) (h a)) e) ∙ is in cc

    own : (a b : Place) (j : Handle) → with a ≡ Some j → with b ≡ Some j → (t : Bool) → same_place here a ≡ t → (u : Bool) → same_place here b ≡ u → same_place a b ≡ true
    own a b j is_a is_b true e true f = ap (λ p. same_place p b) (sym (same_place-true here a e)) ∙ f
    own a b j is_a is_b true e false f = absurd (not_vacant d k j vacant (sound.there b j (was b j is_b f)) (sym (now a j is_a e)))
    own a b j is_a is_b false e true f = absurd (not_vacant d k j vacant (sound.there a j (was a j is_a e)) (sym (now b j is_b f)))
    own a b j is_a is_b false e false f = sound.own a b j (was a j is_a e) (was b j is_b f)

    there : (a : Place) (j : Handle) → with a ≡ Some j → (t : Bool) → same_place here a ≡ t → is_some (more j) ≡ true
    there a j is true e = ap is_some (ap more (sym (now a j is e)) ∙ sets.here)
    there a j is false e =
        let some = sound.there a j (was a j is e) in
        ap is_some (sets.others j (not_vacant d k j vacant some)) ∙ some

pub dropped_sound : (h with : Handles) (d more : Under) (here : Place) (k : Handle) → IsSound h d → h here ≡ Some k → Sets d more k None → IsSet h with here None → IsSound with more
dropped_sound h with d more here k sound is sets set = record {
  own = λ a b j is_a is_b. sound.own a b j (was a j is_a (same_place here a) refl) (was b j is_b (same_place here b) refl);
  there = λ a j p. there a j p (same_place here a) refl;
}
  where
    was : (a : Place) (j : Handle) → with a ≡ Some j → (t : Bool) → same_place here a ≡ t → h a ≡ Some j
    was a j p true e = let no : None ≡ Some j = sym (set a ∙ ap (λ t. cond t None (h a)) e) ∙ p in absurd (cc)
    was a j p false e = sym (set a ∙ ap (λ t. cond t None (h a)) e) ∙ p

    there : (a : Place) (j : Handle) → with a ≡ Some j → (t : Bool) → same_place here a ≡ t → is_some (more j) ≡ true
    there a j p true e = let no : None ≡ Some j = sym (set a ∙ ap (λ t. cond t None (h a)) e) ∙ p in absurd (cc)
    there a j p false e =
        let old = was a j p false e in
        ap is_some (sets.others j (other_handle h d sound here a k j is old e)) ∙ sound.there a j old

-- nothing was there
pub nothing_dropped : (h with : Handles) (here : Place) → h here ≡ None → IsSet h with here None → (at : Place) → with at ≡ h at
nothing_dropped h with here none set at = by (same_place here at) refl
  where
    by : (t : Bool) → same_place here at ≡ t → with at ≡ h at
    by true e = set at ∙ ap (λ t. cond t None (h at)) e ∙ sym (ap h (sym (same_place-true here at e)) ∙ none)
    by false e = set at ∙ ap (λ t. cond t None (h at)) e

-- handles that are the same
pub same_sound : (h with : Handles) (d : Under) → ((at : Place) → with at ≡ h at) → IsSound h d → IsSound with d
same_sound h with d same sound = record {
  own = λ a b j is_a is_b. sound.own a b j (sym (same a) ∙ is_a) (sym (same b) ∙ is_b);
  there = λ a j is. sound.there a j (sym (same a) ∙ is);
}

-- bytes that are the same
pub same_bytes : (h : Handles) (d more : Under) → ((k : Handle) → more k ≡ d k) → IsSound h d → IsSound h more
same_bytes h d more same sound = record { own = sound.own; there = λ a k is. ap is_some (same k) ∙ sound.there a k is }
