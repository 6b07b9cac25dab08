-- Places that hold changes, where some are added or dropped.
use Rattle.std.proofs.Common.{◌≡◌, ℕ, Bool, true, false, cond, refl, sym, ap, ◌∙◌, subst, List, length, replicate, Option, Some, None, option_map, arith}
use Rattle.std.specs.Option.{option_or}
use Rattle.std.proofs.lemmas.List.{length-replicate, get_or-replicate}
use Rattle.gfx_types.specs.declared.op.Place.{Place}
use Rattle.gfx_model.specs.Steps.{Change}
use Rattle.gfx_model.specs.Bytes.{byte, same_place}
use Rattle.gfx_replay.specs.Maps.{IsSame, IsSet, IsGiven, IsKept, is_image_among, is_no_other_image}
use Rattle.gfx_replay.specs.Held.{Bytes, AreLeft, Holds}
use Rattle.gfx_replay.specs.Ranges.{sizes_of}
use Rattle.gfx_replay.proofs.Covering.{left_by_all, same_place-true}

-- zeros are left where nothing was changed
pub zeros_left : (es : List Change) (at : Place) (n : ℕ) → ((i : ℕ) → byte es at i ≡ 0) → AreLeft es at (replicate n 0)
zeros_left es at n zero = left_by_all es at (replicate n 0) (λ k below. get_or-replicate n k 0 0 (let long = length-replicate {A = ℕ} n 0 in omega (arith, long)) ∙ sym (zero k))

pub holds_same : (b c : Bytes) (es : List Change) → IsSame b c → Holds b es → Holds c es
holds_same b c es same holds = record { left = λ at bytes e. holds.left at bytes (sym (same at) ∙ e) }

pub holds_set : (b c : Bytes) (es : List Change) (here : Place) (x : Option (List ℕ)) → IsSet b c here x → ((bytes : List ℕ) → x ≡ Some bytes → AreLeft es here bytes) → Holds b es → Holds c es
holds_set b c es here x set left holds = record { left = λ at bytes e. by at bytes e (same_place here at) refl }
  where
    by : (at : Place) (bytes : List ℕ) → c at ≡ Some bytes → (t : Bool) → same_place here at ≡ t → AreLeft es at bytes
    by at bytes e true s = subst (λ p. AreLeft es p bytes) (same_place-true here at s) (left bytes (sym (ap (λ t. cond t x (b at)) s) ∙ sym (set at) ∙ e))
    by at bytes e false s = holds.left at bytes (sym (ap (λ t. cond t x (b at)) s) ∙ sym (set at) ∙ e)

pub holds_kept : (b c : Bytes) (es : List Change) (test : ℕ → Bool) → IsKept b c test → Holds b es → Holds c es
holds_kept b c es test kept holds = record { left = λ at bytes e. holds.left at bytes (by (is_no_other_image test at) (b at) bytes (sym (kept at) ∙ e)) }
  where
    by : (t : Bool) (o : Option (List ℕ)) (bytes : List ℕ) → cond t o None ≡ Some bytes → o ≡ Some bytes
    by true o bytes e = e
    by false o bytes e = absurd (cc)

pub holds_given : (b c : Bytes) (es : List Change) (ids : List ℕ) (f : Place → Option (List ℕ)) → IsGiven b c ids f →
    ((at : Place) (bytes : List ℕ) → is_image_among ids at ≡ true → b at ≡ None → f at ≡ Some bytes → AreLeft es at bytes) → Holds b es → Holds c es
holds_given b c es ids f given left holds = record { left = λ at bytes e. by at bytes (b at) refl (is_image_among ids at) refl (sym (given at) ∙ e) }
  where
    by : (at : Place) (bytes : List ℕ) (o : Option (List ℕ)) → b at ≡ o → (t : Bool) → is_image_among ids at ≡ t → option_or (b at) (cond (is_image_among ids at) (f at) None) ≡ Some bytes → AreLeft es at bytes
    by at bytes None was true among e = left at bytes among was (sym (ap (λ t. cond t (f at) None) among) ∙ sym (ap (λ p. option_or p (cond (is_image_among ids at) (f at) None)) was) ∙ e)
    by at bytes None was false among e =
        let no : None ≡ Some bytes = sym (ap (λ t. cond t (f at) None) among) ∙ sym (ap (λ p. option_or p (cond (is_image_among ids at) (f at) None)) was) ∙ e in
        absurd (cc)
    by at bytes (Some xs) was t among e = holds.left at bytes (was ∙ sym (ap (λ p. option_or p (cond (is_image_among ids at) (f at) None)) was) ∙ e)

-- ---- sizes

along_cond : (f : List ℕ → ℕ) (t : Bool) (o p : Option (List ℕ)) → option_map f (cond t o p) ≡ cond t (option_map f o) (option_map f p)
along_cond f true o p = refl
along_cond f false o p = refl

along_or : (f : List ℕ → ℕ) (o p : Option (List ℕ)) → option_map f (option_or o p) ≡ option_or (option_map f o) (option_map f p)
along_or f None p = refl
along_or f (Some x) p = refl

pub sizes_set : (b c : Bytes) (here : Place) (x : Option (List ℕ)) → IsSet b c here x → IsSet (sizes_of b) (sizes_of c) here (option_map length x)
sizes_set b c here x set at = ap (option_map length) (set at) ∙ along_cond length (same_place here at) x (b at)

pub sizes_kept : (b c : Bytes) (test : ℕ → Bool) → IsKept b c test → IsKept (sizes_of b) (sizes_of c) test
sizes_kept b c test kept at = ap (option_map length) (kept at) ∙ along_cond length (is_no_other_image test at) (b at) None

pub sizes_given : (b c : Bytes) (ids : List ℕ) (f : Place → Option (List ℕ)) → IsGiven b c ids f → IsGiven (sizes_of b) (sizes_of c) ids (λ at. option_map length (f at))
sizes_given b c ids f given at =
    ap (option_map length) (given at) ∙ along_or length (b at) (cond (is_image_among ids at) (f at) None)
    ∙ ap (option_or (option_map length (b at))) (along_cond length (is_image_among ids at) (f at) None)
