-- The block of an event, in parts, and read again.
use Rattle.std.proofs.Common.{◌≡◌, ℕ, ◌+◌, ◌≤◌, Bool, true, false, cond, ltb, List, ◌++◌, length, take, drop, Some, None, refl, sym, ap, ◌∙◌, subst, arith, append_assoc, length-append, length-drop}
use Rattle.std.specs.Int.{Width, w32, w64, byte_len, to_le_bytes, from_le_bytes}
use Rattle.std.proofs.Math.Path.{ap₂}
use Rattle.std.proofs.lemmas.Bool.{le-ltb}
use Rattle.std.proofs.lemmas.List.{take_at, drop_at, take_all, drop-drop, take-append-drop, length-take-le}
use lib.Seq.{paste}
use Rattle.gfx_model.specs.Events.{Event}
use Rattle.gfx_model.specs.Spelling.{encoding, type_of, id_of, payload, spelling}
use Rattle.gfx_model.specs.Blocks.{size_field, type_field, payload_field, effect, skipped}
use Rattle.gfx_grammar.specs.Reading.{read_number}
use Rattle.gfx_grammar.specs.Rows.{read_content}
use Rattle.gfx_grammar.specs.Framing.{IsBlock}
use Rattle.gfx_grammar.proofs.NumberLaws.{guard_some}
use Rattle.gfx_grammar.proofs.WrittenLaws.{encoding-block}
use Rattle.gfx_capture.specs.ThreadBuffer.{IsPut, IsPutOf, with_thread}
use Rattle.gfx_log_law.proofs.Lengths.{encoding-length}
use Rattle.gfx_capture.proofs.ThreadBytes.{can_write, payload-parts, payload-length}

-- ---- numbers at the start

pub number_is : (w : Width) (bytes : List ℕ) (n : ℕ) (rest : List ℕ) → read_number w bytes ≡ Some (n, rest) → (n ≡ from_le_bytes w (take (byte_len w) bytes)) × (rest ≡ drop (byte_len w) bytes)
unfolding read_number
number_is w bytes n rest e =
    let g = guard_some (ltb (length bytes) (byte_len w)) (from_le_bytes w (take (byte_len w) bytes), drop (byte_len w) bytes) (n, rest) e in
    (sym (ap (λ (p : ℕ × List ℕ). p.0) g.1), sym (ap (λ (p : ℕ × List ℕ). p.1) g.1))

guarded : {A : Type 0} (b : Bool) (x : A) → b ≡ false → cond b None (Some x) ≡ None → ⊥
guarded true x h e = absurd (cc)
guarded false x h e = absurd (cc)

pub number_there : (w : Width) (bytes : List ℕ) → byte_len w ≤ length bytes → read_number w bytes ≡ None → ⊥
unfolding read_number
number_there w bytes long e = guarded (ltb (length bytes) (byte_len w)) (from_le_bytes w (take (byte_len w) bytes), drop (byte_len w) bytes) (le-ltb _ _ long) e

-- ---- a block that was put

pub put_block : (m : ℕ) (e : Event) (bytes : List ℕ) → IsPutOf m e bytes → IsBlock m bytes (effect 0 e)
put_block m e bytes put = subst (λ l. IsBlock m l (effect 0 e)) (sym put.spelled) (encoding-block m 0 e (can_write m 0 e (omega arith) put.can))

pub put_long : (m : ℕ) (e : Event) (bytes : List ℕ) → IsPutOf m e bytes → 24 ≤ length bytes
put_long m e bytes put =
    let parts = ap length (payload-parts m 0 e (put.can).unmarked) in
    let long = length-append (to_le_bytes w32 (id_of e)) (to_le_bytes w64 0 ++ spelling m e) in
    let more = length-append (to_le_bytes w64 0) (spelling m e) in
    let four : length (to_le_bytes w32 (id_of e)) ≡ 4 = refl in
    let eight : length (to_le_bytes w64 0) ≡ 8 = refl in
    omega (arith, ap length put.spelled, encoding-length m 0 e, parts, long, more, four, eight)

-- its type and what follows its head say its event
pub says : (m kind n : ℕ) (e : Event) (bytes behind load : List ℕ) → IsPutOf m e bytes → read_number w64 bytes ≡ Some (n, behind) → read_number w32 behind ≡ Some (kind, load)
    → read_content m kind load ≡ Some (effect 0 e)
says m kind n e bytes behind load put first second =
    let is = put_block m e bytes put in
    let a = number_is w64 bytes n behind first in
    let b = number_is w32 behind kind load second in
    let kind_is : kind ≡ type_field bytes = b.0 ∙ ap (λ l. from_le_bytes w32 (take 4 l)) a.1 in
    let rest : load ≡ drop 12 bytes = b.1 ∙ ap (drop 4) a.1 ∙ drop-drop 4 8 bytes in
    let whole : payload_field bytes ≡ drop 12 bytes = take_all (size_field bytes) (drop 12 bytes) (omega (arith, is.long, length-drop 12 bytes)) in
    ap (λ k. read_content m k load) kind_is ∙ ap (read_content m (type_field bytes)) (rest ∙ sym whole) ∙ is.payload

-- so it is read, and its event is what is read
module _ (m : ℕ) (bytes : List ℕ) where
  pub front_there : IsPut m bytes → read_number w64 bytes ≡ None → ⊥
  front_there put e = number_there w64 bytes (let long = put_long m put.0 bytes put.1 in omega arith) e

  module _ (n : ℕ) (behind : List ℕ) (first : read_number w64 bytes ≡ Some (n, behind)) where
    pub type_there : IsPut m bytes → read_number w32 behind ≡ None → ⊥
    type_there put e =
        let rest = ap length (number_is w64 bytes n behind first).1 in
        number_there w32 behind (let long = put_long m put.0 bytes put.1 in omega (arith, rest, length-drop 8 bytes)) e

    module _ (kind : ℕ) (load : List ℕ) (second : read_number w32 behind ≡ Some (kind, load)) where
      pub not_bad : IsPut m bytes → read_content m kind load ≡ None → ⊥
      not_bad put e = let no : Some (effect 0 put.0) ≡ None = sym (says m kind n put.0 bytes behind load put.1 first second) ∙ e in absurd (cc)

      pub not_skipped : IsPut m bytes → read_content m kind load ≡ Some skipped → ⊥
      not_skipped put e = let no : Some (effect 0 put.0) ≡ Some skipped = sym (says m kind n put.0 bytes behind load put.1 first second) ∙ e in absurd (cc)

      pub event_back : (t : ℕ) (found : Event) → read_content m kind load ≡ Some (effect t found) → (e : Event) → IsPutOf m e bytes → found ≡ e
      event_back t found is e put = let same : Some (effect t found) ≡ Some (effect 0 e) = sym is ∙ says m kind n e bytes behind load put first second in cc

-- ---- a block under another thread

pub under_thread : (m t : ℕ) (e : Event) (bytes : List ℕ) → IsPutOf m e bytes → with_thread t bytes ≡ encoding m t e
unfolding encoding
under_thread m t e bytes put =
    let other = (put.can).unmarked in
    let zero_parts = payload-parts m 0 e other in
    let parts = payload-parts m t e other in
    let n = length (payload m 0 e) in
    let front = (to_le_bytes w64 n ++ to_le_bytes w32 (type_of e)) ++ to_le_bytes w32 (id_of e) in
    let is : bytes ≡ front ++ (to_le_bytes w64 0 ++ spelling m e) =
    put.spelled ∙ ap (λ l. to_le_bytes w64 n ++ to_le_bytes w32 (type_of e) ++ l) zero_parts ∙ simp append_assoc in
    let before : take 16 bytes ≡ front = ap (take 16) is ∙ take_at front (to_le_bytes w64 0 ++ spelling m e) 16 refl in
    let behind : drop 24 bytes ≡ spelling m e =
    ap (drop 24) (is ∙ sym (append_assoc front (to_le_bytes w64 0) (spelling m e))) ∙ drop_at (front ++ to_le_bytes w64 0) (spelling m e) 24 refl in
    ap₂ (λ a b. a ++ (to_le_bytes w64 t ++ b)) before behind
    ∙ sym (ap₂ (λ k l. to_le_bytes w64 k ++ to_le_bytes w32 (type_of e) ++ l) (payload-length m 0 t e other) parts ∙ simp append_assoc)

-- the thread is written into the place of the old one
pub placed : (t : ℕ) (old one mid : List ℕ) (a : ℕ) → 24 ≤ length one → a ≡ length old + 16 → mid ≡ old ++ one → paste mid a (to_le_bytes w64 t) 8 ≡ old ++ with_thread t one
placed t old one mid a long from is =
    let p = take 16 one in
    let q = take 8 (drop 16 one) in
    let r = drop 24 one in
    let long_p : length p ≡ 16 = length-take-le 16 one (omega arith) in
    let long_q : length q ≡ 8 = length-take-le 8 (drop 16 one) (omega (arith, length-drop 16 one)) in
    let cut : one ≡ p ++ (q ++ r) =
    sym (take-append-drop 16 one) ∙ ap (λ l. p ++ l) (sym (take-append-drop 8 (drop 16 one)) ∙ ap (λ l. q ++ l) (drop-drop 8 16 one)) in
    let parts : mid ≡ (old ++ p) ++ (q ++ r) = is ∙ ap (λ l. old ++ l) cut ∙ sym (append_assoc old p (q ++ r)) in
    let place : length (old ++ p) ≡ a = omega (arith, length-append old p, long_p, from) in
    let before : take a mid ≡ old ++ p = ap (take a) parts ∙ take_at (old ++ p) (q ++ r) a place in
    let after : drop (a + 8) mid ≡ r = sym (drop-drop 8 a mid) ∙ ap (drop 8) (ap (drop a) parts ∙ drop_at (old ++ p) (q ++ r) a place) ∙ drop_at q r 8 long_q in
    ap₂ (λ u v. (u ++ to_le_bytes w64 t) ++ v) before after ∙ append_assoc (old ++ p) (to_le_bytes w64 t) r ∙ append_assoc old p (to_le_bytes w64 t ++ r)
