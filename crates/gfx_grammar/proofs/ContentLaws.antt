-- What is read of a payload is its content, and each content is read.
use Rattle.std.proofs.Common.{◌≡◌, ℕ, ◌^◌, ◌<◌, Bool, true, false, cond, not, ◌&&◌, ◌||◌, nat_eq, nat_le, List, [], ◌++◌, length, take, Some, refl, sym, ap, subst, ◌∙◌, append_assoc, arith, inl, inr}
use Rattle.std.specs.Int.{w32, w64, from_le_bytes, to_le_bytes}
use Rattle.std.proofs.lemmas.Bool.Decides.{nat_tests}
use Rattle.std.proofs.lemmas.Bool.{cond-false, cond-true, eqb-true, eqb-false}
use Rattle.std.proofs.lemmas.List.{take_at}
use Rattle.gfx_model.specs.Events.{Event}
use Rattle.gfx_model.specs.Events.Event.{CreateInstance}
use Rattle.gfx_model.specs.Spelling.{call_count, metadata_count, spelling, id_of, type_of, payload}
use Rattle.gfx_model.specs.Blocks.{u32_at, Content, skipped, effect, is_skipped, is_unknown, IsThread, SpellsPayload, IsContent}
use Rattle.gfx_grammar.specs.Reading.{◌>>=◌, read_u32}
use Rattle.gfx_grammar.specs.Rows.{read_event, read_thread, read_payload, read_content}
use Rattle.gfx_grammar.specs.Laws.{ReadIsContent, ContentIsRead}
use Rattle.gfx_grammar.specs.Reads.{AreBytes, Takes}
use Rattle.gfx_grammar.proofs.NumberLaws.{bind_some, some_is, Takes-then, number_takes, number_again, wide32, wide64}
use Rattle.gfx_grammar.proofs.EventLaws.{chosen, read_is_spelled, spelled_is_read}

-- the thread of a payload
abbrev thread_text : ℕ → ℕ → List ℕ
thread_text kind t = cond (nat_eq kind 2) [] (to_le_bytes w64 t)

thread_takes : (kind : ℕ) (bytes : List ℕ) (t : ℕ) (rest : List ℕ) → AreBytes bytes → read_thread kind bytes ≡ Some (t, rest) → Takes bytes (thread_text kind t) rest × IsThread kind t
thread_takes kind bytes t rest h eq =
    elim (chosen (nat_eq kind 2) _ _ _ eq) [
      | inl taken ↦
          let is : (0, bytes) ≡ (t, rest) = some_is _ _ taken.1 in
          let first : Takes bytes (thread_text kind 0) bytes = rw (taken.0) (record { parts = refl; rest_bytes = h }) in
          subst (λ (z : ℕ × List ℕ). Takes bytes (thread_text kind z.0) z.1 × IsThread kind z.0) is (first, (omega arith, λ e. refl))
      | inr passed ↦
          let f = number_takes w64 (2 ^ 64) wide64 bytes t rest h passed.1 in
          (rw (passed.0) f.0, (f.1, λ e. absurd (eqb-false kind 2 passed.0 e)))
    ]

by_marker : (kind t : ℕ) (rest : List ℕ) → IsThread kind t → (b : Bool) → nat_eq kind 2 ≡ b → read_thread kind (thread_text kind t ++ rest) ≡ Some (t, rest)
by_marker kind t rest is true e = rw (e, is.1 (eqb-true kind 2 e)) refl
by_marker kind t rest is false e = rw e (number_again w64 (2 ^ 64) wide64 t rest is.0)

thread_again : (kind t : ℕ) (rest : List ℕ) → IsThread kind t → read_thread kind (thread_text kind t ++ rest) ≡ Some (t, rest)
thread_again kind t rest is = by_marker kind t rest is (nat_eq kind 2) refl

payload_same : (m kind n t : ℕ) (bytes rest : List ℕ) (e : Event) → bytes ≡ (to_le_bytes w32 n ++ thread_text kind t) ++ rest → rest ≡ spelling m e
    → id_of e ≡ n → type_of e ≡ kind → bytes ≡ (to_le_bytes w32 (id_of e) ++ thread_text (type_of e) t) ++ spelling m e
payload_same m kind n t bytes rest e parts is number type = rw (number, type, ← is) parts

payload_takes : (m kind : ℕ) (bytes : List ℕ) (c : Content) → AreBytes bytes → read_payload m kind bytes ≡ Some c → IsContent m kind bytes c
unfolding read_payload payload
payload_takes m kind bytes c h eq =
    let a = bind_some (read_u32 bytes) (λ n. read_thread kind n.1 >>= λ t. read_event m kind n.0 t.1 >>= λ e. Some (effect t.0 e)) c eq in
    let n = a.0.0 in
    let b = bind_some (read_thread kind a.0.1) (λ t. read_event m kind n t.1 >>= λ e. Some (effect t.0 e)) c a.2 in
    let t = b.0.0 in
    let d = bind_some (read_event m kind n b.0.1) (λ e. Some (effect t e)) c b.2 in
    let e = d.0 in
    let is : effect t e ≡ c = some_is (effect t e) c d.2 in
    let f = number_takes w32 (2 ^ 32) wide32 bytes n a.0.1 h a.1 in
    let g = thread_takes kind a.0.1 t b.0.1 f.0.rest_bytes b.1 in
    let r = read_is_spelled m kind n b.0.1 e g.0.rest_bytes d.1 in
    let all = Takes-then bytes (to_le_bytes w32 n) a.0.1 (thread_text kind t) b.0.1 f.0 g.0 in
    let same = payload_same m kind n t bytes b.0.1 e all.parts r.0.same r.1 r.2 in
    subst (λ (z : Content). IsContent m kind bytes z) {x = effect t e} is (record { type = r.2; fits = r.0.fits; thread_fits = g.1; same = same })

pub read_is_content : ReadIsContent
unfolding read_content
read_is_content m kind bytes c h eq =
    elim (chosen (is_skipped kind bytes) _ _ _ eq) [
      | inl taken ↦ subst (λ (z : Content). IsContent m kind bytes z) (some_is _ _ taken.1) taken.0
      | inr passed ↦ payload_takes m kind bytes c h passed.1
    ]

-- ---- the other way

-- the numbers of a type of block
abbrev pub is_known : ℕ → ℕ → Bool
is_known kind n = nat_eq kind 2 || (nat_eq kind 3 && nat_le 2 n && nat_le n metadata_count) || (nat_eq kind 4 && nat_le 1 n && nat_le n call_count)

pub event_known : (e : Event) → (is_known (type_of e) (id_of e) ≡ true) × (id_of e < 2 ^ 32)
unfolding type_of id_of
event_known (CreateInstance a b) = (refl, omega arith)
event_known _ = (refl, omega arith)

-- the number at the start of a payload
pub payload_number : (m t : ℕ) (e : Event) (bytes : List ℕ) → bytes ≡ payload m t e → u32_at bytes 0 ≡ id_of e
unfolding payload
payload_number m t e bytes same =
    let n = id_of e in
    let rest = thread_text (type_of e) t ++ spelling m e in
    let parts : bytes ≡ to_le_bytes w32 n ++ rest = same ∙ append_assoc (to_le_bytes w32 n) (thread_text (type_of e) t) (spelling m e) in
    ap (λ (z : List ℕ). from_le_bytes w32 (take 4 z)) parts
    ∙ ap (λ (z : List ℕ). from_le_bytes w32 z) (take_at (to_le_bytes w32 n) rest 4 refl)
    ∙ wide32.again n (event_known e).1

not_skipped : (kind n : ℕ) (b : Bool) → is_known kind n ≡ true → (nat_eq kind 1 || nat_eq kind 5 || nat_eq kind 3 && b && nat_eq n 1) ≡ false
not_skipped kind n b known = grind (arith, nat_tests)

not_unknown : (kind n : ℕ) (b : Bool) → is_known kind n ≡ true
    → (b && (nat_eq kind 4 && not (nat_le 1 n && nat_le n call_count) || nat_eq kind 3 && not (nat_le 1 n && nat_le n metadata_count))) ≡ false
not_unknown kind n b known = grind (arith, nat_tests)

effect_known : (m kind : ℕ) (bytes : List ℕ) (t : ℕ) (e : Event) → SpellsPayload m kind bytes t e → is_known kind (u32_at bytes 0) ≡ true
effect_known m kind bytes t e s =
    let n-is : u32_at bytes 0 ≡ id_of e = payload_number m t e bytes s.same in
    ap (λ (k : ℕ). is_known k (u32_at bytes 0)) (sym s.type) ∙ ap (λ (k : ℕ). is_known (type_of e) k) n-is ∙ (event_known e).0

payload_again : (m kind : ℕ) (bytes : List ℕ) (t : ℕ) (e : Event) → SpellsPayload m kind bytes t e → read_payload m kind bytes ≡ Some (effect t e)
unfolding read_payload payload
payload_again m kind bytes t e s =
    let n = id_of e in
    let parts : bytes ≡ to_le_bytes w32 n ++ (thread_text kind t ++ spelling m e) =
    s.same ∙ ap (λ (k : ℕ). (to_le_bytes w32 n ++ thread_text k t) ++ spelling m e) s.type
    ∙ append_assoc (to_le_bytes w32 n) (thread_text kind t) (spelling m e) in
    let read : read_event m kind n (spelling m e) ≡ Some e =
    ap (λ (k : ℕ). read_event m k n (spelling m e)) (sym s.type) ∙ spelled_is_read m (spelling m e) e (record { fits = s.fits; same = refl }) in
    ap (read_payload m kind) parts
    ∙ ap (λ o. o >>= λ n. read_thread kind n.1 >>= λ t. read_event m kind n.0 t.1 >>= λ e. Some (effect t.0 e)) (number_again w32 (2 ^ 32) wide32 n (thread_text kind t ++ spelling m e) (event_known e).1)
    ∙ ap (λ o. o >>= λ t. read_event m kind n t.1 >>= λ e. Some (effect t.0 e)) (thread_again kind t (spelling m e) s.thread_fits)
    ∙ ap (λ o. o >>= λ e. Some (effect t e)) read

pub content_is_read : ContentIsRead
unfolding read_content
content_is_read m kind bytes skipped is = cond-true (is_skipped kind bytes) _ _ is
content_is_read m kind bytes (effect t e) s =
    cond-false (is_skipped kind bytes) _ _ (not_skipped kind (u32_at bytes 0) (nat_le 4 (length bytes)) (effect_known m kind bytes t e s))
    ∙ payload_again m kind bytes t e s

skipped_is_known : (kind n : ℕ) (b : Bool) → (nat_eq kind 1 || nat_eq kind 5 || nat_eq kind 3 && b && nat_eq n 1) ≡ true
    → (b && (nat_eq kind 4 && not (nat_le 1 n && nat_le n call_count) || nat_eq kind 3 && not (nat_le 1 n && nat_le n metadata_count))) ≡ false
skipped_is_known kind n b known = grind (arith, nat_tests)

-- what has content is known
pub content_known : (m kind : ℕ) (bytes : List ℕ) (c : Content) → IsContent m kind bytes c → is_unknown kind bytes ≡ false
content_known m kind bytes skipped is = skipped_is_known kind (u32_at bytes 0) (nat_le 4 (length bytes)) is
content_known m kind bytes (effect t e) s = not_unknown kind (u32_at bytes 0) (nat_le 4 (length bytes)) (effect_known m kind bytes t e s)
