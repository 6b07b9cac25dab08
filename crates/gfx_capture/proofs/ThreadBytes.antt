-- The thread of a block doesn't change its length.
use Rattle.std.proofs.Common.{◌≡◌, ℕ, ◌+◌, ◌<◌, ◌^◌, false, cond, nat_eq, List, [], ◌∷◌, ◌++◌, length, refl, sym, ap, ◌∙◌, subst, arith, length-append}
use Rattle.std.specs.Int.{to_le_bytes, w32, w64}
use Rattle.std.specs.List.{AllByRecursion}
use Rattle.gfx_model.specs.Events.{Event}
use Rattle.gfx_model.specs.Spelling.{encoding, type_of, id_of, payload, spelling}
use Rattle.gfx_script_model.specs.Runs.{log_bytes}
use Rattle.gfx_grammar.specs.Framing.{CanBeWritten}
use Rattle.gfx_log_law.proofs.Lengths.{encoding-length}
use Rattle.gfx_capture.specs.Entry.{entries_under}
use Rattle.gfx_capture.specs.ThreadBuffer.{CanBePut}

is_two : (k : ℕ) → nat_eq k 2 ≡ false → k ≡ 2 → ⊥
is_two k other is = let no : nat_eq 2 2 ≡ false = subst (λ n. nat_eq n 2 ≡ false) is other in absurd (cc)

-- the payload of what is no marker
pub payload-parts : (m t : ℕ) (e : Event) → nat_eq (type_of e) 2 ≡ false → payload m t e ≡ to_le_bytes w32 (id_of e) ++ (to_le_bytes w64 t ++ spelling m e)
unfolding payload
payload-parts m t e other = ap (λ b. to_le_bytes w32 (id_of e) ++ (cond b [] (to_le_bytes w64 t) ++ spelling m e)) other

pub payload-length : (m s t : ℕ) (e : Event) → nat_eq (type_of e) 2 ≡ false → length (payload m t e) ≡ length (payload m s e)
payload-length m s t e other = ap length (payload-parts m t e other) ∙ sym (ap length (payload-parts m s e other))

pub thread-length : (m s t : ℕ) (e : Event) → nat_eq (type_of e) 2 ≡ false → length (encoding m t e) ≡ length (encoding m s e)
thread-length m s t e other = encoding-length m t e ∙ ap (λ n. 12 + n) (payload-length m s t e other) ∙ sym (encoding-length m s e)

-- what can be put can be written under whatever thread
pub can_write : (m t : ℕ) (e : Event) → t < 2 ^ 64 → CanBePut m e → CanBeWritten m t e
can_write m t e low can = record {
  fits = can.fits;
  thread_fits = (low, λ is. absurd (is_two (type_of e) can.unmarked is));
  small = omega (arith, can.small, payload-length m 0 t e can.unmarked);
}

pub blocks-length : (m s t : ℕ) (events : List Event) → AllByRecursion (CanBePut m) events → length (log_bytes m (entries_under t events)) ≡ length (log_bytes m (entries_under s events))
blocks-length m s t [] can = refl
blocks-length m s t (e ∷ es) can =
    length-append (encoding m t e) (log_bytes m (entries_under t es))
    ∙ omega (arith, thread-length m s t e can.0.unmarked, blocks-length m s t es can.1, length-append (encoding m s e) (log_bytes m (entries_under s es)))
