-- A buffer with nothing in it, and with one event more.
use Rattle.std.proofs.Common.{◌≡◌, ℕ, ◌+◌, ◌≤◌, List, [], ◌∷◌, ◌++◌, length, map, refl, sym, ap, ◌∙◌, subst, arith}
use Rattle.std.specs.List.{AllByRecursion}
use Rattle.std.proofs.lemmas.List.{length-map}
use Rattle.gfx_model.specs.Events.{Event}
use Rattle.gfx_model.specs.Spelling.{encoding}
use Rattle.gfx_script_model.specs.Runs.{Entry, log_bytes}
use Rattle.gfx_capture.specs.Entry.{IsVersion, entry, entries_under, AreEntries}
use Rattle.gfx_capture.specs.ThreadBuffer.{CanBePut, events_in, IsBuffer}
use Rattle.gfx_capture.proofs.Reading.{read, more, all-snoc}
use Rattle.gfx_capture.proofs.ThreadBytes.{can_write, blocks-length}

pub events_back : (t : ℕ) (events : List Event) → map (λ (e : Entry). e.event) (entries_under t events) ≡ events
events_back t [] = refl
events_back t (e ∷ es) = ap (λ l. e ∷ l) (events_back t es)

pub entries-append : (t : ℕ) (xs ys : List Event) → entries_under t (xs ++ ys) ≡ entries_under t xs ++ entries_under t ys
entries-append t [] ys = refl
entries-append t (x ∷ xs) ys = ap (λ l. entry t x ∷ l) (entries-append t xs ys)

-- bytes of events with_thread thread 0 are a buffer of these
of_events : (m n : ℕ) (bytes : List ℕ) (events : List Event) → IsVersion m → n ≤ 256 → AreEntries m n bytes (entries_under 0 events) → AllByRecursion (CanBePut m) events
    → (events_in m n bytes ≡ events) × IsBuffer m n bytes
of_events m n bytes events version few are can =
    let same : events_in m n bytes ≡ events = ap (map (λ (e : Entry). e.event)) (read m n bytes (entries_under 0 events) are) ∙ events_back 0 events in (
      same,
      record {
        version = version;
        few = few;
        blocks = subst (λ l. AreEntries m n bytes (entries_under 0 l)) (sym same) are;
        can = subst (AllByRecursion (CanBePut m)) (sym same) can;
      },
    )

pub nothing : (m : ℕ) (bytes : List ℕ) → IsVersion m → bytes ≡ [] → (events_in m 0 bytes ≡ []) × IsBuffer m 0 bytes
nothing m bytes version none = of_events m 0 bytes [] version (omega arith) (record { count = refl; spelled = none; written = tt }) tt

pub one_more : (m n : ℕ) (bytes new : List ℕ) (e : Event) → IsBuffer m n bytes → n + 1 ≤ 256 → CanBePut m e → new ≡ bytes ++ encoding m 0 e
    → (events_in m (n + 1) new ≡ events_in m n bytes ++ e ∷ []) × IsBuffer m (n + 1) new
one_more m n bytes new e is room can grown =
    let events = events_in m n bytes in
    of_events m (n + 1) new (events ++ e ∷ []) is.version room
    (subst (λ l. AreEntries m (n + 1) l (entries_under 0 (events ++ e ∷ []))) (sym grown)
    (subst (AreEntries m (n + 1) (bytes ++ encoding m 0 e)) (sym (entries-append 0 events (e ∷ []))) (more m n 0 e bytes (entries_under 0 events) is.blocks (can_write m 0 e (omega arith) can))))
    (all-snoc (CanBePut m) events e is.can can)

pub counted : (m n : ℕ) (bytes : List ℕ) → IsBuffer m n bytes → n ≡ length (events_in m n bytes)
counted m n bytes is = sym (sym (length-map (events_in m n bytes) (entry 0)) ∙ is.blocks.count)

pub any_thread : (m n t : ℕ) (bytes : List ℕ) → IsBuffer m n bytes → length bytes ≡ length (log_bytes m (entries_under t (events_in m n bytes)))
any_thread m n t bytes is = ap length is.blocks.spelled ∙ sym (blocks-length m 0 t (events_in m n bytes) is.can)
