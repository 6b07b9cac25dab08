-- A log with nothing in it, and with one block more; and what is answered where it stays as it was.
use Rattle.std.proofs.Common.{◌≡◌, ℕ, ◌+◌, ◌≤◌, ◌<◌, ◌^◌, true, ◌&&◌, List, [], ◌∷◌, ◌++◌, length, take, drop, None, Ok, Err, refl, sym, ap, ◌∙◌, subst, arith, append_assoc, append-nil, length-append, is_none}
use Rattle.std.proofs.lemmas.List.{take_at, drop_at, drop-append-le}
use Rattle.gfx_model.specs.Events.{Event}
use Rattle.gfx_model.specs.Spelling.{encoding, header}
use Rattle.gfx_model.specs.Views.{View, view_of}
use Rattle.gfx_model.specs.Checks.{first_broken}
use Rattle.gfx_model.specs.Table.{checks_of}
use Rattle.gfx_model.specs.After.{after}
use Rattle.gfx_model.specs.History.{steps, view, fault, is_valid}
use Rattle.gfx_model.specs.Limits.{max_log}
use Rattle.gfx_model.specs.Blocks.{clean}
use Rattle.gfx_model.specs.Frames.{frames}
use Rattle.gfx_model.specs.Meaning.{Means}
use Rattle.gfx_script_model.specs.Runs.{Entry, history, history_onto, log_bytes, log_length}
use Rattle.gfx_model.proofs.Steps.{view-event}
use Rattle.gfx_tracker.specs.Taking.{after_event}
use Rattle.gfx_tracker.specs.declared.outcome.ApplyFault.{ApplyFault}
use Rattle.gfx_tracker.specs.declared.outcome.ApplyFault.TheVariants as apply
use Rattle.gfx_capture.specs.declared.answer.BlockFault.{BlockFault}
use Rattle.gfx_capture.specs.declared.answer.BlockFault.TheVariants as block
use Rattle.gfx_capture.specs.Entry.{IsVersion, entry, entries_in, AreEntries}
use Rattle.gfx_capture.specs.ThreadBuffer.{IsPutOf, IsPut, with_thread}
use Rattle.gfx_capture.specs.Log.{Logged, IsLog, logged, IsSound}
use Rattle.gfx_capture.specs.Append.{AnswersOne, Took, refusal_of}
use Rattle.gfx_capture.proofs.Reading.{read, more}
use Rattle.gfx_log_law.proofs.Lengths.{few_blocks}
use Rattle.gfx_log_law.proofs.Files.{logs_are_files}
use Rattle.gfx_capture.proofs.ThreadBytes.{can_write, thread-length}
use Rattle.gfx_capture.proofs.Written.{under_thread, put_long}

-- ---- histories

onto_snoc : (es : List Entry) (e : Entry) (h : List Event) → history_onto (es ++ e ∷ []) h ≡ e.event ∷ history_onto es h
onto_snoc [] e h = refl
onto_snoc (x ∷ es) e h = onto_snoc es e (x.event ∷ h)

pub history_snoc : (es : List Entry) (t : ℕ) (e : Event) → history (es ++ entry t e ∷ []) ≡ e ∷ history es
history_snoc es t e = onto_snoc es (entry t e) []

pub valid_more : (h : List Event) (e : Event) → is_valid h ≡ true → fault h e ≡ None → is_valid (e ∷ h) ≡ true
valid_more h e valid none = ap (λ b. b && is_none (fault h e)) valid ∙ ap is_none none

-- ---- nothing yet

nothing_there : (m : ℕ) → IsVersion m → drop 16 (header m) ≡ []
nothing_there m version = ap (drop 16) (sym (append-nil (header m))) ∙ drop_at (header m) [] 16 refl

pub empty_log : (m : ℕ) (bytes : List ℕ) (v : View) → IsVersion m → bytes ≡ header m → v ≡ view_of [] → IsLog m 0 bytes v
unfolding entries_in steps
empty_log m bytes v version is stands =
    let rest : drop 16 bytes ≡ [] = ap (drop 16) is ∙ nothing_there m version in
    let long : length (header m) ≡ 16 = refl in record {
      version = version;
      small = omega (arith, ap length is, long);
      front = is ∙ sym (append-nil (header m)) ∙ ap (λ l. header m ++ l) (sym rest);
      blocks = record { count = refl; spelled = rest; written = tt };
      valid = refl;
      stands = stands;
    }

module _ (m n : ℕ) (bytes : List ℕ) (v : View) (is : IsLog m n bytes v) where
  abbrev entries : List Entry
  entries = entries_in m n (drop 16 bytes)

  pub whole : bytes ≡ header m ++ log_bytes m (entries_in m n (drop 16 bytes))
  whole = is.front ∙ ap (λ l. header m ++ l) (is.blocks).spelled

  pub long : length bytes ≡ log_length m (entries_in m n (drop 16 bytes))
  long = ap length whole ∙ length-append (header m) (log_bytes m (entries_in m n (drop 16 bytes)))

  pub sound : IsSound m (entries_in m n (drop 16 bytes))
  sound = record { valid = is.valid; small = omega (arith, is.small, long); written = (is.blocks).written }

  -- the bytes are a file that means its history
  pub means : Means bytes (frames (history (entries_in m n (drop 16 bytes)))) clean
  means =
      subst (λ (b : List ℕ). Means b (frames (history (entries_in m n (drop 16 bytes)))) clean) (sym whole)
      (logs_are_files m (entries_in m n (drop 16 bytes)) is.version sound.valid sound.small sound.written)

  pub counts : n ≡ length (entries_in m n (drop 16 bytes))
  counts = sym (is.blocks).count

  pub few : n ≤ 2 ^ 28
  few = omega (arith, counts, few_blocks m (entries_in m n (drop 16 bytes)), long, is.small)

  pub faults : (e : Event) → first_broken v (checks_of e) ≡ fault (history (entries_in m n (drop 16 bytes))) e
  faults e = ap (λ w. first_broken w (checks_of e)) is.stands

  -- one block more
  module _ (t : ℕ) (e : Event) (one new : List ℕ) (w : View) (low : t < 2 ^ 64) (put : IsPutOf m e one) (room : length bytes + length one ≤ max_log)
      (passes : first_broken v (checks_of e) ≡ None) (grown : new ≡ bytes ++ with_thread t one) (next : w ≡ after_event v e) where
    more_bytes : new ≡ bytes ++ encoding m t e
    more_bytes = grown ∙ ap (λ l. bytes ++ l) (under_thread m t e one put)

    behind : drop 16 new ≡ drop 16 bytes ++ encoding m t e
    behind = ap (drop 16) more_bytes ∙ drop-append-le 16 bytes (encoding m t e) (let sixteen : length (header m) ≡ 16 = refl in omega (arith, ap length is.front, length-append (header m) (drop 16 bytes), sixteen))

    are : AreEntries m (n + 1) (drop 16 new) (entries_in m n (drop 16 bytes) ++ entry t e ∷ [])
    are = subst (λ l. AreEntries m (n + 1) l (entries_in m n (drop 16 bytes) ++ entry t e ∷ [])) (sym behind)
        (more m n t e (drop 16 bytes) (entries_in m n (drop 16 bytes)) is.blocks (can_write m t e low put.can))

    pub entries_more : entries_in m (n + 1) (drop 16 new) ≡ entries_in m n (drop 16 bytes) ++ entry t e ∷ []
    entries_more = read m (n + 1) (drop 16 new) (entries_in m n (drop 16 bytes) ++ entry t e ∷ []) are

    history_more : history (entries_in m (n + 1) (drop 16 new)) ≡ e ∷ history (entries_in m n (drop 16 bytes))
    history_more = ap history entries_more ∙ history_snoc (entries_in m n (drop 16 bytes)) t e

    pub log_more : IsLog m (n + 1) new w
    log_more = record {
      version = is.version;
      small = omega (arith, room, ap length more_bytes, length-append bytes (encoding m t e), thread-length m 0 t e (put.can).unmarked, ap length put.spelled);
      front = more_bytes ∙ ap (λ l. l ++ encoding m t e) is.front ∙ append_assoc (header m) (drop 16 bytes) (encoding m t e) ∙ ap (λ l. header m ++ l) (sym behind);
      blocks = subst (AreEntries m (n + 1) (drop 16 new)) (sym entries_more) are;
      valid = ap is_valid history_more ∙ valid_more (history (entries_in m n (drop 16 bytes))) e is.valid (sym (faults e) ∙ passes);
      stands = next ∙ ap (λ u. after_event u e) is.stands ∙ sym (view-event e (history (entries_in m n (drop 16 bytes)))) ∙ ap view (sym history_more);
    }

  -- no block more
  pub full : (t : ℕ) (e : Event) (one : List ℕ) (l wanted : ℕ) (after : List Entry) → IsPutOf m e one → l ≡ length bytes → wanted ≡ length one → max_log < l + wanted
      → after ≡ entries_in m n (drop 16 bytes) → AnswersOne m (entries_in m n (drop 16 bytes)) t e (Err (block.LogFull l wanted)) after
  full t e one l wanted after put l-is wanted-is over same = (
    same,
    record {
      length_is = l-is ∙ long;
      wanted_is = wanted-is ∙ ap length put.spelled ∙ sym (thread-length m 0 t e (put.can).unmarked);
      over = over;
    },
  )

  pub refused : (t : ℕ) (one : List ℕ) (f : ApplyFault) (w : View) (after : List Entry) → length bytes + length one ≤ max_log → Took m one v (Err f) w
      → after ≡ entries_in m n (drop 16 bytes) → (e : Event) → IsPutOf m e one → AnswersOne m (entries_in m n (drop 16 bytes)) t e (Err (refusal_of f)) after
  refused t one (apply.Rule f) w after room took same e put = (
    same,
    record {
      fits = omega (arith, room, long, thread-length m 0 t e (put.can).unmarked, ap length put.spelled);
      fault_is = sym (faults e) ∙ took.1 e put;
    },
  )
  refused t one apply.WantMemory w after room took same e put = same

-- and the bytes
pub cut_back : (bytes one new cut : List ℕ) (n : ℕ) → new ≡ bytes ++ one → cut ≡ take n new → n ≡ length bytes → cut ≡ bytes
cut_back bytes one new cut n grown is from = is ∙ ap (take n) grown ∙ take_at bytes one n (sym from)

-- ---- the same, of a log as contracts see it

module _ (m n : ℕ) (bytes : List ℕ) (v : View) (is : IsLog m n bytes v) (old : Logged) (seen : logged m n bytes ≡ old) (t : ℕ) (one : List ℕ) where
  back : (e : Event) → IsPutOf old.minor e one → IsPutOf m e one
  back e put = subst (λ (z : Logged). IsPutOf z.minor e one) (sym seen) put

  pub seen_full : (l wanted : ℕ) → l ≡ length bytes → wanted ≡ length one → max_log < l + wanted
      → (e : Event) → IsPutOf old.minor e one → AnswersOne old.minor old.entries t e (Err (block.LogFull l wanted)) old.entries
  seen_full l wanted l-is wanted-is over e put =
      subst (λ (z : Logged). AnswersOne z.minor z.entries t e (Err (block.LogFull l wanted)) z.entries) seen
      (full m n bytes v is t e one l wanted (entries_in m n (drop 16 bytes)) (back e put) l-is wanted-is over refl)

  pub seen_refused : (f : ApplyFault) (w : View) (cut : List ℕ) (r : BlockFault) → r ≡ refusal_of f → length bytes + length one ≤ max_log → Took m one v (Err f) w → cut ≡ bytes
      → (e : Event) → IsPutOf old.minor e one → AnswersOne old.minor old.entries t e (Err r) (entries_in m n (drop 16 cut))
  seen_refused f w cut r r-is room took same e put =
      subst (λ (z : Logged). AnswersOne z.minor z.entries t e (Err r) (entries_in m n (drop 16 cut))) seen
      (subst (λ (z : BlockFault). AnswersOne m (entries_in m n (drop 16 bytes)) t e (Err z) (entries_in m n (drop 16 cut))) (sym r-is)
      (refused m n bytes v is t one f w (entries_in m n (drop 16 cut)) room took (ap (λ l. entries_in m n (drop 16 l)) same) e (back e put)))

  pub put_is_long : IsPut old.minor one → 24 ≤ length one
  put_is_long put = put_long m put.0 one (back put.0 put.1)

  module _ (new : List ℕ) (w : View) (low : t < 2 ^ 64) (room : length bytes + length one ≤ max_log) (grown : new ≡ bytes ++ with_thread t one) (took : Took m one v (Ok tt) w) where
    pub seen_entries : (e : Event) → IsPutOf old.minor e one → entries_in m (n + 1) (drop 16 new) ≡ old.entries ++ entry t e ∷ []
    seen_entries e put =
        let put' = back e put in
        entries_more m n bytes v is t e one new w low put' room (took e put').0 grown (took e put').1 ∙ ap (λ (z : Logged). z.entries ++ entry t e ∷ []) seen

    pub seen_log : IsPut old.minor one → IsLog m (n + 1) new w
    seen_log put = let put' = back put.0 put.1 in log_more m n bytes v is t put.0 one new w low put' room (took put.0 put').0 grown (took put.0 put').1
