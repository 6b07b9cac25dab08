-- Events of a buffer in their order: the block of the next one, and what was appended before it.
use Rattle.std.proofs.Common.{◌≡◌, ℕ, zero, suc, ◌+◌, ◌≤◌, ◌<◌, List, [], ◌∷◌, ◌++◌, length, take, drop, get_or, Some, Err, refl, sym, ap, ◌∙◌, subst, arith, add-one, append_assoc, length-append, drop-cons}
use Rattle.std.specs.Prelude.{slice_get}
use Rattle.std.specs.List.{AllByRecursion}
use Rattle.std.proofs.lemmas.List.{take_at, drop_at, take_more}
use Rattle.std.proofs.lemmas.Option.{slice_get-get_or}
use Rattle.gfx_model.specs.Events.{Event}
use Rattle.gfx_model.specs.Events.Event.{EndSection}
use Rattle.gfx_model.specs.Spelling.{encoding}
use Rattle.gfx_model.specs.Blocks.{size_field, effect}
use Rattle.gfx_script_model.specs.Runs.{Entry, log_bytes}
use Rattle.gfx_grammar.specs.Framing.{IsBlock}
use Rattle.gfx_grammar.proofs.FramingLaws.{size_field-append}
use Rattle.gfx_grammar.proofs.WrittenLaws.{encoding-block}
use Rattle.gfx_capture.specs.declared.answer.BlockFault.{BlockFault}
use Rattle.gfx_capture.specs.declared.answer.BlockFault.TheVariants as block
use Rattle.gfx_capture.specs.declared.answer.AppendFault.{AppendFault}
use Rattle.gfx_capture.specs.Entry.{entry, entries_under}
use Rattle.gfx_capture.specs.ThreadBuffer.{CanBePut, IsPutOf}
use Rattle.gfx_capture.specs.Append.{Stand, IsFaulty, IsFull, Answers, AnswersOne, ended}
use Rattle.gfx_capture.proofs.ThreadBytes.{can_write}
use Rattle.gfx_capture.proofs.Buffers.{entries-append}

module _ {X : Type 0} where
  all_at : (P : X → Type 0) (xs : List X) (k : ℕ) (d : X) → AllByRecursion P xs → k < length xs → P (get_or xs k d)
  all_at P [] k d all less = absurd (omega arith)
  all_at P (x ∷ xs) zero d all less = all.0
  all_at P (x ∷ xs) (suc k) d all less = all_at P xs k d all.1 (omega arith)

module _ (m : ℕ) (events : List Event) (can : AllByRecursion (CanBePut m) events) (k : ℕ) (less : k < length events) where
  abbrev pub next : Event
  next = get_or events k (EndSection 0)

  pub can_next : CanBePut m next
  can_next = all_at (CanBePut m) events k (EndSection 0) can less

  pub got : slice_get events k ≡ Some next
  got = slice_get-get_or events k (EndSection 0) less

  split : drop k events ≡ next ∷ drop (k + 1) events
  split = drop-cons events k (EndSection 0) less ∙ ap (λ j. next ∷ drop j events) (sym (add-one k))

  -- the bytes from the next block on
  module _ (rest : List ℕ) (is : rest ≡ log_bytes m (entries_under 0 (drop k events))) where
    parts : rest ≡ encoding m 0 next ++ log_bytes m (entries_under 0 (drop (k + 1) events))
    parts = is ∙ ap (λ l. log_bytes m (entries_under 0 l)) split

    first : IsBlock m (encoding m 0 next) (effect 0 next)
    first = encoding-block m 0 next (can_write m 0 next (omega arith) can_next)

    size : 12 + size_field rest ≡ length (encoding m 0 next)
    size = ap (λ l. 12 + size_field l) parts
        ∙ ap (λ n. 12 + n) (size_field-append (encoding m 0 next) (log_bytes m (entries_under 0 (drop (k + 1) events))) (let l = first.long in omega arith)) ∙ sym first.long

    pub head_there : 12 ≤ length rest
    head_there = let l = first.long in omega (arith, ap length parts, length-append (encoding m 0 next) (log_bytes m (entries_under 0 (drop (k + 1) events))))

    pub block_there : 12 + size_field rest ≤ length rest
    block_there = omega (arith, size, ap length parts, length-append (encoding m 0 next) (log_bytes m (entries_under 0 (drop (k + 1) events))))

    pub block_put : (one : List ℕ) → one ≡ take (12 + size_field rest) rest → IsPutOf m next one
    block_put one cut = record {
      can = can_next;
      spelled = cut ∙ ap (take (12 + size_field rest)) parts ∙ take_at (encoding m 0 next) (log_bytes m (entries_under 0 (drop (k + 1) events))) (12 + size_field rest) (sym size);
    }

    pub behind : (more : List ℕ) → more ≡ drop (12 + size_field rest) rest → more ≡ log_bytes m (entries_under 0 (drop (k + 1) events))
    behind more cut = cut ∙ ap (drop (12 + size_field rest)) parts ∙ drop_at (encoding m 0 next) (log_bytes m (entries_under 0 (drop (k + 1) events))) (12 + size_field rest) (sym size)

  -- one event more stands, or the append ends
  module _ (before log : List Entry) (t : ℕ) (stand : Stand before t events k log) where
    pub one_more : (after : List Entry) → after ≡ log ++ entry t next ∷ [] → Stand before t events (k + 1) after
    one_more after grown =
        grown ∙ ap (λ l. l ++ entry t next ∷ []) stand ∙ append_assoc before (entries_under t (take k events)) (entry t next ∷ [])
        ∙ ap (λ l. before ++ l) (sym (ap (entries_under t) (take_more events k (EndSection 0) less) ∙ entries-append t (take k events) (next ∷ [])))

    pub ends : (f : BlockFault) (r : AppendFault) (after : List Entry) → AnswersOne m log t next (Err f) after → r ≡ ended f (length before) k → Answers m before t events (Err r) after
    ends f r after one is = subst (λ z. Answers m before t events (Err z) after) (sym is) (by f one)
      where
        by : (f : BlockFault) → AnswersOne m log t next (Err f) after → Answers m before t events (Err (ended f (length before) k)) after
        by (block.Refused f) one = (less, refl, one.0 ∙ stand, (next, got, subst (λ l. IsFaulty m t l next f) (sym one.0) one.1))
        by (block.LogFull l wanted) one = (less, one.0 ∙ stand, (next, got, subst (λ z. IsFull m t z next l wanted) (sym one.0) one.1))
        by block.WantMemory one = (less, one ∙ stand)
