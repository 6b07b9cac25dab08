-- What comes of events that have a spelling has one.
use Rattle.std.proofs.Common.{ℕ, zero, suc, ◌+◌, ◌-◌, ◌<◌, Bool, true, false, ◌&&◌, ◌==◌, List, [], ◌∷◌, ◌++◌, length, sym, subst, arith}
use Rattle.std.specs.Prelude.{◌^◌, slice_index}
use Rattle.std.specs.List.{AllByRecursion, list_any}
use Rattle.std.proofs.lemmas.Bool.{eqb-true, cond_both}
use Rattle.gfx_types.specs.declared.op.Place.{Place}
use Rattle.gfx_model.specs.Spelling.{HasSpelling}
use Rattle.gfx_model.specs.Steps.{Step, Change, resources_of}
use Rattle.gfx_model.specs.Steps.Step.{creates, ends, binds, begins, records, finishes, resets, resets_pool, executed, changes}
use Rattle.gfx_model.specs.Steps.Change.{put, fill, copy, set_layout}
use Rattle.gfx_model.specs.Questions.{State, Buffer, new_buffer, passes, is_in_pool, is_once, is_kept, invalidated, executed_changes}
use Rattle.gfx_model.specs.Views.{View, view_of}
use Rattle.gfx_model.specs.Bytes.{byte, covers_byte, word_byte}
use Rattle.gfx_model.specs.After.{after, is_gone, is_lost, is_alive}
use Rattle.gfx_model.specs.History.{onto}
use Rattle.gfx_model.proofs.Steps.{view_of-step}
use Rattle.gfx_model.proofs.Lists.{all_append}
use Rattle.gfx_laws.proofs.MoreObjects.{split_create, binding_left}
use Rattle.gfx_laws.proofs.FewerObjects.{ended_some}
use Rattle.gfx_laws.proofs.LawfulObjects.{split_bind}
use Rattle.gfx_laws.proofs.LawfulBytes.{changed}
use Rattle.gfx_laws.proofs.ValidHistories.{changes-step}
use Rattle.gfx_section_law.specs.Spelled.{DetailFits, IsSpelled, SpelledStep}

index_small : (bytes : List ℕ) (i : ℕ) → AllByRecursion (λ b. b < 256) bytes → slice_index bytes i < 256
index_small [] i a = omega arith
index_small (b ∷ bytes) zero a = a.0
index_small (b ∷ bytes) (suc i) a = index_small bytes i a.1

abbrev Commands : ℕ → Buffer → Type 0
Commands m b = AllByRecursion (HasSpelling m) b.commands

same_invalid : (m : ℕ) (hit : Bool) (b : Buffer) → Commands m b → Commands m (invalidated hit b)
same_invalid m hit b c = cond_both (hit && is_kept b.state) (record b { state = State.invalid }) b (Commands m) (λ e. c) (λ e. c)

spelled_after : (m : ℕ) (v : View) (s : Step) (es : List Change) → IsSpelled m v es → SpelledStep m s → IsSpelled m (after v s) (changed s es)
unfolding after byte
spelled_after m v (creates i p d) es h a = record {
  live = λ x o e. split_create (λ o. (x < 2 ^ 64) × (o.parent < 2 ^ 64) × DetailFits o.detail) (i == x) (v.live x) (record { parent = p; detail = d }) o
      (λ same. (subst (λ y. y < 2 ^ 64) (eqb-true i x same) a.0, a.1, a.2)) (λ other was. h.live x o was) e;
  bound = λ x b e. h.bound x b (binding_left (i == x) (v.bound x) b e).1;
  commands = λ cb. cond_both (i == cb) new_buffer (v.buffer cb) (Commands m) (λ e. tt) (λ e. h.commands cb);
  bytes = h.bytes;
}
spelled_after m v (ends gone) es h a = record {
  live = λ x o e. h.live x o (ended_some gone x (v.live x) o e).0;
  bound = λ x b e. h.bound x b (binding_left (is_gone v gone x) (v.bound x) b e).1;
  commands = λ cb. cond_both (is_gone v gone cb) new_buffer (invalidated (list_any (λ c. list_any (is_lost v gone) (resources_of c)) (v.buffer cb).commands) (v.buffer cb)) (Commands m) (λ e. tt)
      (λ e. same_invalid m (list_any (λ c. list_any (is_lost v gone) (resources_of c)) (v.buffer cb).commands) (v.buffer cb) (h.commands cb));
  bytes = h.bytes;
}
spelled_after m v (binds r memory offset) es h a = record {
  live = h.live;
  bound = λ x b e. split_bind (λ b. (b.memory < 2 ^ 64) × (b.offset < 2 ^ 64)) (r == x && is_alive v x) (v.bound x) (record { memory = memory; offset = offset }) b (λ same. a) (λ other was. h.bound x b was) e;
  commands = h.commands;
  bytes = h.bytes;
}
spelled_after m v (begins cb flags) es h a = record {
  live = h.live;
  bound = h.bound;
  bytes = h.bytes;
  commands = λ x. cond_both (cb == x && is_alive v x) (record { state = State.recording; flags = flags; commands = [] }) (v.buffer x) (Commands m) (λ e. tt) (λ e. h.commands x);
}
spelled_after m v (records cb c) es h a = record {
  live = h.live;
  bound = h.bound;
  bytes = h.bytes;
  commands = λ x. cond_both (cb == x && is_alive v x) (record (v.buffer x) { commands = (v.buffer x).commands ++ c ∷ [] }) (v.buffer x) (Commands m)
      (λ e. all_append (HasSpelling m) (v.buffer x).commands (c ∷ []) (h.commands x) (a, tt)) (λ e. h.commands x);
}
spelled_after m v (finishes cb) es h a = record {
  live = h.live;
  bound = h.bound;
  bytes = h.bytes;
  commands = λ x. cond_both (cb == x && is_alive v x) (record (v.buffer x) { state = State.executable }) (v.buffer x) (Commands m) (λ e. h.commands x) (λ e. h.commands x);
}
spelled_after m v (resets cb) es h a = record {
  live = h.live;
  bound = h.bound;
  bytes = h.bytes;
  commands = λ x. cond_both (cb == x) new_buffer (v.buffer x) (Commands m) (λ e. tt) (λ e. h.commands x);
}
spelled_after m v (resets_pool pool) es h a = record {
  live = h.live;
  bound = h.bound;
  bytes = h.bytes;
  commands = λ x. cond_both (passes (is_in_pool pool) (v.live x)) new_buffer (v.buffer x) (Commands m) (λ e. tt) (λ e. h.commands x);
}
spelled_after m v (executed cb) es h a = record {
  live = h.live;
  bound = h.bound;
  bytes = h.bytes;
  commands = λ x. same_invalid m (cb == x && is_once (v.buffer x)) (v.buffer x) (h.commands x);
}
spelled_after m v (changes (put to offset bytes)) es h a = record {
  live = h.live;
  bound = h.bound;
  commands = h.commands;
  bytes = λ at i. cond_both (covers_byte to offset (length bytes) at i) (slice_index bytes (i - offset)) (byte es at i) (λ b. b < 256) (λ e. index_small bytes (i - offset) a) (λ e. h.bytes at i);
}
spelled_after m v (changes (fill to offset n word)) es h a = record {
  live = h.live;
  bound = h.bound;
  commands = h.commands;
  bytes = λ at i. cond_both (covers_byte to offset n at i) (word_byte word (i - offset)) (byte es at i) (λ b. b < 256) (λ e. omega arith) (λ e. h.bytes at i);
}
spelled_after m v (changes (copy to to_offset source source_offset n)) es h a = record {
  live = h.live;
  bound = h.bound;
  commands = h.commands;
  bytes = λ at i. copied at i (covers_byte to to_offset n at i);
}
  where
    copied : (at : Place) (i : ℕ) (t : Bool) → elim t [ true ↦ byte es source (source_offset + (i - to_offset)) | false ↦ byte es at i ] < 256
    copied at i true = h.bytes source (source_offset + (i - to_offset))
    copied at i false = h.bytes at i
spelled_after m v (changes (set_layout image l)) es h a = record { live = h.live; bound = h.bound; commands = h.commands; bytes = h.bytes }
spelled_after m v _ es h a = record { live = h.live; bound = h.bound; commands = h.commands; bytes = h.bytes }

pub spelled_onto : (m : ℕ) (ss h : List Step) → IsSpelled m (view_of h) (executed_changes h) → AllByRecursion (SpelledStep m) ss → IsSpelled m (view_of (onto ss h)) (executed_changes (onto ss h))
spelled_onto m [] h l a = l
spelled_onto m (s ∷ ss) h l a =
    let next : IsSpelled m (after (view_of h) s) (changed s (executed_changes h)) = spelled_after m (view_of h) s (executed_changes h) l a.0 in
    spelled_onto m ss (s ∷ h)
    (subst (λ v. IsSpelled m v (executed_changes (s ∷ h))) (sym (view_of-step s h)) (subst (IsSpelled m (after (view_of h) s)) (sym (changes-step s h)) next)) a.1
