-- Operations that set layouts change no bytes, so that they may be left out.
use Rattle.std.proofs.Common.{◌≡◌, ℕ, ◌+◌, ◌-◌, Bool, true, false, List, [], ◌∷◌, ◌++◌, refl, ap, sym, ◌∙◌, if◌then◌else◌}
use Rattle.std.specs.Prelude.{filter, flat_map, length, slice_index}
use Rattle.gfx_types.specs.declared.op.Op.{Op}
use Rattle.gfx_types.specs.declared.op.Op.TheVariants as op
use Rattle.gfx_types.specs.declared.op.Place.{Place}
use Rattle.gfx_model.specs.Steps.{Change}
use Rattle.gfx_model.specs.Steps.Change.{put, fill, copy, set_layout}
use Rattle.gfx_model.specs.Bytes.{byte, covers_byte, word_byte}
use Rattle.gfx_model.specs.Effects.{changes_of_op}
use Rattle.gfx_model.specs.History.{onto}
use Rattle.gfx_ops.specs.Operations.{changes_bytes}
use Rattle.gfx_replay.specs.Held.{Bytes, HoldsMore}
use Rattle.gfx_replay.specs.Ranges.{Sizes, AreAllWithin}
use Rattle.gfx_replay.proofs.Covering.{left_same}
use Rattle.gfx_replay.proofs.Rows.{onto-append}

-- ---- the same bytes

-- both leave the same bytes of each place
abbrev LeaveSame : List Change → List Change → Type 0
LeaveSame es fs = (at : Place) (i : ℕ) → byte es at i ≡ byte fs at i

same_more : (c : Change) (es fs : List Change) → LeaveSame es fs → LeaveSame (c ∷ es) (c ∷ fs)
unfolding byte
same_more (put to offset bytes) es fs same at i = ap (λ x. if covers_byte to offset (length bytes) at i then slice_index bytes (i - offset) else x) (same at i)
same_more (fill to offset n word) es fs same at i = ap (λ x. if covers_byte to offset n at i then word_byte word (i - offset) else x) (same at i)
same_more (copy to to_offset source source_offset n) es fs same at i = by (covers_byte to to_offset n at i)
  where
    by : (t : Bool) → ◌≡◌ {A = ℕ} (elim t [ true ↦ byte es source (source_offset + (i - to_offset)) | false ↦ byte es at i ]) (elim t [ true ↦ byte fs source (source_offset + (i - to_offset)) | false ↦ byte fs at i ])
    by true = same source (source_offset + (i - to_offset))
    by false = same at i
same_more (set_layout image layout) es fs same at i = same at i

same_onto : (cs es fs : List Change) → LeaveSame es fs → LeaveSame (onto cs es) (onto cs fs)
same_onto [] es fs same = same
same_onto (c ∷ cs) es fs same = same_onto cs (c ∷ es) (c ∷ fs) (same_more c es fs same)

same_behind : (xs ys zs es fs : List Change) → LeaveSame (onto ys (onto xs es)) (onto zs (onto xs fs)) → LeaveSame (onto (xs ++ ys) es) (onto (xs ++ zs) fs)
same_behind xs ys zs es fs same at i =
    ap (λ l. byte l at i) (onto-append xs ys es) ∙ same at i ∙ sym (ap (λ l. byte l at i) (onto-append xs zs fs))

-- ---- operations

-- what operations change, and what those of them change that change bytes
abbrev pub all_changes : List ℕ → List Op → List Change
all_changes given ops = flat_map (changes_of_op given) ops

abbrev pub bytes_changes : List ℕ → List Op → List Change
bytes_changes given ops = flat_map (changes_of_op given) (filter changes_bytes ops)

-- with one more operation, which changes bytes
op_same : (given : List ℕ) (o : Op) (ops : List Op) (es fs : List Change) →
    ((es fs : List Change) → LeaveSame es fs → LeaveSame (onto (bytes_changes given ops) es) (onto (all_changes given ops) fs)) → LeaveSame es fs →
    LeaveSame (onto (changes_of_op given o ++ bytes_changes given ops) es) (onto (changes_of_op given o ++ all_changes given ops) fs)
op_same given o ops es fs go_on same =
    let one = changes_of_op given o in
    same_behind one (bytes_changes given ops) (all_changes given ops) es fs (go_on (onto one es) (onto one fs) (same_onto one es fs same))

same_bytes : (given : List ℕ) (ops : List Op) (es fs : List Change) → LeaveSame es fs → LeaveSame (onto (bytes_changes given ops) es) (onto (all_changes given ops) fs)
unfolding byte
same_bytes given [] es fs same = same
same_bytes given (op.SetLayout image layout ∷ ops) es fs same = same_bytes given ops es (set_layout image layout ∷ fs) same
same_bytes given (op.Put place offset bytes ∷ ops) es fs same = op_same given (op.Put place offset bytes) ops es fs (same_bytes given ops) same
same_bytes given (op.PutGiven place offset ∷ ops) es fs same = op_same given (op.PutGiven place offset) ops es fs (same_bytes given ops) same
same_bytes given (op.Fill place offset n word ∷ ops) es fs same = op_same given (op.Fill place offset n word) ops es fs (same_bytes given ops) same
same_bytes given (op.Copy to to_offset to_step source source_offset source_step n rows ∷ ops) es fs same =
    op_same given (op.Copy to to_offset to_step source source_offset source_step n rows) ops es fs (same_bytes given ops) same

-- places that hold what the others make hold what all make
pub all_hold : (given : List ℕ) (ops : List Op) (b c : Bytes) → HoldsMore (bytes_changes given ops) b c → HoldsMore (all_changes given ops) b c
all_hold given ops b c ran es holds = record {
  left = λ at bytes is.
      left_same (onto (bytes_changes given ops) es) (onto (all_changes given ops) es) at bytes
      (λ i. sym (same_bytes given ops es es (λ at i. refl) at i)) ((ran es holds).left at bytes is);
}

-- where all operations lie in the places, the others do
pub within_bytes : (sizes : Sizes) (given : List ℕ) (ops : List Op) → AreAllWithin sizes given ops → AreAllWithin sizes given (filter changes_bytes ops)
within_bytes sizes given [] all = tt
within_bytes sizes given (op.SetLayout image layout ∷ ops) all = within_bytes sizes given ops all.1
within_bytes sizes given (op.Put place offset bytes ∷ ops) all = (all.0, within_bytes sizes given ops all.1)
within_bytes sizes given (op.PutGiven place offset ∷ ops) all = (all.0, within_bytes sizes given ops all.1)
within_bytes sizes given (op.Fill place offset n word ∷ ops) all = (all.0, within_bytes sizes given ops all.1)
within_bytes sizes given (op.Copy to to_offset to_step source source_offset source_step n rows ∷ ops) all = (all.0, within_bytes sizes given ops all.1)
