-- What operations of the device make of the bytes that places hold.
use Rattle.std.proofs.Common.{◌≡◌, ℕ, ◌+◌, ◌≤◌, Bool, true, false, if◌then◌else◌, refl, sym, ap, ◌∙◌, subst, List, [], ◌∷◌, length, Option, Some, None, option_and_then, unwrap_or}
use Rattle.std.specs.Prelude.{IsSomeAnd}
use Rattle.std.specs.Option.{option_map}
use Rattle.std.proofs.lemmas.Bool.{eqb-true, eqb-false}
use Rattle.gfx_types.specs.declared.op.Place.{Place}
use Rattle.gfx_pages.specs.Lists.{overwrite, repeated}
use Rattle.gfx_device.specs.declared.op.Handle.{Handle}
use Rattle.gfx_device.specs.declared.rows.Rows.{Rows}
use Rattle.gfx_device.specs.Rows.{AreWithin, copied}
use Rattle.gfx_device.specs.Places.{IsChanged, same_handle, bytes_of}
use Rattle.gfx_model.specs.Steps.{Change}
use Rattle.gfx_model.specs.Steps.Change.{put, fill, set_layout}
use Rattle.gfx_model.specs.Bytes.{byte, same_place}
use Rattle.gfx_model.specs.History.{onto}
use Rattle.gfx_replay.specs.Handles.{IsSound}
use Rattle.gfx_replay.specs.Held.{Bytes, AreLeft, Holds, HoldsMore}
use Rattle.gfx_replay.specs.Ranges.{sizes_of, HasRange, HasRows}
use Rattle.gfx_replay.specs.Places.{through}
use Rattle.gfx_replay.proofs.Covering.{same_place-true, left_same, put_changes, fill_changes}
use Rattle.gfx_replay.proofs.Overwriting.{left_put, left_fill}
use Rattle.gfx_replay.proofs.Rows.{first_rows, rows_within, rows_between, rows_apart}
use Rattle.gfx_replay.proofs.Through.{Handles, Under, holds_changed}

-- what holds of the bytes of a place, of the bytes under its handle
here : (h : Handles) (d : Under) (at : Place) (k : Handle) (xs : List ℕ) (P : ℕ → Type 0) → h at ≡ Some k → d k ≡ Some xs → IsSomeAnd (sizes_of (through h d) at) P → P (length xs)
here h d at k xs P is e holds = subst (λ o. IsSomeAnd (option_map length o) P) (ap (option_and_then d) is ∙ e) holds

pub put_holds : (h : Handles) (d more : Under) (to : Place) (k : Handle) (o : ℕ) (piece : List ℕ) → IsSound h d → h to ≡ Some k → HasRange (sizes_of (through h d)) to o (length piece) →
    IsChanged k (λ xs. overwrite xs o piece) d more → HoldsMore (put to o piece ∷ []) (through h d) (through h more)
put_holds h d more to k o piece sound is room changed es holds =
    holds_changed h d more to k (λ xs. overwrite xs o piece) es (put to o piece ∷ es) sound is changed
    (λ xs e left. left_put es to o xs piece (here h d to k xs (λ size. o + length piece ≤ size) is e room) left)
    (put_changes es to o piece).others holds

pub fill_holds : (h : Handles) (d more : Under) (to : Place) (k : Handle) (o n word : ℕ) → IsSound h d → h to ≡ Some k → HasRange (sizes_of (through h d)) to o n →
    IsChanged k (λ xs. overwrite xs o (repeated word n)) d more → HoldsMore (fill to o n word ∷ []) (through h d) (through h more)
fill_holds h d more to k o n word sound is room changed es holds =
    holds_changed h d more to k (λ xs. overwrite xs o (repeated word n)) es (fill to o n word ∷ es) sound is changed
    (λ xs e left. left_fill es to o n word xs (here h d to k xs (λ size. o + n ≤ size) is e room) left)
    (fill_changes es to o n word).others holds

-- a row's source as the rows before it left it, where both places are one
abbrev given : Under → Handle → Handle → List ℕ → List ℕ
given d kt kf = λ xs. if same_handle kt kf then xs else bytes_of d kf

-- all rows are left
abbrev RowsLeft : Rows → Place → Place → List Change → List ℕ → (List ℕ → List ℕ) → Type 0
RowsLeft c to source es xs given = AreLeft (onto (first_rows c to source c.rows) es) to (copied c given c.rows xs)

module _ (h : Handles) (d : Under) (c : Rows) (to source : Place) (kt kf : Handle) (sound : IsSound h d) (is_to : h to ≡ Some kt) (is_source : h source ≡ Some kf)
    (target : HasRows (sizes_of (through h d)) to c.to_offset c.to_step c.length c.rows) (room : HasRows (sizes_of (through h d)) source c.from_offset c.from_step c.length c.rows) where
  copy_left : (es : List Change) → Holds (through h d) es → (xs : List ℕ) → d kt ≡ Some xs → AreLeft es to xs → RowsLeft c to source es xs (given d kt kf)
  copy_left es holds xs e left = by (same_handle kt kf) refl
    where
      reach : AreWithin (length xs) c.to_offset c.to_step c.length c.rows
      reach = here h d to kt xs (λ size. AreWithin size c.to_offset c.to_step c.length c.rows) is_to e target

      apart : (t : Bool) → same_place to source ≡ t → same_handle kt kf ≡ false → t ≡ false
      apart false e other = refl
      apart true e other =
          let one : Some kt ≡ Some kf = sym is_to ∙ ap h (same_place-true to source e) ∙ is_source in
          absurd (eqb-false kt.key kf.key other (ap (λ (o : Option Handle). unwrap_or (option_map (λ k. k.key) o) 0) one))

      other : (o : Option (List ℕ)) → d kf ≡ o → same_place to source ≡ false → RowsLeft c to source es xs (λ xs. bytes_of d kf)
      other None e different = absurd (subst (λ o. IsSomeAnd (option_map length o) (λ size. AreWithin size c.from_offset c.from_step c.length c.rows)) (ap (option_and_then d) is_source ∙ e) room)
      other (Some ys) e different =
          subst (λ zs. AreLeft (onto (first_rows c to source c.rows) es) to (copied c (λ xs. zs) c.rows xs)) (sym (ap (λ o. unwrap_or o []) e))
          (rows_between c to source es xs ys different reach
          (here h d source kf ys (λ size. AreWithin size c.from_offset c.from_step c.length c.rows) is_source e room) left
          (holds.left source ys (ap (option_and_then d) is_source ∙ e)))

      by : (t : Bool) → same_handle kt kf ≡ t → RowsLeft c to source es xs (λ xs. if t then xs else bytes_of d kf)
      by true same =
          let one : kf ≡ kt = ap (λ k. record { key = k }) (sym (eqb-true kt.key kf.key same)) in
          let place : source ≡ to = same_place-true source to (sound.own source to kt (is_source ∙ ap (λ k. Some k) one) is_to) in
          rows_within c to source es xs place reach
          (here h d source kf xs (λ size. AreWithin size c.from_offset c.from_step c.length c.rows) is_source (ap d one ∙ e) room) left
      by false same = other (d kf) refl (apart (same_place to source) refl same)

  pub copy_holds : (more : Under) → IsChanged kt (copied c (given d kt kf) c.rows) d more → HoldsMore (first_rows c to source c.rows) (through h d) (through h more)
  copy_holds more changed es holds =
      holds_changed h d more to kt (copied c (given d kt kf) c.rows) es (onto (first_rows c to source c.rows) es) sound is_to changed
      (copy_left es holds)
      (λ at i other. rows_apart c to source at other c.rows es i) holds

-- a layout is no byte
pub layout_holds : (b : Bytes) (image layout : ℕ) → HoldsMore (set_layout image layout ∷ []) b b
unfolding byte
layout_holds b image layout es holds = record { left = λ at bytes e. left_same es (set_layout image layout ∷ es) at bytes (λ i. refl) (holds.left at bytes e) }
