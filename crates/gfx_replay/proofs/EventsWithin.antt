-- The operations of an event without a fault lie in the places of the answers.
use Rattle.std.proofs.Common.{◌≡◌, ℕ, ◌+◌, ◌≤◌, Bool, true, false, cond, refl, sym, ap, subst, List, [], ◌∷◌, flat_map, length, Option, Some, None, is_some, nat_le, arith}
use Rattle.std.specs.Prelude.{IsSomeAnd}
use Rattle.std.specs.Option.{option_map_or}
use Rattle.std.specs.List.{AllByRecursion}
use Rattle.std.proofs.lemmas.Bool.{leb-true, eqb-true, and_parts}
use Rattle.gfx_types.specs.declared.names.Kind.TheVariants as kind
use Rattle.gfx_types.specs.declared.names.Fault.TheVariants.{CommandState, LayoutDiffers}
use Rattle.gfx_types.specs.declared.op.Place.{Place}
use Rattle.gfx_types.specs.declared.op.Place.TheVariants as place
use Rattle.gfx_model.specs.Events.{Event}
use Rattle.gfx_model.specs.Events.Event.{CreateInstance, QueueSubmit, FillMemory, InitImage}
use Rattle.gfx_model.specs.Steps.{Object, Detail}
use Rattle.gfx_model.specs.Steps.Detail.{an_image}
use Rattle.gfx_model.specs.Questions.{passes, Range, State, is_kept}
use Rattle.gfx_model.specs.Views.{View, is_live, size_of}
use Rattle.gfx_model.specs.Covers.{is_fetched}
use Rattle.gfx_model.specs.Checks.{Turn, first_broken, broken, range_holds, wanted_bytes, wanted_by, turns_of, turns_fault, unless, is_executable, meets, layouts_after, layouts_of, but}
use Rattle.gfx_model.specs.Checks.Turn.{wait, execute, signal}
use Rattle.gfx_model.specs.Checks.Check.{in_turn}
use Rattle.gfx_model.specs.Table.{checks_of, row_of}
use Rattle.gfx_model.proofs.Covered.{unless_none, first_none}
use Rattle.gfx_model.proofs.Lists.{all_append}
use Rattle.gfx_laws.specs.Lawful.{base, IsLawful, LawfulObjects, LawfulBuffers, IsCommandOf}
use Rattle.gfx_laws.proofs.EventReady.{last_pass}
use Rattle.gfx_ops.specs.Operations.{ops_of_command}
use Rattle.gfx_tracker.specs.Operations.{ops_of, ops_of_turn, image_op, given_by}
use Rattle.gfx_replay.specs.Ranges.{HasRange, IsWithin, AreAllWithin}
use Rattle.gfx_replay.specs.Sizes.{place_size}
use Rattle.gfx_replay.proofs.SizeChanges.{row_passes}
use Rattle.gfx_replay.proofs.Within.{command_within}

-- ---- bytes of metadata

memory_range : (v : View) (memory offset n : ℕ) → is_live v kind.Memory memory ≡ true → offset + n ≤ size_of v memory → HasRange (place_size v) (place.Memory memory) offset n
memory_range v memory offset n live fits = subst (λ t. IsSomeAnd (cond t (Some (size_of v memory)) None) (λ size. offset + n ≤ size)) (sym live) fits

fill_fits : (v : View) → IsLawful v [] → (memory offset n : ℕ) (t : Bool) → cond t (nat_le (offset + n) (size_of v memory)) (option_map_or (range_holds offset n) (v.mapped memory) false) ≡ true →
    offset + n ≤ size_of v memory
fill_fits v h memory offset n true e = leb-true (offset + n) (size_of v memory) e
fill_fits v h memory offset n false e = by (v.mapped memory) refl e
  where
    by : (m : Option Range) → v.mapped memory ≡ m → option_map_or (range_holds offset n) m false ≡ true → offset + n ≤ size_of v memory
    by None is e = absurd (cc)
    by (Some r) is e =
        let both = and_parts (nat_le r.offset offset) (nat_le (offset + n) (r.offset + r.length)) e in
        let within = leb-true (offset + n) (r.offset + r.length) both.1 in
        let range : r.offset + r.length ≤ size_of v memory = ((h.states).mapped memory r is).ends in
        omega (arith, within, range)

image_range : (v : View) (image : ℕ) (bytes : List ℕ) → length bytes ≡ wanted_by v image → AreAllWithin (place_size v) bytes (option_map_or (λ o. image_op o.detail image) (v.live image) [])
image_range v image bytes count = by (v.live image) refl count
  where
    by_detail : (p : ℕ) (d : Detail) → v.live image ≡ Some (record { parent = p; detail = d }) → length bytes ≡ wanted_bytes d (size_of v image) → AreAllWithin (place_size v) bytes (image_op d image)
    by_detail p (an_image format width height usage (Some index)) live count =
        let own : passes (λ o. is_fetched o.detail) (v.live image) ≡ true = ap (passes (λ o. is_fetched o.detail)) live in
        (subst (λ t. IsSomeAnd (cond t (Some (size_of v image)) None) (λ size. 0 + length bytes ≤ size)) (sym own) (omega (arith, count)), tt)
    by_detail p (an_image format width height usage None) live count = tt
    by_detail p _ live count = tt

    by : (l : Option Object) → v.live image ≡ l → length bytes ≡ option_map_or (λ o. wanted_bytes o.detail (size_of v image)) l 0 →
        AreAllWithin (place_size v) bytes (option_map_or (λ o. image_op o.detail image) l [])
    by None live count = tt
    by (Some o) live count = by_detail o.parent o.detail live count

-- ---- executions

ops_base : (v : View) (c : Event) → ops_of_command (base v) c ≡ ops_of_command v c
unfolding ops_of_command
ops_base v (CreateInstance instance api) = refl
ops_base v _ = refl

sizes_base : (v : View) → place_size (base v) ≡ place_size v
sizes_base v = λ i at. (by at) i
  where
    by : (at : Place) → place_size (base v) at ≡ place_size v at
    by (place.Memory m) = refl
    by (place.Image x) = refl

kept_executable : (s : State) → is_executable s ≡ true → is_kept s ≡ true
kept_executable State.executable e = refl
kept_executable State.recording e = absurd (cc)
kept_executable State.initial e = absurd (cc)
kept_executable State.invalid e = absurd (cc)

module _ (v : View) (given : List ℕ) (h : LawfulObjects (base v)) (k : LawfulBuffers (base v) v.buffer) where
  commands_within : (cb : ℕ) (cs : List Event) → AllByRecursion (IsCommandOf (base v) cb) cs → AreAllWithin (place_size v) given (flat_map (ops_of_command v) cs)
  commands_within cb [] a = tt
  commands_within cb (c ∷ cs) a =
      all_append (IsWithin (place_size v) given) (ops_of_command v c) (flat_map (ops_of_command v) cs)
      (subst (AreAllWithin (place_size v) given) (ops_base v c)
      (subst (λ sizes. AreAllWithin sizes given (ops_of_command (base v) c)) (sizes_base v) (command_within (base v) given h c (a.0).1)))
      (commands_within cb cs a.1)

  turns_within : (s : ℕ → Bool) (f : ℕ → ℕ) (ts : List Turn) → turns_fault v s f ts ≡ None → AreAllWithin (place_size v) given (flat_map (ops_of_turn v) ts)
  unfolding turns_fault
  turns_within s f [] e = tt
  turns_within s f (wait x ∷ ts) e = turns_within (but x false s) f ts (first_none _ _ e).1
  turns_within s f (signal x ∷ ts) e = turns_within (but x true s) f ts (first_none _ _ e).1
  turns_within s f (execute cb ∷ ts) e =
      let asked = flat_map layouts_of (v.buffer cb).commands in
      let both = first_none (unless (is_executable (v.buffer cb).state) CommandState) _ e in
      let rest = first_none (unless (meets f asked) LayoutDiffers) _ both.1 in
      all_append (IsWithin (place_size v) given) (flat_map (ops_of_command v) (v.buffer cb).commands) (flat_map (ops_of_turn v) ts)
      (commands_within cb (v.buffer cb).commands (k.commands cb (kept_executable _ (unless_none _ _ both.0))))
      (turns_within s (layouts_after f asked) ts rest.1)

-- ---- events

pub ops_within : (v : View) → IsLawful v [] → (e : Event) → first_broken v (checks_of e) ≡ None → AreAllWithin (place_size v) (given_by e) (ops_of v e)
unfolding ops_of row_of broken
ops_within v h (QueueSubmit queue submits fence) none =
    let a = row_passes v (QueueSubmit queue submits fence) none in
    turns_within v [] h.objects h.buffers v.signalled v.layout (turns_of submits fence) (last_pass v _ _ (in_turn (turns_of submits fence)) a.1.1.1)
ops_within v h (FillMemory memory offset bytes) none =
    let a = row_passes v (FillMemory memory offset bytes) none in
    (memory_range v memory offset (length bytes) (unless_none _ _ a.0) (fill_fits v h memory offset (length bytes) (is_some v.section) (unless_none _ _ a.1.1.1.0)), tt)
ops_within v h (InitImage image layout bytes) none =
    let a = row_passes v (InitImage image layout bytes) none in
    (tt, image_range v image bytes (eqb-true (length bytes) (wanted_by v image) (unless_none _ _ a.1.1.1.0)))
ops_within v h _ none = tt
