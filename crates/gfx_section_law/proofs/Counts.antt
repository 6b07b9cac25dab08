-- Each block of the section is small, and there are not too many.
use Rattle.std.proofs.Common.{◌≡◌, ℕ, ◌+◌, ◌≤◌, Bool, true, false, ◌==◌, List, [], ◌∷◌, length, flat_map, sum_by, length-append, Option, Some, None, if◌then◌else◌, refl, sym, ap, subst, ◌∙◌, arith}
use Rattle.std.specs.List.{AllByRecursion}
use Rattle.std.specs.Option.{option_map_or}
use Rattle.std.proofs.lemmas.Bool.{eqb-true}
use Rattle.gfx_types.specs.declared.names.Kind.{Kind}
use Rattle.gfx_types.specs.declared.names.Kind.TheVariants as kind
use Rattle.gfx_model.specs.Events.{Event}
use Rattle.gfx_model.specs.Events.Event.{EndCommandBuffer, BeginSection, EndSection}
use Rattle.gfx_model.specs.Spelling.{fields_of}
use Rattle.gfx_model.specs.Steps.{Object, Detail, kind_of, kind_number}
use Rattle.gfx_model.specs.Steps.Detail.{a_pool}
use Rattle.gfx_model.specs.Questions.{State, is_kept}
use Rattle.gfx_model.specs.Views.{is_live, parent_of, commands_in}
use Rattle.gfx_model.specs.Section.{Known, object_events, group, live_ids, allocate_event, recording_events, buffers_of, section_order}
use Rattle.gfx_model.proofs.Lists.{all_append}
use Rattle.gfx_section_law.specs.Orderly.{IsOrderly}
use Rattle.gfx_section_law.proofs.Picks.{length-filter, sum-part}
use Rattle.gfx_section_law.proofs.Ranks.{live_object}
use Rattle.gfx_laws.proofs.LawfulIds.{rising_filter}
use Rattle.gfx_section_law.proofs.Parts.{all_among, filtered}
use Rattle.gfx_section_law.proofs.Sizes.{IsSmall, fixed_small}
use Rattle.gfx_section_law.proofs.BlockSizes.{block_few, block_small}
use Rattle.gfx_section_law.proofs.Sums.{length-flat, length-flat-all, sum_add, sum_parts, sum_same}

-- ---- kinds

module _ (k : Known) (orderly : IsOrderly k.answers) where
  abbrev block : ℕ → List Event
  block x = option_map_or (λ o. object_events k x o.parent o.detail) (k.answers.live x) []

  kind_few : (j : Kind) → length (live_ids k.answers j) ≤ 65536
  kind_few j = let a = length-filter (is_live k.answers j) k.answers.ids in let b = orderly.few in omega (arith, a, b)

  plain_few : (j : Kind) → (kind_number j == 8) ≡ false → length (group k j) ≤ 268697600
  plain_few j own =
      let a = length-flat-all block (λ x. 4100) (live_ids k.answers j) (all_among (λ x. length (block x) ≤ 4100) (live_ids k.answers j) (λ x e.
      let l : is_live k.answers j x ≡ true = filtered (is_live k.answers j) x k.answers.ids e in
      let q = live_object k.answers (λ o. kind_number (kind_of o.detail) == kind_number j) x l in
      let other : (kind_number (kind_of (q.0).detail) == 8) ≡ false = ap (λ n. n == 8) (eqb-true _ _ q.2) ∙ own in
      subst (λ (o : Option Object). length (option_map_or (λ o. object_events k x o.parent o.detail) o []) ≤ 4100) (sym q.1)
      (block_few 1 k orderly x (q.0).parent (q.0).detail q.1 other))) in
      let b = sum_same 4100 (live_ids k.answers j) in
      let c = kind_few j in
      omega (arith, a, b, c)

  -- what the recording of a buffer takes
  abbrev recorded : ℕ → ℕ
  recorded cb = commands_in (k.answers.buffer cb) + 2

  recording_few : (cb : ℕ) (s : State) → (k.answers.buffer cb).state ≡ s → length (recording_events cb s (k.answers.buffer cb)) ≤ recorded cb
  recording_few cb State.recording is =
      let c : commands_in (k.answers.buffer cb) ≡ length (k.answers.buffer cb).commands = ap (λ s. if is_kept s then length (k.answers.buffer cb).commands else 0) is in omega (arith, c)
  recording_few cb State.executable is =
      let c : commands_in (k.answers.buffer cb) ≡ length (k.answers.buffer cb).commands = ap (λ s. if is_kept s then length (k.answers.buffer cb).commands else 0) is in
      let a = length-append (k.answers.buffer cb).commands (EndCommandBuffer cb ∷ []) in omega (arith, c, a)
  recording_few cb State.initial is = omega arith
  recording_few cb State.invalid is = omega arith

  abbrev parts_weight : ℕ → ℕ
  parts_weight x = sum_by recorded (buffers_of k x)

  pool_detail : (d : Detail) → (kind_number (kind_of d) == 8) ≡ true → (flags : ℕ) × (d ≡ a_pool flags)
  pool_detail (a_pool flags) e = (flags, refl)
  pool_detail _ e = absurd (cc)

  pool_few : (x p flags : ℕ) → length (object_events k x p (a_pool flags)) ≤ 2 + parts_weight x
  pool_few x p flags =
      let rest = flat_map (λ cb. recording_events cb (k.answers.buffer cb).state (k.answers.buffer cb)) (buffers_of k x) in
      let a = length-append (allocate_event p x (buffers_of k x)) rest in
      let b = allocate_one (buffers_of k x) in
      let c = length-flat (λ cb. recording_events cb (k.answers.buffer cb).state (k.answers.buffer cb)) recorded (buffers_of k x) (λ cb. recording_few cb (k.answers.buffer cb).state refl) in
      omega (arith, a, b, c)
    where
      allocate_one : (l : List ℕ) → length (allocate_event p x l) ≤ 1
      allocate_one [] = omega arith
      allocate_one (i ∷ l) = omega arith

  pools_few : length (group k kind.Pool) ≤ 2097152
  pools_few =
      let a = length-flat-all block (λ x. 2 + parts_weight x) (live_ids k.answers kind.Pool) (all_among (λ x. length (block x) ≤ 2 + parts_weight x) (live_ids k.answers kind.Pool) (λ x e.
      let l : is_live k.answers kind.Pool x ≡ true = filtered (is_live k.answers kind.Pool) x k.answers.ids e in
      let q = live_object k.answers (λ o. kind_number (kind_of o.detail) == 8) x l in
      let d = pool_detail (q.0).detail q.2 in
      subst (λ (o : Option Object). length (option_map_or (λ o. object_events k x o.parent o.detail) o []) ≤ 2 + parts_weight x) (sym q.1)
      (subst (λ d. length (object_events k x (q.0).parent d) ≤ 2 + parts_weight x) (sym d.1) (pool_few x (q.0).parent d.0)))) in
      let b = sum_add (λ x. 2) parts_weight (live_ids k.answers kind.Pool) in
      let c = sum_same 2 (live_ids k.answers kind.Pool) in
      let e = kind_few kind.Pool in
      let f = sum_parts (parent_of k.answers) recorded (live_ids k.answers kind.Pool) (live_ids k.answers kind.CommandBuffer) (rising_filter (is_live k.answers kind.Pool) k.answers.ids orderly.rising) in
      let g = sum-part recorded recorded (is_live k.answers kind.CommandBuffer) (λ x on. (let z : recorded x ≤ recorded x = omega arith in z)) k.answers.ids in
      let h = sum_add (λ x. commands_in (k.answers.buffer x)) (λ x. 2) k.answers.ids in
      let i = sum_same 2 k.answers.ids in
      let n = orderly.few in
      let o = orderly.commands in
      omega (arith, a, b, c, e, f, g, h, i, n, o)

  abbrev bound : Kind → ℕ
  bound j = if kind_number j == 8 then 2097152 else 268697600

  group_few : (j : Kind) → length (group k j) ≤ bound j
  group_few j = by (kind_number j == 8) refl
    where
      pool_kind : (j : Kind) → (kind_number j == 8) ≡ true → j ≡ kind.Pool
      pool_kind kind.Pool e = refl
      pool_kind _ e = absurd (cc)

      by : (t : Bool) → (kind_number j == 8) ≡ t → length (group k j) ≤ (if t then 2097152 else 268697600)
      by true e = subst (λ j. length (group k j) ≤ 2097152) (sym (pool_kind j e)) pools_few
      by false e = plain_few j e

  pub groups_few : length (flat_map (group k) section_order) ≤ 2689073152
  groups_few = length-flat (group k) bound section_order group_few

  pub groups_small : (m : ℕ) (js : List Kind) → AllByRecursion (IsSmall m) (flat_map (group k) js)
  groups_small m [] = tt
  groups_small m (j ∷ js) = all_append (IsSmall m) (group k j) (flat_map (group k) js) (blocks_small (live_ids k.answers j)) (groups_small m js)
    where
      blocks_small : (xs : List ℕ) → AllByRecursion (IsSmall m) (flat_map block xs)
      blocks_small [] = tt
      blocks_small (x ∷ xs) = all_append (IsSmall m) (block x) (flat_map block xs) (one (k.answers.live x) refl) (blocks_small xs)
        where
          one : (o : Option Object) → k.answers.live x ≡ o → AllByRecursion (IsSmall m) (option_map_or (λ o. object_events k x o.parent o.detail) o [])
          one None e = tt
          one (Some o) e = block_small m k orderly x o.parent o.detail e

pub marker_small : (m n : ℕ) → IsSmall m (BeginSection n) × IsSmall m (EndSection n)
unfolding fields_of
marker_small m n = (fixed_small m _ (omega arith), fixed_small m _ (omega arith))
