-- The blocks of a pool: created, its buffers allocated, their commands recorded.
use Rattle.std.proofs.Common.{◌≡◌, ℕ, Bool, true, false, ◌&&◌, ◌==◌, List, [], ◌∷◌, ◌++◌, flat_map, Some, None, refl, ap, ◌∙◌}
use Rattle.std.specs.List.{AllByRecursion}
use Rattle.gfx_types.specs.declared.op.Place.{Place}
use Rattle.gfx_types.specs.declared.names.Kind.TheVariants as kind
use Rattle.gfx_model.specs.Events.{Event}
use Rattle.gfx_model.specs.Events.Event.{CreateCommandPool}
use Rattle.gfx_model.specs.Spelling.{id_of}
use Rattle.gfx_model.specs.Steps.{Object, Detail}
use Rattle.gfx_model.specs.Steps.Detail.{a_pool, a_command_buffer}
use Rattle.gfx_model.specs.Questions.{State, new_buffer, passes}
use Rattle.gfx_model.specs.Checks.{broken, is_among}
use Rattle.gfx_model.specs.Table.{checks_of, place_of, row_of}
use Rattle.gfx_model.specs.Effects.{effect_of}
use Rattle.gfx_model.specs.Section.{Known, allocate_event, recording_events}
use Rattle.gfx_laws.specs.Lawful.{IsRising}
use Rattle.gfx_section_law.specs.Orderly.{IsOrderly, IsMadeOf}
use Rattle.gfx_section_law.proofs.Picks.{also}
use Rattle.gfx_section_law.proofs.Builds.{Builds, Passes, ok, builds_none, builds_call, builds_append, builds_to}
use Rattle.gfx_section_law.proofs.Shown.{Cuts, all, shown, shown_answers, byte_of, id_of_place, bound_of, buffer_of, layout_of}
use Rattle.gfx_section_law.proofs.Ranks.{is_part, joined}
use Rattle.gfx_section_law.proofs.Objects.{live_ok, no_bound, no_layout, no_mapped, no_buffer, no_signal, no_acquired, no_bytes, new_ok, room_ok}
use Rattle.gfx_section_law.proofs.Plain.{Starts, Block, made_first}
use Rattle.gfx_section_law.proofs.Shown.{SettlesAll, settled_all}
use Rattle.gfx_section_law.proofs.Parts.{alsos, pick_same, bytes_same, joined_parts, AreNew, are_new, all_among}
use Rattle.gfx_section_law.proofs.Many.{differ, differ_here}
use Rattle.gfx_section_law.proofs.PoolBuffers as buffers
use Rattle.gfx_section_law.proofs.Recording as recording

module _ (k : Known) (n : ℕ) (orderly : IsOrderly k.answers) (done : ℕ → Bool) (x parent flags : ℕ)
    (is : k.answers.live x ≡ Some (record { parent = parent; detail = a_pool flags })) (starts : Starts k.answers x 10 done) where
  abbrev d : Detail
  d = buffers.d k n orderly done x parent flags is starts

  abbrev o : Object
  o = buffers.o k n orderly done x parent flags is starts

  abbrev parts : List ℕ
  parts = buffers.parts k n orderly done x parent flags is starts

  off : done x ≡ false
  off = buffers.off k n orderly done x parent flags is starts

  made_of : IsMadeOf k.answers parent (a_pool flags)
  made_of = buffers.made_of k n orderly done x parent flags is starts

  abbrev created : Cuts
  created = buffers.created k n orderly done x parent flags is starts

  parent_done : done parent ≡ true
  parent_done = buffers.parent_done k n orderly done x parent flags is starts

  abbrev cb_object : Object
  cb_object = buffers.cb_object k n orderly done x parent flags is starts

  part_live : (i : ℕ) → is_among i parts ≡ true → k.answers.live i ≡ Some cb_object
  part_live = buffers.part_live k n orderly done x parent flags is starts

  each_part : (i : ℕ) → is_among i parts ≡ true → passes (λ q. is_part q.detail && (x == q.parent)) (k.answers.live i) ≡ true
  each_part = buffers.each_part k n orderly done x parent flags is starts

  every_part : (i : ℕ) → passes (λ q. is_part q.detail && (x == q.parent)) (k.answers.live i) ≡ true → is_among i parts ≡ true
  every_part = buffers.every_part k n orderly done x parent flags is starts

  part_new : (i : ℕ) → is_among i parts ≡ true → done i ≡ false
  part_new = buffers.part_new k n orderly done x parent flags is starts

  rising_parts : IsRising parts
  rising_parts = buffers.rising_parts k n orderly done x parent flags is starts

  abbrev everything : ℕ → Bool
  everything = buffers.everything k n orderly done x parent flags is starts

  abbrev allocated : Cuts
  allocated = buffers.allocated k n orderly done x parent flags is starts

  allocate_builds : (l : List ℕ) → parts ≡ l → Builds (shown k n created) (allocate_event parent x l) (shown k n allocated)
  allocate_builds = buffers.allocate_builds k n orderly done x parent flags is starts

  abbrev having : (ℕ → Bool) → Cuts
  having = buffers.having k n orderly done x parent flags is starts

  buffer_builds : (some : ℕ → Bool) (cb : ℕ) → is_among cb parts ≡ true → some cb ≡ false → (s : State) → (k.answers.buffer cb).state ≡ s →
      Builds (shown k n (having some)) (recording_events cb s (k.answers.buffer cb)) (shown k n (having (also cb some)))
  buffer_builds = recording.buffer_builds k n orderly done x parent flags is starts

  -- all buffers
  abbrev recording_of : ℕ → List Event
  recording_of cb = recording_events cb (k.answers.buffer cb).state (k.answers.buffer cb)

  buffers_build : (ys : List ℕ) (some : ℕ → Bool) → AllByRecursion (λ y. is_among y parts ≡ true) ys → AreNew some ys →
      Builds (shown k n (having some)) (flat_map recording_of ys) (shown k n (having (alsos ys some)))
  buffers_build [] some a new = builds_none _ _ refl
  buffers_build (y ∷ ys) some a new =
      builds_append (recording_of y) (flat_map recording_of ys) _ (shown k n (having (also y some))) _
      (buffer_builds some y a.0 new.0 (k.answers.buffer y).state refl)
      (buffers_build ys (also y some) a.1 new.1)

  settles : SettlesAll k everything (having (alsos parts done))
  settles = record {
    made = refl;
    bound = pick_same None (bound_of k.answers) done everything (differ (λ y. bound_of k.answers y ≡ None) parts done x (no_bound k n orderly x parent d is refl) (λ y e. no_bound k n orderly y x a_command_buffer (part_live y e) refl));
    mapped = pick_same None k.answers.mapped done everything (differ (λ y. k.answers.mapped y ≡ None) parts done x (no_mapped k n orderly x parent d is refl) (λ y e. no_mapped k n orderly y x a_command_buffer (part_live y e) refl));
    buffer = pick_same new_buffer (buffer_of k.answers) (alsos parts done) everything (differ_here (λ y. buffer_of k.answers y ≡ new_buffer) parts done x (no_buffer k n orderly x parent d is refl));
    signalled = pick_same false k.answers.signalled done everything (differ (λ y. k.answers.signalled y ≡ false) parts done x (no_signal k n orderly x parent d is refl) (λ y e. no_signal k n orderly y x a_command_buffer (part_live y e) refl));
    acquired = pick_same (λ index. false) k.answers.acquired done everything (differ (λ y. k.answers.acquired y ≡ (λ index. false)) parts done x (no_acquired k n orderly x parent d is refl) (λ y e. no_acquired k n orderly y x a_command_buffer (part_live y e) refl));
    layout = pick_same 0 (layout_of k.answers) done everything (differ (λ y. layout_of k.answers y ≡ 0) parts done x (no_layout k n orderly x parent d is refl) (λ y e. no_layout k n orderly y x a_command_buffer (part_live y e) refl));
    bytes = bytes_same k done everything (differ (λ y. (at : Place) (i : ℕ) → id_of_place at ≡ y → byte_of k at i ≡ 0) parts done x (no_bytes k n orderly x parent d is refl refl) (λ y e. no_bytes k n orderly y x a_command_buffer (part_live y e) refl refl));
  }

  ends_all : shown k n (having (alsos parts done)) ≡ shown k n (all (joined k.answers x done))
  ends_all =
      settled_all k n everything (having (alsos parts done)) settles
      ∙ ap (λ (f : ℕ → Bool). shown k n (all f)) (joined_parts k.answers x o is refl parts each_part every_part done)

  create_passes : Passes (shown_answers k n (all done)) (checks_of (CreateCommandPool parent x flags))
  unfolding id_of place_of row_of broken
  create_passes = (
    live_ok k n (all done) kind.Device parent parent_done made_of.0,
    (
      new_ok k n orderly x parent d is (all done) off,
      (ok _ _ made_of.1, (room_ok k n orderly x parent d is (all done) off, tt)),
    ),
  )

  pub pool_block : Block k n x parent (a_pool flags) done
  unfolding effect_of
  pool_block =
      builds_call _ (shown k n created) _ (CreateCommandPool parent x flags) (allocate_event parent x parts ++ flat_map recording_of parts)
      create_passes (made_first k n orderly done x parent d is starts refl (CreateCommandPool parent x flags) refl)
      (builds_append (allocate_event parent x parts) (flat_map recording_of parts) _ (shown k n allocated) _ (allocate_builds parts refl)
      (builds_to (flat_map recording_of parts) _ _ _ ends_all
      (buffers_build parts done (all_among (λ y. is_among y parts ≡ true) parts (λ y e. e)) (are_new parts done (all_among (λ y. done y ≡ false) parts part_new) rising_parts))))
