-- A section is made of creations and what they need, and shows no frame.
use Rattle.std.proofs.Common.{◌≡◌, ℕ, true, false, not, ◌&&◌, ◌==◌, List, [], ◌∷◌, flat_map, Some, None, refl, sym, ap, ◌∙◌}
use Rattle.std.specs.List.{AllByRecursion}
use Rattle.std.specs.Option.{option_map_or}
use Rattle.std.proofs.lemmas.Bool.{both_ways, eq-eqb}
use Rattle.gfx_types.specs.declared.names.Kind.{Kind}
use Rattle.gfx_model.specs.Events.{Event}
use Rattle.gfx_model.specs.Events.Event.{QueuePresentKHR, CreateInstance, FillMemory, MapMemory, BindBufferMemory, BindImageMemory, InitImage, EndCommandBuffer, SetSemaphoreState}
use Rattle.gfx_types.specs.declared.op.Place.TheVariants as place
use Rattle.gfx_model.specs.Steps.{Object, Detail, kind_of, kind_number}
use Rattle.gfx_model.specs.Steps.Detail.{an_instance, a_surface, a_device, a_queue, a_memory, a_buffer, an_image, a_pool, a_command_buffer, a_fence, a_semaphore, a_swapchain}
use Rattle.gfx_model.specs.Questions.{Binding, Range, State, is_kept, image_size}
use Rattle.gfx_model.specs.Views.{fetched, is_usable}
use Rattle.gfx_model.specs.Bytes.{byte, bytes_at}
use Rattle.gfx_model.specs.Frames.{frames}
use Rattle.gfx_model.specs.History.{onto}
use Rattle.gfx_model.specs.Section.{Known, Span, fills_of, object_events, group, live_ids, fetch_event, allocate_event, recording_events, buffers_of, image_event}
use Rattle.gfx_laws.specs.Lawful.{base, cb_of, IsCommandOf}
use Rattle.gfx_model.proofs.Lists.{all_append, all_along, all_map}
use Rattle.gfx_model.specs.Events.Event.{CmdPipelineBarrier, CmdFillBuffer, CmdUpdateBuffer, CmdCopyBuffer, CmdCopyImage, CmdCopyBufferToImage, CmdCopyImageToBuffer, CmdClearColorImage}
use Rattle.gfx_section_law.specs.Law.{IsBuilding}
use Rattle.gfx_section_law.specs.Orderly.{IsOrderly}
use Rattle.gfx_section_law.proofs.Ranks.{live_object}
use Rattle.gfx_section_law.proofs.BlockSizes.{all_when, all_option}

command_quiet : (c : Event) (cb : ℕ) → cb_of c ≡ cb → (cb == 0) ≡ false → IsBuilding c
command_quiet (CmdPipelineBarrier b barriers) cb e z = tt
command_quiet (CmdFillBuffer b buffer offset size word) cb e z = tt
command_quiet (CmdUpdateBuffer b buffer offset bytes) cb e z = tt
command_quiet (CmdCopyBuffer b source target regions) cb e z = tt
command_quiet (CmdCopyImage b source source_layout target target_layout regions) cb e z = tt
command_quiet (CmdCopyBufferToImage b source target layout regions) cb e z = tt
command_quiet (CmdCopyImageToBuffer b source layout target regions) cb e z = tt
command_quiet (CmdClearColorImage b image layout c0 c1 c2 c3) cb e z = tt
command_quiet _ cb e z = absurd (both_ways (cb == 0) z (eq-eqb cb 0 (sym e)))

module _ (k : Known) (orderly : IsOrderly k.answers) where
  commands_quiet : (cb : ℕ) → is_kept (k.answers.buffer cb).state ≡ true → AllByRecursion IsBuilding (k.answers.buffer cb).commands
  commands_quiet cb kept =
      let b = orderly.buffers cb kept in
      let q = live_object k.answers (λ o. kind_number (kind_of o.detail) == 9) cb b.is_buffer in
      all_along (IsCommandOf (base k.answers) cb) IsBuilding (λ c o. command_quiet c cb o.0 (orderly.nonzero cb q.0 q.1)) (k.answers.buffer cb).commands b.commands

  recording_quiet : (cb : ℕ) (s : State) → (k.answers.buffer cb).state ≡ s → AllByRecursion IsBuilding (recording_events cb s (k.answers.buffer cb))
  recording_quiet cb State.recording is = (tt, commands_quiet cb (ap is_kept is))
  recording_quiet cb State.executable is = (tt, all_append IsBuilding (k.answers.buffer cb).commands (EndCommandBuffer cb ∷ []) (commands_quiet cb (ap is_kept is)) (tt, tt))
  recording_quiet cb State.initial is = tt
  recording_quiet cb State.invalid is = tt

  recordings_quiet : (cbs : List ℕ) → AllByRecursion IsBuilding (flat_map (λ cb. recording_events cb (k.answers.buffer cb).state (k.answers.buffer cb)) cbs)
  recordings_quiet [] = tt
  recordings_quiet (cb ∷ cbs) = all_append IsBuilding (recording_events cb (k.answers.buffer cb).state (k.answers.buffer cb)) _ (recording_quiet cb (k.answers.buffer cb).state refl) (recordings_quiet cbs)

  fetch_quiet : (p x : ℕ) (l : List ℕ) → AllByRecursion IsBuilding (fetch_event p x l)
  fetch_quiet p x [] = tt
  fetch_quiet p x (i ∷ l) = (tt, tt)

  allocate_quiet : (p x : ℕ) (l : List ℕ) → AllByRecursion IsBuilding (allocate_event p x l)
  allocate_quiet p x [] = tt
  allocate_quiet p x (i ∷ l) = (tt, tt)

  block_quiet : (x p : ℕ) (d : Detail) → AllByRecursion IsBuilding (object_events k x p d)
  block_quiet x p (an_instance api) = (tt, tt)
  block_quiet x p a_surface = (tt, tt)
  block_quiet x p a_device = (tt, tt)
  block_quiet x p a_queue = (tt, tt)
  block_quiet x p (a_memory size) = (
    tt,
    all_append IsBuilding _ _ (all_map IsBuilding (λ (f : Span). FillMemory x f.at (bytes_at k.es (place.Memory x) f.at f.length)) (λ f. tt) (fills_of (byte k.es (place.Memory x)) size))
        (all_option IsBuilding (λ (r : Range). MapMemory p x r.offset r.length ∷ []) (k.answers.mapped x) (λ r. (tt, tt))),
  )
  block_quiet x p (a_buffer size usage) =
      (tt, all_when IsBuilding (is_usable k.answers x) _ (all_option IsBuilding (λ (b : Binding). BindBufferMemory p x b.memory b.offset ∷ []) (k.answers.bound x) (λ b. (tt, tt))))
  block_quiet x p (an_image format width height usage None) = (
    tt,
    all_append IsBuilding _ _
        (all_when IsBuilding (is_usable k.answers x) _ (all_option IsBuilding (λ (b : Binding). BindImageMemory p x b.memory b.offset ∷ []) (k.answers.bound x) (λ b. (tt, tt))))
        (all_when IsBuilding (is_usable k.answers x && not (k.answers.layout x == 0)) (InitImage x (k.answers.layout x) [] ∷ []) (tt, tt)),
  )
  block_quiet x p (an_image format width height usage (Some index)) = tt
  block_quiet x p (a_swapchain surface images format width height usage) = (
    tt,
    all_append IsBuilding (fetch_event p x (fetched k.answers x)) _ (fetch_quiet p x (fetched k.answers x))
        (tt, all_map IsBuilding (image_event k (image_size format width height)) (λ i. tt) (fetched k.answers x)),
  )
  block_quiet x p a_fence = (tt, tt)
  block_quiet x p a_semaphore = (tt, all_when IsBuilding (k.answers.signalled x) (SetSemaphoreState x 1 ∷ []) (tt, tt))
  block_quiet x p (a_pool flags) = (tt, all_append IsBuilding (allocate_event p x (buffers_of k x)) _ (allocate_quiet p x (buffers_of k x)) (recordings_quiet (buffers_of k x)))
  block_quiet x p a_command_buffer = tt

  blocks_quiet : (xs : List ℕ) → AllByRecursion IsBuilding (flat_map (λ x. option_map_or (λ o. object_events k x o.parent o.detail) (k.answers.live x) []) xs)
  blocks_quiet [] = tt
  blocks_quiet (x ∷ xs) = all_append IsBuilding _ _ (all_option IsBuilding (λ (o : Object). object_events k x o.parent o.detail) (k.answers.live x) (λ o. block_quiet x o.parent o.detail)) (blocks_quiet xs)

  pub groups_quiet : (js : List Kind) → AllByRecursion IsBuilding (flat_map (group k) js)
  groups_quiet [] = tt
  groups_quiet (j ∷ js) = all_append IsBuilding (group k j) (flat_map (group k) js) (blocks_quiet (live_ids k.answers j)) (groups_quiet js)

-- an event that shows no frame
abbrev pub IsSilent : Event → Type 0
IsSilent (QueuePresentKHR queue waits presents) = ⊥
IsSilent _ = Unit {0}

pub building_silent : (e : Event) → IsBuilding e → IsSilent e
building_silent (QueuePresentKHR queue waits presents) b = absurd b
building_silent _ b = tt

pub quiet_frames : (es h : List Event) → AllByRecursion IsSilent es → frames (onto es h) ≡ frames h
unfolding frames
quiet_frames [] h a = refl
quiet_frames (e ∷ es) h a = quiet_frames es (e ∷ h) a.1 ∙ one e a.0
  where
    one : (e : Event) → IsSilent e → frames (e ∷ h) ≡ frames h
    one (QueuePresentKHR queue waits presents) q = absurd q
    one (CreateInstance a b) q = refl
    one _ q = refl
