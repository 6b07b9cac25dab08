-- What is kept of a section, from what is known.
use Rattle.std.specs.Prelude.{ℕ, if◌then◌else◌, true, List, [], ◌∷◌, ◌++◌, filter, flat_map, Option, option_map}
use Rattle.std.specs.Option.{option_map_or}
use Rattle.gfx_types.specs.declared.names.Kind.{Kind}
use Rattle.gfx_model.specs.Events.{Event}
use Rattle.gfx_model.specs.Events.Event.{AllocateMemory, CreateCommandPool, BeginSection, EndSection}
use Rattle.gfx_model.specs.Steps.{Detail, kind_of}
use Rattle.gfx_model.specs.Views.{View}
use Rattle.gfx_model.specs.Steps.Detail.{a_memory, a_pool}
use Rattle.gfx_model.specs.Section.{Known, live_ids, fill_events, map_event, allocate_event, buffers_of, object_events, section_order}
use Rattle.gfx_feature_model.specs.Lean.{Keep, kept_block}
use Rattle.gfx_state.specs.Pools.{recorded_anew}

-- the kind of the live object of an id
abbrev pub kind_at : View → ℕ → Option Kind
kind_at v x = option_map (λ o. kind_of o.detail) (v.live x)

-- all is kept
abbrev pub everything : Keep
everything = record { id = λ x. true; fill = λ memory offset n. true }

-- the kept buffers of a pool, rising
abbrev pub kept_buffers : Keep → Known → ℕ → List ℕ
kept_buffers k s pool = filter k.id (buffers_of s pool)

-- the blocks of a kept object: of a memory with its kept fills, of a pool with its kept buffers
abbrev pub kept_object : Keep → Known → ℕ → ℕ → Detail → List Event
kept_object k s x parent (a_memory size) = AllocateMemory parent x size ∷ flat_map (kept_block k) (fill_events s x size) ++ map_event s parent x
kept_object k s x parent (a_pool flags) =
    CreateCommandPool parent x flags ∷ allocate_event parent x (kept_buffers k s x) ++ flat_map (recorded_anew s.answers.buffer) (kept_buffers k s x)
kept_object k s x parent d = object_events s x parent d

-- what stays of an object that isn't kept: of a pool what is recorded in kept buffers
abbrev pub kept_under : Keep → Known → ℕ → Detail → List Event
kept_under k s x (a_pool flags) = flat_map (recorded_anew s.answers.buffer) (kept_buffers k s x)
kept_under k s x _ = []

-- what is kept of the live object of an id, where there is one
abbrev pub kept_at : Keep → Known → ℕ → List Event
kept_at k s x = option_map_or (λ o. if k.id x then kept_object k s x o.parent o.detail else kept_under k s x o.detail) (s.answers.live x) []

-- what is kept of the live objects of a kind
abbrev pub kept_group : Keep → Known → Kind → List Event
kept_group k s kind = flat_map (kept_at k s) (live_ids s.answers kind)

-- what is kept of the section whose next frame has number n
abbrev pub kept_by : Keep → Known → ℕ → List Event
kept_by k s n = BeginSection n ∷ flat_map (kept_group k s) section_order ++ EndSection n ∷ []
