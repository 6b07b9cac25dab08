-- How one step changes the answers.
use Rattle.std.specs.Prelude.{ℕ, ◌+◌, ◌==◌, Bool, true, false, not, ◌&&◌, ◌||◌, if◌then◌else◌, [], ◌∷◌, ◌++◌, filter, Some, None, is_some}
use Rattle.std.specs.List.{list_any}
use Rattle.gfx_model.specs.Steps.{Step, Change, resources_of}
use Rattle.gfx_model.specs.Steps.Change.{set_layout}
use Rattle.gfx_model.specs.Steps.Step.{taken, begins_section, ends_section, creates, ends, binds, maps, unmaps, begins, records, finishes, resets, resets_pool, executed, signals, unsignals, acquires, gives_back, changes, presents}
use Rattle.gfx_model.specs.Questions.{State, Buffer, new_buffer, insert_rising, passes, goes_with, after_end, rests_on, invalidated, is_once, is_in_pool}
use Rattle.gfx_model.specs.Views.{View}

-- an object of this id is live
abbrev pub is_alive : View → ℕ → Bool
is_alive v x = is_some (v.live x)

-- the answer for one live id changes
abbrev pub at_live : {X : Type 0} → View → ℕ → (X → X) → (ℕ → X) → ℕ → X
at_live v i change f x = if i == x && is_alive v x then change (f x) else f x

-- the object of x is over where `gone` ends
abbrev pub is_gone : View → ℕ → ℕ → Bool
is_gone v gone x = passes (goes_with gone x) (v.live x)

-- a resource goes, or the memory under it
abbrev pub is_lost : View → ℕ → ℕ → Bool
is_lost v gone r = gone == r || is_gone v gone r || rests_on gone (v.bound r)

-- a command buffer after the end of an object
abbrev pub buffer_after_end : View → ℕ → Buffer → Buffer
buffer_after_end v gone b = invalidated (list_any (λ c. list_any (is_lost v gone) (resources_of c)) b.commands) b

-- the layouts after one change
abbrev pub layout_after : View → Change → ℕ → ℕ
layout_after v (set_layout i l) = at_live v i (λ before. l) v.layout
layout_after v _ = v.layout

-- the answers after one more step
unfoldable pub after : View → Step → View
after v taken = record v { is_empty = false }
after v (begins_section frame) = record v { next_frame = frame; is_empty = false; section = Some frame }
after v ends_section = record v { is_empty = false; section = None }
after v (creates i parent detail) = record v {
  live = λ x. if i == x then Some (record { parent = parent; detail = detail }) else v.live x;
  ids = insert_rising i v.ids;
  used = λ x. i == x || v.used x;
  bound = λ x. if i == x then None else v.bound x;
  buffer = λ x. if i == x then new_buffer else v.buffer x;
  signalled = λ x. if i == x then false else v.signalled x;
  acquired = λ x. if i == x then (λ index. false) else v.acquired x;
  layout = λ x. if i == x then 0 else v.layout x;
  is_empty = false;
}
after v (ends gone) = record v {
  live = λ x. after_end gone x (v.live x);
  ids = filter (λ x. not (is_gone v gone x)) v.ids;
  bound = λ x. if is_gone v gone x then None else v.bound x;
  mapped = λ x. if gone == x then None else v.mapped x;
  buffer = λ x. if is_gone v gone x then new_buffer else buffer_after_end v gone (v.buffer x);
  signalled = λ x. if is_gone v gone x then false else v.signalled x;
  acquired = λ x. if is_gone v gone x then (λ index. false) else v.acquired x;
  layout = λ x. if is_gone v gone x then 0 else v.layout x;
  is_empty = false;
}
after v (binds r memory offset) = record v {
  bound = at_live v r (λ before. Some (record { memory = memory; offset = offset })) v.bound;
  is_empty = false;
}
after v (maps m offset length) = record v {
  mapped = λ x. if m == x then Some (record { offset = offset; length = length }) else v.mapped x;
  is_empty = false;
}
after v (unmaps m) = record v { mapped = λ x. if m == x then None else v.mapped x; is_empty = false }
after v (begins cb flags) = record v {
  buffer = at_live v cb (λ b. record { state = State.recording; flags = flags; commands = [] }) v.buffer;
  is_empty = false;
}
after v (records cb command) = record v {
  buffer = at_live v cb (λ b. record b { commands = b.commands ++ command ∷ [] }) v.buffer;
  is_empty = false;
}
after v (finishes cb) = record v {
  buffer = at_live v cb (λ b. record b { state = State.executable }) v.buffer;
  is_empty = false;
}
after v (resets cb) = record v { buffer = λ x. if cb == x then new_buffer else v.buffer x; is_empty = false }
after v (resets_pool pool) = record v {
  buffer = λ x. if passes (is_in_pool pool) (v.live x) then new_buffer else v.buffer x;
  is_empty = false;
}
after v (executed cb) = record v { buffer = λ x. invalidated (cb == x && is_once (v.buffer x)) (v.buffer x); is_empty = false }
after v (signals i) = record v { signalled = at_live v i (λ s. true) v.signalled; is_empty = false }
after v (unsignals i) = record v { signalled = λ x. if i == x then false else v.signalled x; is_empty = false }
after v (acquires swapchain k) = record v {
  acquired = λ x index. if swapchain == x && k == index && is_alive v x then true else v.acquired x index;
  is_empty = false;
}
after v (gives_back swapchain k) = record v {
  acquired = λ x index. if swapchain == x && k == index then false else v.acquired x index;
  is_empty = false;
}
after v (changes c) = record v { layout = layout_after v c; is_empty = false }
after v presents = record v { next_frame = v.next_frame + 1; is_empty = false }
