-- A command buffer is recorded anew, command by command.
use Rattle.std.proofs.Common.{◌≡◌, ℕ, suc, ◌+◌, ◌≤◌, Bool, true, false, not, ◌&&◌, ◌||◌, ◌==◌, nat_le, fold, List, [], ◌∷◌, ◌++◌, length, sum_by, append-nil, append_assoc, length-append, Some, None, if◌then◌else◌, refl, sym, ap, subst, ◌∙◌, arith, is_some}
use mathlib.Core.Path.{fun_ext}
use Rattle.std.specs.Prelude.{◌^◌}
use Rattle.std.specs.List.{AllByRecursion}
use Rattle.std.proofs.lemmas.Bool.{eqb-true, eq-eqb, both_ways}
use Rattle.std.proofs.lemmas.Bool.Decides.{nat_tests}
use Rattle.std.proofs.lemmas.List.Sums.{sum_by-cons, sum_by-append}
use Rattle.gfx_types.specs.declared.names.Kind.TheVariants as kind
use Rattle.gfx_model.specs.Events.{Event}
use Rattle.gfx_model.specs.Events.Event.{BeginCommandBuffer, EndCommandBuffer}
use Rattle.gfx_model.specs.Spelling.{id_of, spelling}
use Rattle.gfx_model.specs.Steps.{Step, Object, kind_of, kind_number}
use Rattle.gfx_model.specs.Steps.Step.{taken}
use Rattle.gfx_model.specs.Steps.Detail.{a_pool}
use Rattle.gfx_model.specs.Questions.{Buffer, State, new_buffer, is_kept, passes}
use Rattle.gfx_model.specs.Questions.{has_bit}
use Rattle.gfx_model.specs.Views.{pool_flags}
use Rattle.gfx_model.specs.Views.{View, is_live, is_usable, device_of, commands_in, bytes_in, commands_kept, bytes_kept}
use Rattle.gfx_model.specs.Checks.{broken, is_among, is_recording, is_initial}
use Rattle.gfx_model.specs.Checks.Check.{fits}
use Rattle.gfx_model.specs.Table.{checks_of, place_of, row_of}
use Rattle.gfx_model.specs.Effects.{effect_of}
use Rattle.gfx_model.specs.After.{after, is_alive}
use Rattle.gfx_model.specs.Section.{Known, recording_events}
use Rattle.gfx_laws.specs.Lawful.{base, IsCommandOf, command_checks, cb_of}
use Rattle.gfx_model.proofs.Lists.{all_append}
use Rattle.gfx_laws.proofs.LastingChecks.{SameAt, command_stays}
use Rattle.gfx_section_law.specs.Orderly.{IsOrderly}
use Rattle.gfx_section_law.proofs.Picks.{pick, also, pick-out, put_one, skip_one, sum-here}
use Rattle.gfx_section_law.proofs.Builds.{Seen, Builds, Passes, next, bytes_step, ok, builds_none, builds_call, builds_one, builds_append, builds_to}
use Rattle.gfx_section_law.proofs.Shown.{Cuts, shown, shown_answers, bytes_shown, buffer_of, at_alive}
use Rattle.gfx_section_law.proofs.Objects.{live_ok}
use Rattle.gfx_section_law.proofs.Plain.{Starts}
use Rattle.gfx_section_law.proofs.Parts.{alsos-among}
use Rattle.gfx_section_law.proofs.Commands.{command_row, command_effect}
use Rattle.gfx_section_law.proofs.PoolBuffers as buffers
use Rattle.gfx_section_law.proofs.PoolDevices as devices

module _ (k : Known) (n : ℕ) (orderly : IsOrderly k.answers) (done : ℕ → Bool) (x parent flags : ℕ)
    (is : k.answers.live x ≡ Some (record { parent = parent; detail = a_pool flags })) (starts : Starts k.answers x 10 done) where
  abbrev o : Object
  o = buffers.o k n orderly done x parent flags is starts

  abbrev parts : List ℕ
  parts = buffers.parts k n orderly done x parent flags is starts

  abbrev cb_object : Object
  cb_object = buffers.cb_object k n orderly done x parent flags is starts

  part_live : (i : ℕ) → is_among i parts ≡ true → k.answers.live i ≡ Some cb_object
  part_live = buffers.part_live k n orderly done x parent flags is starts

  abbrev everything : ℕ → Bool
  everything = buffers.everything k n orderly done x parent flags is starts

  abbrev having : (ℕ → Bool) → Cuts
  having = buffers.having k n orderly done x parent flags is starts

  agrees_part : (some : ℕ → Bool) (y : ℕ) → is_among y parts ≡ true → (shown_answers k n (having some)).live y ≡ k.answers.live y
  agrees_part = buffers.agrees_part k n orderly done x parent flags is starts

  module _ (some : ℕ → Bool) where
    abbrev w : View
    w = devices.w k n orderly done x parent flags is starts some

    same_at : (y : ℕ) → is_usable (base k.answers) y ≡ true → SameAt (base k.answers) w y
    same_at = devices.same_at k n orderly done x parent flags is starts some

    cb_device : (cb : ℕ) → is_among cb parts ≡ true → device_of w cb ≡ device_of k.answers cb
    cb_device = devices.cb_device k n orderly done x parent flags is starts some

    -- ---- the commands of one buffer

    module _ (cb : ℕ) (is_part_here : is_among cb parts ≡ true) (new : some cb ≡ false) (kept : is_kept (k.answers.buffer cb).state ≡ true) where
      abbrev b : Buffer
      b = k.answers.buffer cb

      cb_live : is_live k.answers kind.CommandBuffer cb ≡ true
      cb_live = ap (passes (λ o. kind_number (kind_of o.detail) == 9)) (part_live cb is_part_here)

      -- while it is recorded
      abbrev open_in : State → List Event → View
      open_in s cs = record w { buffer = λ y. if cb == y then record { state = s; flags = b.flags; commands = cs } else pick new_buffer (buffer_of k.answers) some y }

      abbrev seen_in : State → List Event → Seen
      seen_in s cs = record { answers = open_in s cs; bytes = bytes_shown k done }

      alive : is_some (w.live cb) ≡ true
      alive = ap is_some (agrees_part some cb is_part_here ∙ part_live cb is_part_here)

      at_cb : (s : State) (cs : List Event) → (open_in s cs).buffer cb ≡ record { state = s; flags = b.flags; commands = cs }
      at_cb s cs = ap (λ t. if t then record { state = s; flags = b.flags; commands = cs } else pick new_buffer (buffer_of k.answers) some cb) (eq-eqb cb cb refl)

      none_yet : w.buffer cb ≡ new_buffer
      none_yet = pick-out new_buffer (buffer_of k.answers) some cb new

      begin_passes : Passes w (checks_of (BeginCommandBuffer cb b.flags))
      unfolding id_of place_of row_of broken
      begin_passes = (
        live_ok k n (having some) kind.CommandBuffer cb (alsos-among parts (also x done) cb is_part_here) cb_live,
        (
          ok _ _ (orderly.buffers cb kept).flags,
          (
            ok _ _ (ap (λ (q : Buffer). not (is_recording q.state)) none_yet),
            (ok _ _ (ap (λ (q : Buffer). is_initial q.state || has_bit (pool_flags w cb) 2) none_yet), tt),
          ),
        ),
      )

      begin_leaves : next (shown k n (having some)) (BeginCommandBuffer cb b.flags) ≡ seen_in State.recording []
      unfolding effect_of after
      begin_leaves = λ i. record {
        answers = record w { buffer = at_alive cb (is_alive w) (pick new_buffer (buffer_of k.answers) some) (λ y. record { state = State.recording; flags = b.flags; commands = [] }) alive i };
        bytes = bytes_shown k done;
      }

      change_at : (f : Buffer → Buffer) (s t : State) (cs ds : List Event) → f (record { state = s; flags = b.flags; commands = cs }) ≡ record { state = t; flags = b.flags; commands = ds } →
          ◌≡◌ {A = ℕ → Buffer} (λ y. if cb == y && is_alive w y then f ((open_in s cs).buffer y) else (open_in s cs).buffer y) (open_in t ds).buffer
      change_at f s t cs ds e = fun_ext (λ y. by y (cb == y) refl)
        where
          by : (y : ℕ) (u : Bool) → (cb == y) ≡ u →
              (if u && is_alive w y then f (if u then record { state = s; flags = b.flags; commands = cs } else pick new_buffer (buffer_of k.answers) some y) else (if u then record { state = s; flags = b.flags; commands = cs } else pick new_buffer (buffer_of k.answers) some y))
              ≡ (if u then record { state = t; flags = b.flags; commands = ds } else pick new_buffer (buffer_of k.answers) some y)
          by y false q = refl
          by y true q =
              ap (λ z. if z then f (record { state = s; flags = b.flags; commands = cs }) else record { state = s; flags = b.flags; commands = cs }) (ap (is_alive w) (sym (eqb-true cb y q)) ∙ alive)
              ∙ e

      -- ---- room for them

      less_commands : (s : State) (cs rest : List Event) → b.commands ≡ cs ++ rest → is_kept s ≡ true → (y : ℕ) → everything y ≡ true →
          commands_in ((open_in s cs).buffer y) ≤ commands_in (k.answers.buffer y)
      less_commands s cs rest e sk y on = by (cb == y) refl
        where
          mine_is : (t : Bool) → is_kept b.state ≡ t → (q : Bool) → is_kept s ≡ q → (if q then length cs else 0) ≤ (if t then length b.commands else 0)
          mine_is true u true v = let l = length-append cs rest in let m : length b.commands ≡ length (cs ++ rest) = ap (λ (z : List Event). length z) e in omega (arith, l, m)
          mine_is true u false v = omega arith
          mine_is false u q v = absurd (both_ways (is_kept b.state) u kept)

          plain_less : (t : Bool) → some y ≡ t → (q : Bool) → is_kept (k.answers.buffer y).state ≡ q →
              commands_in (if t then (if q then k.answers.buffer y else new_buffer) else new_buffer) ≤ (if q then length (k.answers.buffer y).commands else 0)
          plain_less true u true v = let z : commands_in (k.answers.buffer y) ≡ length (k.answers.buffer y).commands = ap (λ t. if t then length (k.answers.buffer y).commands else 0) v in omega (arith, z)
          plain_less true u false v = omega arith
          plain_less false u true v = omega arith
          plain_less false u false v = omega arith

          by : (t : Bool) → (cb == y) ≡ t → commands_in (if t then record { state = s; flags = b.flags; commands = cs } else pick new_buffer (buffer_of k.answers) some y) ≤ commands_in (k.answers.buffer y)
          by true q = subst (λ z. (if is_kept s then length cs else 0) ≤ commands_in (k.answers.buffer z)) (eqb-true cb y q) (mine_is (is_kept b.state) refl (is_kept s) refl)
          by false q = plain_less (some y) refl (is_kept (k.answers.buffer y).state) refl

      abbrev weight : List Event → ℕ
      weight cs = sum_by (λ c. length (spelling 1 c)) cs

      less_bytes : (s : State) (cs rest : List Event) → b.commands ≡ cs ++ rest → is_kept s ≡ true → (y : ℕ) → everything y ≡ true →
          bytes_in ((open_in s cs).buffer y) ≤ bytes_in (k.answers.buffer y)
      less_bytes s cs rest e sk y on = by (cb == y) refl
        where
          mine_is : (t : Bool) → is_kept b.state ≡ t → (q : Bool) → is_kept s ≡ q → (if q then weight cs else 0) ≤ (if t then weight b.commands else 0)
          mine_is true u true v = let l = sum_by-append (λ c. length (spelling 1 c)) cs rest in let m : weight b.commands ≡ weight (cs ++ rest) = ap weight e in omega (arith, l, m)
          mine_is true u false v = omega arith
          mine_is false u q v = absurd (both_ways (is_kept b.state) u kept)

          plain_less : (t : Bool) → some y ≡ t → (q : Bool) → is_kept (k.answers.buffer y).state ≡ q →
              bytes_in (if t then (if q then k.answers.buffer y else new_buffer) else new_buffer) ≤ (if q then weight (k.answers.buffer y).commands else 0)
          plain_less true u true v = let z : bytes_in (k.answers.buffer y) ≡ weight (k.answers.buffer y).commands = ap (λ t. if t then weight (k.answers.buffer y).commands else 0) v in omega (arith, z)
          plain_less true u false v = omega arith
          plain_less false u true v = omega arith
          plain_less false u false v = omega arith

          by : (t : Bool) → (cb == y) ≡ t → bytes_in (if t then record { state = s; flags = b.flags; commands = cs } else pick new_buffer (buffer_of k.answers) some y) ≤ bytes_in (k.answers.buffer y)
          by true q = subst (λ z. (if is_kept s then weight cs else 0) ≤ bytes_in (k.answers.buffer z)) (eqb-true cb y q) (mine_is (is_kept b.state) refl (is_kept s) refl)
          by false q = plain_less (some y) refl (is_kept (k.answers.buffer y).state) refl

      cb_listed : is_among cb k.answers.ids ≡ true
      cb_listed = orderly.listed cb ∙ ap is_some (part_live cb is_part_here)

      fits_ok : (cs : List Event) (c : Event) (rest : List Event) → b.commands ≡ cs ++ c ∷ rest → broken (open_in State.recording cs) (fits (length (spelling 1 c))) ≡ None
      unfolding broken
      fits_ok cs c rest e =
          let on = alsos-among parts (also x done) cb is_part_here in
          let p = sum-here (λ y. commands_in (k.answers.buffer y)) (λ y. commands_in ((open_in State.recording cs).buffer y)) everything (less_commands State.recording cs (c ∷ rest) e refl) cb on k.answers.ids cb_listed in
          let q = sum-here (λ y. bytes_in (k.answers.buffer y)) (λ y. bytes_in ((open_in State.recording cs).buffer y)) everything (less_bytes State.recording cs (c ∷ rest) e refl) cb on k.answers.ids cb_listed in
          let a : commands_in ((open_in State.recording cs).buffer cb) ≡ length cs = ap commands_in (at_cb State.recording cs) in
          let z : bytes_in ((open_in State.recording cs).buffer cb) ≡ weight cs = ap bytes_in (at_cb State.recording cs) in
          let f : commands_in b ≡ length b.commands = ap (λ t. if t then length b.commands else 0) kept in
          let g : bytes_in b ≡ weight b.commands = ap (λ t. if t then weight b.commands else 0) kept in
          let l : length b.commands ≡ length cs + suc (length rest) = ap (λ (z : List Event). length z) e ∙ length-append cs (c ∷ rest) in
          let m : weight b.commands ≡ weight cs + weight (c ∷ rest) = ap weight e ∙ sum_by-append (λ c. length (spelling 1 c)) cs (c ∷ rest) in
          let h : weight (c ∷ rest) ≡ length (spelling 1 c) + weight rest = sum_by-cons (λ c. length (spelling 1 c)) c rest in
          let r = orderly.commands in let t = orderly.bytes in
          let one : commands_kept (open_in State.recording cs) + 1 ≤ 2 ^ 20 = omega (arith, p, a, f, l, r) in
          let two : bytes_kept (open_in State.recording cs) + length (spelling 1 c) ≤ 2 ^ 28 = omega (arith, q, z, g, m, h, t) in
          let one' : nat_le (commands_kept (open_in State.recording cs) + 1) (2 ^ 20) ≡ true = grind (arith, nat_tests, one) in
          let two' : nat_le (bytes_kept (open_in State.recording cs) + length (spelling 1 c)) (2 ^ 28) ≡ true = grind (arith, nat_tests, two) in
          ok _ _ (λ i. one' i && two' i)

      -- ---- one command

      same_open : (cs : List Event) (y : ℕ) → is_usable (base k.answers) y ≡ true → SameAt (base k.answers) (open_in State.recording cs) y
      same_open cs y u = let s = same_at y u in record { live = s.live; device = s.device; usable = s.usable }

      cb_nonzero : (cb == 0) ≡ false
      cb_nonzero = orderly.nonzero cb cb_object (part_live cb is_part_here)

      command_ok : (cs : List Event) (c : Event) (rest : List Event) → b.commands ≡ cs ++ c ∷ rest → IsCommandOf (base k.answers) cb c → Passes (open_in State.recording cs) (checks_of c)
      unfolding broken
      command_ok cs c rest e is_of =
          let device : device_of (open_in State.recording cs) (cb_of c) ≡ device_of (base k.answers) (cb_of c) =
          ap (device_of w) is_of.0 ∙ cb_device cb is_part_here ∙ sym (ap (device_of k.answers) is_of.0) in
          let checks = command_stays (base k.answers) (open_in State.recording cs) (same_open cs) c device is_of.1 in
          subst (Passes (open_in State.recording cs)) (sym (command_row c cb is_of.0 cb_nonzero)) (
            live_ok k n (having some) kind.CommandBuffer cb (alsos-among parts (also x done) cb is_part_here) cb_live,
            (
              ok _ _ (ap (λ (q : Buffer). is_recording q.state) (at_cb State.recording cs)),
              all_append (λ ch. broken (open_in State.recording cs) ch ≡ None) (command_checks c) _ checks (fits_ok cs c rest e, tt),
            ),
          )

      command_leaves : (cs : List Event) (c : Event) → IsCommandOf (base k.answers) cb c → next (seen_in State.recording cs) c ≡ seen_in State.recording (cs ++ c ∷ [])
      unfolding after
      command_leaves cs c is_of =
          ap (λ (ss : List Step). let r : Seen = record { answers = fold after (open_in State.recording cs) (taken ∷ ss); bytes = fold bytes_step (bytes_shown k done) (taken ∷ ss) } in r) (command_effect (open_in State.recording cs) c cb is_of.0 cb_nonzero)
          ∙ (λ i. record {
            answers = record w { buffer = change_at (λ q. record q { commands = q.commands ++ c ∷ [] }) State.recording State.recording cs (cs ++ c ∷ []) refl i };
            bytes = bytes_shown k done;
          })

      commands_build : (rest cs : List Event) → b.commands ≡ cs ++ rest → AllByRecursion (IsCommandOf (base k.answers) cb) rest → Builds (seen_in State.recording cs) rest (seen_in State.recording b.commands)
      commands_build [] cs e a = builds_none _ _ (ap (seen_in State.recording) (sym (append-nil cs) ∙ sym e))
      commands_build (c ∷ rest) cs e a =
          builds_call _ (seen_in State.recording (cs ++ c ∷ [])) _ c rest (command_ok cs c rest e a.0) (command_leaves cs c a.0)
          (commands_build rest (cs ++ c ∷ []) (e ∙ sym (append_assoc cs (c ∷ []) rest)) a.1)

      all_commands : Builds (seen_in State.recording []) b.commands (seen_in State.recording b.commands)
      all_commands = commands_build b.commands [] refl (orderly.buffers cb kept).commands

      end_passes : (cs : List Event) → Passes (open_in State.recording cs) (checks_of (EndCommandBuffer cb))
      unfolding id_of place_of row_of broken
      end_passes cs = (
        live_ok k n (having some) kind.CommandBuffer cb (alsos-among parts (also x done) cb is_part_here) cb_live,
        (ok _ _ (ap (λ (q : Buffer). is_recording q.state) (at_cb State.recording cs)), tt),
      )

      end_leaves : (cs : List Event) → next (seen_in State.recording cs) (EndCommandBuffer cb) ≡ seen_in State.executable cs
      unfolding effect_of after
      end_leaves cs = λ i. record {
        answers = record w { buffer = change_at (λ q. record q { state = State.executable }) State.recording State.executable cs cs refl i };
        bytes = bytes_shown k done;
      }

      recorded : (s : State) → b.state ≡ s → seen_in s b.commands ≡ shown k n (having (also cb some))
      recorded s e = λ i. record {
        answers = record w { buffer = put_one new_buffer (buffer_of k.answers) some cb (record { state = s; flags = b.flags; commands = b.commands }) same i };
        bytes = bytes_shown k done;
      }
        where
          same : record { state = s; flags = b.flags; commands = b.commands } ≡ buffer_of k.answers cb
          same = (λ i. record { state = sym e i; flags = b.flags; commands = b.commands }) ∙ sym (ap (λ t. if t then k.answers.buffer cb else new_buffer) kept)

    -- one buffer
    pub buffer_builds : (cb : ℕ) → is_among cb parts ≡ true → some cb ≡ false → (s : State) → (k.answers.buffer cb).state ≡ s →
        Builds (shown k n (having some)) (recording_events cb s (k.answers.buffer cb)) (shown k n (having (also cb some)))
    buffer_builds cb e new State.recording is =
        builds_call _ (seen_in cb e new (ap is_kept is) State.recording []) _ (BeginCommandBuffer cb (k.answers.buffer cb).flags) (k.answers.buffer cb).commands
        (begin_passes cb e new (ap is_kept is)) (begin_leaves cb e new (ap is_kept is))
        (builds_to (k.answers.buffer cb).commands _ _ _ (recorded cb e new (ap is_kept is) State.recording is) (all_commands cb e new (ap is_kept is)))
    buffer_builds cb e new State.executable is =
        builds_call _ (seen_in cb e new (ap is_kept is) State.recording []) _ (BeginCommandBuffer cb (k.answers.buffer cb).flags) ((k.answers.buffer cb).commands ++ EndCommandBuffer cb ∷ [])
        (begin_passes cb e new (ap is_kept is)) (begin_leaves cb e new (ap is_kept is))
        (builds_append (k.answers.buffer cb).commands (EndCommandBuffer cb ∷ []) _ _ _ (all_commands cb e new (ap is_kept is))
        (builds_one _ _ (EndCommandBuffer cb) (end_passes cb e new (ap is_kept is) (k.answers.buffer cb).commands)
        (end_leaves cb e new (ap is_kept is) (k.answers.buffer cb).commands ∙ recorded cb e new (ap is_kept is) State.executable is)))
    buffer_builds cb e new State.initial is = builds_none _ _ (skip_buffer cb (ap is_kept is))
      where
        skip_buffer : (cb : ℕ) → is_kept (k.answers.buffer cb).state ≡ false → shown k n (having some) ≡ shown k n (having (also cb some))
        skip_buffer cb e = λ i. record { answers = record w { buffer = skip_one new_buffer (buffer_of k.answers) some cb (ap (λ t. if t then k.answers.buffer cb else new_buffer) e) i }; bytes = bytes_shown k done }
    buffer_builds cb e new State.invalid is = builds_none _ _ (skip_buffer cb (ap is_kept is))
      where
        skip_buffer : (cb : ℕ) → is_kept (k.answers.buffer cb).state ≡ false → shown k n (having some) ≡ shown k n (having (also cb some))
        skip_buffer cb e = λ i. record { answers = record w { buffer = skip_one new_buffer (buffer_of k.answers) some cb (ap (λ t. if t then k.answers.buffer cb else new_buffer) e) i }; bytes = bytes_shown k done }
