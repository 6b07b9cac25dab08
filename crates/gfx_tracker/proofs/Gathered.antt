-- What each step makes of all answers together.
use Rattle.std.proofs.Common.{◌≡◌, ℕ, ◌==◌, Bool, true, false, ◌&&◌, List, [], ◌∷◌, ◌++◌, Option, Some, None, is_some, if◌then◌else◌, refl, ap, sym, subst, ◌∙◌, arith}
use Rattle.std.proofs.lemmas.Bool.{and_parts, both_ways, eqb-true}
use Rattle.std.proofs.lemmas.Bool.Decides.{nat_tests}
use Rattle.gfx_types.specs.declared.names.Kind.TheVariants as kind
use Rattle.gfx_model.specs.Events.{Event}
use Rattle.gfx_table.specs.Dense.{is_listed}
use Rattle.gfx_model.specs.Steps.{Step, Object, Detail, kind_of, kind_number}
use Rattle.gfx_model.specs.Steps.Detail.{a_command_buffer}
use Rattle.gfx_model.specs.Steps.Change.{set_layout}
use Rattle.gfx_model.specs.Steps.Step.{creates, ends, binds, maps, unmaps, begins, records, finishes, resets, resets_pool, executed, signals, unsignals, acquires, gives_back, changes}
use Rattle.gfx_model.specs.Questions as asked
use Rattle.gfx_model.specs.Questions.{State, Buffer, new_buffer, is_kept, is_once, invalidated, passes, is_in_pool, is_owned, goes_with, after_end}
use Rattle.gfx_model.specs.Views.{View, is_live, view_of}
use Rattle.gfx_model.specs.Checks.{is_initial}
use Rattle.gfx_model.specs.After.{after, is_gone, is_alive, buffer_after_end}
use Rattle.gfx_tracker.specs.Gathered.{gathered, is_new, no_commands, is_command_buffer, IsPlain}

-- ---- steps that leave buffers, frames and the section as they are, and that nothing ends or is created

abbrev pub IsQuiet : Step → Type 0
IsQuiet (binds r memory offset) = Unit {0}
IsQuiet (maps memory offset size) = Unit {0}
IsQuiet (unmaps memory) = Unit {0}
IsQuiet (signals i) = Unit {0}
IsQuiet (unsignals i) = Unit {0}
IsQuiet (acquires swapchain index) = Unit {0}
IsQuiet (gives_back swapchain index) = Unit {0}
IsQuiet (changes c) = Unit {0}
IsQuiet _ = ⊥

pub quiet_live : (r : View) (step : Step) → IsQuiet step → (x : ℕ) → (after r step).live x ≡ r.live x
unfolding after
quiet_live r (binds a memory offset) q x = refl
quiet_live r (maps memory offset size) q x = refl
quiet_live r (unmaps memory) q x = refl
quiet_live r (signals i) q x = refl
quiet_live r (unsignals i) q x = refl
quiet_live r (acquires swapchain index) q x = refl
quiet_live r (gives_back swapchain index) q x = refl
quiet_live r (changes c) q x = refl
quiet_live r _ q x = absurd q

quiet_same : (r : View) (b : ℕ → Buffer) (n : ℕ) (e : Bool) (s : Option ℕ) (step : Step) → IsQuiet step → gathered (after r step) b n false s ≡ after (gathered r b n e s) step
unfolding after
quiet_same r b n e s (binds a memory offset) q = refl
quiet_same r b n e s (maps memory offset size) q = refl
quiet_same r b n e s (unmaps memory) q = refl
quiet_same r b n e s (signals i) q = refl
quiet_same r b n e s (unsignals i) q = refl
quiet_same r b n e s (acquires swapchain index) q = refl
quiet_same r b n e s (gives_back swapchain index) q = refl
quiet_same r b n e s (changes (set_layout i l)) q = refl
quiet_same r b n e s (changes _) q = refl
quiet_same r b n e s _ q = absurd q

pub quiet_gathered : (r q : View) (b : ℕ → Buffer) (n : ℕ) (e : Bool) (s : Option ℕ) (step : Step) → IsQuiet step → q ≡ after r step → gathered q b n false s ≡ after (gathered r b n e s) step
quiet_gathered r q b n e s step quiet is = ap (λ (v : View). gathered v b n false s) is ∙ quiet_same r b n e s step quiet

pub quiet_plain : (r q : View) (b : ℕ → Buffer) (step : Step) → IsQuiet step → q ≡ after r step → IsPlain r.live b → IsPlain q.live b
quiet_plain r q b step quiet is p = record {
  plain = λ x none. p.plain x (ap (passes is_command_buffer) (sym (quiet_live r step quiet x)) ∙ ap (λ (v : View). passes is_command_buffer (v.live x)) (sym is) ∙ none);
}

pub dead_not : (test : Object → Bool) (o : Option Object) → is_some o ≡ false → passes test o ≡ false
dead_not test None none = refl
dead_not test (Some o) none = absurd cc

there_some : (test : Object → Bool) (o : Option Object) → passes test o ≡ true → is_some o ≡ true
there_some test None there = absurd cc
there_some test (Some o) there = refl

-- ---- buffers that are as new ones

initial_is : (s : State) → is_initial s ≡ true → s ≡ State.initial
initial_is State.initial e = refl
initial_is State.recording e = absurd cc
initial_is State.executable e = absurd cc
initial_is State.invalid e = absurd cc

none_is : (cs : List Event) → no_commands cs ≡ true → cs ≡ []
none_is [] e = refl
none_is (c ∷ cs) e = absurd cc

pub new_is : (b : Buffer) → is_new b ≡ true → b ≡ new_buffer
new_is b e =
    let all = and_parts (is_initial b.state && b.flags == 0) (no_commands b.commands) e in
    let front = and_parts (is_initial b.state) (b.flags == 0) all.0 in
    let zero : b.flags ≡ 0 = let f = front.1 in grind (arith, nat_tests, f) in
    λ j. record { state = initial_is b.state front.0 j; flags = zero j; commands = none_is b.commands all.1 j }

pub new_not_kept : (b : Buffer) → is_new b ≡ true → is_kept b.state ≡ false
new_not_kept b e = ap (λ (b : Buffer). is_kept b.state) (new_is b e)

new_stays : (hit : Bool) (b : Buffer) → is_new b ≡ true → is_new (invalidated hit b) ≡ true
new_stays hit b e = ap (λ (b : Buffer). is_new (invalidated hit b)) (new_is b e) ∙ by hit
  where
    by : (hit : Bool) → is_new (invalidated hit new_buffer) ≡ true
    by true = refl
    by false = refl

-- ---- a new object

pub made_plain : (r q : View) (b : ℕ → Buffer) (id p : ℕ) (d : Detail) → q ≡ after r (creates id p d) → IsPlain r.live b → is_some (r.live id) ≡ false → IsPlain q.live b
unfolding after
made_plain r q b id p d is plain fresh = record { plain = λ x none. by x (id == x) refl (ap (λ (v : View). passes is_command_buffer (v.live x)) (sym is) ∙ none) }
  where
    by : (x : ℕ) (t : Bool) → (id == x) ≡ t → passes is_command_buffer (if t then Some (record { parent = p; detail = d }) else r.live x) ≡ false → is_new (b x) ≡ true
    by x true same none = subst (λ y. is_new (b y) ≡ true) (eqb-true id x same) (plain.plain id (dead_not _ (r.live id) fresh))
    by x false other none = plain.plain x none

made_same : (r : View) (b : ℕ → Buffer) (n : ℕ) (e : Bool) (s : Option ℕ) (id p : ℕ) (d : Detail) →
    gathered (after r (creates id p d)) (λ x. if id == x then new_buffer else b x) n false s ≡ after (gathered r b n e s) (creates id p d)
unfolding after
made_same r b n e s id p d = refl

pub made_gathered : (r q : View) (b : ℕ → Buffer) (n : ℕ) (e : Bool) (s : Option ℕ) (id p : ℕ) (d : Detail) → q ≡ after r (creates id p d) → IsPlain r.live b → is_some (r.live id) ≡ false →
    gathered q b n false s ≡ after (gathered r b n e s) (creates id p d)
made_gathered r q b n e s id p d is plain none =
    let buffers : b ≡ (λ x. if id == x then new_buffer else b x) = λ j x. here x (id == x) refl j in
    ap (λ (v : View). gathered v b n false s) is ∙ ap (λ b. gathered (after r (creates id p d)) b n false s) buffers ∙ made_same r b n e s id p d
  where
    here : (x : ℕ) (t : Bool) → (id == x) ≡ t → b x ≡ (if t then new_buffer else b x)
    here x true same = new_is (b x) (subst (λ y. is_new (b y) ≡ true) (eqb-true id x same) (plain.plain id (dead_not _ (r.live id) none)))
    here x false other = refl

-- ---- an object that ends

pub ended_plain : (r q : View) (b c : ℕ → Buffer) (gone : ℕ) → q ≡ after r (ends gone) → IsPlain r.live b → c ≡ (λ x. if is_gone r gone x then new_buffer else buffer_after_end r gone (b x)) → IsPlain q.live c
unfolding after
ended_plain r q b c gone is plain buffers = record {
  plain = λ x none. ap (λ (c : ℕ → Buffer). is_new (c x)) buffers ∙ by x (is_gone r gone x) refl (ap (λ (v : View). passes is_command_buffer (v.live x)) (sym is) ∙ none);
}
  where
    left : (x : ℕ) (o : Option Object) → passes (goes_with gone x) o ≡ false → passes is_command_buffer (after_end gone x o) ≡ passes is_command_buffer o
    left x None other = refl
    left x (Some o) other = ap (λ t. passes is_command_buffer (if t then None else Some o)) other

    by : (x : ℕ) (t : Bool) → is_gone r gone x ≡ t → passes is_command_buffer (after_end gone x (r.live x)) ≡ false → is_new (if t then new_buffer else buffer_after_end r gone (b x)) ≡ true
    by x true same none = refl
    by x false other none = new_stays _ (b x) (plain.plain x (sym (left x (r.live x) other) ∙ none))

ended_same : (r : View) (b : ℕ → Buffer) (n : ℕ) (e : Bool) (s : Option ℕ) (gone : ℕ) →
    gathered (after r (ends gone)) (λ x. if is_gone r gone x then new_buffer else buffer_after_end r gone (b x)) n false s ≡ after (gathered r b n e s) (ends gone)
unfolding after
ended_same r b n e s gone = refl

pub ended_gathered : (r q : View) (b c : ℕ → Buffer) (n : ℕ) (e : Bool) (s : Option ℕ) (gone : ℕ) → q ≡ after r (ends gone) →
    c ≡ (λ x. if is_gone r gone x then new_buffer else buffer_after_end r gone (b x)) → gathered q c n false s ≡ after (gathered r b n e s) (ends gone)
ended_gathered r q b c n e s gone is buffers =
    ap (λ (v : View). gathered v c n false s) is ∙ ap (λ c. gathered (after r (ends gone)) c n false s) buffers ∙ ended_same r b n e s gone

-- ---- buffers

-- the answer at a live id, where it is this one
at_alive : {X : Type 0} (r : View) (cb x : ℕ) → is_live r kind.CommandBuffer cb ≡ true → (now old : X) → (if cb == x then now else old) ≡ (if cb == x && is_alive r x then now else old)
at_alive r cb x live now old = by (cb == x) refl
  where
    by : (t : Bool) → (cb == x) ≡ t → (if t then now else old) ≡ (if t && is_alive r x then now else old)
    by true same = ap (λ t. if t then now else old) (sym (subst (λ y. is_some (r.live y) ≡ true) (eqb-true cb x same) (there_some _ (r.live cb) live)))
    by false other = refl

-- what is no live command buffer is another
other_differs : (r : View) (cb x : ℕ) → is_live r kind.CommandBuffer cb ≡ true → is_live r kind.CommandBuffer x ≡ false → (cb == x) ≡ false
other_differs r cb x live dead = by (cb == x) refl
  where
    by : (t : Bool) → (cb == x) ≡ t → t ≡ false
    by true same = absurd (both_ways (is_live r kind.CommandBuffer x) dead (ap (is_live r kind.CommandBuffer) (sym (eqb-true cb x same)) ∙ live))
    by false other = refl

module _ (r : View) (b c : ℕ → Buffer) (n : ℕ) (e : Bool) (s : Option ℕ) (plain : IsPlain r.live b) where
  at_plain : (cb : ℕ) (now : Buffer) → is_live r kind.CommandBuffer cb ≡ true → ((x : ℕ) → c x ≡ (if cb == x then now else b x)) → IsPlain r.live c
  at_plain cb now live is = record { plain = λ x dead. ap is_new (is x ∙ ap (λ t. if t then now else b x) (other_differs r cb x live dead)) ∙ plain.plain x dead }

  pub begun_plain : (cb flags : ℕ) → is_live r kind.CommandBuffer cb ≡ true → c ≡ (λ x. if cb == x then record { state = State.recording; flags = flags; commands = [] } else b x) → IsPlain r.live c
  begun_plain cb flags live is = at_plain cb _ live (λ x. ap (λ (c : ℕ → Buffer). c x) is)

  pub begun_gathered : (cb flags : ℕ) → is_live r kind.CommandBuffer cb ≡ true → c ≡ (λ x. if cb == x then record { state = State.recording; flags = flags; commands = [] } else b x) →
      gathered r c n false s ≡ after (gathered r b n e s) (begins cb flags)
  unfolding after
  begun_gathered cb flags live is = λ j. gathered r (λ x. (ap (λ (c : ℕ → Buffer). c x) is ∙ at_alive r cb x live _ _) j) n false s

  at_each : (cb : ℕ) (f : Buffer → Buffer) → is_live r kind.CommandBuffer cb ≡ true → ((x : ℕ) → c x ≡ (if cb == x then f (b x) else b x)) → IsPlain r.live c
  at_each cb f live is = record { plain = λ x dead. ap is_new (is x ∙ ap (λ t. if t then f (b x) else b x) (other_differs r cb x live dead)) ∙ plain.plain x dead }

  pub recorded_plain : (cb : ℕ) (command : Event) → is_live r kind.CommandBuffer cb ≡ true → c ≡ (λ x. if cb == x then record (b x) { commands = (b x).commands ++ command ∷ [] } else b x) → IsPlain r.live c
  recorded_plain cb command live is = at_each cb (λ b. record b { commands = b.commands ++ command ∷ [] }) live (λ x. ap (λ (c : ℕ → Buffer). c x) is)

  pub recorded_gathered : (cb : ℕ) (command : Event) → is_live r kind.CommandBuffer cb ≡ true → c ≡ (λ x. if cb == x then record (b x) { commands = (b x).commands ++ command ∷ [] } else b x) →
      gathered r c n false s ≡ after (gathered r b n e s) (records cb command)
  unfolding after
  recorded_gathered cb command live is = λ j. gathered r (λ x. (ap (λ (c : ℕ → Buffer). c x) is ∙ at_alive r cb x live _ _) j) n false s

  pub finished_plain : (cb : ℕ) → is_live r kind.CommandBuffer cb ≡ true → c ≡ (λ x. if cb == x then record (b x) { state = State.executable } else b x) → IsPlain r.live c
  finished_plain cb live is = at_each cb (λ b. record b { state = State.executable }) live (λ x. ap (λ (c : ℕ → Buffer). c x) is)

  pub finished_gathered : (cb : ℕ) → is_live r kind.CommandBuffer cb ≡ true → c ≡ (λ x. if cb == x then record (b x) { state = State.executable } else b x) →
      gathered r c n false s ≡ after (gathered r b n e s) (finishes cb)
  unfolding after
  finished_gathered cb live is = λ j. gathered r (λ x. (ap (λ (c : ℕ → Buffer). c x) is ∙ at_alive r cb x live _ _) j) n false s

  new_or : (t : Bool) (x : ℕ) → is_new (b x) ≡ true → is_new (if t then new_buffer else b x) ≡ true
  new_or true x e = refl
  new_or false x e = e

  pub reset_plain : (cb : ℕ) → c ≡ (λ x. if cb == x then new_buffer else b x) → IsPlain r.live c
  reset_plain cb is = record { plain = λ x dead. ap (λ (c : ℕ → Buffer). is_new (c x)) is ∙ new_or (cb == x) x (plain.plain x dead) }

  pub reset_gathered : (cb : ℕ) → c ≡ (λ x. if cb == x then new_buffer else b x) → gathered r c n false s ≡ after (gathered r b n e s) (resets cb)
  unfolding after
  reset_gathered cb is = ap (λ (c : ℕ → Buffer). gathered r c n false s) is

  pub pool_plain : (pool : ℕ) → c ≡ (λ x. if passes (is_in_pool pool) (r.live x) then new_buffer else b x) → IsPlain r.live c
  pool_plain pool is = record { plain = λ x dead. ap (λ (c : ℕ → Buffer). is_new (c x)) is ∙ new_or (passes (is_in_pool pool) (r.live x)) x (plain.plain x dead) }

  pub pool_gathered : (pool : ℕ) → c ≡ (λ x. if passes (is_in_pool pool) (r.live x) then new_buffer else b x) → gathered r c n false s ≡ after (gathered r b n e s) (resets_pool pool)
  unfolding after
  pool_gathered pool is = ap (λ (c : ℕ → Buffer). gathered r c n false s) is

  -- what a pool does not own is no command buffer, and as a new one
  pub owned_told : (pool : ℕ) (xs : List ℕ) → ((x : ℕ) → is_listed x xs ≡ passes (λ o. is_owned o.detail && pool == o.parent) (r.live x))
      → c ≡ (λ x. if is_listed x xs then new_buffer else b x) → c ≡ (λ x. if passes (is_in_pool pool) (r.live x) then new_buffer else b x)
  owned_told pool xs all is = λ j x. (ap (λ (c : ℕ → Buffer). c x) is ∙ ap (λ t. if t then new_buffer else b x) (all x) ∙ by x (r.live x) refl) j
    where
      other : (d : Detail) → is_owned d ≡ false → (kind_number (kind_of d) == 9) ≡ false
      other a_command_buffer free = absurd cc
      other _ free = refl

      same : (x : ℕ) (t : Bool) → b x ≡ new_buffer → b x ≡ (if t then new_buffer else b x)
      same x true new = new
      same x false new = refl

      turned : (p q : ℕ) → (p == q) ≡ (q == p)
      turned p q = grind (arith, nat_tests)

      by : (x : ℕ) (l : Option Object) → r.live x ≡ l
          → (if passes (λ o. is_owned o.detail && pool == o.parent) l then new_buffer else b x) ≡ (if passes (is_in_pool pool) l then new_buffer else b x)
      by x None is = refl
      by x (Some o) is = at (is_owned o.detail) refl
        where
          at : (t : Bool) → is_owned o.detail ≡ t → (if is_owned o.detail && pool == o.parent then new_buffer else b x) ≡ (if o.parent == pool then new_buffer else b x)
          at true owned = ap (λ t. if t && pool == o.parent then new_buffer else b x) owned ∙ ap (λ t. if t then new_buffer else b x) (turned pool o.parent)
          at false free =
              ap (λ t. if t && pool == o.parent then new_buffer else b x) free
              ∙ same x (o.parent == pool) (new_is (b x) (plain.plain x (ap (passes is_command_buffer) is ∙ other o.detail free)))

  pub executed_plain : (cb : ℕ) → c ≡ (λ x. invalidated (cb == x && is_once (b x)) (b x)) → IsPlain r.live c
  executed_plain cb is = record { plain = λ x dead. ap (λ (c : ℕ → Buffer). is_new (c x)) is ∙ new_stays _ (b x) (plain.plain x dead) }

  pub executed_gathered : (cb : ℕ) → c ≡ (λ x. invalidated (cb == x && is_once (b x)) (b x)) → gathered r c n false s ≡ after (gathered r b n e s) (executed cb)
  unfolding after
  executed_gathered cb is = ap (λ (c : ℕ → Buffer). gathered r c n false s) is

-- ---- the same answers

pub along_plain : (r q : View) (b : ℕ → Buffer) → q ≡ r → IsPlain r.live b → IsPlain q.live b
along_plain r q b e plain = subst (λ (v : View). IsPlain v.live b) (sym e) plain

-- ---- nothing was taken

pub new_gathered : (r : View) (b : ℕ → Buffer) → r ≡ record (view_of []) { is_empty = false } → b ≡ (λ x. new_buffer) → gathered r b 1 true None ≡ view_of []
unfolding asked.live asked.next_frame asked.open_section
new_gathered r b is buffers = ap (λ (v : View). gathered v b 1 true None) is ∙ ap (λ (b : ℕ → Buffer). gathered (view_of []) b 1 true None) buffers
