-- The users of resources are those that the command buffers name, after a step of one buffer.
use Rattle.std.proofs.Common.{◌≡◌, ℕ, ◌==◌, Bool, true, false, ◌&&◌, ◌||◌, ◌++◌, ◌∷◌, [], List, Some, None, is_some, if◌then◌else◌, refl, ap, sym, ◌∙◌, arith}
use Rattle.std.specs.Prelude.{flat_map}
use Rattle.std.specs.List.{list_all}
use Rattle.std.specs.Ordering.{nat_cmp}
use Rattle.std.specs.FinMap as map
use Rattle.std.specs.FinMap.{FinMap}
use Rattle.std.proofs.lemmas.Bool.Decides.{nat_tests}
use Rattle.std.proofs.lemmas.List.Folds.{list_any-append}
use Rattle.gfx_table.specs.Slots.{Slots}
use Rattle.gfx_model.specs.Events.{Event}
use Rattle.gfx_model.specs.Steps.{resources_of}
use Rattle.gfx_model.specs.Questions.{Buffer, new_buffer}
use Rattle.gfx_model.specs.Checks.{is_among}
use Rattle.gfx_commands.specs.declared.recording.Recording.{Recording}
use Rattle.gfx_commands.specs.declared.uses.Use.{Use}
use Rattle.gfx_commands.specs.Recording.{names}
use Rattle.gfx_commands.specs.Commands.{events_in}
use Rattle.gfx_commands.specs.Recordings.{buffers}
use Rattle.gfx_table.specs.Groups.{is_member}
use Rattle.gfx_commands.specs.Users.{AreUsers}
use Rattle.gfx_commands.proofs.Added.{flat_map-more}
use Rattle.gfx_commands.proofs.Buffers.{found}

-- what all numbers of a list pass, each of them passes
pub each_passes : (p : ℕ → Bool) (xs : List ℕ) → list_all p xs ≡ true → (x : ℕ) → is_among x xs ≡ true → p x ≡ true
each_passes p [] all x among = cc
each_passes p (y ∷ ys) all x among =
    let rest = each_passes p ys (grind (arith, all)) x in
    let same : y ≡ x → p y ≡ p x = ap p in
    grind (arith, nat_tests, all, among, rest, same)

pub none_named : (u : FinMap nat_cmp (Slots (Unit {0}))) (b : ℕ → Buffer) → is_member u ≡ (λ r cb. false) → b ≡ (λ x. new_buffer) → AreUsers u b
none_named u b none is r cb = ap (λ f. f r cb) none ∙ sym (ap (λ f. names r (f cb)) is)

module _ (u n : FinMap nat_cmp (Slots (Unit {0}))) (b now : ℕ → Buffer) (are : AreUsers u b) (cb : ℕ) where
  -- the buffer has no commands any more
  module _ (empty : Buffer) (plain : (r : ℕ) → names r empty ≡ false) (is : now ≡ (λ x. if cb == x then empty else b x)) where
    at : (r x : ℕ) (t : Bool) → (cb == x) ≡ t → names r (now x) ≡ (if t then false else names r (b x))
    at r x true e = ap (λ f. names r (f x)) is ∙ ap (λ t. names r (if t then empty else b x)) e ∙ plain r
    at r x false e = ap (λ f. names r (f x)) is ∙ ap (λ t. names r (if t then empty else b x)) e

    pub forgotten : is_member n ≡ (λ x y. if cb == y then false else is_member u x y) → AreUsers n now
    forgotten gone r x =
        let a = ap (λ f. f r x) gone in
        let old = are r x in
        let new = at r x (cb == x) refl in
        grind (arith, a, old, new)

    pub none_forgotten : ((r : ℕ) → names r (b cb) ≡ false) → AreUsers u now
    none_forgotten none r x =
        let old = are r x in
        let new = at r x (cb == x) refl in
        let here = none r in
        let same : cb ≡ x → names r (b cb) ≡ names r (b x) = ap (λ y. names r (b y)) in
        grind (arith, nat_tests, old, new, here, same)

  -- the buffer has one command more
  module _ (e : Event) (is : now ≡ (λ x. if cb == x then record (b x) { commands = (b x).commands ++ e ∷ [] } else b x)) where
    more : (r x : ℕ) (t : Bool) → (cb == x) ≡ t → names r (now x) ≡ (if t then names r (b x) || is_among r (resources_of e) else names r (b x))
    more r x true h =
        ap (λ f. names r (f x)) is ∙ ap (λ t. names r (if t then record (b x) { commands = (b x).commands ++ e ∷ [] } else b x)) h
        ∙ ap (is_among r) (flat_map-more resources_of (b x).commands e)
        ∙ list_any-append (λ y. y == r) (flat_map resources_of (b x).commands) (resources_of e)
    more r x false h = ap (λ f. names r (f x)) is ∙ ap (λ t. names r (if t then record (b x) { commands = (b x).commands ++ e ∷ [] } else b x)) h

    pub added : is_member n ≡ (λ x y. (cb == y && is_among x (resources_of e)) || is_member u x y) → AreUsers n now
    added users r x =
        let a = ap (λ f. f r x) users in
        let old = are r x in
        let new = more r x (cb == x) refl in
        grind (arith, a, old, new)

    -- and names no resource that it doesn't name already
    pub none_added : ((r : ℕ) → is_among r (resources_of e) ≡ true → names r (b cb) ≡ true) → AreUsers u now
    none_added all r x =
        let old = are r x in
        let new = more r x (cb == x) refl in
        let here = all r in
        let same : cb ≡ x → names r (b cb) ≡ names r (b x) = ap (λ y. names r (b y)) in
        grind (arith, nat_tests, old, new, here, same)

-- ---- what a buffer named before

module _ (m : FinMap nat_cmp Recording) (cb : ℕ) where
  pub nothing_named : map.get m cb ≡ None → (r : ℕ) → names r (buffers m cb) ≡ false
  nothing_named none r = ap (names r) (found m cb None none)

  pub named_in_uses : (before : Recording) → map.get m cb ≡ Some before → (u : FinMap nat_cmp (Slots (Unit {0}))) → AreUsers u (buffers m) → (uses : FinMap nat_cmp Use)
      → ((x : ℕ) → is_some (map.get uses x) ≡ is_among x (flat_map resources_of (events_in before.commands)))
      → (x : ℕ) → is_member u x cb ≡ true → is_some (map.get uses x) ≡ true
  named_in_uses before some u are uses members x user = members x ∙ sym (ap (names x) (found m cb (Some before) some)) ∙ sym (are x cb) ∙ user

pub users_same : (u n : FinMap nat_cmp (Slots (Unit {0}))) (b : ℕ → Buffer) → is_member n ≡ is_member u → AreUsers u b → AreUsers n b
users_same u n b same are r x = ap (λ f. f r x) same ∙ are r x
