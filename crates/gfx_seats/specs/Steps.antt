-- What each step tells of the token before and after it.
use Rattle.std.specs.Prelude.{◌≡◌, ◌≢◌, ℕ, ◌%◌, ◌^◌, ◌≤◌, true, List, [], ◌∷◌, length, Option, Some, None, is_some}
use Rattle.std.specs.Option.{ForSome}
use mathlib.Core.List.{IsPrefix}
use Rattle.atomic_table.specs.Table.{Me, Step, rest}
use Rattle.gfx_seats.specs.declared.stage.Stage.TheVariants.{Idle, Waits}
use Rattle.gfx_seats.specs.declared.hand.Hand.{Hand}
use Rattle.gfx_seats.specs.declared.note.Note.{Note}
use Rattle.gfx_seats.specs.declared.view.View.{View}
use Rattle.gfx_seats.specs.Entries.{times}
use Rattle.gfx_seats.specs.Stage.{turn_count}
use Rattle.gfx_seats.specs.Hand.{with_stage, with_id, with_known, with_seen, at_turn, grown_hand, HasAllOwn, CreatesAlone}
use Rattle.gfx_seats.specs.View.{with_hand}

module _ {V : Type 0} where
  -- the value in the slot that was taken last
  abbrev pub taken : List (ℕ × Option V) → Option V
  taken [] = None
  taken (x ∷ xs) = x.1

module _ {V E : Type 0} where
  -- the token with this hand
  abbrev pub with_me : Me (Option V) (View E) → Hand E → Me (Option V) (View E)
  with_me m h = (with_hand m.0 h, m.1)

module _ {V E : Type 0} (entries : V → List E) (kind_of : V → ℕ) where
  -- a token has the slot just where it has the turn, and then the value there has the history that it has seen
  pub record HoldsSlot (m : Me (Option V) (View E)) : Type 0 where
    pub idle : turn_count m.0.hand.stage ≡ 0 → m.1 ≡ []
    pub turn : turn_count m.0.hand.stage ≡ 1 → m.1 ≡ (0, taken m.1) ∷ []
    pub filled : turn_count m.0.hand.stage ≡ 1 → is_some (taken m.1) ≡ true
    pub entries_are : ForSome (taken m.1) (λ v. entries v ≡ m.0.hand.seen)
    pub kind_is : ForSome (taken m.1) (λ v. kind_of v ≡ m.0.hand.kind)

module _ {V E : Type 0} (entries : V → List E) (thread_of : E → ℕ) (ids_of : E → List ℕ) (kind_of : V → ℕ) where
  -- a token: what it knows, and the slots that it has
  abbrev M : Type 0
  M = Me (Option V) (View E)

  -- it drew an id above 0 that it had not drawn before, and of its ids its history creates what it made itself and no more
  abbrev pub drew : Step (Option V) → M → ℕ → M → Type 0
  drew st m r m' = (1 ≤ r) × (times r m.0.hand.drawn ≡ 0) × (m' ≡ with_me m (with_id m.0.hand r)) × CreatesAlone ids_of m'.0.hand

  -- it knows the length that it read, which is at least the one that it knew and that of what it has seen
  abbrev pub read_length : Step (Option V) → M → ℕ → M → Type 0
  read_length st m r m' = (m.0.hand.known ≤ r) × (length m.0.hand.seen ≤ r) × (m' ≡ with_me m (with_known m.0.hand r))

  -- it waits with a ticket, and what it read is the number of the ticket modulo 2^64
  abbrev pub took_ticket : Step (Option V) → M → ℕ → M → Type 0
  took_ticket st m r m' = (k : ℕ) × (r ≡ k % 2 ^ 64) × (m' ≡ with_me m (with_stage m.0.hand (Waits k)))

  -- it took the ticket that it asked for, or nothing happened
  abbrev pub tried_ticket : Step (Option V) → M → ℕ → M → Type 0
  tried_ticket st m r m' = (r ≡ st.first → took_ticket st m r m') × (r ≢ st.first → m' ≡ m)

  -- the ticket is served: the token has the slot, and has seen the whole history
  pub record Served (m m' : M) : Type 0 where
    pub log : List E
    pub value : V
    pub now : m' ≡ (with_hand m.0 (at_turn m.0.hand log), (0, Some value) ∷ m.1)
    pub entries_are : entries value ≡ log
    pub kind_is : kind_of value ≡ m.0.hand.kind
    pub before : IsPrefix m.0.hand.seen log
    pub known : m.0.hand.known ≤ length log
    pub own : HasAllOwn thread_of m'.0.hand
    pub alone : CreatesAlone ids_of m'.0.hand

  -- it is served where what it read is the number of its ticket modulo 2^64, and otherwise nothing happened
  abbrev pub looked : Step (Option V) → M → ℕ → M → Type 0
  looked st m r m' = (k : ℕ) → m.0.hand.stage ≡ Waits k → (r ≡ k % 2 ^ 64 → Served m m') × (r ≢ k % 2 ^ 64 → m' ≡ m)

  -- its thread brought the history to the entries of the value in its slot, which create of its ids what it made itself and no more
  abbrev pub counted : Step (Option V) → M → ℕ → M → Type 0
  counted st m r m' = (v : V) → m.1 ≡ (0, Some v) ∷ [] → (m' ≡ with_me m (grown_hand thread_of m.0.hand (entries v))) × CreatesAlone ids_of m'.0.hand

  -- it gave the slot back, and its turn ended
  abbrev pub left_turn : Step (Option V) → M → ℕ → M → Type 0
  left_turn st m r m' = m' ≡ (with_hand m.0 (with_stage m.0.hand Idle), rest m.1)

  -- the token has seen the longer of its own history and the note's
  pub record Learnt (m : M) (n : Note E) (m' : M) : Type 0 where
    pub now : m' ≡ (record m.0 { hand = with_seen m.0.hand n.seen n.known; notes = [] }, m.1)
    pub before : IsPrefix m.0.hand.seen m'.0.hand.seen
    pub told : IsPrefix n.seen m'.0.hand.seen
    pub knows : length m'.0.hand.seen ≤ m'.0.hand.known
    pub turn : turn_count m.0.hand.stage ≡ 1 → m'.0.hand.seen ≡ m.0.hand.seen
    pub own : HasAllOwn thread_of m'.0.hand
    pub alone : CreatesAlone ids_of m'.0.hand

  -- it learnt what the one note says that it had taken in
  abbrev pub learnt : Step (Option V) → M → ℕ → M → Type 0
  learnt st m r m' = (n : Note E) → m.0.notes ≡ n ∷ [] → Learnt m n m'
