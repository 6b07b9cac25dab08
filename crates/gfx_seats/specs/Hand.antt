-- What a thread did and saw: how it changes, two facts that always hold of it, and what is counted of it.
use Rattle.std.specs.Prelude.{◌≡◌, ℕ, zero, suc, ◌+◌, ◌<◌, Bool, true, false, nat_lt, max, List, [], ◌∷◌, ◌++◌, length, All}
use Rattle.gfx_seats.specs.declared.stage.Stage.{Stage}
use Rattle.gfx_seats.specs.declared.stage.Stage.TheVariants.{Absent, Idle, HasTurn}
use Rattle.gfx_seats.specs.declared.hand.Hand.{Hand}
use Rattle.gfx_seats.specs.declared.note.Note.{Note}
use Rattle.gfx_seats.specs.Entries.{times, entries_of, created, IsEntryOf}
use Rattle.gfx_seats.specs.Stage.{seat_count, turn_count, tickets_of, threads_of}

module _ {E : Type 0} where
  -- ---- hands of a new desk

  -- a thread that has neither drawn, made nor seen anything
  abbrev pub fresh : ℕ → ℕ → Hand E
  fresh kind t = record { stage = Idle; kind = kind; thread = t; seen = []; known = 0; mine = []; drawn = [] }

  -- the threads from t on, n of them
  abbrev pub fresh_from : ℕ → ℕ → ℕ → List (Hand E)
  fresh_from kind t zero = []
  fresh_from kind t (suc n) = fresh kind t ∷ fresh_from kind (t + 1) n

  -- what is left of a hand that was given away
  abbrev pub nobody : Hand E
  nobody = record { stage = Absent; kind = 0; thread = 0; seen = []; known = 0; mine = []; drawn = [] }

  -- ---- how a hand changes

  -- it stands so with its turn
  abbrev pub with_stage : Hand E → Stage → Hand E
  with_stage h stage = record h { stage = stage }

  -- it drew one more id
  abbrev pub with_id : Hand E → ℕ → Hand E
  with_id h x = record h { drawn = h.drawn ++ x ∷ [] }

  -- it knows that the history has this length at least
  abbrev pub with_known : Hand E → ℕ → Hand E
  with_known h n = record h { known = n }

  -- it met another, and both have seen this much
  abbrev pub after_meeting : Hand E → Hand E → List E → Hand E
  after_meeting h other seen = record h { seen = seen; known = max h.known other.known }

  -- it has the turn, and has seen the whole history
  abbrev pub at_turn : Hand E → List E → Hand E
  at_turn h log = record h { stage = HasTurn; seen = log; known = length log }

  -- the second of two histories where the test holds, and the first where it does not
  abbrev pub pick : Bool → List E → List E → List E
  pick true xs ys = ys
  pick false xs ys = xs

  -- the first of two histories, or the second where that is longer
  abbrev pub longer : List E → List E → List E
  longer xs ys = pick (nat_lt (length xs) (length ys)) xs ys

  -- it learns what another has seen
  abbrev pub with_seen : Hand E → List E → ℕ → Hand E
  with_seen h seen known = record h { seen = longer h.seen seen; known = max h.known known }

  -- what another can learn from it
  abbrev pub note_of : Hand E → Note E
  note_of h = record { kind = h.kind; seen = h.seen; known = h.known }

module _ {E : Type 0} (thread_of : E → ℕ) where
  -- its thread brought the history to `log`
  abbrev pub grown_hand : Hand E → List E → Hand E
  grown_hand h log = record h { seen = log; known = length log; mine = entries_of thread_of h.thread log }

  -- what it made is all that its history has of its thread
  abbrev pub HasAllOwn : Hand E → Type 0
  HasAllOwn h = entries_of thread_of h.thread h.seen ≡ h.mine

module _ {E : Type 0} (ids_of : E → List ℕ) where
  -- of an id that it drew its history creates what it made itself, and no more: nothing where it made nothing of it
  abbrev pub CreatesAlone : Hand E → Type 0
  CreatesAlone h = (x : ℕ) → 0 < times x h.drawn → created ids_of x h.seen ≡ created ids_of x h.mine

module _ {E : Type 0} (thread_of : E → ℕ) (ids_of : E → List ℕ) where
  -- entries of its thread came at the end, which create ids of these alone; all else is as it was
  pub record Appended (h : Hand E) (ids : List ℕ) (h' : Hand E) : Type 0 where
    pub more : List E
    pub new : All (IsEntryOf thread_of ids_of h.thread ids) more
    pub hand : h' ≡ record h { seen = h.seen ++ more; known = length (h.seen ++ more); mine = h.mine ++ more }

module _ {E : Type 0} where
  -- ---- what is counted of a hand

  -- how often it drew the id x
  abbrev pub drawn_times : ℕ → Hand E → ℕ
  drawn_times x h = times x h.drawn

  -- how many ids it drew
  abbrev pub drawn_in : Hand E → ℕ
  drawn_in h = length h.drawn

  -- 1 where there is a thread, and it is t
  abbrev pub thread_times : ℕ → Hand E → ℕ
  thread_times t h = times t (threads_of h.stage h.thread)

  -- 1 where there is a thread
  abbrev pub seats_in : Hand E → ℕ
  seats_in h = seat_count h.stage

  -- 1 where it waits with the ticket k
  abbrev pub ticket_times : ℕ → Hand E → ℕ
  ticket_times k h = times k (tickets_of h.stage)

  -- 1 where it waits
  abbrev pub tickets_in : Hand E → ℕ
  tickets_in h = length (tickets_of h.stage)

  -- 1 where it has the turn
  abbrev pub turns_in : Hand E → ℕ
  turns_in h = turn_count h.stage
