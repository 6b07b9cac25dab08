-- The rule of the desk: one history, its ids and tickets, and what each thread knows of it.
use Rattle.std.specs.Prelude.{◌≡◌, ℕ, ◌+◌, ◌*◌, ◌%◌, ◌^◌, ◌<◌, ◌≤◌, ◌==◌, Bool, true, false, List, [], ◌∷◌, length, Option, Some}
use mathlib.Core.List.{IsPrefix}
use mathlib.Core.Option.{some, none}
use mathlib.Core.Option as maybe
use lib.ListN.{get_elem?}
use Rattle.atomic_table.specs.Table.{State}
use Rattle.gfx_seats.specs.declared.hand.Hand.{Hand}
use Rattle.gfx_seats.specs.declared.note.Note.{Note}
use Rattle.gfx_seats.specs.declared.view.View.{View}
use Rattle.gfx_seats.specs.Entries.{times, entries_of, created}
use Rattle.gfx_seats.specs.Stage.{seat_count, turn_count}
use Rattle.gfx_seats.specs.Hand.{drawn_times, drawn_in, thread_times, seats_in, ticket_times, tickets_in, turns_in}
use Rattle.gfx_seats.specs.View.{overall}

-- the numbers from `first` on and below `end` are counted once, and no others
pub record Once (first end x count : ℕ) : Type 0 where
  pub inside : first ≤ x → x < end → count ≡ 1
  pub below : x < first → count ≡ 0
  pub above : end ≤ x → count ≡ 0

-- n where the test holds
abbrev pub when : Bool → ℕ → ℕ
when true n = n
when false n = 0

-- P of each item, as tables look items up
abbrev pub Each : {A : Type 0} → (A → Type 0) → List A → Type 0
Each {A} P xs = (k : ℕ) (x : A) → get_elem? xs k ≡ some x → P x

module _ {E : Type 0} (thread_of : E → ℕ) (ids_of : E → List ℕ) (log : List E) (kind : ℕ) where
  -- what a thread did and saw is true of the history
  pub record Fits (h : Hand E) : Type 0 where
    pub kind_is : h.kind ≡ kind
    pub seen : IsPrefix h.seen log
    pub low : length h.seen ≤ h.known
    pub high : h.known ≤ length log
    pub mine : entries_of thread_of h.thread log ≡ h.mine
    pub all_seen : entries_of thread_of h.thread h.seen ≡ h.mine
    pub drew : (x : ℕ) → 0 < created ids_of x h.mine → 0 < times x h.drawn
    pub turn : turn_count h.stage ≡ 1 → h.seen ≡ log

  -- where there is no thread, nothing was drawn and nothing is said
  pub record HandFits (h : Hand E) : Type 0 where
    pub few : length h.drawn ≤ 2 ^ 32 * seat_count h.stage
    pub here : seat_count h.stage ≡ 1 → Fits h

  -- what a note says is true of the history
  pub record NoteFits (n : Note E) : Type 0 where
    pub kind_is : n.kind ≡ kind
    pub seen : IsPrefix n.seen log
    pub low : length n.seen ≤ n.known
    pub high : n.known ≤ length log

  -- what a token knows of all its threads, and what its notes say, is true of the history
  pub record ViewFits (v : View E) : Type 0 where
    pub hand : HandFits v.hand
    pub others : Each HandFits v.others
    pub notes : Each NoteFits v.notes

module _ {V E : Type 0} (entries : V → List E) (thread_of : E → ℕ) (ids_of : E → List ℕ) (kind_of : V → ℕ) (seats kind : ℕ) where
  -- the value in the slot has the history as its entries; the slot is out with the seat that has the turn
  pub record SlotFits (log : List E) (homes : List (maybe.Option (Option V))) (turns : ℕ) : Type 0 where
    pub there : turns ≡ 0 → (v : V) × (homes ≡ some (Some v) ∷ []) × (entries v ≡ log) × (kind_of v ≡ kind)
    pub away : 0 < turns → homes ≡ none ∷ []

  -- The words are the next id, the next ticket, the ticket that is served, and the length of the history. Tickets are counted
  -- without end, and the words have them modulo 2^64
  pub record IsKept (s : State (Option V) (View E)) : Type 0 where
    pub next : ℕ
    pub issued : ℕ
    pub served : ℕ
    pub log : List E
    pub words : s.words ≡ next ∷ issued % 2 ^ 64 ∷ served % 2 ^ 64 ∷ length log ∷ []
    pub few_seats : seats ≤ 64
    -- the ids from 1 on and below the next one were drawn, each once
    pub ids : (x : ℕ) → Once 1 next x (overall (drawn_times x) s.views)
    pub id_count : overall drawn_in s.views + 1 ≡ next
    -- each thread below the number of seats has one seat
    pub threads : (t : ℕ) → Once 0 seats t (overall (thread_times t) s.views)
    pub seat_total : overall seats_in s.views ≡ seats
    -- each ticket from the one that is served on and below the next one is with one seat: that one waits, or has the turn
    pub tickets : (k : ℕ) → Once served issued k (overall (ticket_times k) s.views + when (served == k) (overall turns_in s.views))
    pub ticket_count : served + (overall tickets_in s.views + overall turns_in s.views) ≡ issued
    pub slot : SlotFits log s.homes (overall turns_in s.views)
    -- a thread without a seat has no entry
    pub foreign : (t : ℕ) → seats ≤ t → entries_of thread_of t log ≡ []
    pub each : Each (ViewFits thread_of ids_of log kind) s.views
