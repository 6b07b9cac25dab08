-- A journal's entries, and what an append adds.
use Rattle.std.specs.Prelude.{◌≡◌, ℕ, List, [], ◌∷◌, ◌++◌, length, map, take, Result, IfOk}
use Rattle.gfx_seats_tests.specs.declared.journal.Event.{Event}
use Rattle.gfx_seats_tests.specs.declared.journal.Event.TheVariants.{Make, End}
use Rattle.gfx_seats_tests.specs.declared.journal.Entry.{Entry}
use Rattle.gfx_seats_tests.specs.declared.journal.Receipt.{Receipt}
use Rattle.gfx_seats_tests.specs.declared.journal.Refused.{Refused}

-- the ids that an event creates
abbrev pub event_ids : Event → List ℕ
event_ids (Make id) = id ∷ []
event_ids (End id) = []

abbrev pub named_ids : List Event → List ℕ
named_ids [] = []
named_ids (e ∷ es) = event_ids e ++ named_ids es

abbrev pub entry : ℕ → Event → Entry
entry thread event = record { thread = thread; event = event }

abbrev pub entry_thread : Entry → ℕ
entry_thread e = e.thread

abbrev pub entry_ids : Entry → List ℕ
entry_ids e = event_ids e.event

-- the first n events were appended, all of them where the answer is a receipt
abbrev pub Grew : List Entry → ℕ → List Event → Result Receipt Refused → List Entry → Type 0
Grew before thread events answer after = (n : ℕ) × (after ≡ before ++ map (entry thread) (take n events)) × IfOk answer (λ r. (r.from ≡ length before) × (r.count ≡ length events) × (n ≡ length events))
