-- What a token knows, how tokens are cut and joined, and what is counted over all of them.
use Rattle.std.specs.Prelude.{ℕ, ◌+◌, ◌-◌, List, [], ◌∷◌, ◌++◌}
use Rattle.gfx_seats.specs.declared.hand.Hand.{Hand}
use Rattle.gfx_seats.specs.declared.view.View.{View}
use Rattle.gfx_seats.specs.Entries.{total}
use Rattle.gfx_seats.specs.Hand.{fresh, fresh_from, nobody, note_of}

module _ {E : Type 0} where
  -- the view with this hand
  abbrev pub with_hand : View E → Hand E → View E
  with_hand v h = record v { hand = h }

  -- the first token has the threads of all seats
  abbrev pub opening_view : ℕ → ℕ → View E
  opening_view kind seats = record { hand = fresh kind (seats - 1); others = fresh_from kind 0 (seats - 1); notes = [] }

  -- a token that was joined to another
  abbrev pub spent_view : View E
  spent_view = record { hand = nobody; others = []; notes = [] }

  -- a token that is a note
  abbrev pub note_view : Hand E → View E
  note_view h = record { hand = nobody; others = []; notes = note_of h ∷ [] }

  -- the view takes in a note
  abbrev pub noted : View E → View E → View E
  noted v w = record v { notes = v.notes ++ w.notes }

  -- the view takes in another with its threads, which come first
  abbrev pub gathered : View E → View E → View E
  gathered v w = record { hand = w.hand; others = w.others ++ v.hand ∷ v.others; notes = v.notes ++ w.notes }

  -- the first of some hands, and nobody where there is none
  abbrev pub first_hand : List (Hand E) → Hand E
  first_hand [] = nobody
  first_hand (h ∷ hs) = h

  -- the hands behind the first
  abbrev pub later_hands : List (Hand E) → List (Hand E)
  later_hands [] = []
  later_hands (h ∷ hs) = hs

  -- what is left of the view where the first of the other threads gets a token of its own
  abbrev pub staying : View E → View E
  staying v = record v { others = later_hands v.others }

  -- the token that this thread gets
  abbrev pub parting : View E → View E
  parting v = record { hand = first_hand v.others; others = []; notes = [] }

  -- ---- what is counted

  -- the sum of f over all threads of a token
  abbrev pub over : (Hand E → ℕ) → View E → ℕ
  over f v = f v.hand + total f v.others

  -- the sum of f over all threads of these tokens
  abbrev pub overall : (Hand E → ℕ) → List (View E) → ℕ
  overall f vs = total (over f) vs
