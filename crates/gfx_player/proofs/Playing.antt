-- What follows for a caller that looks at the frames of a walk.
use Rattle.std.proofs.Common.{◌≡◌, ◌-◌, ◌^◌, ◌<◌, ℕ, List, [], ◌∷◌, ◌++◌, length, Option, Some, None, sym, ap, subst, ◌∙◌, arith}
use Rattle.std.specs.Prelude.{unwrap_or}
use Rattle.gfx_types.specs.declared.frame.Frame.{Frame}
use Rattle.gfx_io.specs.Told.{IfTold}
use Rattle.gfx_model.specs.Blocks.{minor_of}
use Rattle.gfx_model.specs.History.{view}
use Rattle.gfx_decode.specs.Reachable.{IsBehind}
use Rattle.gfx_decode.proofs.Told.{told_if}
use Rattle.gfx_player.specs.declared.asked.Asked.{Asked}
use Rattle.gfx_player.specs.declared.player.Player.{Player}
use Rattle.gfx_player.specs.Asked.{asked_of}
use Rattle.gfx_player.specs.Ends.{ShowsFirst}
use Rattle.gfx_player.specs.Meanings.{first_in, first_of, history_in, last_in}
use Rattle.gfx_player.specs.Walks.{HasAll, Plays, first_frame_of, next_frame_of}
use Rattle.gfx_player.proofs.Asking.{few_asked, first_with}
use Rattle.gfx_player.proofs.Walking.{fed_begins, first_more, shows_first, still_going}

-- the frames of the file begin with those that were shown
pub plays_first : (p : Player) (shown : List Frame) (file left : Option (List ℕ)) → Plays p shown file left → IfTold file left (λ all rest. ShowsFirst shown all × (p.minor ≡ minor_of all))
plays_first p shown file left w =
    told_if file left _ (λ all rest. ShowsFirst shown all × (p.minor ≡ minor_of all)) w.read.told
    (λ all rest was. (subst (λ fs. ShowsFirst fs all) w.shows (shows_first w.fed all w.replayed.replays.stands.valid (fed_begins w.fed p.decoder all rest was.0)), was.1))

-- no fault came yet
pub plays_going : (p : Player) (shown : List Frame) (file left : Option (List ℕ)) → Plays p shown file left → IsBehind 0 p.decoder
plays_going p shown file left w = still_going (length w.fed) p.decoder w.read.place

-- two facts of the same file
pub told_beside : (file left rest : Option (List ℕ)) (P Q R : List ℕ → List ℕ → Type 0) → IfTold file left P → IfTold file rest Q → ((all left rest : List ℕ) → P all left → Q all rest → R all rest) → IfTold file rest R
told_beside None left rest P Q R p q f = tt
told_beside (Some all) None rest P Q R p q f = absurd p
told_beside (Some all) (Some left) None P Q R p q f = absurd q
told_beside (Some all) (Some left) (Some rest) P Q R p q f = f all left rest p q

-- the number of the first frame, where one was shown last
pub first_is : (p : Player) (shown : List Frame) (f : Frame) (file left : Option (List ℕ)) → Plays p (shown ++ f ∷ []) file left → first_frame_of p ≡ first_with shown f.number
first_is p shown f file left w =
    ap (λ o. unwrap_or o (next_frame_of p)) (w.replayed.first ∙ ap first_of w.shows ∙ sym (first_more shown f))

-- a count of frames that are asked for is small
pub room_for : (a : Asked) (p : Player) (shown : List Frame) (file left : Option (List ℕ)) (count : ℕ) → Plays p shown file left → count ≡ length (asked_of a shown) → count < 2 ^ 63
room_for a p shown file left count w is = omega (arith, is, few_asked a (unwrap_or (first_of shown) 0) shown, w.few, w.bound)

-- the numbers of the frames that are there
pub lowest_is : (p : Player) (shown : List Frame) (all rest : List ℕ) → HasAll p shown all rest → first_frame_of p ≡ first_in (history_in all)
lowest_is p shown all rest h = ap (λ n. unwrap_or p.first n) h.next ∙ ap (λ o. unwrap_or o (view (history_in all)).next_frame) (h.first ∙ ap first_of (sym h.just.shows))

pub highest_is : (p : Player) (shown : List Frame) (all rest : List ℕ) → HasAll p shown all rest → next_frame_of p - 1 ≡ last_in (history_in all)
highest_is p shown all rest h = ap (λ n. n - 1) h.next
