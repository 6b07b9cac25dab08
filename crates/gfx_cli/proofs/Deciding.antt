-- Which ends a file allows.
use Rattle.std.proofs.Common.{◌≡◌, ◌⊎◌, inl, inr, ℕ, List, Option, Some, None, true, false, refl, sym, ap, ◌∙◌, arith}
use Rattle.std.specs.Prelude.{IfSome}
use Rattle.gfx_io.specs.Told.{IfTold, IsTold}
use Rattle.gfx_types.specs.declared.names.Fault.{Fault}
use Rattle.gfx_model.specs.Blocks.{clean, bad}
use Rattle.gfx_model.specs.Events.{Event}
use Rattle.gfx_trim.specs.Numbers.{IsInside, IsOutside}
use Rattle.gfx_player.specs.Meanings.{history_in}
use Rattle.gfx_listing_law.proofs.Readable.{listing_is_good, one_bad as one_bad_line}
use Rattle.gfx_words.specs.declared.command.Command.{Command}
use Rattle.gfx_words.specs.declared.command.Command.TheVariants.{Info, Replay, Trim, Lean, Upgrade, List as Lists, Unlist as Unlists, Make, Help, Version}
use Rattle.gfx_cli.specs.declared.stop.Stop.{Stop}
use Rattle.gfx_cli.specs.declared.stop.Stop.TheVariants.{WantMemory, BadFile, NoSuchFrame, ReadFault, WriteFault, BadListing}
use Rattle.gfx_cli.specs.Commands.{IsBad, IsBadLine, IsGood, LacksFrame}
use Rattle.gfx_cli.specs.Ends.{Stops}

-- what holds of the bytes that are told, and of those that are left
pub told_at : (a b : Option (List ℕ)) (P : List ℕ → Type 0) (Q : List ℕ → List ℕ → Type 0) → IsTold a → IfSome a P → IfTold a b Q
    → (x : List ℕ) × (y : List ℕ) × P x × Q x y
told_at None b P Q told p q = absurd told
told_at (Some x) None P Q told p q = absurd q
told_at (Some x) (Some y) P Q told p q = (x, y, p, q)

-- frames that are in a history aren't missing in it
in_and_out : (first last : ℕ) (h : List Event) → IsInside first last h → IsOutside first last h → ⊥
in_and_out first last h inside (inl below) = let low = inside.low in absurd (omega (arith, low, below))
in_and_out first last h inside (inr above) = let high = inside.high in absurd (omega (arith, high, above))

pub good_not_bad : (c : Command) (fault : Fault) (block offset : ℕ) (bytes : List ℕ) → IsGood c bytes → IsBad c fault block offset bytes → ⊥
good_not_bad Info fault block offset bytes good is = let e : clean ≡ bad fault block offset = sym good ∙ is in absurd cc
good_not_bad (Replay pixels None) fault block offset bytes good is = let e : clean ≡ bad fault block offset = sym good ∙ is.0 in absurd cc
good_not_bad (Replay pixels (Some r)) fault block offset bytes good is = let e : true ≡ false = sym good ∙ is.1 in absurd cc
good_not_bad (Trim r) fault block offset bytes good is = in_and_out r.first r.last (history_in bytes) good is.1
good_not_bad (Lean r) fault block offset bytes good is = in_and_out r.first r.last (history_in bytes) good is.1
good_not_bad Upgrade fault block offset bytes good is = let e : clean ≡ bad fault block offset = sym good ∙ is in absurd cc
good_not_bad Lists fault block offset bytes good is = let e : clean ≡ bad fault block offset = sym good ∙ is in absurd cc
good_not_bad Unlists fault block offset bytes good is = is
good_not_bad (Make n) fault block offset bytes good is = is
good_not_bad Help fault block offset bytes good is = is
good_not_bad Version fault block offset bytes good is = is

pub good_not_lacking : (c : Command) (first last : ℕ) (bytes : List ℕ) → IsGood c bytes → LacksFrame c first last bytes → ⊥
good_not_lacking Info first last bytes good is = is
good_not_lacking (Replay pixels None) first last bytes good is = is.range
good_not_lacking (Replay pixels (Some r)) first last bytes good is = let e : true ≡ false = sym good ∙ is.unseen in absurd cc
good_not_lacking (Trim r) first last bytes good is = in_and_out r.first r.last (history_in bytes) good is.outside
good_not_lacking (Lean r) first last bytes good is = in_and_out r.first r.last (history_in bytes) good is.outside
good_not_lacking Upgrade first last bytes good is = is
good_not_lacking Lists first last bytes good is = is
good_not_lacking Unlists first last bytes good is = is
good_not_lacking (Make n) first last bytes good is = is
good_not_lacking Help first last bytes good is = is
good_not_lacking Version first last bytes good is = is

bad_not_lacking : (c : Command) (fault : Fault) (block offset first last : ℕ) (bytes : List ℕ) → IsBad c fault block offset bytes → LacksFrame c first last bytes → ⊥
bad_not_lacking Info fault block offset first last bytes wrong is = is
bad_not_lacking (Replay pixels frames) fault block offset first last bytes wrong is = let e : clean ≡ bad fault block offset = sym is.end ∙ wrong.0 in absurd cc
bad_not_lacking (Trim r) fault block offset first last bytes wrong is = let e : clean ≡ bad fault block offset = sym is.end ∙ wrong.0 in absurd cc
bad_not_lacking (Lean r) fault block offset first last bytes wrong is = let e : clean ≡ bad fault block offset = sym is.end ∙ wrong.0 in absurd cc
bad_not_lacking Upgrade fault block offset first last bytes wrong is = is
bad_not_lacking Lists fault block offset first last bytes wrong is = is
bad_not_lacking Unlists fault block offset first last bytes wrong is = is
bad_not_lacking (Make n) fault block offset first last bytes wrong is = is
bad_not_lacking Help fault block offset first last bytes wrong is = is
bad_not_lacking Version fault block offset first last bytes wrong is = is

one_bad : (fault other : Fault) (block number offset place : ℕ) → bad fault block offset ≡ bad other number place → BadFile fault block offset ≡ BadFile other number place
one_bad fault other block number offset place same =
    let faults : fault ≡ other = cc same in
    let blocks : block ≡ number = cc same in
    let offsets : offset ≡ place = cc same in
    ap (λ f. BadFile f block offset) faults ∙ ap (λ n. BadFile other n offset) blocks ∙ ap (λ n. BadFile other number n) offsets

same_bad : (c : Command) (fault other : Fault) (block number offset place : ℕ) (bytes : List ℕ) → IsBad c fault block offset bytes → IsBad c other number place bytes
    → BadFile fault block offset ≡ BadFile other number place
same_bad Info fault other block number offset place bytes is so = one_bad fault other block number offset place (sym is ∙ so)
same_bad (Replay pixels frames) fault other block number offset place bytes is so = one_bad fault other block number offset place (sym is.0 ∙ so.0)
same_bad (Trim r) fault other block number offset place bytes is so = one_bad fault other block number offset place (sym is.0 ∙ so.0)
same_bad (Lean r) fault other block number offset place bytes is so = one_bad fault other block number offset place (sym is.0 ∙ so.0)
same_bad Upgrade fault other block number offset place bytes is so = one_bad fault other block number offset place (sym is ∙ so)
same_bad Lists fault other block number offset place bytes is so = one_bad fault other block number offset place (sym is ∙ so)
same_bad Unlists fault other block number offset place bytes is so = absurd is
same_bad (Make n) fault other block number offset place bytes is so = absurd is
same_bad Help fault other block number offset place bytes is so = absurd is
same_bad Version fault other block number offset place bytes is so = absurd is

same_lack : (c : Command) (first last other_first other_last : ℕ) (bytes : List ℕ) → LacksFrame c first last bytes → LacksFrame c other_first other_last bytes
    → NoSuchFrame first last ≡ NoSuchFrame other_first other_last
same_lack Info first last other_first other_last bytes is so = absurd is
same_lack (Replay pixels frames) first last other_first other_last bytes is so =
    ap (λ n. NoSuchFrame n last) (is.first_is ∙ sym so.first_is) ∙ ap (NoSuchFrame other_first) (is.last_is ∙ sym so.last_is)
same_lack (Trim r) first last other_first other_last bytes is so =
    ap (λ n. NoSuchFrame n last) (is.first_is ∙ sym so.first_is) ∙ ap (NoSuchFrame other_first) (is.last_is ∙ sym so.last_is)
same_lack (Lean r) first last other_first other_last bytes is so =
    ap (λ n. NoSuchFrame n last) (is.first_is ∙ sym so.first_is) ∙ ap (NoSuchFrame other_first) (is.last_is ∙ sym so.last_is)
same_lack Upgrade first last other_first other_last bytes is so = absurd is
same_lack Lists first last other_first other_last bytes is so = absurd is
same_lack Unlists first last other_first other_last bytes is so = absurd is
same_lack (Make n) first last other_first other_last bytes is so = absurd is
same_lack Help first last other_first other_last bytes is so = absurd is
same_lack Version first last other_first other_last bytes is so = absurd is

-- a line is bad in no listing, in no capture file, and where no frame is missing
pub good_not_bad_line : (c : Command) (line : ℕ) (bytes : List ℕ) → IsGood c bytes → IsBadLine c line bytes → ⊥
good_not_bad_line Unlists line bytes good is = listing_is_good good.0 bytes line good.1 good.2 is
good_not_bad_line Info line bytes good is = is
good_not_bad_line _ line bytes good is = is

bad_not_bad_line : (c : Command) (fault : Fault) (block offset line : ℕ) (bytes : List ℕ) → IsBad c fault block offset bytes → IsBadLine c line bytes → ⊥
bad_not_bad_line Unlists fault block offset line bytes wrong is = wrong
bad_not_bad_line Info fault block offset line bytes wrong is = is
bad_not_bad_line _ fault block offset line bytes wrong is = is

lack_not_bad_line : (c : Command) (first last line : ℕ) (bytes : List ℕ) → LacksFrame c first last bytes → IsBadLine c line bytes → ⊥
lack_not_bad_line Unlists first last line bytes lack is = lack
lack_not_bad_line Info first last line bytes lack is = is
lack_not_bad_line _ first last line bytes lack is = is

same_line : (c : Command) (line other : ℕ) (bytes : List ℕ) → IsBadLine c line bytes → IsBadLine c other bytes → BadListing line ≡ BadListing other
same_line Unlists line other bytes is so = ap BadListing (one_bad_line bytes line other is so)
same_line Info line other bytes is so = absurd is
same_line _ line other bytes is so = absurd is

-- a file that has all stops a command for a fault of the source, of the sink, or when out of memory alone
pub good_stops : (c : Command) (before after : Option (List ℕ)) (stop : Stop) (all rest : List ℕ) → IsGood c all → Stops c before after stop all rest
    → ¬ (stop ≡ ReadFault) → ¬ (stop ≡ WriteFault) → stop ≡ WantMemory
good_stops c before after (BadFile fault block offset) all rest good is reads writes = absurd (good_not_bad c fault block offset all good is.0)
good_stops c before after (NoSuchFrame first last) all rest good is reads writes = absurd (good_not_lacking c first last all good is.0)
good_stops c before after ReadFault all rest good is reads writes = absurd (reads refl)
good_stops c before after WriteFault all rest good is reads writes = absurd (writes refl)
good_stops c before after WantMemory all rest good is reads writes = refl
good_stops c before after (BadListing line) all rest good is reads writes = absurd (good_not_bad_line c line all good is.0)

pub bad_stops : (c : Command) (before after : Option (List ℕ)) (stop : Stop) (fault : Fault) (block offset : ℕ) (all rest : List ℕ) → IsBad c fault block offset all
    → Stops c before after stop all rest → ¬ (stop ≡ ReadFault) → ¬ (stop ≡ WriteFault) → (stop ≡ WantMemory) ⊎ (stop ≡ BadFile fault block offset)
bad_stops c before after (BadFile other number place) fault block offset all rest wrong is reads writes = inr (same_bad c other fault number block place offset all is.0 wrong)
bad_stops c before after (NoSuchFrame first last) fault block offset all rest wrong is reads writes = absurd (bad_not_lacking c fault block offset first last all wrong is.0)
bad_stops c before after ReadFault fault block offset all rest wrong is reads writes = absurd (reads refl)
bad_stops c before after WriteFault fault block offset all rest wrong is reads writes = absurd (writes refl)
bad_stops c before after WantMemory fault block offset all rest wrong is reads writes = inl refl
bad_stops c before after (BadListing line) fault block offset all rest wrong is reads writes = absurd (bad_not_bad_line c fault block offset line all wrong is.0)

pub lack_stops : (c : Command) (before after : Option (List ℕ)) (stop : Stop) (first last : ℕ) (all rest : List ℕ) → LacksFrame c first last all
    → Stops c before after stop all rest → ¬ (stop ≡ ReadFault) → ¬ (stop ≡ WriteFault) → (stop ≡ WantMemory) ⊎ (stop ≡ NoSuchFrame first last)
lack_stops c before after (BadFile fault block offset) first last all rest lack is reads writes = absurd (bad_not_lacking c fault block offset first last all is.0 lack)
lack_stops c before after (NoSuchFrame other_first other_last) first last all rest lack is reads writes = inr (same_lack c other_first other_last first last all is.0 lack)
lack_stops c before after ReadFault first last all rest lack is reads writes = absurd (reads refl)
lack_stops c before after WriteFault first last all rest lack is reads writes = absurd (writes refl)
lack_stops c before after WantMemory first last all rest lack is reads writes = inl refl
lack_stops c before after (BadListing line) first last all rest lack is reads writes = absurd (lack_not_bad_line c first last line all lack is.0)

pub line_stops : (c : Command) (before after : Option (List ℕ)) (stop : Stop) (line : ℕ) (all rest : List ℕ) → IsBadLine c line all
    → Stops c before after stop all rest → ¬ (stop ≡ ReadFault) → ¬ (stop ≡ WriteFault) → (stop ≡ WantMemory) ⊎ (stop ≡ BadListing line)
line_stops c before after (BadFile fault block offset) line all rest wrong is reads writes = absurd (bad_not_bad_line c fault block offset line all is.0 wrong)
line_stops c before after (NoSuchFrame first last) line all rest wrong is reads writes = absurd (lack_not_bad_line c first last line all is.0 wrong)
line_stops c before after (BadListing other) line all rest wrong is reads writes = inr (same_line c other line all is.0 wrong)
line_stops c before after ReadFault line all rest wrong is reads writes = absurd (reads refl)
line_stops c before after WriteFault line all rest wrong is reads writes = absurd (writes refl)
line_stops c before after WantMemory line all rest wrong is reads writes = inl refl
