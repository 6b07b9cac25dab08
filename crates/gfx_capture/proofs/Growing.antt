-- An append adds entries of its thread, which create ids of the buffer alone.
use Rattle.std.proofs.Common.{ℕ, All, List, [], ◌∷◌, take, length, refl, arith, Ok, Err, Result}
use Rattle.std.proofs.lemmas.List.Elements.{All-nil, All-cons, All-map, All-take}
use Rattle.gfx_seats.specs.Entries.{AreAmong, IsEntryOf, Adds}
use Rattle.gfx_seats.proofs.Totals.{times-append}
use Rattle.gfx_model.specs.Events.{Event}
use Rattle.gfx_script_model.specs.Runs.{Entry}
use Rattle.gfx_capture.specs.declared.answer.Receipt.{Receipt}
use Rattle.gfx_capture.specs.declared.answer.AppendFault.{AppendFault}
use Rattle.gfx_capture.specs.declared.answer.AppendFault.TheVariants as append
use Rattle.gfx_capture.specs.Entry.{entry, entries_under, entry_thread, event_ids, entry_ids, named_ids}
use Rattle.gfx_capture.specs.Append.{Stand, Answers}

each-named : (es : List Event) → All (λ e. AreAmong (event_ids e) (named_ids es)) es
each-named [] = All-nil (λ e. AreAmong (event_ids e) [])
each-named (e ∷ es) = All-cons (λ y. AreAmong (event_ids y) (named_ids (e ∷ es))) e es
    (λ x pos. let t = times-append x (event_ids e) (named_ids es) in omega arith)
    (λ k d less x pos. let r = each-named es k d less x pos in let t = times-append x (event_ids e) (named_ids es) in omega arith)

adds : (before after : List Entry) (t n : ℕ) (events : List Event) → Stand before t events n after → Adds entry_thread entry_ids before t (named_ids events) after
adds before after t n events stand = (
  entries_under t (take n events),
  stand,
  All-map (IsEntryOf entry_thread entry_ids t (named_ids events)) (entry t) (take n events)
      (All-take (λ e. IsEntryOf entry_thread entry_ids t (named_ids events) (entry t e)) n events (λ k d less. (refl, each-named events k d less))),
)

-- whatever is answered, the first events stand
pub answers_add : (m : ℕ) (before after : List Entry) (t : ℕ) (events : List Event) (r : Result Receipt AppendFault) → Answers m before t events r after
    → Adds entry_thread entry_ids before t (named_ids events) after
answers_add m before after t events (Ok r) a = adds before after t (length events) events a.2
answers_add m before after t events (Err (append.Refused f at done)) a = adds before after t done events a.2
answers_add m before after t events (Err (append.LogFull l wanted done)) a = adds before after t done events a.1
answers_add m before after t events (Err (append.WantMemory done)) a = adds before after t done events a.1
