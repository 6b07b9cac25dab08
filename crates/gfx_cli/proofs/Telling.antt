-- What a status tells of the stop behind it.
use Rattle.std.proofs.Common.{◌≡◌, ◌≢◌, ◌≤◌, ◌⊎◌, inl, inr, ℕ, List, refl, sym, subst, ◌∙◌}
use Rattle.std.specs.Io.KnownBytes.{Appends}
use Rattle.gfx_io.specs.Pieces.{AppendsPart}
use Rattle.gfx_types.specs.declared.names.Fault.{Fault}
use Rattle.gfx_words.specs.declared.command.Command.{Command}
use Rattle.gfx_cli.specs.declared.status.Status.{Status}
use Rattle.gfx_cli.specs.declared.status.Status.TheVariants as status
use Rattle.gfx_cli.specs.declared.stop.Stop.{Stop}
use Rattle.gfx_cli.specs.declared.stop.Stop.TheVariants.{WantMemory, BadFile, NoSuchFrame, ReadFault, WriteFault, BadListing}
use Rattle.gfx_cli.specs.Run.{IsOfCommands, MayEnd, MayStop}
use Rattle.gfx_cli.specs.Seen.{Failed, Seen}
use Rattle.gfx_cli.specs.Stop.{status_of, line_of, IsUnwritten}
use Rattle.gfx_model.specs.Text.{bad_line}
use Rattle.gfx_cli.specs.Text.{bad_listing_line, no_such_frame_line, read_fault_line}

-- a stop was told, or memory was wanting, or the write failed
abbrev pub IsToldBy : Status → Status → Type 0 → Type 0 → Type 0 → Type 0
IsToldBy result wanted line same failed = ((result ≡ wanted) × line) ⊎ (((result ≡ status.WantMemory) × same) ⊎ ((result ≡ status.WriteFault) × failed))

-- a stop was told by its status and its line, or no memory was found for the line, or it could not be written
pub record IsTelling {N : Type 0} (wanted : Status) (line : List ℕ) (lacks : Type 0) (notes : Seen N) (result : Status) : Type 0 where
  pub ends : IsToldBy result wanted (Appends notes.bytes_before notes.bytes_now line) (notes.now ≡ notes.before) (Failed notes)
  pub front : AppendsPart notes.bytes_before notes.bytes_now line
  pub no_memory : result ≡ status.WantMemory → notes.now ≡ notes.before
  pub silent : lacks → result ≡ status.WantMemory
  pub later : notes.faults_before ≤ notes.faults_now

-- a status of its own comes from the stop
pub status_tells : (result wanted found : Status) (line same failed : Type 0) → IsToldBy result wanted line same failed → result ≡ found
    → found ≢ status.WantMemory → found ≢ status.WriteFault → (wanted ≡ found) × line
status_tells result wanted found line same failed (inl is) so memory written = (sym is.0 ∙ so, is.1)
status_tells result wanted found line same failed (inr (inl is)) so memory written = absurd (memory (sym so ∙ is.0))
status_tells result wanted found line same failed (inr (inr is)) so memory written = absurd (written (sym so ∙ is.0))

-- where no write failed, a stop is told or memory was wanting
pub told_or_wanting : (result wanted : Status) (line same failed : Type 0) → IsToldBy result wanted line same failed → ¬ failed → (result ≡ status.WantMemory) ⊎ ((result ≡ wanted) × line)
told_or_wanting result wanted line same failed (inl is) none = inr is
told_or_wanting result wanted line same failed (inr (inl is)) none = inl is.0
told_or_wanting result wanted line same failed (inr (inr is)) none = absurd (none is.1)

pub bad_told : (Run : Stop → Type 0) (Line : List ℕ → Type 0) (stop : Stop) → status_of stop ≡ status.BadFile → Run stop → Line (line_of stop)
    → (fault : Fault) × (block : ℕ) × (offset : ℕ) × Run (BadFile fault block offset) × Line (bad_line fault block offset)
bad_told Run Line (BadFile fault block offset) is run line = (fault, block, offset, run, line)
bad_told Run Line (NoSuchFrame first last) is run line = absurd cc
bad_told Run Line ReadFault is run line = absurd cc
bad_told Run Line WriteFault is run line = absurd cc
bad_told Run Line WantMemory is run line = absurd cc
bad_told Run Line (BadListing number) is run line = absurd cc

pub lack_told : (Run : Stop → Type 0) (Line : List ℕ → Type 0) (stop : Stop) → status_of stop ≡ status.NoSuchFrame → Run stop → Line (line_of stop)
    → (first : ℕ) × (last : ℕ) × Run (NoSuchFrame first last) × Line (no_such_frame_line first last)
lack_told Run Line (BadFile fault block offset) is run line = absurd cc
lack_told Run Line (NoSuchFrame first last) is run line = (first, last, run, line)
lack_told Run Line ReadFault is run line = absurd cc
lack_told Run Line WriteFault is run line = absurd cc
lack_told Run Line WantMemory is run line = absurd cc
lack_told Run Line (BadListing number) is run line = absurd cc

pub listing_told : (Run : Stop → Type 0) (Line : List ℕ → Type 0) (stop : Stop) → status_of stop ≡ status.BadListing → Run stop → Line (line_of stop)
    → (line : ℕ) × Run (BadListing line) × Line (bad_listing_line line)
listing_told Run Line (BadFile fault block offset) is run line = absurd cc
listing_told Run Line (NoSuchFrame first last) is run line = absurd cc
listing_told Run Line ReadFault is run line = absurd cc
listing_told Run Line WriteFault is run line = absurd cc
listing_told Run Line WantMemory is run line = absurd cc
listing_told Run Line (BadListing number) is run line = (number, run, line)

pub read_told : (Run : Stop → Type 0) (Line : List ℕ → Type 0) (stop : Stop) → status_of stop ≡ status.ReadFault → Run stop → Line (line_of stop)
    → (stop ≡ ReadFault) × Run ReadFault × Line read_fault_line
read_told Run Line (BadFile fault block offset) is run line = absurd cc
read_told Run Line (NoSuchFrame first last) is run line = absurd cc
read_told Run Line ReadFault is run line = (refl, run, line)
read_told Run Line WriteFault is run line = absurd cc
read_told Run Line WantMemory is run line = absurd cc
read_told Run Line (BadListing number) is run line = absurd cc

-- a failed write is one of the command, or of the line
pub write_told : (stop : Stop) → status_of stop ≡ status.WriteFault → stop ≡ WriteFault
write_told (BadFile fault block offset) is = absurd cc
write_told (NoSuchFrame first last) is = absurd cc
write_told ReadFault is = absurd cc
write_told WriteFault is = refl
write_told WantMemory is = absurd cc
write_told (BadListing line) is = absurd cc

-- neither done nor a faulty command line
pub stop_status : (stop : Stop) → (status_of stop ≢ status.Done) × (status_of stop ≢ status.Usage)
stop_status (BadFile fault block offset) = (λ e. absurd cc, λ e. absurd cc)
stop_status (NoSuchFrame first last) = (λ e. absurd cc, λ e. absurd cc)
stop_status ReadFault = (λ e. absurd cc, λ e. absurd cc)
stop_status WriteFault = (λ e. absurd cc, λ e. absurd cc)
stop_status WantMemory = (λ e. absurd cc, λ e. absurd cc)
stop_status (BadListing line) = (λ e. absurd cc, λ e. absurd cc)

pub stop_is_built : (stop : Stop) (result : Status) (line same failed : Type 0) → IsToldBy result (status_of stop) line same failed → IsOfCommands result
stop_is_built (BadFile fault block offset) result line same failed (inl is) = rw is.0 tt
stop_is_built (NoSuchFrame first last) result line same failed (inl is) = rw is.0 tt
stop_is_built ReadFault result line same failed (inl is) = rw is.0 tt
stop_is_built WriteFault result line same failed (inl is) = rw is.0 tt
stop_is_built WantMemory result line same failed (inl is) = rw is.0 tt
stop_is_built (BadListing number) result line same failed (inl is) = rw is.0 tt
stop_is_built stop result line same failed (inr (inl is)) = rw is.0 tt
stop_is_built stop result line same failed (inr (inr is)) = rw is.0 tt

-- a failed write was one of the command, or one of the line
pub by_cause : (stop : Stop) (result : Status) (line same failed cause : Type 0) → IsToldBy result (status_of stop) line same failed → result ≡ status.WriteFault → (stop ≡ WriteFault → cause) → cause ⊎ failed
by_cause stop result line same failed cause (inl is) so own = inl (own (write_told stop (sym is.0 ∙ so)))
by_cause stop result line same failed cause (inr (inl is)) so own = let e : status.WantMemory ≡ status.WriteFault = sym is.0 ∙ so in absurd cc
by_cause stop result line same failed cause (inr (inr is)) so own = inr is.1

-- where no write failed, a stop is a lack of memory or one that is told
pub told_exactly : (Line : List ℕ → Type 0) (stop wanted : Stop) (result : Status) (same failed : Type 0) → IsToldBy result (status_of stop) (Line (line_of stop)) same failed
    → (stop ≡ WantMemory → result ≡ status.WantMemory) → ¬ failed → (stop ≡ WantMemory) ⊎ (stop ≡ wanted) → (result ≡ status.WantMemory) ⊎ ((result ≡ status_of wanted) × Line (line_of wanted))
told_exactly Line stop wanted result same failed told silent none (inl want) = inl (silent want)
told_exactly Line stop wanted result same failed told silent none (inr is) =
    told_or_wanting result (status_of wanted) (Line (line_of wanted)) same failed (subst (λ s. IsToldBy result (status_of s) (Line (line_of s)) same failed) is told) none

-- a command ends with the status of its stop, when out of memory, or as a write failed
pub ends_so : (c : Command) (stop : Stop) (result : Status) (line same failed : Type 0) → MayStop c stop → IsToldBy result (status_of stop) line same failed → MayEnd c result
ends_so c stop result line same failed may (inl is) = subst (MayEnd c) (sym is.0) may
ends_so c stop result line same failed may (inr (inl is)) = subst (MayEnd c) (sym is.0) tt
ends_so c stop result line same failed may (inr (inr is)) = subst (MayEnd c) (sym is.0) tt

-- where no write failed, it is a lack of memory
pub text_wants : (stop : Stop) → IsUnwritten stop → ¬ (stop ≡ WriteFault) → stop ≡ WantMemory
text_wants (BadFile fault block offset) why none = absurd why
text_wants (NoSuchFrame first last) why none = absurd why
text_wants ReadFault why none = absurd why
text_wants WriteFault why none = absurd (none refl)
text_wants WantMemory why none = refl
text_wants (BadListing line) why none = absurd why
