-- What is promised of the words of a command follows from how the command ended, and from what was told of it.
use Rattle.std.proofs.Common.{◌≡◌, ◌⊎◌, inl, inr, ◌≤◌, ℕ, List, Option, Result, Ok, Err, ap, refl, subst, sym, ◌∙◌, arith}
use Rattle.std.specs.Prelude.{IfSome}
use Rattle.std.specs.Io.KnownBytes.{Appends}
use Rattle.gfx_io.specs.Pieces.{AppendsPart}
use Rattle.gfx_io.specs.Told.{IfTold, IsTold}
use Rattle.gfx_decode.proofs.Told.{told_if}
use Rattle.gfx_words.specs.declared.command.Command.{Command}
use Rattle.gfx_words.specs.declared.command.Command.TheVariants.{Trim, Lean, Upgrade, List as Lists, Unlist as Unlists}
use Rattle.gfx_cli.specs.CommandPromise.{KeepsCommand, Shows}
use Rattle.gfx_cli.specs.Commands.{IsBad, IsBadLine, IsGood, LacksFrame, Reads}
use Rattle.gfx_cli.specs.Ends.{Ends, EndsAlone}
use Rattle.gfx_cli.specs.FilesPromise.{KeepsFiles}
use Rattle.gfx_cli.specs.Run.{MayEnd, Runs, WritesFront, usage_noted, stop_noted}
use Rattle.gfx_cli.specs.Seen.{Failed, Seen}
use Rattle.gfx_cli.specs.Stop.{line_of, status_of}
use Rattle.gfx_cli.specs.Text.{usage_line}
use Rattle.gfx_cli.specs.Words.{IsNamed, IsOnly, IsOutside}
use Rattle.gfx_cli.specs.declared.status.Status.{Status}
use Rattle.gfx_cli.specs.declared.status.Status.TheVariants as status
use Rattle.gfx_cli.specs.declared.stop.Stop.{Stop}
use Rattle.gfx_cli.specs.declared.stop.Stop.TheVariants as stop
use Rattle.gfx_cli.proofs.Deciding.{bad_stops, good_not_bad, good_not_bad_line, good_not_lacking, good_stops, lack_stops, line_stops, told_at}
use Rattle.gfx_cli.proofs.Ending.{front_of}
use Rattle.gfx_cli.proofs.Keeping.{untouched}
use Rattle.gfx_cli.proofs.Telling.{IsTelling, bad_told, by_cause, ends_so, lack_told, listing_told, read_told, status_tells, stop_is_built, stop_status, text_wants, told_exactly}

-- the words name this command and no other
pub record AreOf (words : List (List ℕ)) (c : Command) : Type 0 where
  pub named : IsNamed words c
  pub only : IsOnly words c

-- the words name a command, and it ended so
runs : {S K : Type 0} (words : List (List ℕ)) (c : Command) (source : Seen S) (sink : Seen K) (end : Result Unit Stop) → AreOf words c → KeepsCommand c source sink end
    → Runs words source.bytes_before source.bytes_now sink.bytes_before sink.bytes_now end
runs words c source sink end are kept = record { command = c; named = are.named; ends = kept.ends }

-- and the sink took a prefix of what it writes
takes_front : {S K : Type 0} (words : List (List ℕ)) (c : Command) (source : Seen S) (sink : Seen K) (end : Result Unit Stop) → AreOf words c → KeepsCommand c source sink end
    → WritesFront words source.bytes_before source.bytes_now sink.bytes_before sink.bytes_now
takes_front words c source sink end are kept =
    record {
      command = c;
      named = are.named;
      front = told_if _ _ (Ends c sink.bytes_before sink.bytes_now end) _ kept.ends (λ all rest. front_of c sink.bytes_before sink.bytes_now end all rest);
    }

-- what holds of the bytes that were read, and how the command ended over them
of_bytes : {S K : Type 0} (c other : Command) (source : Seen S) (sink : Seen K) (end : Result Unit Stop) (P : Command → List ℕ → Type 0) → other ≡ c → KeepsCommand c source sink end
    → IsTold source.bytes_before → IfSome source.bytes_before (P other) → (x : List ℕ) × (y : List ℕ) × P c x × Ends c sink.bytes_before sink.bytes_now end x y
of_bytes c other source sink end P same kept told holds =
    told_at source.bytes_before source.bytes_now (P c) (Ends c sink.bytes_before sink.bytes_now end) told (subst (λ k. IfSome source.bytes_before (P k)) same holds) kept.ends

-- how a command that reads no file ended, by another name
alone_as : {S K : Type 0} (c other : Command) (source : Seen S) (sink : Seen K) (end : Result Unit Stop) → other ≡ c → KeepsCommand c source sink end → ¬ Reads other
    → EndsAlone other sink.bytes_before sink.bytes_now end
alone_as c other source sink end same kept = subst (λ k. ¬ Reads k → EndsAlone k sink.bytes_before sink.bytes_now end) (sym same) kept.alone

-- what the file means that it left, by another name
shows_as : {S K : Type 0} (c other : Command) (source : Seen S) (sink : Seen K) → other ≡ c → KeepsCommand c source sink (Ok tt)
    → IfTold source.bytes_before source.bytes_now (λ bytes left. Shows other sink.bytes_before sink.bytes_now bytes left)
shows_as c other source sink same kept =
    subst (λ k. IfTold source.bytes_before source.bytes_now (λ bytes left. Shows k sink.bytes_before sink.bytes_now bytes left)) (sym same) kept.shows

-- ---- the three ends of a run

-- words of no command, and the usage line or a prefix of it
pub refused : {S K N : Type 0} (words : List (List ℕ)) (source : S) (read : Option (List ℕ)) (reads : ℕ) (sink : K) (taken : Option (List ℕ)) (writes : ℕ) (notes : Seen N) (result : Status)
    → IsOutside words → ((result ≡ status.Usage) × Appends notes.bytes_before notes.bytes_now usage_line) ⊎ ((result ≡ status.WriteFault) × Failed notes)
    → AppendsPart notes.bytes_before notes.bytes_now usage_line → notes.faults_before ≤ notes.faults_now
    → KeepsFiles words (untouched source read reads) (untouched sink taken writes) notes result
refused words source read reads sink taken writes notes result outside ends front later =
    record {
      statuses = elim ends [ inl is ↦ rw is.0 tt | inr is ↦ rw is.0 tt ];
      usage = λ e. (outside, elim ends [ inl is ↦ is.1 | inr is ↦ absurd (let f : status.WriteFault ≡ status.Usage = sym is.0 ∙ e in cc) ]);
      refused = λ none. (elim ends [ inl is ↦ inl is.0 | inr is ↦ inr is.0 ], refl, refl);
      unread = λ c named. wrong c named;
      alone = λ c named. wrong c named;
      may = λ c named. wrong c named;
      done = λ e. other e (λ f. absurd cc) (λ f. absurd cc);
      keeps = λ e. other e (λ f. absurd cc) (λ f. absurd cc);
      leans = λ e. other e (λ f. absurd cc) (λ f. absurd cc);
      same = λ e. other e (λ f. absurd cc) (λ f. absurd cc);
      lists = λ e. other e (λ f. absurd cc) (λ f. absurd cc);
      unlists = λ e. other e (λ f. absurd cc) (λ f. absurd cc);
      complete = λ c named. wrong c named;
      bad_file = λ e. other e (λ f. absurd cc) (λ f. absurd cc);
      bad_exactly = λ c fault block offset named. wrong c named;
      no_such_frame = λ e. other e (λ f. absurd cc) (λ f. absurd cc);
      lacks_exactly = λ c first last named. wrong c named;
      bad_listing = λ e. other e (λ f. absurd cc) (λ f. absurd cc);
      listing_exactly = λ c line named. wrong c named;
      read_fault = λ e. other e (λ f. absurd cc) (λ f. absurd cc);
      write_fault = λ e. inr (elim ends [ inl is ↦ absurd (let f : status.Usage ≡ status.WriteFault = sym is.0 ∙ e in cc) | inr is ↦ is.1 ]);
      later = (omega arith, omega arith, later);
      front = inl refl;
      noted = inr (usage_line, usage_noted outside, front);
      no_memory = λ e. other e (λ f. absurd cc) (λ f. absurd cc);
    }
  where
    wrong : {P : Type 0} (c : Command) → IsNamed words c → P
    wrong c named = absurd (outside c named)

    -- it is none of the other statuses
    other : {P : Type 0} {found : Status} → result ≡ found → ¬ (status.Usage ≡ found) → ¬ (status.WriteFault ≡ found) → P
    other is usage write = elim ends [ inl it ↦ absurd (usage (sym it.0 ∙ is)) | inr it ↦ absurd (write (sym it.0 ∙ is)) ]

-- a command that ended with all done
pub finished : {S K N : Type 0} (words : List (List ℕ)) (c : Command) (source : Seen S) (sink : Seen K) (notes : N) (noted : Option (List ℕ)) (faults : ℕ)
    → AreOf words c → KeepsCommand c source sink (Ok tt) → KeepsFiles words source sink (untouched notes noted faults) status.Done
finished words c source sink notes noted faults are kept =
    record {
      statuses = tt;
      usage = λ e. absurd cc;
      refused = λ none. absurd (none c are.named);
      unread = λ other named. subst (λ k. ¬ Reads k → source.now ≡ source.before) (sym (are.only other named)) kept.unread;
      alone = λ other named reads.
          let ends = alone_as c other source sink (Ok tt) (are.only other named) kept reads in
          (record { text = λ e. ends.text; front = ends.front }, λ writes. inl refl);
      may = λ other named. tt;
      done = λ e. (runs words c source sink (Ok tt) are kept, refl);
      keeps = λ e range named. shows_as c (Trim range) source sink (are.only (Trim range) named) kept;
      leans = λ e range named. shows_as c (Lean range) source sink (are.only (Lean range) named) kept;
      same = λ e named. shows_as c Upgrade source sink (are.only Upgrade named) kept;
      lists = λ e named. shows_as c Lists source sink (are.only Lists named) kept;
      unlists = λ e named. shows_as c Unlists source sink (are.only Unlists named) kept;
      complete = λ other named told good reads writes. inl refl;
      bad_file = λ e. absurd cc;
      bad_exactly = λ other fault block offset named told wrong reads writes unnoted.
          let (all, rest, found, done) = of_bytes c other source sink (Ok tt) (λ k. IsBad k fault block offset) (are.only other named) kept told wrong in
          absurd (good_not_bad c fault block offset all done.good found);
      no_such_frame = λ e. absurd cc;
      lacks_exactly = λ other first last named told lacks reads writes unnoted.
          let (all, rest, found, done) = of_bytes c other source sink (Ok tt) (λ k. LacksFrame k first last) (are.only other named) kept told lacks in
          absurd (good_not_lacking c first last all done.good found);
      bad_listing = λ e. absurd cc;
      listing_exactly = λ other line named told wrong reads writes unnoted.
          let (all, rest, found, done) = of_bytes c other source sink (Ok tt) (λ k. IsBadLine k line) (are.only other named) kept told wrong in
          absurd (good_not_bad_line c line all done.good found);
      read_fault = λ e. absurd cc;
      write_fault = λ e. absurd cc;
      later = (kept.later.0, kept.later.1, omega arith);
      front = inr (takes_front words c source sink (Ok tt) are kept);
      noted = inl refl;
      no_memory = λ e. absurd cc;
    }

-- a command that stopped, and was told of
pub stopped : {S K N : Type 0} (words : List (List ℕ)) (c : Command) (source : Seen S) (sink : Seen K) (notes : Seen N) (why : Stop) (result : Status)
    → AreOf words c → KeepsCommand c source sink (Err why) → IsTelling (status_of why) (line_of why) (why ≡ stop.WantMemory) notes result → KeepsFiles words source sink notes result
stopped words c source sink notes why result are kept told =
    record {
      statuses = stop_is_built why result _ _ _ told.ends;
      usage = λ is. absurd ((stop_status why).1 (tells status.Usage is (λ e. absurd cc) (λ e. absurd cc)).0);
      refused = λ none. absurd (none c are.named);
      unread = λ other named. subst (λ k. ¬ Reads k → source.now ≡ source.before) (sym (are.only other named)) kept.unread;
      alone = λ other named reads.
          let ends = alone_as c other source sink (Err why) (are.only other named) kept reads in (
            record { text = λ is. not_done is; front = ends.front },
            λ writes. inr (told.silent (text_wants why ends.why (λ e. writes (fails_write e)))),
          );
      may = λ other named. subst (λ k. MayEnd k result) (sym (are.only other named)) (ends_so c why result _ _ _ kept.may told.ends);
      done = λ is. not_done is;
      keeps = λ is. not_done is;
      leans = λ is. not_done is;
      same = λ is. not_done is;
      lists = λ is. not_done is;
      unlists = λ is. not_done is;
      complete = λ other named known good reads writes.
          let (all, rest, whole, stops) = of_bytes c other source sink (Err why) IsGood (are.only other named) kept known good in
          inr (told.silent (good_stops c sink.bytes_before sink.bytes_now why all rest whole stops (λ e. reads (fails_read e)) (λ e. writes (fails_write e))));
      bad_file = λ is.
          let found = tells status.BadFile is (λ e. absurd cc) (λ e. absurd cc) in
          bad_told Ran Noted why found.0 ran found.1;
      bad_exactly = λ other fault block offset named known wrong reads writes unnoted.
          let (all, rest, found, stops) = of_bytes c other source sink (Err why) (λ k. IsBad k fault block offset) (are.only other named) kept known wrong in
          told_exactly Noted why (stop.BadFile fault block offset) result _ _ told.ends told.silent unnoted
          (bad_stops c sink.bytes_before sink.bytes_now why fault block offset all rest found stops (λ e. reads (fails_read e)) (λ e. writes (fails_write e)));
      no_such_frame = λ is.
          let found = tells status.NoSuchFrame is (λ e. absurd cc) (λ e. absurd cc) in
          lack_told Ran Noted why found.0 ran found.1;
      lacks_exactly = λ other first last named known lacks reads writes unnoted.
          let (all, rest, found, stops) = of_bytes c other source sink (Err why) (λ k. LacksFrame k first last) (are.only other named) kept known lacks in
          told_exactly Noted why (stop.NoSuchFrame first last) result _ _ told.ends told.silent unnoted
          (lack_stops c sink.bytes_before sink.bytes_now why first last all rest found stops (λ e. reads (fails_read e)) (λ e. writes (fails_write e)));
      bad_listing = λ is.
          let found = tells status.BadListing is (λ e. absurd cc) (λ e. absurd cc) in
          listing_told Ran Noted why found.0 ran found.1;
      listing_exactly = λ other line named known wrong reads writes unnoted.
          let (all, rest, found, stops) = of_bytes c other source sink (Err why) (λ k. IsBadLine k line) (are.only other named) kept known wrong in
          told_exactly Noted why (stop.BadListing line) result _ _ told.ends told.silent unnoted
          (line_stops c sink.bytes_before sink.bytes_now why line all rest found stops (λ e. reads (fails_read e)) (λ e. writes (fails_write e)));
      read_fault = λ is.
          let found = tells status.ReadFault is (λ e. absurd cc) (λ e. absurd cc) in
          let (same, run, line) = read_told Ran Noted why found.0 ran found.1 in
          (fails_read same, run, line);
      write_fault = λ is. by_cause why result _ _ _ (Failed sink × Ran stop.WriteFault) told.ends is (λ e. (fails_write e, subst Ran e ran));
      later = (kept.later.0, kept.later.1, told.later);
      front = inr (takes_front words c source sink (Err why) are kept);
      noted = inr (line_of why, stop_noted why ran fails_read, told.front);
      no_memory = told.no_memory;
    }
  where
    -- the words name a command that stopped so
    Ran : Stop → Type 0
    Ran other = Runs words source.bytes_before source.bytes_now sink.bytes_before sink.bytes_now (Err other)

    Noted : List ℕ → Type 0
    Noted = Appends notes.bytes_before notes.bytes_now

    ran : Ran why
    ran = runs words c source sink (Err why) are kept

    fails_read : why ≡ stop.ReadFault → Failed source
    fails_read e = kept.read_fault (ap Err e)

    fails_write : why ≡ stop.WriteFault → Failed sink
    fails_write e = kept.write_fault (ap Err e)

    tells : (found : Status) → result ≡ found → ¬ (found ≡ status.WantMemory) → ¬ (found ≡ status.WriteFault) → (status_of why ≡ found) × Noted (line_of why)
    tells found = status_tells result (status_of why) found (Noted (line_of why)) _ _ told.ends

    not_done : {P : Type 0} → result ≡ status.Done → P
    not_done is = absurd ((stop_status why).0 (tells status.Done is (λ e. absurd cc) (λ e. absurd cc)).0)
