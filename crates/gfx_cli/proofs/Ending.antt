-- How a command ends, by what was read and written.
use Rattle.std.proofs.Common.{◌≡◌, ◌⊎◌, inl, inr, ℕ, List, [], ◌++◌, flat_map, append_assoc, Option, Some, None, Result, Ok, Err, Bool, refl, sym, ap, subst, ◌∙◌}
use Rattle.std.specs.Prelude.{OnOk, IfErr}
use Rattle.gfx_io.specs.Told.{IfTold}
use Rattle.std.specs.Io.KnownBytes.{Appends}
use Rattle.gfx_io.specs.Pieces.{AppendsPart}
use Rattle.gfx_model.specs.Blocks.{minor_of}
use Rattle.gfx_model.specs.Text.{count_lines, counts_text, line}
use Rattle.gfx_grammar.specs.Splitting.{blocks_of}
use Rattle.gfx_io.proofs.Appending.{appends_none, part_of, whole_part}
use Rattle.gfx_words.specs.declared.range.FrameRange.{FrameRange}
use Rattle.gfx_words.specs.declared.command.Command.{Command}
use Rattle.gfx_words.specs.declared.command.Command.TheVariants.{Info, Replay, Trim, Lean, Upgrade, List as Lists, Unlist as Unlists, Make, Help, Version}
use Rattle.gfx_player.specs.declared.fault.PlayFault.{PlayFault}
use Rattle.gfx_player.specs.declared.fault.PlayFault.TheVariants as play
use Rattle.gfx_play.specs.Screens.{lines_of}
use Rattle.gfx_play.specs.Shows.{lines_in, text_in}
use Rattle.gfx_trim.specs.Written.{written}
use Rattle.gfx_lean.specs.Leans as lean
use Rattle.gfx_rewrite.specs.Rewrites as rewrite
use Rattle.gfx_upgrade.specs.Upgrades.{upgraded}
use Rattle.gfx_list.specs.Lists.{listed}
use Rattle.gfx_list.specs.Unlists as unlist
use Rattle.gfx_list.specs.declared.fault.UnlistFault.{UnlistFault}
use Rattle.gfx_list.specs.declared.fault.UnlistFault.TheVariants as fault
use Rattle.gfx_listing_law.specs.Fronts.{BeginsWith, bytes_in, unlisted}
use Rattle.gfx_listing_law.proofs.Readable.{all_of, fronts, listings_unlisted, stops_of}
use Rattle.gfx_cli.specs.declared.counts.Counts.{Counts}
use Rattle.gfx_cli.specs.declared.stop.Stop.{Stop}
use Rattle.gfx_cli.specs.declared.stop.Stop.TheVariants.{WantMemory, BadFile, NoSuchFrame, ReadFault, WriteFault, BadListing}
use Rattle.gfx_cli.specs.Commands.{AsksForFrames, IsGood, Leaves, Reads, ReadsCapture, Writes, asked_by, text_before}
use Rattle.gfx_cli.specs.Counts.{CountsAll}
use Rattle.gfx_cli.specs.Ends.{Ends, IsCutOff, IsDone, Stops, WritesPart}
use Rattle.gfx_cli.specs.Run.{MayStop}
use Rattle.gfx_cli.specs.Stop.{of_play, of_unlist, IsUnwritten}
use Rattle.gfx_cli.specs.Text.{at_clean, info_text}

-- ---- why a walk through a file stops

-- a command that reads capture files may stop for each fault of a walk, for a frame that isn't there where it asks for frames
pub walk_may : (c : Command) (why : PlayFault) → Reads c → ReadsCapture c → AsksForFrames c ⊎ rewrite.AsksForNone why → MayStop c (of_play why)
walk_may c (play.Bad fault block offset) reads captures asks = captures
walk_may c (play.NoSuchFrame first last) reads captures (inl asks) = asks
walk_may c (play.NoSuchFrame first last) reads captures (inr none) = absurd none
walk_may c play.ReadFault reads captures asks = reads
walk_may c play.SinkFault reads captures asks = tt
walk_may c play.WantMemory reads captures asks = tt

-- a read or a write that failed is one of the walk
pub read_of : (why : PlayFault) → of_play why ≡ ReadFault → why ≡ play.ReadFault
read_of (play.Bad fault block offset) is = absurd cc
read_of (play.NoSuchFrame first last) is = absurd cc
read_of play.ReadFault is = refl
read_of play.SinkFault is = absurd cc
read_of play.WantMemory is = absurd cc

pub sink_of : (why : PlayFault) → of_play why ≡ WriteFault → why ≡ play.SinkFault
sink_of (play.Bad fault block offset) is = absurd cc
sink_of (play.NoSuchFrame first last) is = absurd cc
sink_of play.ReadFault is = absurd cc
sink_of play.SinkFault is = refl
sink_of play.WantMemory is = absurd cc

-- ---- `info`

-- the lines that were written are those of the file's counts
counted_text : (counts : Counts) (all rest : List ℕ) → CountsAll (Ok counts) all rest → count_lines counts.minor counts.blocks counts.calls counts.frames ≡ info_text all
counted_text counts all rest (are, end, none) =
    rw (are.minor, are.blocks, are.calls, are.frames) refl ∙ ap (λ e. at_clean e (counts_text (minor_of all) (blocks_of all).items)) (sym end)

pub info_done : (counts : Counts) (before after : Option (List ℕ)) (all rest : List ℕ) → CountsAll (Ok counts) all rest
    → Appends before after (count_lines counts.minor counts.blocks counts.calls counts.frames) → IsDone Info before after all rest
info_done counts before after all rest told text = record { good = told.1; leaves = told.2; text = subst (Appends before after) (counted_text counts all rest told) text }

pub info_part : (counts : Counts) (before after : Option (List ℕ)) (all rest : List ℕ) → CountsAll (Ok counts) all rest
    → AppendsPart before after (count_lines counts.minor counts.blocks counts.calls counts.frames) → AppendsPart before after (info_text all)
info_part counts before after all rest told text = subst (AppendsPart before after) (counted_text counts all rest told) text

-- ---- `lean`

-- where a sink is as it was, nothing was written
none_taken : (before after : Option (List ℕ)) → after ≡ before → Appends before after []
none_taken before after same = subst (λ a. Appends before a []) (sym same) (appends_none before)

-- a prefix of a lean file
lean_part : (r : FrameRange) (before after : Option (List ℕ)) (all : List ℕ) → lean.IsPart r.first r.last before after all → Writes (Lean r) (AppendsPart before after) all
lean_part r before after all is = (is.out, is.took, is.lean)

pub lean_fails : (why : PlayFault) (r : FrameRange) (before after : Option (List ℕ)) (all rest : List ℕ)
    → lean.Answers r.first r.last before after (Err why) all rest → Stops (Lean r) before after (of_play why) all rest
lean_fails (play.Bad wrong block offset) r before after all rest is = ((is.end, is.outside), none_taken before after is.none)
lean_fails (play.NoSuchFrame first last) r before after all rest is =
    (record { end = is.end; outside = is.outside; first_is = is.low_is; last_is = is.high_is }, none_taken before after is.none, is.read)
lean_fails play.ReadFault r before after all rest is =
    let none = none_taken before after is.none in
    record { reads = tt; read = is.given; parts = is.parts; going = (is.cut, is.lawful, is.outside); text = none; front = inl none }
lean_fails play.SinkFault r before after all rest is = lean_part r before after all is
lean_fails play.WantMemory r before after all rest (inl none) = inl (none_taken before after none)
lean_fails play.WantMemory r before after all rest (inr is) = inr (lean_part r before after all is)

-- ---- `unlist`

-- a prefix of what first lines list is a prefix of what the text lists
unlist_part : (before after : Option (List ℕ)) (lines : List (List ℕ)) (rest text : List ℕ) → BeginsWith lines rest text → AppendsPart before after (bytes_in lines) → AppendsPart before after (unlisted text)
unlist_part before after lines rest text begins part =
    let front = fronts lines rest text begins in
    subst (AppendsPart before after) (sym front.1) (part_of before after (bytes_in lines) front.0 part)

unlist_cut : (before after : Option (List ℕ)) (all rest : List ℕ) → unlist.IsUnread (Appends before after) all rest → IsCutOff Unlists before after all rest
unlist_cut before after all rest is =
    let whole : all ≡ flat_map line is.lines ++ (is.rest ++ rest) = is.parts ∙ ap (λ (z : List ℕ). z ++ rest) is.begins.parts ∙ append_assoc (flat_map line is.lines) is.rest rest in
    record {
      reads = tt;
      read = is.given;
      parts = is.parts;
      going = (is.lines, is.rest, is.begins, is.cut);
      text = subst (Appends before after) (sym (all_of is.lines is.rest is.given is.begins (inr (inl is.cut)))) is.file;
      front = inr (unlist_part before after is.lines (is.rest ++ rest) all (record { parts = whole; are_read = is.begins.are_read }) (whole_part before after (bytes_in is.lines) is.file));
    }

pub unlist_fails : (why : UnlistFault) (before after : Option (List ℕ)) (all rest : List ℕ) → unlist.Unlists before after (Err why) all rest → Stops Unlists before after (of_unlist why) all rest
unlist_fails (fault.BadListing number) before after all rest is =
    let bad = is.bad in
    (bad, subst (Appends before after) (sym (all_of bad.lines bad.rest all bad.begins (stops_of bad.lines bad.rest bad.stops))) is.file)
unlist_fails fault.ReadFault before after all rest is = unlist_cut before after all rest is
unlist_fails fault.SinkFault before after all rest is = unlist_part before after is.lines is.rest all is.begins is.part
unlist_fails fault.WantMemory before after all rest is = inr (unlist_part before after is.lines is.rest all is.begins is.part)

pub unlist_done : (before after : Option (List ℕ)) (all rest : List ℕ) → unlist.Unlists before after (Ok tt) all rest → IsDone Unlists before after all rest
unlist_done before after all rest is =
    record { good = (is.bytes, is.are_bytes, is.listing); leaves = is.read; text = subst (Appends before after) (sym (listings_unlisted is.bytes all is.are_bytes is.listing)) is.file }

pub unlist_may : (why : UnlistFault) → MayStop Unlists (of_unlist why)
unlist_may (fault.BadListing number) = refl
unlist_may fault.ReadFault = tt
unlist_may fault.SinkFault = tt
unlist_may fault.WantMemory = tt

pub unlist_read : (why : UnlistFault) → of_unlist why ≡ ReadFault → why ≡ fault.ReadFault
unlist_read (fault.BadListing number) is = absurd cc
unlist_read fault.ReadFault is = refl
unlist_read fault.SinkFault is = absurd cc
unlist_read fault.WantMemory is = absurd cc

pub unlist_sink : (why : UnlistFault) → of_unlist why ≡ WriteFault → why ≡ fault.SinkFault
unlist_sink (fault.BadListing number) is = absurd cc
unlist_sink fault.ReadFault is = absurd cc
unlist_sink fault.SinkFault is = refl
unlist_sink fault.WantMemory is = absurd cc

-- ---- a text that needs no file

pub text_ends : (c : Command) (before after : Option (List ℕ)) (r : Result Unit Stop) (text bytes : List ℕ) → IsGood c bytes → Leaves c bytes bytes
    → ((Took : List ℕ → Type 0) → Took text → Writes c Took bytes) → OnOk r (Appends before after text) → AppendsPart before after text → IfErr r IsUnwritten
    → Ends c before after r bytes bytes
text_ends c before after (Ok done) text bytes good leaves is whole part why = record { good = good; leaves = leaves; text = is (Appends before after) whole }
text_ends c before after (Err (BadFile fault block offset)) text bytes good leaves is whole part why = absurd why
text_ends c before after (Err (NoSuchFrame first last)) text bytes good leaves is whole part why = absurd why
text_ends c before after (Err ReadFault) text bytes good leaves is whole part why = absurd why
text_ends c before after (Err WriteFault) text bytes good leaves is whole part why = is (AppendsPart before after) part
text_ends c before after (Err WantMemory) text bytes good leaves is whole part why = inr (is (AppendsPart before after) part)
text_ends c before after (Err (BadListing line)) text bytes good leaves is whole part why = absurd why

pub told_same : (a : Option (List ℕ)) (P : List ℕ → List ℕ → Type 0) → ((x : List ℕ) → P x x) → IfTold a a P
told_same None P each = tt
told_same (Some x) P each = each x

-- ---- a prefix of what a command writes

lines_first : (pixels : Bool) (frames : Option FrameRange) (before after : Option (List ℕ)) (bytes : List ℕ) → Appends before after (lines_in (asked_by frames) pixels bytes) → AppendsPart before after (text_in (asked_by frames) pixels bytes)
unfolding lines_of
lines_first pixels frames before after bytes text = part_of before after (lines_in (asked_by frames) pixels bytes) _ (whole_part before after (lines_in (asked_by frames) pixels bytes) text)

text_first : (c : Command) (before after : Option (List ℕ)) (bytes : List ℕ) → Appends before after (text_before c bytes) → WritesPart c before after bytes
text_first Info before after bytes text = inl text
text_first (Replay pixels frames) before after bytes text = inr (lines_first pixels frames before after bytes text)
text_first (Trim r) before after bytes text = inr (whole_part before after (written r.first r.last bytes) text)
text_first (Lean r) before after bytes text = inl text
text_first Upgrade before after bytes text = inr (whole_part before after (upgraded bytes) text)
text_first Lists before after bytes text = inr (whole_part before after (listed bytes) text)
text_first Unlists before after bytes text = inr (whole_part before after (unlisted bytes) text)
text_first (Make n) before after bytes text = inl text
text_first Help before after bytes text = inl text
text_first Version before after bytes text = inl text

-- all of what a command writes is a prefix of it
all_first : (c : Command) (before after : Option (List ℕ)) (bytes : List ℕ) → Writes c (Appends before after) bytes → Writes c (AppendsPart before after) bytes
all_first Info before after bytes text = whole_part before after _ text
all_first (Replay pixels frames) before after bytes text = whole_part before after _ text
all_first (Trim r) before after bytes text = whole_part before after _ text
all_first (Lean r) before after bytes (out, text, is) = (out, whole_part before after out text, is)
all_first Upgrade before after bytes text = whole_part before after _ text
all_first Lists before after bytes text = whole_part before after _ text
all_first Unlists before after bytes text = whole_part before after _ text
all_first (Make n) before after bytes text = whole_part before after _ text
all_first Help before after bytes text = whole_part before after _ text
all_first Version before after bytes text = whole_part before after _ text

pub front_of : (c : Command) (before after : Option (List ℕ)) (end : Result Unit Stop) (all rest : List ℕ) → Ends c before after end all rest → WritesPart c before after all
front_of c before after (Ok done) all rest is = inr (all_first c before after all is.text)
front_of c before after (Err (BadFile fault block offset)) all rest is = text_first c before after all is.1
front_of c before after (Err (NoSuchFrame first last)) all rest is = text_first c before after all is.1
front_of c before after (Err ReadFault) all rest is = is.front
front_of c before after (Err WriteFault) all rest is = inr is
front_of c before after (Err WantMemory) all rest is = is
front_of c before after (Err (BadListing line)) all rest is = text_first c before after all is.1
