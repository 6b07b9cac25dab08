-- The blocks of a log's file are its entries, and none of them breaks a rule.
use Rattle.std.proofs.Common.{◌≡◌, ℕ, ◌≤◌, ◌⊎◌, true, List, [], ◌∷◌, ◌++◌, length, map, refl, sym, ap, ◌∙◌, arith}
use Rattle.std.specs.Prelude.{flat_map}
use Rattle.std.specs.List.{AllByRecursion}
use Rattle.std.proofs.lemmas.List.{length-map}
use Rattle.gfx_model.specs.Events.{Event}
use Rattle.gfx_model.specs.Limits.{max_log}
use Rattle.gfx_model.specs.Spelling.{encoding, header}
use Rattle.gfx_model.specs.Blocks.{Position, first_position, next_position, clean}
use Rattle.gfx_model.specs.History.{is_valid}
use Rattle.gfx_model.specs.Frames.{frames}
use Rattle.gfx_model.specs.Meaning.{Judged, Means, judge, events_onto}
use Rattle.gfx_grammar.specs.Reads.{AreBytes}
use Rattle.gfx_grammar.specs.Framing.{CanBeWritten, Part, Written, placed, written_part}
use Rattle.gfx_grammar.specs.Splitting.{Blocks, blocks_of}
use Rattle.gfx_grammar.proofs.BlockLaws.{blocks_are_computed}
use Rattle.gfx_grammar.proofs.ByteLaws.{AllBytes, both_bytes, are_bytes}
use Rattle.gfx_grammar.proofs.RoomLaws.{few-room}
use Rattle.gfx_grammar.proofs.WrittenLaws.{written_is_read}
use Rattle.gfx_trim_law.proofs.Bytes.{encoded, header_bytes}
use Rattle.gfx_trim_law.proofs.Prefix.{judge-valid}
use Rattle.gfx_script_model.specs.Runs.{Entry, history, history_onto, log_bytes, log_length}
use Rattle.gfx_log_law.specs.Logs.{LogsAreFiles, log_file}
use Rattle.gfx_log_law.proofs.Lengths.{few_blocks}

abbrev CanBe : ℕ → List Entry → Type 0
CanBe m log = AllByRecursion (λ e. CanBeWritten m e.thread e.event) log

-- an entry, as the grammar has what is written
abbrev written : Entry → Written
written e = record { thread = e.thread; event = e.event }

abbrev parts : ℕ → List Entry → List Part
parts m log = map (written_part m) (map written log)

same_bytes : (m : ℕ) (log : List Entry) → flat_map (λ (w : Written). encoding m w.thread w.event) (map written log) ≡ log_bytes m log
same_bytes m [] = refl
same_bytes m (e ∷ es) = ap (λ (rest : List ℕ). encoding m e.thread e.event ++ rest) (same_bytes m es)

can_all : (m : ℕ) (log : List Entry) → CanBe m log → AllByRecursion (λ (w : Written). CanBeWritten m w.thread w.event) (map written log)
can_all m [] can = tt
can_all m (e ∷ es) can = (can.0, can_all m es can.1)

-- what the blocks say are the events
said_onto : (m : ℕ) (at : Position) (log : List Entry) (h : List Event) → events_onto (placed at (parts m log)) h ≡ history_onto log h
said_onto m at [] h = refl
said_onto m at (e ∷ es) h = said_onto m (next_position at (encoding m e.thread e.event)) es (e.event ∷ h)

all_bytes : (m : ℕ) (log : List Entry) → CanBe m log → AllBytes (log_bytes m log)
all_bytes m [] can = tt
all_bytes m (e ∷ es) can = both_bytes (encoding m e.thread e.event) (log_bytes m es) (encoded m e.thread e.event can.0.fits) (all_bytes m es can.1)

module _ (m : ℕ) (log : List Entry) (version : (m ≡ 1) ⊎ (m ≡ 2)) (small : log_length m log ≤ max_log) (can : CanBe m log) where
  abbrev first : Position
  first = first_position (header m)

  few : length (parts m log) ≤ max_log
  few = omega (arith, length-map (map written log) (written_part m), length-map log written, few_blocks m log, small)

  read : blocks_of (log_file m log) ≡ record { items = placed first (parts m log); end = clean }
  read =
      ap (λ (bytes : List ℕ). blocks_of (header m ++ bytes)) (sym (same_bytes m log))
      ∙ written_is_read m (map written log) version (can_all m log can) (few-room first (parts m log) (omega (arith, few)) (omega (arith, few)))

  are : AreBytes (log_file m log)
  are = are_bytes (log_file m log) (both_bytes (header m) (log_bytes m log) (header_bytes m) (all_bytes m log can))

  pub judged : is_valid (history log) ≡ true → judge [] (blocks_of (log_file m log)).items (blocks_of (log_file m log)).end ≡ record { history = history log; end = clean }
  judged valid =
      let ws = placed first (parts m log) in
      let said : events_onto ws [] ≡ history log = said_onto m first log [] in
      ap (λ (b : Blocks). judge [] b.items b.end) read ∙ judge-valid ws [] clean (ap is_valid said ∙ valid)
      ∙ ap (λ (h : List Event). record { history = h; end = clean }) said

  means : is_valid (history log) ≡ true → Means (log_file m log) (frames (history log)) clean
  means valid = record {
    blocks = (blocks_of (log_file m log)).items;
    blocks_end = (blocks_of (log_file m log)).end;
    are = (blocks_are_computed (log_file m log) are).0;
    shows = sym (ap (λ (j : Judged). frames j.history) (judged valid));
    ends = sym (ap (λ (j : Judged). j.end) (judged valid));
  }

pub logs_are_files : LogsAreFiles
logs_are_files m log version valid small can = means m log version small can valid
