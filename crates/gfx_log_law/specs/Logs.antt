-- The files of logs.
use Rattle.std.specs.Prelude.{◌≡◌, ◌⊎◌, ◌≤◌, ℕ, true, List, ◌++◌}
use Rattle.std.specs.List.{AllByRecursion}
use Rattle.gfx_model.specs.Limits.{max_log}
use Rattle.gfx_model.specs.Spelling.{header}
use Rattle.gfx_model.specs.Blocks.{clean}
use Rattle.gfx_model.specs.History.{is_valid}
use Rattle.gfx_model.specs.Frames.{frames}
use Rattle.gfx_model.specs.Meaning.{Means}
use Rattle.gfx_grammar.specs.Framing.{CanBeWritten}
use Rattle.gfx_script_model.specs.Runs.{Entry, history, log_bytes, log_length}

-- the file of a log: a header and its blocks
abbrev pub log_file : ℕ → List Entry → List ℕ
log_file m log = header m ++ log_bytes m log

-- a log of a valid history, whose blocks can be written and which is no longer than a log may be, ends cleanly as a file and shows the frames of the history
abbrev pub LogsAreFiles : Type 0
LogsAreFiles = (m : ℕ) (log : List Entry) → (m ≡ 1) ⊎ (m ≡ 2) → is_valid (history log) ≡ true → log_length m log ≤ max_log
    → AllByRecursion (λ e. CanBeWritten m e.thread e.event) log
    → Means (log_file m log) (frames (history log)) clean
