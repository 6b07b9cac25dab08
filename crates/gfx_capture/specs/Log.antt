-- What contracts see of a log, and what is in its fields.
use Rattle.std.specs.Prelude.{◌≡◌, ◌≤◌, ℕ, true, List, ◌++◌, length, drop}
use Rattle.std.specs.List.{AllByRecursion}
use Rattle.gfx_model.specs.Limits.{max_log}
use Rattle.gfx_model.specs.Spelling.{header}
use Rattle.gfx_model.specs.Views.{View}
use Rattle.gfx_model.specs.History.{view, is_valid}
use Rattle.gfx_grammar.specs.Framing.{CanBeWritten}
use Rattle.gfx_script_model.specs.Runs.{Entry, history, log_length}
use Rattle.gfx_capture.specs.Entry.{IsVersion, entries_in, AreEntries}

-- a minor version, and entries
pub record Logged : Type 0 where
  pub minor : ℕ
  pub entries : List Entry

-- the entries of every log: a valid history, whose blocks can be read again and are with their header no longer than a log may be
pub record IsSound (m : ℕ) (log : List Entry) : Type 0 where
  pub valid : is_valid (history log) ≡ true
  pub small : log_length m log ≤ max_log
  pub written : AllByRecursion (λ e. CanBeWritten m e.thread e.event) log

-- the entries follow a header of sixteen bytes
abbrev pub logged : ℕ → ℕ → List ℕ → Logged
logged m n bytes = record { minor = m; entries = entries_in m n (drop 16 bytes) }

-- the bytes are a header and the blocks of a valid history, for which the answers stand
pub record IsLog (m n : ℕ) (bytes : List ℕ) (answers : View) : Type 0 where
  pub version : IsVersion m
  pub small : length bytes ≤ max_log
  pub front : bytes ≡ header m ++ drop 16 bytes
  pub blocks : AreEntries m n (drop 16 bytes) (entries_in m n (drop 16 bytes))
  pub valid : is_valid (history (entries_in m n (drop 16 bytes))) ≡ true
  pub stands : answers ≡ view (history (entries_in m n (drop 16 bytes)))
