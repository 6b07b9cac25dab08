-- What is promised of words that begin with `digests`.
use Rattle.std.specs.Prelude.{◌≡◌, ◌≢◌, ◌≤◌, ◌⊎◌, List, ℕ, codes, [], ◌∷◌}
use Rattle.std.specs.Io.KnownBytes.{Appends}
use Rattle.gfx_io.specs.Pieces.{AppendsPart}
use Rattle.gfx_cli.specs.FilesPromise.{KeepsFiles}
use Rattle.gfx_cli.specs.Seen.{Failed, Seen}
use Rattle.gfx_cli.specs.Text.{usage_line}
use Rattle.gfx_cli.specs.declared.status.Status.{Status}
use Rattle.gfx_cli.specs.declared.status.Status.TheVariants as status

-- the usage line was noted, or could not be written, and nothing else was read or written
pub record IsRefusal {S K N : Type 0} (source : Seen S) (sink : Seen K) (notes : Seen N) (result : Status) : Type 0 where
  pub ends : ((result ≡ status.Usage) × Appends notes.bytes_before notes.bytes_now usage_line) ⊎ ((result ≡ status.WriteFault) × Failed notes)
  pub front : AppendsPart notes.bytes_before notes.bytes_now usage_line
  pub unread : source.now ≡ source.before
  pub unwritten : sink.now ≡ sink.before
  pub later : notes.faults_before ≤ notes.faults_now

-- the word `digests` alone is promised all that `replay` is, and words that only begin with it are refused
pub record KeepsFan {S K N : Type 0} (words : List (List ℕ)) (source : Seen S) (sink : Seen K) (notes : Seen N) (result : Status) : Type 0 where
  pub digests : words ≡ codes "digests" ∷ [] → KeepsFiles (codes "replay" ∷ []) source sink notes result
  pub refused : words ≢ codes "digests" ∷ [] → IsRefusal source sink notes result
