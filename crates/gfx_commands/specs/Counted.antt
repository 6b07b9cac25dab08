-- The totals beside the rows.
use Rattle.std.specs.Prelude.{◌≡◌, ◌≤◌}
use Rattle.std.specs.Ordering.{nat_cmp}
use Rattle.std.specs.FinMap.{FinMap}
use Rattle.gfx_commands.specs.declared.recording.Recording.{Recording}
use Rattle.gfx_commands.specs.declared.rows.Totals.{Totals}
use Rattle.gfx_commands.specs.Recordings.{commands_total, bytes_total}
use Rattle.gfx_model.specs.Limits.{max_kept_bytes, max_kept_commands}

-- they are those of the rows, and within the limits
pub record IsCounted (rows : FinMap nat_cmp Recording) (totals : Totals) : Type 0 where
  pub commands : totals.commands ≡ commands_total rows
  pub bytes : totals.bytes ≡ bytes_total rows
  pub few : totals.commands ≤ max_kept_commands
  pub small : totals.bytes ≤ max_kept_bytes
