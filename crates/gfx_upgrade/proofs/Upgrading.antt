-- What a file that was upgraded says.
use Rattle.std.proofs.Common.{ℕ, List, Option, Result, Ok, Err}
use Rattle.std.specs.Prelude.{OnOk}
use Rattle.gfx_grammar.specs.Reads.{AreBytes}
use Rattle.gfx_player.specs.declared.fault.PlayFault.{PlayFault}
use Rattle.gfx_upgrade.specs.Laws.{TookSame}
use Rattle.gfx_upgrade.specs.Upgrades.{Answers, upgraded}
use Rattle.gfx_upgrade.proofs.Meanings.{upgraded_says_the_same}

-- of bytes the sink took a file that says the same
pub took_same : (end : Result Unit PlayFault) (before after : Option (List ℕ)) (all rest : List ℕ) → AreBytes all → Answers before after end all rest → OnOk end (TookSame before after all)
took_same (Ok done) before after all rest fit is = (upgraded all, is.text, upgraded_says_the_same all fit is.clean_end)
took_same (Err why) before after all rest fit is = tt
