-- `digests` as the words of `replay`.
use Rattle.std.proofs.Common.{[], ◌∷◌, refl}
use Rattle.std.specs.Prelude.{codes, false, None}
use Rattle.gfx_words.specs.declared.command.Command.TheVariants.{Replay}
use Rattle.gfx_words.proofs.Only.{one_command}
use Rattle.gfx_cli.proofs.Promising.{AreOf}

-- the word `replay` names the replay of all frames
pub replay_words : AreOf (codes "replay" ∷ []) (Replay false None)
replay_words = record { named = record { are = refl; fits = tt }; only = λ other named. one_command (Replay false None) other tt named.fits named.are }
