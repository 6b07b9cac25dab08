use Rattle.std.proofs.Common.{[], ◌∷◌}
use Rattle.std.specs.Prelude.{codes, false, None}
use Rattle.gfx_words.specs.declared.command.Command.TheVariants.{Replay}
use Rattle.gfx_cli.proofs.Fanning.{replay_words}
use Rattle.gfx_cli.proofs.Promising.{finished, stopped}
use Rattle.gfx_cli.proofs.fan.run_fan.Goals as goal

pub returns-in-Ok : goal.returns-in-Ok
returns-in-Ok g c =
    record {
      digests = λ is.
          finished (codes "replay" ∷ []) (Replay false None) _ _ c.args.notes.now (g.N.Sink.taken c.args.notes.now) (g.N.Sink.faults c.args.notes.now) replay_words
          c.in-Ok.ensures;
      refused = λ other. absurd (other (c.asks_for_digests.ensures.yes c.if-asks_for_digests.true));
    }

pub returns-in-Err : goal.returns-in-Err
returns-in-Err g c =
    record {
      digests = λ is.
          stopped (codes "replay" ∷ []) (Replay false None) _ _ _ c.in-Err.stop c.tell.result replay_words
          c.in-Err.ensures
          (record {
            ends = c.tell.ensures.ends;
            front = c.tell.ensures.front;
            no_memory = c.tell.ensures.no_memory;
            silent = c.tell.ensures.silent;
            later = c.tell.ensures.later;
          });
      refused = λ other. absurd (other (c.asks_for_digests.ensures.yes c.if-asks_for_digests.true));
    }
