use Rattle.std.proofs.Common.{◌++◌, ap, arith, sym, ◌∙◌}
use Rattle.gfx_model.specs.Events.{event_of}
use Rattle.gfx_upgrade.proofs.UpgradedLaws.{block_fits_two, other_bytes}
use Rattle.gfx_upgrade.proofs.version.put_anew.Goals as goal

pub put_block-requires-clause-fits : goal.put_block-requires-clause-fits
put_block-requires-clause-fits c = block_fits_two c.args._minor c.args.thread c.args._bytes.now (event_of c.args.effect.now) c.requires.version (λ i. let byte = c.type_inv._bytes i in omega (arith, byte)) c.requires.block

pub returns-clause-ok : goal.returns-clause-ok
returns-clause-ok c =
    c.in_ok-put_block.ensures.ok ∙ ap (λ l. c.args.out.now.items ++ l) (sym (other_bytes c.args._bytes.now c.args.thread (event_of c.args.effect.now) c.requires.present))
