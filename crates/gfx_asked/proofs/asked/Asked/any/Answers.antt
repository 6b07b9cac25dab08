use Rattle.std.proofs.Common.{sym, ap}
use Rattle.gfx_types.specs.declared.op.Place.TheVariants as place
use Rattle.gfx_asked.specs.Asked.{questions, has}
use Rattle.gfx_asked.proofs.Places.{none_among}
use Rattle.gfx_asked.proofs.asked.Asked.any.Goals as goal

pub returns-in-None : goal.returns-in-None
returns-in-None c =
    none_among (questions c.args.self.now (place.Memory c.args.memory)) c.args.offset c.args.length (λ j low high. ap (λ o. has o j) (sym c.in-None.ensures.value))
