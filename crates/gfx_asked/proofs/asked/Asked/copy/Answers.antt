use Rattle.std.proofs.lemmas.Result.{on_ok_weaker}
use Rattle.gfx_asked.specs.Asked.{questions}
use Rattle.gfx_asked.proofs.Gapless.{joined_passed}
use Rattle.gfx_asked.proofs.asked.Asked.copy.Goals as goal

pub returns-then-is_gapless : goal.returns-then-is_gapless
returns-then-is_gapless c =
    on_ok_weaker c.copy_row.result
    (joined_passed c.args.copy.now (questions c.args.self.now) (questions c.copy_row.new.self) (c.is_gapless.ensures.0 c.if-is_gapless.true)) c.copy_row.ensures
