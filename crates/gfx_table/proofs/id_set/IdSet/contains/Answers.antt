use Rattle.std.proofs.Common.{◌%◌, ◌==◌, ap, ◌∙◌}
use Rattle.std.proofs.lemmas.Nat.Bits.{shr_and_one}
use Rattle.gfx_table.specs.IdSet.{has_bit, holds}
use Rattle.gfx_table.proofs.id_set.IdSet.contains.Goals as goal

pub returns-in-Some : goal.returns-in-Some
unfolding holds
returns-in-Some c =
    ap (λ n. n == 1) (shr_and_one c.in-Some.word.now (c.args.id % 64))
    ∙ ap (λ o. has_bit o (c.args.id % 64)) c.in-Some.ensures
    ∙ ap (λ s. holds s c.args.id) c.self.view_is

pub returns-in-None : goal.returns-in-None
unfolding holds
returns-in-None c = ap (λ o. has_bit o (c.args.id % 64)) c.in-None.ensures ∙ ap (λ s. holds s c.args.id) c.self.view_is
