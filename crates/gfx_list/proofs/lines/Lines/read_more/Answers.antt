use Rattle.std.proofs.Common.{◌++◌, List, ℕ, ap, ◌∙◌, arith, length}
use Rattle.std.proofs.lemmas.Result.{IfOk-weaker}
use Rattle.gfx_list.proofs.lines.Lines.read_more.Goals as goal

pub read_some-requires : goal.read_some-requires
read_some-requires g c =
    let same = ap length (c.remove_front.ensures ∙ c.self.view_is) in
    omega (arith, same, c.requires, c.remove_front.new.buffer.ok.0)

pub returns-clause-some : goal.returns-clause-some
returns-clause-some g c =
    let same = c.remove_front.ensures ∙ c.self.view_is in
    IfOk-weaker c.read_some.result _ _ (λ count h.
    let (piece, long, grown, came) = h in
    (piece, long, grown ∙ ap (λ (xs : List ℕ). xs ++ piece) same, came)) c.read_some.ensures.some

pub returns-clause-kept : goal.returns-clause-kept
returns-clause-kept g c is = c.read_some.ensures.kept is ∙ c.remove_front.ensures ∙ c.self.view_is
