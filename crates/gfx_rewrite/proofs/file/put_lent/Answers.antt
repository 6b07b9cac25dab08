use Rattle.std.proofs.Common.{◌≡◌, ◌++◌, sym, ap, subst, ◌∙◌}
use Rattle.std.specs.Prelude.{OnErr}
use Rattle.std.proofs.lemmas.Result.{err_from_is_err_and}
use Rattle.gfx_io.specs.Pieces.{AppendsPart}
use Rattle.gfx_decode.specs.Decoding.{item_of}
use Rattle.gfx_rewrite.specs.Held.{HeldPart}
use Rattle.gfx_rewrite.proofs.Holding.{part_failed, part_none}
use Rattle.gfx_rewrite.proofs.file.put_lent.Goals as goal

-- there was no memory for the text
pub returns-in_err-put_block-clause-err : goal.returns-in_err-put_block-clause-err
returns-in_err-put_block-clause-err g c =
    let p = err_from_is_err_and c.from_residual.result c.from_residual.ensures.1 in
    let text = (g.W.Rewriter.texts c.args.way.now).of_block c.args.minor (item_of c.args.raw.now) in
    rw p.1 (part_none _ c.args.held.now.items c.put_block.new.out.items text c.in_err-put_block.ensures.err)

-- a prefix of what is held with it was written
pub returns-in_err-write_many-in-Anew-clause-err : goal.returns-in_err-write_many-in-Anew-clause-err
returns-in_err-write_many-in-Anew-clause-err g c =
    let p = err_from_is_err_and c.from_residual-in_err-write_many-in-Anew.result c.from_residual-in_err-write_many-in-Anew.ensures.1 in
    let text = (g.W.Rewriter.texts c.args.way.now).of_block c.args.minor (item_of c.args.raw.now) in
    let grown = rw c.in-Anew.is at c.in_ok-put_block.ensures.ok in
    let part : AppendsPart _ _ (c.args.held.now.items ++ text) = subst (AppendsPart _ _) grown c.in_err-write_many-in-Anew.ensures.failed in
    rw p.1 (part_failed _ _ _ _ part c.in_err-write_many-in-Anew.ensures.none)

pub returns-in-Same-clause-err : goal.returns-in-Same-clause-err
returns-in-Same-clause-err g c =
    let text = (g.W.Rewriter.texts c.args.way.now).of_block c.args.minor (item_of c.args.raw.now) in
    let puts = rw c.in-Same.is at c.in_ok-put_block.ensures.ok in
    let same : c.put_block.new.out.items ++ c.args.raw.now.bytes.now ≡ c.args.held.now.items ++ text =
    ap (λ l. l ++ c.args.raw.now.bytes.now) puts.1 ∙ ap (λ l. c.args.held.now.items ++ l) (sym puts.0) in
    subst (λ l. OnErr c.put.result (HeldPart (g.K.Sink.taken c.args.sink.now) (g.K.Sink.taken c.put.new.sink) c.put.new.held.items l)) same c.put.ensures.err
