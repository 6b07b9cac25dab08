use Rattle.std.proofs.Common.{Option, ap, sym, ◌∙◌, ℕ, ◌+◌}
use Rattle.gfx_grammar.specs.Reading.{◌>>=◌}
use Rattle.gfx_text_grammar.specs.Rows.{metas}
use Rattle.gfx_text.specs.Places.{row_at}
use Rattle.gfx_text.proofs.Places.{by_place}
use Rattle.gfx_text.proofs.names.meta_row.Goals as goal

pub returns-in-Some-clause-row : goal.returns-in-Some-clause-row
returns-in-Some-clause-row c s left =
    by_place (metas s) 2 c.args.name.now left
    ∙ ap (λ (o : Option ℕ). o >>= λ i. row_at 2 (metas s) (i + 2) left) (sym c.place_of.ensures.place ∙ c.in-Some.is)

pub returns-in-None-clause-row : goal.returns-in-None-clause-row
returns-in-None-clause-row c s left =
    by_place (metas s) 2 c.args.name.now left
    ∙ ap (λ (o : Option ℕ). o >>= λ i. row_at 2 (metas s) (i + 2) left) (sym c.place_of.ensures.place ∙ c.in-None.is)
