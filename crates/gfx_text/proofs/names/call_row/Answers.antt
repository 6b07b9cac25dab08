use Rattle.std.proofs.Common.{Option, ap, sym, ◌∙◌, ℕ, ◌+◌}
use Rattle.gfx_grammar.specs.Reading.{◌>>=◌}
use Rattle.gfx_text_grammar.specs.Rows.{calls}
use Rattle.gfx_text.specs.Places.{row_at}
use Rattle.gfx_text.proofs.Places.{by_place}
use Rattle.gfx_text.proofs.names.call_row.Goals as goal

pub returns-in-Some-clause-row : goal.returns-in-Some-clause-row
returns-in-Some-clause-row c s m left =
    by_place (calls s m) 1 c.args.name.now left
    ∙ ap (λ (o : Option ℕ). o >>= λ i. row_at 1 (calls s m) (i + 1) left) (sym c.place_of.ensures.place ∙ c.in-Some.is)

pub returns-in-None-clause-row : goal.returns-in-None-clause-row
returns-in-None-clause-row c s m left =
    by_place (calls s m) 1 c.args.name.now left
    ∙ ap (λ (o : Option ℕ). o >>= λ i. row_at 1 (calls s m) (i + 1) left) (sym c.place_of.ensures.place ∙ c.in-None.is)
