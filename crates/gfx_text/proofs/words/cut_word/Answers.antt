use Rattle.std.proofs.Common.{◌≤◌, length, take, drop, sym, ap, subst, ◌∙◌}
use Rattle.gfx_text.proofs.Fronts.{ends, word_is, after_is, end_within}
use Rattle.gfx_text.proofs.words.cut_word.Goals as goal

pub split_at-requires : goal.split_at-requires
split_at-requires c = subst (λ n. n ≤ length c.args.text.now) (sym c.word_length.ensures) (end_within ends c.args.text.now)

pub returns-clause-word : goal.returns-clause-word
returns-clause-word c = c.split_at.ensures.front ∙ ap (λ n. take n c.args.text.now) c.word_length.ensures ∙ sym (word_is c.args.text.now)

pub returns-clause-rest : goal.returns-clause-rest
returns-clause-rest c = c.split_at.ensures.back ∙ ap (λ n. drop n c.args.text.now) c.word_length.ensures ∙ sym (after_is c.args.text.now)
