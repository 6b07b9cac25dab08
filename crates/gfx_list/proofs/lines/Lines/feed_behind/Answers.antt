use Rattle.std.proofs.Common.{◌≡◌, ◌+◌, true, subst}
use Rattle.std.specs.Prelude.{MatchOption}
use Rattle.gfx_text_grammar.specs.Splits.{is_without}
use Rattle.gfx_list.specs.Lines.{HasLineTo}
use Rattle.gfx_list.proofs.Finding.{feed_at, searched_part}
use Rattle.gfx_list.proofs.lines.Lines.feed_behind.Goals as goal

pub returns-in-Some : goal.returns-in-Some
returns-in-Some c =
    let text = c.args.self.now in
    let searched = c.args.searched in
    let part = searched_part c.self.inside.buffer.items c.deref.result.now text c.self.inside.start searched c.deref.ensures.value c.self.view_is in
    let found = feed_at searched text _ c.memchr.result c.requires.within c.requires.without part c.memchr.ensures in
    subst (λ r. MatchOption r (is_without 10 text ≡ true) (λ k. HasLineTo (searched + k) text)) c.in-Some.is found

pub returns-in-None : goal.returns-in-None
returns-in-None c =
    let text = c.args.self.now in
    let searched = c.args.searched in
    let part = searched_part c.self.inside.buffer.items c.deref.result.now text c.self.inside.start searched c.deref.ensures.value c.self.view_is in
    let found = feed_at searched text _ c.memchr.result c.requires.within c.requires.without part c.memchr.ensures in
    subst (λ r. MatchOption r (is_without 10 text ≡ true) (λ k. HasLineTo (searched + k) text)) c.in-None.is found
