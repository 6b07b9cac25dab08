use Rattle.std.proofs.Common.{◌≡◌, ◌<◌, ◌≤◌, ◌-◌, ◌^◌, true, length}
use Rattle.gfx_text_grammar.specs.Splits.{is_without}
use Rattle.gfx_list.specs.Lines.{Reads}
use Rattle.gfx_list.specs.Unlists.{read_ahead}
use Rattle.gfx_list.proofs.lines.Lines.find_feed.Given as goal

-- what was read so far has no line feed
abbrev pub invariant-pieces : goal.invariant-pieces
invariant-pieces g l =
    let source = g.S.Source in
    record {
      reads : Reads l.fn.self (source.left l.fn.source) l.self (source.left l.source);
      without : is_without 10 l.self ≡ true;
      few : length l.self < read_ahead;
      later : source.faults l.fn.source ≤ source.faults l.source;
    }

abbrev pub decreases-pieces : goal.decreases-pieces
decreases-pieces g l = 2 ^ 29 - length l.self
