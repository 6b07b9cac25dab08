use Rattle.std.proofs.Common.{sym, ◌∙◌}
use Rattle.gfx_listing.proofs.Parts.{all_stays}
use Rattle.gfx_listing.proofs.header.append_option.Goals as goal

pub returns-in_default : goal.returns-in_default
returns-in_default c = (sym c.option_of.ensures ∙ c.in_default.is, all_stays c.args.out.now.items)
