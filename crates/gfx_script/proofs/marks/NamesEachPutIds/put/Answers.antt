use Rattle.std.proofs.Common.{refl}
use Rattle.gfx_script.proofs.Marked.{blank_same}
use Rattle.gfx_script.proofs.marks.NamesEachPutIds.put.Goals as goal

pub returns : goal.returns
returns c =
    let taken = c.in_ok-list.ensures in
    record {
      front_named = taken.0;
      front_made = refl;
      as_many_named = taken.1;
      as_many_made = refl;
      others = blank_same _ _ taken.1;
    }
