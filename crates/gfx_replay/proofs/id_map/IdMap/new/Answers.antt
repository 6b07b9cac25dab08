use Rattle.gfx_replay.proofs.Finding.{found_none}
use Rattle.gfx_replay.proofs.id_map.IdMap.new.Goals as goal

pub returns : goal.returns
returns c = found_none c.new.result.map c.new-2.result.map c.new.ensures c.new-2.ensures
