use Rattle.std.proofs.Common.{◌≡◌, ◌-◌, length, List, ℕ, ◌++◌, take, drop, refl}
use Rattle.std.proofs.lemmas.List.{take_rest}
use Rattle.gfx_grammar.specs.Splitting.{breaks, front}
use Rattle.gfx_decode.specs.Position.{position_of}
use Rattle.gfx_decode.proofs.Finding.{framed-block, breaks_payload, one_of_two, room_left}
use Rattle.gfx_decode.proofs.blocks.block_in.Goals as goal

pub read_payload-requires-clause-version : goal.read_payload-requires-clause-version
read_payload-requires-clause-version c = one_of_two c.args.minor c.requires.version.0 c.requires.version.1

pub returns-in-Ok-clause-whole : goal.returns-in-Ok-clause-whole
returns-in-Ok-clause-whole c =
    let bytes = c.args.buffer.now in
    framed-block c.args.minor c.args.framing.kind c.args.framing.size bytes (take (length bytes - 12) (drop 12 bytes)) _ c.requires.framed (take_rest bytes 12) c.in-Ok.ensures

-- whatever follows, the payload breaks this step
stops : (c : goal.After-bad) (rest : List ℕ) → front c.args.minor (position_of c.args.at) (c.args.buffer.now ++ rest) ≡ breaks (position_of c.args.at) c.in-Err-Bad.fault
stops c rest =
    let bytes = c.args.buffer.now in
    let payload = take (length bytes - 12) (drop 12 bytes) in
    let at = position_of c.args.at in
    let kind = c.args.framing.kind in
    let size = c.args.framing.size in
    let unsaid = rw c.in-Err-Bad.field-0-is at c.in-Err-Bad.ensures in
    breaks_payload c.args.minor at kind size bytes payload rest c.in-Err-Bad.fault c.requires.framed (take_rest bytes 12)
    (room_left at kind size bytes payload c.requires.framed (take_rest bytes 12) c.requires.room) unsaid.0 unsaid.1

pub returns-in-Err-Bad-clause-fault : goal.returns-in-Err-Bad-clause-fault
returns-in-Err-Bad-clause-fault c = rw (c.bad.ensures, c.in-Err-Bad.fault-is) (refl, refl, stops c)
