use Rattle.std.proofs.Common.{◌≡◌, ◌+◌, ◌-◌, length, take, drop, refl, sym, ap, subst, ◌∙◌}
use Rattle.std.proofs.lemmas.List.{take_rest}
use Rattle.gfx_decode.specs.Position.{position_of}
use Rattle.gfx_list.specs.Parts.{IsSomeBlock}
use Rattle.gfx_list.proofs.Placing.{before_new, behind_old, no_block, no_room, part_is_block, takes_block}
use Rattle.gfx_list.proofs.parts.take_block.Goals as goal

pub returns-in-Err-clause-fault : goal.returns-in-Err-clause-fault
returns-in-Err-clause-fault c =
    rw c.line_fault.ensures (no_block c.args.minor (c.args.at.number + 1) (position_of c.args.at) c.args.line.now c.in-Err.fault refl c.in-Err.ensures.bad)

pub place_after-requires-clause-block : goal.place_after-requires-clause-block
place_after-requires-clause-block c =
    let (part, read, grown) = c.in_default.ensures.ok in
    let front = c.len-front.result in
    let long : front ≡ length c.args.bytes.now.items = c.len-front.ensures ∙ c.args.bytes.now.ok.0 in
    let held = c.deref.result.now in
    let same : take (length held - front) (drop front held) ≡ part.bytes =
    take_rest held front ∙ ap (drop front) c.deref.ensures.value ∙ behind_old c.args.bytes.now.items c.read_line.new.out.items part.bytes front long grown in
    subst IsSomeBlock (sym same) (part_is_block c.args.minor c.args.line.now part read)

pub returns-in-Some-clause-takes : goal.returns-in-Some-clause-takes
returns-in-Some-clause-takes c =
    let (part, read, grown) = c.in_default.ensures.ok in
    let front = c.len-front.result in
    let long : front ≡ length c.args.bytes.now.items = c.len-front.ensures ∙ c.args.bytes.now.ok.0 in
    let held = c.deref.result.now in
    let same : take (length held - front) (drop front held) ≡ part.bytes =
    take_rest held front ∙ ap (drop front) c.deref.ensures.value ∙ behind_old c.args.bytes.now.items c.read_line.new.out.items part.bytes front long grown in
    takes_block c.args.minor (position_of c.args.at) (position_of c.in-Some.next) c.args.line.now c.args.bytes.now.items c.read_line.new.out.items _ part read grown same c.in-Some.ensures

pub returns-in-None-clause-fault : goal.returns-in-None-clause-fault
returns-in-None-clause-fault c =
    let (part, read, grown) = c.in_default.ensures.ok in
    let front = c.len-front.result in
    let long : front ≡ length c.args.bytes.now.items = c.len-front.ensures ∙ c.args.bytes.now.ok.0 in
    let held = c.deref.result.now in
    let same : take (length held - front) (drop front held) ≡ part.bytes =
    take_rest held front ∙ ap (drop front) c.deref.ensures.value ∙ behind_old c.args.bytes.now.items c.read_line.new.out.items part.bytes front long grown in
    (refl, no_room c.args.minor (position_of c.args.at) c.args.line.now _ part read same c.in-None.ensures)

pub returns-in-None-clause-unchanged : goal.returns-in-None-clause-unchanged
returns-in-None-clause-unchanged c =
    let (part, read, grown) = c.in_default.ensures.ok in
    let front = c.len-front.result in
    let long : front ≡ length c.args.bytes.now.items = c.len-front.ensures ∙ c.args.bytes.now.ok.0 in
    c.truncate.ensures.items ∙ before_new c.args.bytes.now.items c.read_line.new.out.items part.bytes front long grown
