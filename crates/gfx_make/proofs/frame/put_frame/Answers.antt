use Rattle.std.proofs.Common.{arith, ap, subst, ◌∙◌, length, List, ℕ, ◌≡◌, ◌++◌}
use Rattle.std.specs.Prelude.{OnOk}
use Rattle.gfx_make.specs.Made.{blocks, frame_with, frame_events}
use Rattle.gfx_make.proofs.Valid.{length_frame, image, offset}
use Rattle.gfx_make.proofs.frame.put_frame.Goals as goal

pub put_blocks-requires-clause-few : goal.put_blocks-requires-clause-few
put_blocks-requires-clause-few c =
    let long = length_frame c.args.frame in
    let same = ap (λ (l : List ℕ). length l) (c.deref.ensures.value ∙ c.in_ok-bytes.ensures) in
    omega (arith, long, same)

pub returns : goal.returns
unfolding frame_events
returns c =
    subst (λ bytes. OnOk c.put_blocks.result
    (c.put_blocks.new.out.items ≡ c.args.out.now.items ++ blocks (frame_with (image c.args.frame) (offset c.args.frame) bytes)))
    (c.deref.ensures.value ∙ c.in_ok-bytes.ensures) c.put_blocks.ensures
