use Rattle.std.proofs.Common.{ap, ◌∙◌, ◌++◌}
use Rattle.std.specs.Prelude.{flat_map}
use Rattle.std.specs.List.{range_with_len}
use Rattle.gfx_model.specs.Spelling.{header}
use Rattle.gfx_make.specs.Made.{setup, frame_events, made, made_file, blocks}
use Rattle.gfx_make.proofs.Putting.{put_both}
use Rattle.gfx_make.proofs.file.make_file.Goals as goal

pub returns : goal.returns
unfolding made made_file
returns c =
    put_both setup (flat_map frame_events (range_with_len 1 c.args.frames)) c.put_header.new.out.items c.put_setup.new.out.items c.put_frames.new.out.items
    c.in_ok-put_setup.ensures c.in_ok-put_frames.ensures
    ∙ ap (λ l. l ++ blocks (made c.args.frames)) (c.in_ok-put_header.ensures.ok ∙ ap (λ l. l ++ header 1) c.new-file.ensures.items)
