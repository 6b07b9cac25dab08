use Rattle.std.proofs.Common.{◌≡◌, ◌++◌, ap, ◌∙◌}
use Rattle.gfx_model.specs.Spelling.{header}
use Rattle.gfx_io.proofs.Appending.{whole_part}
use Rattle.gfx_trim.proofs.Fronts.{places_for, stands_for, stored_for}
use Rattle.gfx_lean.proofs.Parts.{front_blocks, front_header, front_section, whole_file}
use Rattle.gfx_lean.proofs.writing.write_lean.Goals as goal

pub returns-in_err-write_whole-clause-front : goal.returns-in_err-write_whole-clause-front
returns-in_err-write_whole-clause-front g c h s =
    let is : c.deref.result.now ≡ header c.args.minor = c.deref.ensures.value ∙ c.in_ok-put_header.ensures.ok ∙ ap (λ l. l ++ header c.args.minor) c.new-header.ensures.items in
    front_header c.args.minor (g.P.Keep.kept c.args.keep.now) h c.args.first c.args.blocks.now c.deref.result.now is _ _ c.in_err-write_whole.ensures.failed

pub write_some-requires : goal.write_some-requires
write_some-requires g c = places_for c.args.replayer.now c.tracker.result.now c.tracker.ensures c.requires.0 c.requires.1

pub returns-in-Err-clause-front : goal.returns-in-Err-clause-front
returns-in-Err-clause-front g c h s =
    let is : c.deref.result.now ≡ header c.args.minor = c.deref.ensures.value ∙ c.in_ok-put_header.ensures.ok ∙ ap (λ l. l ++ header c.args.minor) c.new-header.ensures.items in
    front_section c.args.minor (g.P.Keep.kept c.args.keep.now) h c.args.first c.args.blocks.now c.deref.result.now is _ _ _ c.in_ok-write_whole.ensures.bytes
    (c.in-Err.ensures.err h (stands_for c.args.replayer.now c.tracker.result.now c.tracker.ensures h s) (stored_for c.args.replayer.now c.tracker.result.now c.tracker.ensures h s))

pub returns-in_err-write_whole-2-clause-front : goal.returns-in_err-write_whole-2-clause-front
returns-in_err-write_whole-2-clause-front g c h s =
    let is : c.deref.result.now ≡ header c.args.minor = c.deref.ensures.value ∙ c.in_ok-put_header.ensures.ok ∙ ap (λ l. l ++ header c.args.minor) c.new-header.ensures.items in
    front_blocks c.args.minor (g.P.Keep.kept c.args.keep.now) h c.args.first c.args.blocks.now c.deref.result.now is _ _ _ _ c.in_ok-write_whole.ensures.bytes
    (c.in-Ok.ensures.ok h (stands_for c.args.replayer.now c.tracker.result.now c.tracker.ensures h s) (stored_for c.args.replayer.now c.tracker.result.now c.tracker.ensures h s))
    c.in_err-write_whole-2.ensures.failed

pub returns-clause-ok : goal.returns-clause-ok
returns-clause-ok g c h s =
    let is : c.deref.result.now ≡ header c.args.minor = c.deref.ensures.value ∙ c.in_ok-put_header.ensures.ok ∙ ap (λ l. l ++ header c.args.minor) c.new-header.ensures.items in
    whole_file c.args.minor (g.P.Keep.kept c.args.keep.now) h c.args.first c.args.blocks.now c.deref.result.now is _ _ _ _ c.in_ok-write_whole.ensures.bytes
    (c.in-Ok.ensures.ok h (stands_for c.args.replayer.now c.tracker.result.now c.tracker.ensures h s) (stored_for c.args.replayer.now c.tracker.result.now c.tracker.ensures h s))
    c.in_ok-write_whole-2.ensures.bytes

pub returns-clause-front : goal.returns-clause-front
returns-clause-front g c h s = whole_part _ _ _ (returns-clause-ok g c h s)
