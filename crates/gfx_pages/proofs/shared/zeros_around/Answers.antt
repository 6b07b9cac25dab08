use Rattle.std.proofs.Common.{◌≡◌, ◌+◌, ◌∙◌, ap, arith, length}
use Rattle.std.proofs.lemmas.List.{length-append, length-replicate}
use Rattle.gfx_pages.proofs.Lists.{zeros_around_is, resized_empty, resized_longer}
use Rattle.gfx_pages.proofs.shared.zeros_around.Goals as goal

pub returns : goal.returns
returns c =
    let before = resized_empty c.args.offset _ _ _ c.in_ok-bytes.ensures.items c.in_ok-bytes.ensures.len c.in_ok-resize.ensures.items in
    let both = c.in_ok-extend_from_slice.ensures.items in
    let size : length c.extend_from_slice.new.self.items ≡ c.args.offset + length c.args.part.now =
    ap length both ∙ length-append c.resize.new.self.items c.args.part.now ∙ ap (λ n. n + length c.args.part.now) (ap length before ∙ length-replicate c.args.offset 0) in
    let all = resized_longer c.args.size _ _ _ _ size (let a = c.in_ok-resize.ensures.len in let b = c.in_ok-extend_from_slice.ensures.len in omega arith) (omega arith) c.in_ok-resize-2.ensures.items in
    ap (λ v. v.items) c.in_ok-new.ensures.ok
    ∙ zeros_around_is c.args.size c.args.offset c.args.part.now c.resize.new.self.items c.extend_from_slice.new.self.items _ c.requires before both all
