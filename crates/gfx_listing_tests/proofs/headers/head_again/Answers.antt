use Rattle.std.proofs.Common.{ℕ, List, ◌++◌, subst, sym, ap, ◌∙◌}
use Rattle.gfx_grammar.specs.Framing.{IsHeader}
use Rattle.gfx_text_grammar.proofs.HeaderLaws.{header_takes}
use Rattle.gfx_listing_tests.proofs.headers.head_again.Goals as goal

pub put_head-requires : goal.put_head-requires
put_head-requires c =
    let h = c.in_ok-read_head.ensures.ok in
    subst IsHeader (sym (c.deref.ensures.value ∙ h.2 ∙ ap (λ (z : List ℕ). z ++ h.0) c.new-bytes.ensures.items)) (header_takes c.as_bytes.result.now h.0 h.1).header
