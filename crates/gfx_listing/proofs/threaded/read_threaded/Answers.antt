use Rattle.std.proofs.Common.{map, sym, ap, ◌∙◌, arith}
use Rattle.std.proofs.lemmas.List.{length-map}
use Rattle.gfx_grammar.specs.Framing.{Part}
use Rattle.gfx_text_grammar.specs.Lines.{read_threaded}
use Rattle.gfx_listing.proofs.Cuts.{first_at, first_two}
use Rattle.gfx_listing.proofs.Dispatch.{threaded_short, threaded_is, threaded_bad}
use Rattle.gfx_listing.proofs.Parts.{all_stays, along_read}
use Rattle.gfx_listing.proofs.threaded.read_threaded.Goals as goal

pub returns-in_default : goal.returns-in_default
returns-in_default c = (
  threaded_short c.args.minor (map (λ t. t.now) c.args.tokens.now) (omega (arith, c.in_default.len_below, length-map c.args.tokens.now (λ t. t.now))),
  all_stays c.args.out.now.items,
)

pub returns-in_default-number_behind : goal.returns-in_default-number_behind
returns-in_default-number_behind c = (
  threaded_bad c.args.minor (map (λ t. t.now) c.args.tokens.now) _ _ (first_at (λ t. t.now) c.args.tokens.now _ (omega (arith, c.in-len2-up.len_at_least)))
      (sym c.number_behind.ensures ∙ c.in_default-number_behind.is),
  all_stays c.args.out.now.items,
)

pub returns : goal.returns
returns c =
    along_read c.read_named.result (read_threaded c.args.minor (map (λ t. t.now) c.args.tokens.now)) _ (λ (p : Part). p.bytes) c.args.out.now.items c.read_named.new.out.items
    (ap (read_threaded c.args.minor) (first_two (λ t. t.now) c.args.tokens.now _ _ c.in-len2-up.len_at_least)
    ∙ threaded_is c.args.minor c.in-Some.thread _ _ _ (sym c.number_behind.ensures ∙ c.in-Some.is))
    c.read_named.ensures
