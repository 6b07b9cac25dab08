use Rattle.std.specs.Prelude.{OnOk}
use Rattle.std.specs.Io.KnownBytes.{Appends}
use Rattle.gfx_io.specs.Pieces.{AppendsPart}
use Rattle.gfx_decode.proofs.Told.{told_if}
use Rattle.gfx_player.proofs.ToldBytes.{told_bytes}
use Rattle.gfx_rewrite.specs.Texts.{rewritten}
use Rattle.gfx_rewrite.proofs.Rewriting.{answers_as}
use Rattle.gfx_list.specs.Lists.{Answers, TookListing, in_listing, listed}
use Rattle.gfx_list.proofs.ListedBlocks.{rewritten_is_listed, took_listing}
use Rattle.gfx_list.proofs.listing.list.Goals as goal

pub returns-clause-told : goal.returns-clause-told
returns-clause-told g c =
    let before = g.K.Sink.taken c.args.sink.now in
    let after = g.K.Sink.taken c.rewrite.new.sink in
    told_if _ _ _ _ c.rewrite.ensures.told
    (λ all rest a. answers_as (rewritten in_listing) listed (Appends before after) (AppendsPart before after) c.rewrite.result all rest rewritten_is_listed a)

pub returns-clause-listing : goal.returns-clause-listing
returns-clause-listing g c =
    let before = g.K.Sink.taken c.args.sink.now in
    let after = g.K.Sink.taken c.rewrite.new.sink in
    let end = c.rewrite.result in
    told_bytes _ _ (λ bytes rest. OnOk end (TookListing before after bytes)) (g.met.S.Source.are_bytes c.args.source.now)
    (told_if _ _ (Answers before after end) _ (returns-clause-told g c) (λ all rest told fit. took_listing end before after all rest fit told))
