use Rattle.std.proofs.Common.{◌≡◌, ◌<◌, ◌+◌, ◌*◌, Ok, refl, sym, ap, subst, take, ◌∙◌, arith}
use Rattle.std.proofs.lemmas.Result.{err_from_is_err_and}
use Rattle.gfx_io.specs.Told.{IfTold}
use Rattle.gfx_decode.specs.Decoding.{GivesHeader, Goes, behind, start_of}
use Rattle.gfx_decode.specs.Reachable.{IsBehind, blocks_ahead}
use Rattle.gfx_decode.specs.Stage.{Stage, At}
use Rattle.gfx_decode.proofs.Ahead.{behind_more, fewer_ahead, none_behind}
use Rattle.gfx_decode.proofs.Front.{header_bounds}
use Rattle.gfx_decode.proofs.Told.{told_bytes, told_end, told_if, told_through, told_with}
use Rattle.gfx_rewrite.specs.Held.{HeldPart}
use Rattle.gfx_rewrite.specs.Texts.{rewritten}
use Rattle.gfx_rewrite.proofs.Rewriting.{IsOfVersion, Rewriting, begins, block_fails, decoder_asks, done, goes_on, header_fails, is_block, no_header, nothing_held, of_header, still_of_version, stops, unwritten_asks}
use Rattle.gfx_rewrite.proofs.file.rewrite_held.Goals as goal

-- the header
pub returns-in_err-header-clause-told : goal.returns-in_err-header-clause-told
returns-in_err-header-clause-told g c =
    let p = err_from_is_err_and c.from_residual.result c.from_residual.ensures.1 in
    rw (p.1, p.2) (no_header (g.W.Rewriter.texts c.args.way.now) c.in_err-header.field-0.0 (g.K.Sink.taken c.args.sink.now) _ _ c.args.held.now.items c.requires c.in_err-header.ensures.gives c.in_err-header.ensures.fault)

pub returns-in_err-header-clause-misses : goal.returns-in_err-header-clause-misses
returns-in_err-header-clause-misses g c =
    let p = err_from_is_err_and c.from_residual.result c.from_residual.ensures.1 in
    rw (p.1, p.2) (decoder_asks c.in_err-header.field-0.0)

pub put_header-requires-clause-few : goal.put_header-requires-clause-few
put_header-requires-clause-few g c = (header_bounds c.in_ok-header.header _ c.in_ok-header.ensures.bytes.0).2

-- no memory for its text
pub returns-in_err-put_header-clause-told : goal.returns-in_err-put_header-clause-told
returns-in_err-put_header-clause-told g c =
    let p = err_from_is_err_and c.from_residual-in_err-put_header.result c.from_residual-in_err-put_header.ensures.1 in
    let taken = g.K.Sink.taken c.args.sink.now in
    let none = c.in_err-put_header.ensures.err ∙ c.requires in
    let old = g.S.Source.left c.args.source.now in
    let new = g.S.Source.left c.header_into.new.source in
    let held = c.put_header.new.out.items in
    let written = rewritten (g.W.Rewriter.texts c.args.way.now) in
    rw (p.1, p.2) (told_if old new (GivesHeader (Ok c.in_ok-header.header)) (λ all rest. HeldPart taken taken held (written all)) c.in_ok-header.ensures.gives (λ all rest gives. nothing_held taken held (written all) none))

-- its text was not written
pub returns-in_err-write_many-clause-told : goal.returns-in_err-write_many-clause-told
returns-in_err-write_many-clause-told g c =
    let p = err_from_is_err_and c.from_residual-in_err-write_many.result c.from_residual-in_err-write_many.ensures.1 in
    let header = c.in_ok-header.header in
    let bytes = take (16 + 8 * header.options) c.header_into.new.into in
    let texts = g.W.Rewriter.texts c.args.way.now in
    let before = g.K.Sink.taken c.args.sink.now in
    let after = g.K.Sink.taken c.write_many.new.sink in
    let held = c.write_many.new.held.items in
    rw (p.1, p.2)
    (told_with _ _ bytes _ (λ all rest. HeldPart before after held (rewritten texts all)) c.in_ok-header.ensures.gives c.in_ok-header.ensures.bytes.1
    (λ all rest gives parts. header_fails texts header all rest bytes c.args.held.now.items c.put_header.new.out.items held before after c.in_ok-header.ensures.bytes.0 parts c.requires
    c.in_ok-put_header.ensures.ok c.in_err-write_many.ensures.failed c.in_err-write_many.ensures.none))

pub reading-init : goal.reading-init
reading-init g c =
    let header = c.in_ok-header.header in
    let bytes = take (16 + 8 * header.options) c.header_into.new.into in
    let is = c.in_ok-header.ensures.bytes.0 in
    let after = sym c.in_ok-header.ensures.after in
    let texts = g.W.Rewriter.texts c.args.way.now in
    let before = g.K.Sink.taken c.args.sink.now in
    let taken = g.K.Sink.taken c.write_many.new.sink in
    let held = c.write_many.new.held.items in
    record {
      place = subst (IsBehind 0) after (none_behind header 0 refl);
      version = subst (IsOfVersion header.minor) after (of_header header bytes is);
      few = c.in_ok-write_many.ensures.few;
      rewriting = subst (λ (s : Stage). IfTold (g.S.Source.left c.args.source.now) (g.S.Source.left c.header_into.new.source) (Rewriting texts header.minor s before taken held)) after
          (told_with _ _ bytes _ (Rewriting texts header.minor (At header.minor (start_of header)) before taken held) c.in_ok-header.ensures.gives c.in_ok-header.ensures.bytes.1
          (λ all rest gives parts. begins texts header all rest bytes c.args.held.now.items c.put_header.new.out.items held before taken is parts c.requires c.in_ok-put_header.ensures.ok
          c.in_ok-write_many.ensures.some));
      later_source = c.in_ok-header.ensures.later;
      later_sink = c.in_ok-write_many.ensures.cause.later;
    }

-- a block that could not be read
pub returns-in_err-raw-clause-told : goal.returns-in_err-raw-clause-told
returns-in_err-raw-clause-told g c =
    let p = err_from_is_err_and c.from_residual-in_err-raw.result c.from_residual-in_err-raw.ensures.1 in
    let kept = c.reading.invariant in
    rw (p.1, p.2)
    (stops 0 (g.W.Rewriter.texts c.args.way.now) c.in_ok-header.header.minor c.reading.decoder c.in_err-raw.field-0.0 (g.K.Sink.taken c.args.sink.now) (g.K.Sink.taken c.reading.sink) c.reading.held.items _ _ _ kept.place kept.rewriting c.in_err-raw.ensures.gives c.in_err-raw.ensures.fault)

pub returns-in_err-raw-clause-misses : goal.returns-in_err-raw-clause-misses
returns-in_err-raw-clause-misses g c =
    let p = err_from_is_err_and c.from_residual-in_err-raw.result c.from_residual-in_err-raw.ensures.1 in
    rw (p.1, p.2) (decoder_asks c.in_err-raw.field-0.0)

pub put_block-requires-clause-version : goal.put_block-requires-clause-version
put_block-requires-clause-version g c =
    (is_block c.in_ok-header.header.minor c.reading.decoder c.in-Some.raw c.reading.invariant.version (rw c.in-Some.is at c.in_ok-raw.ensures.block)).0

pub put_block-requires-clause-block : goal.put_block-requires-clause-block
put_block-requires-clause-block g c =
    (is_block c.in_ok-header.header.minor c.reading.decoder c.in-Some.raw c.reading.invariant.version (rw c.in-Some.is at c.in_ok-raw.ensures.block)).1

-- a block whose text was not taken whole
pub returns-in_err-put_block-clause-told : goal.returns-in_err-put_block-clause-told
returns-in_err-put_block-clause-told g c =
    let p = err_from_is_err_and c.from_residual-in_err-put_block.result c.from_residual-in_err-put_block.ensures.1 in
    let stage = c.reading.decoder in
    let raw = c.in-Some.raw in
    let why = c.in_err-put_block.field-0.0 in
    let before = g.K.Sink.taken c.args.sink.now in
    let mid = g.K.Sink.taken c.reading.sink in
    let after = g.K.Sink.taken c.put_block.new.sink in
    let gives = rw c.in-Some.is at c.in_ok-raw.ensures.gives in
    rw (p.1, p.2)
    (told_through _ _ _ _ _ _ c.reading.invariant.rewriting (told_bytes _ _ raw.bytes.now _ gives (rw c.in-Some.is at c.in_ok-raw.ensures.bytes))
    (λ all left rest u given. block_fails (g.W.Rewriter.texts c.args.way.now) c.in_ok-header.header.minor stage raw why before mid after c.reading.held.items c.put_block.new.held.items all left rest u
    (rw c.in-Some.is at c.in_ok-raw.ensures.block) given.1 c.in_err-put_block.ensures.why c.in_err-put_block.ensures.err))

pub returns-in_err-put_block-clause-misses : goal.returns-in_err-put_block-clause-misses
returns-in_err-put_block-clause-misses g c =
    let p = err_from_is_err_and c.from_residual-in_err-put_block.result c.from_residual-in_err-put_block.ensures.1 in
    rw (p.1, p.2) (unwritten_asks c.in_err-put_block.field-0.0 c.in_err-put_block.ensures.why)

pub reading-smaller : goal.reading-smaller
reading-smaller g c =
    let raw = c.in-Some.raw in
    let goes : c.next.new.self ≡ behind c.reading.decoder raw = subst (λ r. Goes c.reading.decoder r c.next.new.self) (c.in_ok-raw.was ∙ ap Ok c.in-Some.is) c.next.ensures.after in
    subst (λ s. blocks_ahead s < blocks_ahead c.reading.decoder) (sym goes) (fewer_ahead c.reading.decoder raw (rw c.in-Some.is at c.in_ok-raw.ensures.block) (rw c.in-Some.is at c.in_ok-raw.ensures.few))

pub reading-preserved : goal.reading-preserved
reading-preserved g c =
    let m = c.in_ok-header.header.minor in
    let texts = g.W.Rewriter.texts c.args.way.now in
    let stage = c.reading.decoder in
    let raw = c.in-Some.raw in
    let new = c.next.new.self in
    let kept = c.reading.invariant in
    let before = g.K.Sink.taken c.args.sink.now in
    let mid = g.K.Sink.taken c.reading.sink in
    let after = g.K.Sink.taken c.put_block.new.sink in
    let held = c.put_block.new.held.items in
    let block = rw c.in-Some.is at c.in_ok-raw.ensures.block in
    let gives = rw c.in-Some.is at c.in_ok-raw.ensures.gives in
    let goes : new ≡ behind stage raw = subst (λ r. Goes stage r new) (c.in_ok-raw.was ∙ ap Ok c.in-Some.is) c.next.ensures.after in
    record {
      place = subst (IsBehind 0) (sym goes) (behind_more 0 0 stage raw kept.place (omega arith));
      version = subst (IsOfVersion m) (sym goes) (still_of_version m stage raw kept.version);
      few = c.in_ok-put_block.ensures.few;
      rewriting = told_through _ _ _ _ _ _ kept.rewriting (told_bytes _ _ raw.bytes.now _ gives (rw c.in-Some.is at c.in_ok-raw.ensures.bytes)) (λ all left rest u given.
          subst (λ (s : Stage). Rewriting texts m s before after held all rest) (sym goes)
          (goes_on texts m stage raw before mid after c.reading.held.items held all left rest u block given.1 c.in_ok-put_block.ensures.ok));
      later_source = omega (arith, kept.later_source, c.in_ok-raw.ensures.later);
      later_sink = omega (arith, kept.later_sink, c.in_ok-put_block.ensures.later);
    }

-- the file is at its clean end
pub returns-clause-told : goal.returns-clause-told
returns-clause-told g c =
    let before = g.K.Sink.taken c.args.sink.now in
    let after = g.K.Sink.taken c.reading.sink in
    let none = rw c.in_default.is at c.in_ok-raw.ensures.gives in
    told_through _ _ _ _ _ _ c.reading.invariant.rewriting (told_end _ _ _ none (c.in_ok-raw.ensures.end (ap Ok c.in_default.is)).1)
    (λ all left rest u given. done (g.W.Rewriter.texts c.args.way.now) c.in_ok-header.header.minor c.reading.decoder before after c.reading.held.items all left rest u given.0 given.1)
