use Rattle.std.proofs.Common.{sym, subst}
use Rattle.std.specs.Io.KnownBytes.{Appends}
use Rattle.gfx_io.specs.Pieces.{AppendsPart}
use Rattle.gfx_decode.specs.Decoding.{item_of}
use Rattle.gfx_trim.specs.Cutters.{text_by}
use Rattle.gfx_io.proofs.Appending.{appends_then, part_then}
use Rattle.gfx_trim.proofs.Steps.{before_text, writing_continues}
use Rattle.gfx_trim.proofs.Taking.{before_phase, front_on, goes_takes, if_err, if_ok, on_ok, still_ok, text_on, writing_phase}
use Rattle.gfx_trim.proofs.cutter.Cutter.take_block.Goals as goal

pub returns-in-Before-clause-takes : goal.returns-in-Before-clause-takes
returns-in-Before-clause-takes g c = record {
  ok = if_ok c.pass.result _ _ c.pass.ensures.ok (λ last p fed a. let q = p fed a in goes_takes last c.args.self.now c.pass.new.self c.pass.new.player fed (item_of c.args.raw.now) q.0 q.1);
  text = let s = c.args.self.now in
      on_ok c.pass.result _ _ c.pass.ensures.ok (λ last p fed before a text.
      subst (Appends before (g.K.Sink.taken c.args.sink.now)) (sym (before_text s.minor s.first s.last s.kept.items fed (item_of c.args.raw.now) (before_phase s c.args.player.now fed c.in-Before.is a))) text);
  front = λ fed before a text. front_on c.args.self.now fed (item_of c.args.raw.now) before _ text;
  err = if_err c.pass.result _ _ c.pass.ensures.err (λ why p fed a. p.1 fed a.replayed);
}

pub returns-in-Writing-clause-takes : goal.returns-in-Writing-clause-takes
returns-in-Writing-clause-takes g c = record {
  ok = let s = c.args.self.now in
      if_ok c.write.result _ _ c.write.ensures.ok (λ last p fed a.
      p fed a.replayed c.in-Writing.is (writing_continues s.first s.last fed (item_of c.args.raw.now) (writing_phase s c.args.player.now fed c.in-Writing.is a)));
  text = let s = c.args.self.now in
      still_ok c.write.result _ _ c.write.ensures.bytes (λ wrote fed before a text.
      subst (Appends before (g.K.Sink.taken c.write.new.sink)) (sym (text_on s fed (item_of c.args.raw.now) (writing_phase s c.args.player.now fed c.in-Writing.is a)))
      (appends_then before _ _ (text_by s fed) c.args.raw.now.bytes.now text wrote));
  front = λ fed before a text. let s = c.args.self.now in
      subst (AppendsPart before (g.K.Sink.taken c.write.new.sink)) (sym (text_on s fed (item_of c.args.raw.now) (writing_phase s c.args.player.now fed c.in-Writing.is a)))
      (part_then before _ _ (text_by s fed) c.args.raw.now.bytes.now text c.write.ensures.front);
  err = if_err c.write.result _ _ c.write.ensures.err (λ why p fed a. p fed a.replayed);
}
