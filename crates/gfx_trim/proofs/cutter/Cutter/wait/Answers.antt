use Rattle.std.proofs.Common.{◌≡◌, ◌++◌, true, sym, ap, subst, ◌∙◌}
use Rattle.std.specs.Io.KnownBytes.{Appends}
use Rattle.gfx_io.specs.Pieces.{AppendsPart}
use Rattle.gfx_blocks.specs.Payloads.{content_of}
use Rattle.gfx_decode.specs.Decoding.{item_of}
use Rattle.gfx_player.specs.Fed.{history_of}
use Rattle.gfx_trim.specs.Cutters.{opening, text_by}
use Rattle.gfx_trim.specs.Written.{acts}
use Rattle.gfx_io.proofs.Appending.{appends_then, part_then}
use Rattle.gfx_trim.proofs.Steps.{keep_text, restart_text, waiting_continues}
use Rattle.gfx_trim.proofs.Taking.{front_on, goes_takes, if_err, if_ok, keeps_on, on_ok, restarts, still_ok, text_first, waiting_phase}
use Rattle.gfx_trim.proofs.cutter.Cutter.wait.Goals as goal

pub returns-then-begins_section-clause-takes : goal.returns-then-begins_section-clause-takes
returns-then-begins_section-clause-takes g c = record {
  ok = if_ok c.restart.result _ _ c.restart.ensures.ok (λ last p fed a.
      goes_takes last c.args.self.now c.restart.new.self c.restart.new.player fed (item_of c.args.raw.now) p.0
      (restarts c.args.self.now c.restart.new.self c.restart.new.player fed (item_of c.args.raw.now) (sym c.begins_section.ensures ∙ c.if-begins_section.true) p.1 p.2 p.3 (p.4 fed a.replayed)));
  text = let s = c.args.self.now in
      on_ok c.restart.result _ _ c.restart.ensures.ok (λ last p fed before a text.
      subst (Appends before (g.K.Sink.taken c.args.sink.now))
      (sym (restart_text s.minor s.first s.last s.kept.items fed (item_of c.args.raw.now) (waiting_phase s c.args.player.now fed c.requires.phase a) (sym c.begins_section.ensures ∙ c.if-begins_section.true) (p.4 fed a.replayed).fine)) text);
  front = λ fed before a text. front_on c.args.self.now fed (item_of c.args.raw.now) before _ text;
  err = if_err c.restart.result _ _ c.restart.ensures.err (λ why p fed a. p.1 fed a.replayed);
}

pub returns-in-Skip-clause-takes : goal.returns-in-Skip-clause-takes
returns-in-Skip-clause-takes g c = record {
  ok = if_ok c.keep.result _ _ c.keep.ensures.ok (λ last p fed a.
      goes_takes last c.args.self.now c.keep.new.self c.keep.new.player fed (item_of c.args.raw.now) p.0
      (keeps_on c.args.self.now c.keep.new.self c.args.player.now c.keep.new.player fed (item_of c.args.raw.now) c.requires.phase a (ap content_of c.in-Skip.is) p.1 p.2 p.3 (p.4 fed a.replayed)));
  text = let s = c.args.self.now in
      on_ok c.keep.result _ _ c.keep.ensures.ok (λ last p fed before a text.
      subst (Appends before (g.K.Sink.taken c.args.sink.now))
      (sym (keep_text s.minor s.first s.last s.kept.items fed (item_of c.args.raw.now) (waiting_phase s c.args.player.now fed c.requires.phase a) (ap content_of c.in-Skip.is))) text);
  front = λ fed before a text. front_on c.args.self.now fed (item_of c.args.raw.now) before _ text;
  err = if_err c.keep.result _ _ c.keep.ensures.err (λ why p fed a. p.1 fed a.replayed);
}

pub returns-in-Effect-clause-takes : goal.returns-in-Effect-clause-takes
returns-in-Effect-clause-takes g c = record {
  ok = let s = c.args.self.now in
      let plain = sym c.begins_section.ensures ∙ c.if-begins_section.false in
      let some : acts (content_of c.args.raw.now.block) ≡ true = ap (λ b. acts (content_of b)) c.in-Effect.is in
      if_ok c.begin.result _ _ c.begin.ensures.ok (λ last p fed a.
      p fed a.replayed (waiting_continues s.first s.last s.kept.items fed (item_of c.args.raw.now) (waiting_phase s c.args.player.now fed c.requires.phase a) plain some));
  text = let s = c.args.self.now in
      let plain = sym c.begins_section.ensures ∙ c.if-begins_section.false in
      let some : acts (content_of c.args.raw.now.block) ≡ true = ap (λ b. acts (content_of b)) c.in-Effect.is in
      still_ok c.begin.result _ _ c.begin.ensures.bytes (λ wrote fed before a text.
      let w = waiting_phase s c.args.player.now fed c.requires.phase a in
      subst (Appends before (g.K.Sink.taken c.begin.new.sink))
      (sym (text_first s fed (item_of c.args.raw.now) w (waiting_continues s.first s.last s.kept.items fed (item_of c.args.raw.now) w plain some)))
      (appends_then before _ _ (text_by s fed) (opening s.minor (history_of fed) s.first s.kept.items ++ c.args.raw.now.bytes.now) text (wrote fed a.replayed)));
  front = λ fed before a text. let s = c.args.self.now in
      let plain = sym c.begins_section.ensures ∙ c.if-begins_section.false in
      let some : acts (content_of c.args.raw.now.block) ≡ true = ap (λ b. acts (content_of b)) c.in-Effect.is in
      let w = waiting_phase s c.args.player.now fed c.requires.phase a in
      subst (AppendsPart before (g.K.Sink.taken c.begin.new.sink))
      (sym (text_first s fed (item_of c.args.raw.now) w (waiting_continues s.first s.last s.kept.items fed (item_of c.args.raw.now) w plain some)))
      (part_then before _ _ (text_by s fed) (opening s.minor (history_of fed) s.first s.kept.items ++ c.args.raw.now.bytes.now) text (c.begin.ensures.front fed a.replayed));
  err = if_err c.begin.result _ _ c.begin.ensures.err (λ why p fed a. p fed a.replayed);
}
