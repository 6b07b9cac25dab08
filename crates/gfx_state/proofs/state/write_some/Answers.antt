use Rattle.std.proofs.Common.{sym, subst, ◌∙◌}
use Rattle.std.specs.Prelude.{flat_map, OnOk, OnErr}
use Rattle.std.specs.Io.KnownBytes.{Appends}
use Rattle.gfx_io.specs.Pieces.{AppendsPart}
use Rattle.gfx_model.specs.Spelling.{encoding}
use Rattle.gfx_model.specs.Views.{View}
use Rattle.gfx_model.specs.History.{executed}
use Rattle.gfx_tracker.specs.Tracker.{answers}
use Rattle.gfx_state.specs.Pools.{CommandsFit}
use Rattle.gfx_state.specs.Parts.{answers_in}
use Rattle.gfx_state.proofs.Standing.{IsRead, commands_fit, commands_theirs, places_along, stored_along, kept_same, kept_stands}
use Rattle.gfx_state.proofs.state.write_some.Goals as goal

pub write_section-requires-clause-fit : goal.write_section-requires-clause-fit
write_section-requires-clause-fit g c = subst CommandsFit (sym c.recordings.ensures) (commands_fit c.args.tracker.now)

pub write_section-requires-clause-places : goal.write_section-requires-clause-places
write_section-requires-clause-places g c =
    let w : View = answers_in (record { objects = c.objects.result; recordings = c.recordings.result; signals = c.sync.result; images = c.swaps.result }) in
    places_along (g.B.StateBytes.bytes c.args.bytes.now) (answers c.args.tracker.now) w (sym c.objects.ensures.live) (sym c.objects.ensures.ids) c.requires

pub returns-clause-ok : goal.returns-clause-ok
returns-clause-ok g c = λ h stands stored.
    let k = g.P.Keep.kept c.args.keep.now in
    let v : View = answers c.args.tracker.now in
    let w : View = answers_in (record { objects = c.objects.result; recordings = c.recordings.result; signals = c.sync.result; images = c.swaps.result }) in
    let read : IsRead w v = record {
      live = c.objects.ensures.live;
      ids = c.objects.ensures.ids;
      bound = c.objects.ensures.bound;
      mapped = c.objects.ensures.mapped;
      layout = c.objects.ensures.layout;
      buffer = c.recordings.ensures;
      signalled = c.sync.ensures;
      acquired = c.swaps.ensures.acquired;
    } in
    subst (λ es. OnOk c.write_section.result (Appends (g.K.Sink.taken c.args.sink.now) (g.K.Sink.taken c.write_section.new.sink) (flat_map (encoding 1 0) es)))
    (kept_same k w v (executed h) c.args.frame read ∙ kept_stands k v h c.args.frame (commands_theirs c.args.tracker.now) stands)
    (c.write_section.ensures.ok (executed h) (stored_along (g.B.StateBytes.bytes c.args.bytes.now) v w (sym c.objects.ensures.live) (sym c.objects.ensures.ids) (executed h) stored))

pub returns-clause-err : goal.returns-clause-err
returns-clause-err g c = λ h stands stored.
    let k = g.P.Keep.kept c.args.keep.now in
    let v : View = answers c.args.tracker.now in
    let w : View = answers_in (record { objects = c.objects.result; recordings = c.recordings.result; signals = c.sync.result; images = c.swaps.result }) in
    let read : IsRead w v = record {
      live = c.objects.ensures.live;
      ids = c.objects.ensures.ids;
      bound = c.objects.ensures.bound;
      mapped = c.objects.ensures.mapped;
      layout = c.objects.ensures.layout;
      buffer = c.recordings.ensures;
      signalled = c.sync.ensures;
      acquired = c.swaps.ensures.acquired;
    } in
    subst (λ es. OnErr c.write_section.result (AppendsPart (g.K.Sink.taken c.args.sink.now) (g.K.Sink.taken c.write_section.new.sink) (flat_map (encoding 1 0) es)))
    (kept_same k w v (executed h) c.args.frame read ∙ kept_stands k v h c.args.frame (commands_theirs c.args.tracker.now) stands)
    (c.write_section.ensures.err (executed h) (stored_along (g.B.StateBytes.bytes c.args.bytes.now) v w (sym c.objects.ensures.live) (sym c.objects.ensures.ids) (executed h) stored))
