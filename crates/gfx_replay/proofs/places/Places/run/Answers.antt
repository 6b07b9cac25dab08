use Rattle.std.proofs.Common.{sym, subst, ◌∷◌, []}
use Rattle.std.proofs.lemmas.Result.{on_ok_weaker}
use Rattle.std.specs.Prelude.{OnOk}
use Rattle.gfx_device.specs.Places.{places}
use Rattle.gfx_model.specs.Effects.{changes_of_op}
use Rattle.gfx_model.specs.Steps.Change.{put}
use Rattle.gfx_replay.specs.Handles.{handle_of}
use Rattle.gfx_replay.specs.Held.{HoldsMore}
use Rattle.gfx_replay.specs.Ranges.{IsWithin}
use Rattle.gfx_replay.specs.Places.{bytes_in, sizes_in, through}
use Rattle.gfx_replay.proofs.Changes.{fill_holds, copy_holds, layout_holds}
use Rattle.gfx_replay.proofs.Through.{kept_sound}
use Rattle.gfx_replay.proofs.places.Places.run.Goals as goal

pub invariant_of-self : goal.invariant_of-self
invariant_of-self c = record {
  sound = kept_sound (handle_of c.args.self.now.ids) (places c.args.self.now.device) (places c.run.new.self) c.handle.result c.args.self.now.sound c.run.ensures.others;
}

pub invariant_of-self-in-Copy : goal.invariant_of-self-in-Copy
invariant_of-self-in-Copy c = record {
  sound = kept_sound (handle_of c.args.self.now.ids) (places c.args.self.now.device) (places c.run-in-Copy.new.self) c.handle-in-Copy.result c.args.self.now.sound c.run-in-Copy.ensures.others;
}

pub returns-in-Put-clause-ok : goal.returns-in-Put-clause-ok
returns-in-Put-clause-ok c =
    subst (λ op. OnOk c.put.result (HoldsMore (changes_of_op c.args.given.now op) (bytes_in c.args.self.now) (bytes_in c.put.new.self))) (sym c.in-Put.is)
    (subst (λ bytes. OnOk c.put.result (HoldsMore (put c.in-Put.place c.in-Put.offset bytes ∷ []) (bytes_in c.args.self.now) (bytes_in c.put.new.self))) c.items.ensures c.put.ensures.ok)

pub returns-in-PutGiven-clause-ok : goal.returns-in-PutGiven-clause-ok
returns-in-PutGiven-clause-ok c =
    subst (λ op. OnOk c.put-in-PutGiven.result (HoldsMore (changes_of_op c.args.given.now op) (bytes_in c.args.self.now) (bytes_in c.put-in-PutGiven.new.self))) (sym c.in-PutGiven.is)
    c.put-in-PutGiven.ensures.ok

pub returns-in-Fill-clause-ok : goal.returns-in-Fill-clause-ok
returns-in-Fill-clause-ok c =
    let handles = handle_of c.args.self.now.ids in
    let new = through handles (places c.run.new.self) in
    subst (λ op. OnOk c.run.result (HoldsMore (changes_of_op c.args.given.now op) (bytes_in c.args.self.now) new)) (sym c.in-Fill.is)
    (on_ok_weaker c.run.result
    (fill_holds handles (places c.args.self.now.device) (places c.run.new.self) c.in-Fill.place c.handle.result c.in-Fill.offset c.in-Fill.length c.in-Fill.word
    c.args.self.now.sound c.handle.ensures (subst (IsWithin (sizes_in c.args.self.now) c.args.given.now) c.in-Fill.is c.requires))
    c.run.ensures.ok)

pub returns-in-Copy-clause-ok : goal.returns-in-Copy-clause-ok
returns-in-Copy-clause-ok c =
    let handles = handle_of c.args.self.now.ids in
    let new = through handles (places c.run-in-Copy.new.self) in
    let within = subst (IsWithin (sizes_in c.args.self.now) c.args.given.now) c.in-Copy.is c.requires in
    subst (λ op. OnOk c.run-in-Copy.result (HoldsMore (changes_of_op c.args.given.now op) (bytes_in c.args.self.now) new)) (sym c.in-Copy.is)
    (on_ok_weaker c.run-in-Copy.result
    (copy_holds handles (places c.args.self.now.device)
    (record {
      to_offset = c.in-Copy.to_offset;
      to_step = c.in-Copy.to_step;
      from_offset = c.in-Copy.from_offset;
      from_step = c.in-Copy.from_step;
      length = c.in-Copy.length;
      rows = c.in-Copy.rows;
    }) c.in-Copy.to c.in-Copy.from c.handle-in-Copy.result c.handle-in-Copy-2.result
    c.args.self.now.sound c.handle-in-Copy.ensures c.handle-in-Copy-2.ensures within.0 within.1 (places c.run-in-Copy.new.self))
    c.run-in-Copy.ensures.ok)

pub returns-in-SetLayout-clause-ok : goal.returns-in-SetLayout-clause-ok
returns-in-SetLayout-clause-ok c =
    subst (λ op. HoldsMore (changes_of_op c.args.given.now op) (bytes_in c.args.self.now) (bytes_in c.args.self.now)) (sym c.in-SetLayout.is)
    (layout_holds (bytes_in c.args.self.now) c.in-SetLayout.image c.in-SetLayout.layout)
