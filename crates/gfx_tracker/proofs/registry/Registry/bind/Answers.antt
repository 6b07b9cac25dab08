use Rattle.std.proofs.Common.{Result, Ok, Err, OnOk, OnErr}
use Rattle.std.proofs.lemmas.Result.{on_ok_weaker, on_err_weaker}
use Rattle.gfx_tracker.proofs.Registered.{registered_along, answers_along, registered_bound, answers_bound}
use Rattle.gfx_tracker.proofs.registry.Registry.bind.Goals as goal

-- what follows however it ended
either : {T E P Q R : Type 0} (r : Result T E) → OnOk r P → OnErr r Q → (P → R) → (Q → R) → R
either (Ok x) ok err f g = f ok
either (Err e) ok err f g = g err

pub invariant_of-self : goal.invariant_of-self
invariant_of-self c =
    let r = c.args.self.now in
    record {
      kept = either c.bind.result c.bind.ensures.ok c.bind.ensures.err
          (registered_bound r.objects c.bind.new.self r.signals r.images r.kept c.args.id c.args.memory c.args.offset)
          (registered_along r.objects c.bind.new.self r.signals r.images r.kept);
    }

pub returns-clause-ok : goal.returns-clause-ok
returns-clause-ok c =
    let r = c.args.self.now in
    on_ok_weaker c.bind.result (answers_bound r.objects c.bind.new.self r.signals r.images r.kept c.args.id c.args.memory c.args.offset) c.bind.ensures.ok

pub returns-clause-err : goal.returns-clause-err
returns-clause-err c =
    let r = c.args.self.now in
    on_err_weaker c.bind.result (answers_along r.objects c.bind.new.self r.signals r.images) c.bind.ensures.err
