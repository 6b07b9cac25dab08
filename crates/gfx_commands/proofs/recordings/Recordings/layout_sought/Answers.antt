use Rattle.std.proofs.Common.{Some, None, ap, sym, ◌∙◌, arith}
use Rattle.gfx_types.specs.declared.lists.Submit.{Submit}
use Rattle.gfx_objects.specs.Objects.{answers}
use Rattle.gfx_commands.specs.Recordings.{buffers}
use Rattle.gfx_commands.proofs.Executed.{get_at, part_of, last_part, submits_before, one_submit_less}
use Rattle.gfx_commands.proofs.recordings.Recordings.layout_sought.Goals as goal

pub returns-in-Some : goal.returns-in-Some
returns-in-Some c =
    let submits = c.args.place.submits.now in
    let s = c.index-submits-submit.result in
    let at = get_at submits c.args.place.submit s s c.requires.reached.submit c.index-submits-submit.is in
    let cbs = part_of submits c.args.place.submit s at c.items.result.now (c.items.ensures ∙ ap (λ (s : Submit). s.cbs) (sym c.index-submits-submit.is)) in
    sym (last_part (buffers c.args.self.now) submits c.args.place.submit c.args.place.at (answers c.args.objects.now).layout c.requires.reached.met c.items.result.now cbs c.args.image
    (Some c.in-Some.layout) c.in-Some.ensures)

pub submits-init : goal.submits-init
submits-init c =
    let submits = c.args.place.submits.now in
    let s = c.index-submits-submit.result in
    let at = get_at submits c.args.place.submit s s c.requires.reached.submit c.index-submits-submit.is in
    let cbs = part_of submits c.args.place.submit s at c.items.result.now (c.items.ensures ∙ ap (λ (s : Submit). s.cbs) (sym c.index-submits-submit.is)) in
    record {
      in_range = omega arith;
      met = submits_before (buffers c.args.self.now) submits c.args.place.submit c.args.place.at (answers c.args.objects.now).layout c.requires.reached.met;
      same = last_part (buffers c.args.self.now) submits c.args.place.submit c.args.place.at (answers c.args.objects.now).layout c.requires.reached.met c.items.result.now cbs c.args.image
          None c.in_default.ensures;
    }

pub returns-in-Some-known_by : goal.returns-in-Some-known_by
returns-in-Some-known_by c =
    let inside = c.submits.invariant.in_range in
    let fits = c.requires.reached.submit in
    let cbs = c.items-in-submits.ensures ∙ ap (λ (s : Submit). s.cbs) (sym c.index-submits-end.is) in
    sym (c.submits.invariant.same
    ∙ (one_submit_less (buffers c.args.self.now) c.args.place.submits.now c.submits.end c.index-submits-end.result (answers c.args.objects.now).layout (omega arith) (omega (arith, inside, fits))
    c.index-submits-end.is c.submits.invariant.met c.items-in-submits.result.now cbs c.args.image (Some c.in-Some-known_by.layout) c.in-Some-known_by.ensures).1)

pub submits-preserved : goal.submits-preserved
submits-preserved c =
    let inside = c.submits.invariant.in_range in
    let fits = c.requires.reached.submit in
    let cbs = c.items-in-submits.ensures ∙ ap (λ (s : Submit). s.cbs) (sym c.index-submits-end.is) in
    let less = one_submit_less (buffers c.args.self.now) c.args.place.submits.now c.submits.end c.index-submits-end.result (answers c.args.objects.now).layout (omega arith) (omega (arith, inside, fits))
    c.index-submits-end.is c.submits.invariant.met c.items-in-submits.result.now cbs c.args.image None c.in_default-known_by.ensures in
    record {
      in_range = omega (arith, inside);
      met = less.0;
      same = c.submits.invariant.same ∙ less.1;
    }
