use Rattle.std.proofs.Common.{take, slice_index_or, refl, ap, sym, ◌∙◌}
use Rattle.std.specs.Prelude.{flat_map}
use Rattle.gfx_types.specs.declared.names.Kind.TheVariants as kind
use Rattle.gfx_model.specs.Steps.{resources_of}
use Rattle.gfx_model.specs.Steps.Step.{changes}
use Rattle.gfx_model.specs.Steps.Change.{set_layout}
use Rattle.gfx_model.specs.Views.{is_live}
use Rattle.gfx_model.specs.Layouts.{asked_in}
use Rattle.gfx_model.specs.After.{after}
use Rattle.gfx_objects.specs.Objects.{Kept, answers}
use Rattle.gfx_commands.specs.declared.uses.Use.{Use}
use Rattle.gfx_commands.specs.Recordings.{buffers}
use Rattle.gfx_commands.proofs.Executed.{get_at, take_next}
use Rattle.gfx_commands.specs.Laid.{left_by}
use Rattle.gfx_commands.proofs.Leaving.{left_live, none_more, one_more, answers_began}
use Rattle.gfx_commands.proofs.recordings.Recordings.leave_layouts.Goals.{in-Some-left, in_default-left}
use Rattle.gfx_commands.proofs.recordings.Recordings.leave_layouts.Goals as goal

pub set_layout-requires : goal.set_layout-requires
set_layout-requires c =
    let v = answers c.args.objects.now in
    let uses = c.in-Some.uses.now in
    let image = slice_index_or c.ids-image-items.result.now c.images.image-index 0 in
    let named = flat_map resources_of (buffers c.args.self.now c.args.cb).commands in
    let asks = asked_in (buffers c.args.self.now) c.args.cb in
    ap (λ w. is_live w kind.Image image) c.images.invariant.set
    ∙ left_live uses.table.map uses.agrees named asks c.in-Some.ensures.index v c.requires image c.in-Some-left.layout (sym (ap (λ (u : Use). u.left) c.get.ensures) ∙ c.in-Some-left.is)

pub images-preserved : goal.images-preserved
images-preserved c =
    let v = answers c.args.objects.now in
    let uses = c.in-Some.uses.now in
    let items = c.ids-image-items.result.now in
    let n = c.images.image-index in
    let image = slice_index_or items n 0 in
    let so_far = take n items in
    let named = flat_map resources_of (buffers c.args.self.now c.args.cb).commands in
    let asks = asked_in (buffers c.args.self.now) c.args.cb in
    let more = ap (λ ids. record v { layout = left_by uses.table.map v.layout ids }) (sym (take_next image items n (get_at items n image 0 c.images-test.true refl))) in
    elim c.match-get.branch [
      | in-Some-left w ↦
          let left = sym (ap (λ (u : Use). u.left) c.get.ensures) ∙ w.in-Some-left.is in
          let live = left_live uses.table.map uses.agrees named asks c.in-Some.ensures.index v c.requires image w.in-Some-left.layout left in
          record {
            set = ap answers w.objects-is ∙ w.set_layout.ensures.step ∙ ap (λ u. after u (changes (set_layout image w.in-Some-left.layout))) c.images.invariant.set
                ∙ one_more uses.table.map v.layout so_far image v w.in-Some-left.layout (answers_began c.args.objects.now) live left ∙ more;
            spare = ap (λ (k : Kept). k.spare) w.objects-is ∙ w.set_layout.ensures.spare ∙ c.images.invariant.spare;
          }
      | in_default-left w ↦ record {
        set = ap answers w.objects-is ∙ c.images.invariant.set
            ∙ ap (λ f. record v { layout = f }) (none_more uses.table.map v.layout so_far image (sym (ap (λ (u : Use). u.left) c.get.ensures) ∙ w.in_default-left.is)) ∙ more;
        spare = ap (λ (k : Kept). k.spare) w.objects-is ∙ c.images.invariant.spare;
      }
    ]
