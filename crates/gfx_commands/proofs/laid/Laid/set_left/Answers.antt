use Rattle.std.proofs.Common.{ℕ, take, slice_index_or, refl, ap, sym, ◌∙◌, arith}
use Rattle.std.proofs.lemmas.List.{take_all}
use Rattle.gfx_model.specs.Checks.{but}
use Rattle.gfx_commands.specs.declared.laid.Laid.{Laid}
use Rattle.gfx_commands.specs.declared.uses.Use.{Use}
use Rattle.gfx_commands.specs.Laid.{laid_by, left_by}
use Rattle.gfx_commands.proofs.Executed.{get_at, take_next}
use Rattle.gfx_commands.proofs.Leaving.{laid_insert, none_more, some_more}
use Rattle.gfx_commands.proofs.laid.Laid.set_left.Goals.{in-Some, in_default}
use Rattle.gfx_commands.proofs.laid.Laid.set_left.Goals as goal

pub images-preserved : goal.images-preserved
images-preserved c =
    let uses = c.args.uses.now.table.map in
    let ids = c.args.ids.now in
    let n = c.images.image-index in
    let image = slice_index_or ids n 0 in
    let before = λ (layout : ℕ → ℕ). laid_by c.args.self.now.table.map layout in
    let more = λ (layout : ℕ → ℕ). ap (left_by uses (before layout)) (sym (take_next image ids n (get_at ids n image 0 c.images-test.true refl))) in
    let room = c.images.invariant.room in
    elim c.match-get.branch [
      | in-Some w ↦
          let left = sym (ap (λ (u : Use). u.left) c.get.ensures) ∙ w.in-Some.is in
          record {
            whole = ap (λ (t : Laid). t.is_whole) w.self-is ∙ c.images.invariant.whole;
            room = omega (arith, room, ap (λ (t : Laid). t.table.spare) w.self-is, w.set.ensures.spare);
            set = λ layout.
                ap (λ (t : Laid). laid_by t.table.map layout) w.self-is ∙ ap (λ m. laid_by m layout) w.set.ensures.map
                ∙ laid_insert c.images.self.table.map image w.in-Some.layout layout ∙ ap (but image w.in-Some.layout) (c.images.invariant.set layout)
                ∙ some_more uses (before layout) (take n ids) image w.in-Some.layout left ∙ more layout;
          }
      | in_default w ↦ record {
        whole = ap (λ (t : Laid). t.is_whole) w.self-is ∙ c.images.invariant.whole;
        room = omega (arith, room, ap (λ (t : Laid). t.table.spare) w.self-is);
        set = λ layout.
            ap (λ (t : Laid). laid_by t.table.map layout) w.self-is ∙ c.images.invariant.set layout
            ∙ none_more uses (before layout) (take n ids) image (sym (ap (λ (u : Use). u.left) c.get.ensures) ∙ w.in_default.is) ∙ more layout;
      }
    ]

pub returns-clause-set : goal.returns-clause-set
returns-clause-set c = λ layout.
    let ids = c.args.ids.now in
    c.images.invariant.set layout ∙ ap (left_by c.args.uses.now.table.map (laid_by c.args.self.now.table.map layout)) (take_all c.images.image-index ids c.images-test.false)
