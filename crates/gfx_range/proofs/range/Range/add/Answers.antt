use Rattle.std.proofs.Common.{◌++◌, refl, sym, ap, subst, ◌∙◌}
use Rattle.gfx_model.specs.Meaning.{events_onto}
use Rattle.gfx_blocks.specs.Payloads.{content_of}
use Rattle.gfx_decode.specs.Decoding.{item_of}
use Rattle.gfx_tracker.specs.Tracker.{answers}
use Rattle.gfx_range.specs.Follower.{ops_said}
use Rattle.gfx_range.specs.Range.{Names, accesses_said}
use Rattle.gfx_range.proofs.Gathering.{gathered_more}
use Rattle.gfx_range.proofs.Near.{near_said}
use Rattle.gfx_range.proofs.range.Range.add.Goals as goal

pub say-requires : goal.say-requires
say-requires c =
    let content = content_of c.args.raw.now.block in
    let v = answers c.args.follower.now.tracker in
    near_said c.args.follower.now.tracker content _ c.in_ok-number.ensures.fine (c.in_ok-number.ensures.ops ∙ ap (λ l. l ++ ops_said v content) (c.of-ops.ensures ∙ c.new.ensures.items))

pub returns-clause-ok : goal.returns-clause-ok
returns-clause-ok c = λ h ws before g follows.
    let content = content_of c.args.raw.now.block in
    let v = answers c.args.follower.now.tracker in
    let ops = c.in_ok-number.ensures.ops ∙ ap (λ l. l ++ ops_said v content) (c.of-ops.ensures ∙ c.new.ensures.items) in
    let accesses = c.keep.ensures.same.accesses ∙ c.in_ok-say.ensures.accesses ∙ ap (λ l. l ++ accesses_said content c.follow.new.ops) c.in_ok-shown.ensures.accesses in
    let names = subst (λ n. Names (answers c.args.boundary.now) content n c.keep.new.self.needed) c.show-shown.ensures.needed
    (subst (Names (answers c.args.boundary.now) content c.show-shown.new.self.needed) (sym c.keep.ensures.same.needed) c.in_ok-say.ensures.needed) in
    let bytes = c.in_ok-keep.ensures.bytes ∙ ap (λ b. b.items ++ c.args.raw.now.bytes.now) (c.say.ensures.blocks ∙ c.show-shown.ensures.blocks) in (
      c.in_ok-number.ensures.ok (events_onto ws h) follows,
      gathered_more c.args.self.now c.keep.new.self h ws (item_of c.args.raw.now) g bytes content refl (answers c.args.boundary.now) v c.follow.new.ops before follows.same ops accesses names,
    )
