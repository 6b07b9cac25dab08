use Rattle.std.proofs.Common.{◌≡◌, ℕ, List, ◌++◌, ap, ◌∙◌, rules}
use Rattle.gfx_model.specs.Events.{event_of_meta}
use Rattle.gfx_script_model.specs.EventNames.{event_name}
use Rattle.gfx_listing.proofs.Lines.{meta_grown}
use Rattle.gfx_listing.proofs.effects.write_meta.Goals as goal

pub returns-in-Ok-clause-ok : goal.returns-in-Ok-clause-ok
returns-in-Ok-clause-ok c =
    let name : c.as_bytes.result.now ≡ event_name (event_of_meta c.args.meta.now) = search rules in
    let word = c.in_ok-extend_from_slice.ensures.items ∙ ap (λ (z : List ℕ). c.push.new.self.items ++ z) name in
    meta_grown c.args.minor c.args.thread c.args.meta.now c.args.out.now.items c.write_thread.new.out.items c.push.new.self.items c.extend_from_slice.new.self.items c.show_meta.new.out.items
    c.in_ok-write_thread.ensures.ok c.in_ok-push.ensures.items word (c.in-Ok.ensures.ok c.args.minor)
