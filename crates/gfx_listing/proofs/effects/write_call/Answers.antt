use Rattle.std.proofs.Common.{◌≡◌, ℕ, List, ◌++◌, ap, ◌∙◌, rules}
use Rattle.gfx_model.specs.Events.{event_of_call}
use Rattle.gfx_script_model.specs.EventNames.{event_name}
use Rattle.gfx_listing.proofs.Lines.{call_grown}
use Rattle.gfx_listing.proofs.effects.write_call.Goals as goal

pub returns-in-Ok-clause-ok : goal.returns-in-Ok-clause-ok
returns-in-Ok-clause-ok c =
    let name : c.as_bytes.result.now ≡ event_name (event_of_call c.args.call.now) = search rules in
    let word = c.in_ok-extend_from_slice-2.ensures.items ∙ ap (λ (z : List ℕ). c.extend_from_slice.new.self.items ++ z) name in
    call_grown c.args.minor c.args.thread c.args.call.now c.args.out.now.items c.write_thread.new.out.items c.extend_from_slice.new.self.items c.extend_from_slice-2.new.self.items c.show_call.new.out.items
    c.in_ok-write_thread.ensures.ok c.in_ok-extend_from_slice.ensures.items word c.in-Ok.ensures.ok
