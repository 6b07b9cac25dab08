use Rattle.std.proofs.Common.{◌≡◌, ◌∷◌, [], ◌==◌, Bool, true, false, if◌then◌else◌, ap, ◌∙◌, arith}
use Rattle.std.proofs.lemmas.Bool.Decides.{nat_tests}
use Rattle.gfx_model.specs.Events.Event.{SetSemaphoreState}
use Rattle.gfx_model.specs.Steps.Step.{signals, unsignals}
use Rattle.gfx_model.specs.Table.{place_of, row_of, checks_of}
use Rattle.gfx_model.specs.Effects.{effect_of}
use Rattle.gfx_laws.proofs.NewObjects.{all_pass}
use Rattle.gfx_tracker.specs.State.{state_answers}
use Rattle.gfx_tracker.proofs.Next.{semaphore_signal, after_one}
use Rattle.gfx_tracker.proofs.metadata.set_semaphore_state.Goals as goal

pub signal-requires : goal.signal-requires
unfolding place_of row_of
signal-requires c =
    let v = state_answers c.args.state.now in
    semaphore_signal v c.args.semaphore (all_pass v (checks_of (SetSemaphoreState c.args.semaphore c.args.signalled)) c.requires.passes).1.0

pub unsignal-requires : goal.unsignal-requires
unfolding place_of row_of
unsignal-requires c =
    let v = state_answers c.args.state.now in
    semaphore_signal v c.args.semaphore (all_pass v (checks_of (SetSemaphoreState c.args.semaphore c.args.signalled)) c.requires.passes).1.0

pub returns-then-signalled-eq1 : goal.returns-then-signalled-eq1
unfolding effect_of
returns-then-signalled-eq1 c =
    let test = c.if-signalled-eq1.true in
    let is : (c.args.signalled == 1) ≡ true = grind (arith, nat_tests, test) in
    c.signal.ensures
    ∙ after_one (state_answers c.args.state.now) (SetSemaphoreState c.args.semaphore c.args.signalled) (signals c.args.semaphore)
    (ap (λ (t : Bool). (if t then signals c.args.semaphore else unsignals c.args.semaphore) ∷ []) is)

pub returns-else-signalled-eq1 : goal.returns-else-signalled-eq1
unfolding effect_of
returns-else-signalled-eq1 c =
    let test = c.if-signalled-eq1.false in
    let is : (c.args.signalled == 1) ≡ false = grind (arith, nat_tests, test) in
    c.unsignal.ensures
    ∙ after_one (state_answers c.args.state.now) (SetSemaphoreState c.args.semaphore c.args.signalled) (unsignals c.args.semaphore)
    (ap (λ (t : Bool). (if t then signals c.args.semaphore else unsignals c.args.semaphore) ∷ []) is)
