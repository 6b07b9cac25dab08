use Rattle.std.proofs.Common.{◌≡◌, ◌+◌, arith, subst, sym, ◌∙◌, get_or}
use Rattle.std.specs.Prelude.{Contains, IsTrue}
use Rattle.std.proofs.lemmas.List.{get_or_default}
use Rattle.gfx_io.proofs.Counted.{listed_more, listed_still}
use Rattle.gfx_io.proofs.memory.next_call_fails.Goals as goal

pub returns-in-Some-clause-failed : goal.returns-in-Some-clause-failed
returns-in-Some-clause-failed c fails =
    let one = c.in-Some.ensures.1 in
    let here : Contains c.args.failing.now (c.args.calls.now + 1) = subst (λ n. Contains c.args.failing.now n) one (c.is_listed.ensures.0 fails) in
    rw one (listed_more c.args.failing.now c.args.calls.now here)

pub returns-in-Some-clause-still : goal.returns-in-Some-clause-still
returns-in-Some-clause-still c passes =
    let one = c.in-Some.ensures.1 in
    rw one (listed_still c.args.failing.now c.args.calls.now (λ here.
    let listed : IsTrue c.is_listed.result = c.is_listed.ensures.1 (subst (λ n. Contains c.args.failing.now n) (sym one) here) in
    cc (sym passes ∙ listed)))

pub returns-in-None-clause-listed : goal.returns-in-None-clause-listed
returns-in-None-clause-listed c = (
  λ no. cc no,
  λ (k, within, same).
      let small = c.type_inv.failing k in
      let is : get_or c.args.failing.now k 0 ≡ c.args.calls.now + 1 = get_or_default c.args.failing.now k 0 (c.args.calls.now + 1) within ∙ same in
      absurd (c.in-None.ensures (omega (arith, small, is))),
)
