use Rattle.std.proofs.Common.{◌≤◌, IsSome, refl, ap, sym, ◌∙◌, subst, arith}
use Rattle.std.specs.FinMap as map
use Rattle.gfx_table.specs.Joined.{joined}
use Rattle.gfx_table.specs.Slotted.{filled}
use Rattle.gfx_table.proofs.Slotting.{got_rest, put_slot, put_rest}
use Rattle.gfx_table.proofs.slotted.Slotted.set.Goals as goal

pub invariant_of-self : goal.invariant_of-self
invariant_of-self g c =
    let can = rw c.deref.ensures.value at c.in-Some.ensures.some in
    let put = put_slot c.self.inside.mask c.self.inside.displaced c.displaces-self-inside.result c.self.inside.slots.items c.self.inside.rest.map c.first_of-first.result c.in-Some.slot c.args.id c.args.row c.self.invariant.0 c.first_of-first.ensures can c.displaces-self-inside.ensures in
    (rw c.put.ensures.slots put.0, c.put.ensures.taken c.self.invariant.1)

pub set-requires : goal.set-requires
set-requires g c h =
    let none = rw c.deref.ensures.value at (c.in-None.ensures.none refl) in
    let got = got_rest c.self.inside.mask c.self.inside.displaced c.self.inside.slots.items c.self.inside.rest.map c.self.invariant.0 c.first_of-first.result c.args.id c.first_of-first.ensures none in
    let spare : 1 ≤ c.args.self.now.spare = c.requires (sym (got ∙ ap (λ s. map.get s.map c.args.id) c.self.view_is) ∙ h) in
    let is = ap (λ s. s.spare) c.self.view_is in
    omega (arith, spare, is)

pub invariant_of-self-in-None : goal.invariant_of-self-in-None
invariant_of-self-in-None g c =
    let none = rw c.deref.ensures.value at (c.in-None.ensures.none refl) in
    let put = put_rest c.self.inside.mask c.self.inside.displaced c.self.inside.slots.items c.self.inside.rest.map c.first_of-first.result c.args.id c.args.row c.self.invariant.0 c.first_of-first.ensures none in
    (rw c.set.ensures.map put.0, c.self.invariant.1)

pub returns-in-Some-clause-map : goal.returns-in-Some-clause-map
returns-in-Some-clause-map g c =
    let can = rw c.deref.ensures.value at c.in-Some.ensures.some in
    let put = put_slot c.self.inside.mask c.self.inside.displaced c.displaces-self-inside.result c.self.inside.slots.items c.self.inside.rest.map c.first_of-first.result c.in-Some.slot c.args.id c.args.row c.self.invariant.0 c.first_of-first.ensures can c.displaces-self-inside.ensures in
    ap (λ slots. joined (filled slots) c.self.inside.rest.map) c.put.ensures.slots ∙ put.1 ∙ ap (λ s. map.insert s.map c.args.id c.args.row) c.self.view_is

pub returns-in-None-clause-map : goal.returns-in-None-clause-map
returns-in-None-clause-map g c =
    let none = rw c.deref.ensures.value at (c.in-None.ensures.none refl) in
    let put = put_rest c.self.inside.mask c.self.inside.displaced c.self.inside.slots.items c.self.inside.rest.map c.first_of-first.result c.args.id c.args.row c.self.invariant.0 c.first_of-first.ensures none in
    ap (joined (filled c.self.inside.slots.items)) c.set.ensures.map ∙ put.1 ∙ ap (λ s. map.insert s.map c.args.id c.args.row) c.self.view_is

pub returns-in-None-clause-kept : goal.returns-in-None-clause-kept
returns-in-None-clause-kept g c h =
    let none = rw c.deref.ensures.value at (c.in-None.ensures.none refl) in
    let got = got_rest c.self.inside.mask c.self.inside.displaced c.self.inside.slots.items c.self.inside.rest.map c.self.invariant.0 c.first_of-first.result c.args.id c.first_of-first.ensures none in
    let kept = c.set.ensures.kept (subst IsSome (sym (got ∙ ap (λ s. map.get s.map c.args.id) c.self.view_is)) h) in
    let is = ap (λ s. s.spare) c.self.view_is in
    omega (arith, kept, is)
