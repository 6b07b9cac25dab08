use Rattle.std.proofs.Common.{ap, ◌∙◌}
use Rattle.std.specs.FinMap as map
use Rattle.gfx_table.specs.Joined.{joined}
use Rattle.gfx_table.specs.Slotted.{filled}
use Rattle.gfx_table.proofs.Slotting.{put_slot, put_rest, may_take, new_nowhere}
use Rattle.gfx_table.proofs.slotted.Slotted.insert.Goals as goal

pub invariant_of-self : goal.invariant_of-self
invariant_of-self g c =
    let s = c.self.inside in
    let new = ap (λ s. map.get s.map c.args.id) c.self.view_is ∙ c.requires.new in
    let can = may_take s.mask s.displaced s.slots.items s.rest.map c.self.invariant.0 c.first_of-first.result c.in-Some.slot c.args.id c.first_of-first.ensures new
    c.in-Some.ensures.group (rw c.deref.ensures.value at c.in-Some.ensures.inside) (rw c.deref.ensures.value at c.in-Some.ensures.free) in
    let put = put_slot s.mask s.displaced c.displaces-self-inside.result s.slots.items s.rest.map c.first_of-first.result c.in-Some.slot c.args.id c.args.row c.self.invariant.0 c.first_of-first.ensures can c.displaces-self-inside.ensures in
    (rw c.put.ensures.slots put.0, c.put.ensures.taken c.self.invariant.1)

pub returns-in-Some-clause-map : goal.returns-in-Some-clause-map
returns-in-Some-clause-map g c =
    let s = c.self.inside in
    let new = ap (λ s. map.get s.map c.args.id) c.self.view_is ∙ c.requires.new in
    let can = may_take s.mask s.displaced s.slots.items s.rest.map c.self.invariant.0 c.first_of-first.result c.in-Some.slot c.args.id c.first_of-first.ensures new
    c.in-Some.ensures.group (rw c.deref.ensures.value at c.in-Some.ensures.inside) (rw c.deref.ensures.value at c.in-Some.ensures.free) in
    let put = put_slot s.mask s.displaced c.displaces-self-inside.result s.slots.items s.rest.map c.first_of-first.result c.in-Some.slot c.args.id c.args.row c.self.invariant.0 c.first_of-first.ensures can c.displaces-self-inside.ensures in
    ap (λ slots. joined (filled slots) s.rest.map) c.put.ensures.slots ∙ put.1 ∙ ap (λ s. map.insert s.map c.args.id c.args.row) c.self.view_is

pub invariant_of-self-in-None : goal.invariant_of-self-in-None
invariant_of-self-in-None g c =
    let s = c.self.inside in
    let new = ap (λ s. map.get s.map c.args.id) c.self.view_is ∙ c.requires.new in
    let none = new_nowhere s.mask s.displaced s.slots.items s.rest.map c.self.invariant.0 c.args.id new in
    let put = put_rest s.mask s.displaced s.slots.items s.rest.map c.first_of-first.result c.args.id c.args.row c.self.invariant.0 c.first_of-first.ensures (λ slot within. none slot) in
    (rw c.set.ensures.map put.0, c.self.invariant.1)

pub returns-in-None-clause-map : goal.returns-in-None-clause-map
returns-in-None-clause-map g c =
    let s = c.self.inside in
    let new = ap (λ s. map.get s.map c.args.id) c.self.view_is ∙ c.requires.new in
    let none = new_nowhere s.mask s.displaced s.slots.items s.rest.map c.self.invariant.0 c.args.id new in
    let put = put_rest s.mask s.displaced s.slots.items s.rest.map c.first_of-first.result c.args.id c.args.row c.self.invariant.0 c.first_of-first.ensures (λ slot within. none slot) in
    ap (joined (filled s.slots.items)) c.set.ensures.map ∙ put.1 ∙ ap (λ s. map.insert s.map c.args.id c.args.row) c.self.view_is
