use Rattle.std.proofs.Common.{◌≡◌, ◌&&◌, refl, ap, sym, ◌∙◌, subst, Bool, arith, ◌++◌, ◌∷◌, []}
use Rattle.std.specs.Prelude.{unwrap_or}
use Rattle.std.specs.FinMap as map
use Rattle.gfx_model.specs.Checks.Layouts.{stays}
use Rattle.gfx_commands.specs.Uses.{IsIndex, plain, use_of, asked, accepts}
use Rattle.gfx_commands.proofs.Index.{asked_index}
use Rattle.gfx_commands.proofs.Places.{places_put}
use Rattle.gfx_commands.proofs.uses.Uses.ask.Goals as goal
use Rattle.gfx_commands.proofs.uses.Uses.ask.Goals.{then-self, else-self}

pub returns-after-self-clause-index : goal.returns-after-self-clause-index
returns-after-self-clause-index c = λ named asks index.
    let s = c.args.self.now in
    let x = c.args.image in
    let u = use_of s.table.map x in
    let here : c.in-Some.used.now ≡ u = ap (λ o. unwrap_or o plain) c.in-Some.ensures.value in
    let is = ap (map.insert s.table.map x) (c.asked.ensures ∙ ap (λ u. asked u c.args.layout) here) in
    let agrees : c.if-self.self ≡ (s.agrees && accepts u c.args.layout) =
    let same = ap (λ u. accepts u c.args.layout) here in
    elim c.if-self.branch [
      | then-self w ↦ (let a = w.self-is in let b = w.if-self.true in let d = w.accepts-self.ensures in grind (arith, a, b, d, same))
      | else-self w ↦ (let a = w.self-is in let b = w.if-self.false in grind (arith, a, b))
    ] in
    let P = λ (a : Bool). IsIndex (map.insert s.table.map x c.asked.result) a (named ++ x ∷ []) (asks ++ stays x c.args.layout ∷ []) in
    subst P (sym agrees) (asked_index s.table.map s.agrees named asks index x c.args.layout (map.insert s.table.map x c.asked.result) is)

pub returns-after-self-clause-places : goal.returns-after-self-clause-places
returns-after-self-clause-places c = λ rest places. places_put c.args.self.now.table _ c.args.image c.asked.result rest refl refl places

pub returns-in-None-clause-index : goal.returns-in-None-clause-index
returns-in-None-clause-index c = λ named asks index.
    let s = c.args.self.now in
    let x = c.args.image in
    let u = use_of s.table.map x in
    let none : u ≡ plain = ap (λ o. unwrap_or o plain) (sym c.in-None.ensures.value) in
    let is = c.set.ensures.map ∙ ap (map.insert s.table.map x) (c.asked-in-None.ensures ∙ ap (λ u. asked u c.args.layout) (c.none.ensures ∙ sym none)) in
    let agrees : s.agrees ≡ (s.agrees && accepts u c.args.layout) = let free = ap (λ u. accepts u c.args.layout) none in grind (arith, free) in
    let P = λ (a : Bool). IsIndex c.set.new.self.map a (named ++ x ∷ []) (asks ++ stays x c.args.layout ∷ []) in
    subst P (sym agrees) (asked_index s.table.map s.agrees named asks index x c.args.layout c.set.new.self.map is)
