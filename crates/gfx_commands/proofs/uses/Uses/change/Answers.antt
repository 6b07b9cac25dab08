use Rattle.std.proofs.Common.{◌≡◌, ◌&&◌, refl, ap, sym, ◌∙◌, subst, Bool, arith, ◌++◌, ◌∷◌, []}
use Rattle.std.specs.Prelude.{unwrap_or}
use Rattle.std.specs.FinMap as map
use Rattle.gfx_model.specs.Checks.Layouts.{goes}
use Rattle.gfx_commands.specs.Uses.{IsIndex, plain, use_of, gone, lets_go}
use Rattle.gfx_commands.proofs.Index.{gone_index}
use Rattle.gfx_commands.proofs.Places.{places_put}
use Rattle.gfx_commands.proofs.uses.Uses.change.Goals as goal
use Rattle.gfx_commands.proofs.uses.Uses.change.Goals.{then-self, else-self}

pub returns-after-self-clause-index : goal.returns-after-self-clause-index
returns-after-self-clause-index c = λ named asks index.
    let s = c.args.self.now in
    let x = c.args.image in
    let u = use_of s.table.map x in
    let here : c.in-Some.used.now ≡ u = ap (λ o. unwrap_or o plain) c.in-Some.ensures.value in
    let is = ap (map.insert s.table.map x) (c.gone.ensures ∙ ap (λ u. gone u c.args.before c.args.after) here) in
    let agrees : c.if-self.self ≡ (s.agrees && lets_go u c.args.before) =
    let same = ap (λ u. lets_go u c.args.before) here in
    elim c.if-self.branch [
      | then-self w ↦ (let a = w.self-is in let b = w.if-self.true in let d = w.lets_go-self.ensures in grind (arith, a, b, d, same))
      | else-self w ↦ (let a = w.self-is in let b = w.if-self.false in grind (arith, a, b))
    ] in
    let P = λ (a : Bool). IsIndex (map.insert s.table.map x c.gone.result) a (named ++ x ∷ []) (asks ++ goes x c.args.before c.args.after ∷ []) in
    subst P (sym agrees) (gone_index s.table.map s.agrees named asks index x c.args.before c.args.after (map.insert s.table.map x c.gone.result) is)

pub returns-after-self-clause-places : goal.returns-after-self-clause-places
returns-after-self-clause-places c = λ rest places. places_put c.args.self.now.table _ c.args.image c.gone.result rest refl refl places

pub returns-in-None-clause-index : goal.returns-in-None-clause-index
returns-in-None-clause-index c = λ named asks index.
    let s = c.args.self.now in
    let x = c.args.image in
    let u = use_of s.table.map x in
    let none : u ≡ plain = ap (λ o. unwrap_or o plain) (sym c.in-None.ensures.value) in
    let is = c.set.ensures.map ∙ ap (map.insert s.table.map x) (c.gone-in-None.ensures ∙ ap (λ u. gone u c.args.before c.args.after) (c.none.ensures ∙ sym none)) in
    let agrees : s.agrees ≡ (s.agrees && lets_go u c.args.before) = let free = ap (λ u. lets_go u c.args.before) none in grind (arith, free) in
    let P = λ (a : Bool). IsIndex c.set.new.self.map a (named ++ x ∷ []) (asks ++ goes x c.args.before c.args.after ∷ []) in
    subst P (sym agrees) (gone_index s.table.map s.agrees named asks index x c.args.before c.args.after c.set.new.self.map is)
