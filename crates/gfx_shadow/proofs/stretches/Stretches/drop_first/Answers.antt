use Rattle.std.proofs.Common.{◌∙◌, sym, ap, subst, is_some, inl, inr, arith}
use Rattle.std.specs.FinMap as map
use Rattle.gfx_shadow.specs.ByEnd.{byte_of, AreApart}
use Rattle.gfx_shadow.proofs.Keys.{least_there, inserted}
use Rattle.gfx_shadow.proofs.ByEnd.{none_at_all, dropped_of, cut_apart, less_apart, empty_bytes, remove_set}
use Rattle.gfx_shadow.proofs.stretches.Stretches.drop_first.Goals as goal

pub replace-requires : goal.replace-requires
replace-requires c = λ none. absurd (let a = least_there c.args.self.now.by_end.map 0 c.in-Some.key (sym c.in-Some.ensures) in let b = ap is_some none in cc)

pub set-requires : goal.set-requires
set-requires c = λ none. absurd (
    let a = sym (ap (λ m. map.get m c.in-Some.key) c.replace.ensures.map ∙ inserted c.args.self.now.by_end.map c.in-Some.key c.new.result) ∙ none in cc)

pub invariant_of-self : goal.invariant_of-self
invariant_of-self c =
    let m = c.args.self.now.by_end.map in let key = c.in-Some.key in let t = c.drop_first.new.self in
    record {
      are_apart = (cut_apart m key c.in-Some-replace.stretch t c.new.result c.set.new.self.map c.args.self.now.are_apart (sym c.in-Some-replace.ensures.value) c.drop_first.ensures.start c.drop_first.ensures.end
          c.if-stretch.true (c.set.ensures.map ∙ ap (λ x. map.insert x key t) c.replace.ensures.map)).0;
    }

pub returns-then-stretch : goal.returns-then-stretch
returns-then-stretch c =
    let m = c.args.self.now.by_end.map in let are = c.args.self.now.are_apart in let key = c.in-Some.key in let s = c.in-Some-replace.stretch in let t = c.drop_first.new.self in
    let here = sym c.in-Some-replace.ensures.value in
    inl (dropped_of m key s are here (sym c.in-Some.ensures) c.set.new.self.map t c.drop_first.ensures.dropped
    (cut_apart m key s t c.new.result c.set.new.self.map are here c.drop_first.ensures.start c.drop_first.ensures.end c.if-stretch.true (c.set.ensures.map ∙ ap (λ x. map.insert x key t) c.replace.ensures.map)).1)

pub invariant_of-self-else-stretch : goal.invariant_of-self-else-stretch
invariant_of-self-else-stretch c =
    let m = c.args.self.now.by_end.map in let key = c.in-Some.key in
    let is = c.remove-stretch.ensures.map ∙ ap (λ x. map.remove x key) c.replace.ensures.map ∙ remove_set m key c.new.result in
    record { are_apart = subst AreApart (sym is) (less_apart m key c.in-Some-replace.stretch c.args.self.now.are_apart (sym c.in-Some-replace.ensures.value)) }

pub returns-else-stretch : goal.returns-else-stretch
returns-else-stretch c =
    let m = c.args.self.now.by_end.map in let key = c.in-Some.key in let t = c.drop_first.new.self in
    let is = c.remove-stretch.ensures.map ∙ ap (λ x. map.remove x key) c.replace.ensures.map ∙ remove_set m key c.new.result in
    let none = c.if-stretch.false in
    inl (dropped_of m key c.in-Some-replace.stretch c.args.self.now.are_apart (sym c.in-Some-replace.ensures.value) (sym c.in-Some.ensures) c.remove-stretch.new.self.map t c.drop_first.ensures.dropped
    (ap byte_of is ∙ sym (empty_bytes t (byte_of (map.remove m key)) (omega (arith, none)))))

pub invariant_of-self-in_default-replace : goal.invariant_of-self-in_default-replace
invariant_of-self-in_default-replace c =
    absurd (let a = least_there c.args.self.now.by_end.map 0 c.in-Some.key (sym c.in-Some.ensures) in let b = ap is_some c.in_default-replace.ensures.value in cc)

pub returns-in_default-replace : goal.returns-in_default-replace
returns-in_default-replace c =
    absurd (let a = least_there c.args.self.now.by_end.map 0 c.in-Some.key (sym c.in-Some.ensures) in let b = ap is_some c.in_default-replace.ensures.value in cc)

pub returns-in_default : goal.returns-in_default
returns-in_default c =
    let none = none_at_all c.args.self.now.by_end.map c.args.self.now.are_apart (sym c.in_default.ensures) in inr (none, none)
