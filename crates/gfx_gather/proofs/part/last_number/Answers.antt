use Rattle.std.proofs.Common.{◌≡◌, ℕ, zero, suc, ◌-◌, List, [], ◌∷◌, map, length, slice_get, Some, refl, subst, sym, arith}
use Rattle.gfx_script.specs.Line.{line_of}
use Rattle.gfx_script.specs.declared.line.Line.{Line}
use Rattle.gfx_shadow.specs.Gathered.{last_number}
use Rattle.gfx_gather.proofs.part.last_number.Goals as goal

last-is : (lines : List Line) (n : ℕ) (l : Line) → n ≡ length lines - 1 → slice_get lines n ≡ Some l → l.number ≡ last_number (map line_of lines)
last-is [] n l e h = absurd cc
last-is (k ∷ []) zero l e h = cc
last-is (k ∷ []) (suc n) l e h = absurd (omega arith)
last-is (k ∷ j ∷ ks) zero l e h = absurd (omega arith)
last-is (k ∷ j ∷ ks) (suc n) l e h = last-is (j ∷ ks) n l (omega arith) h

pub returns-in-Some : goal.returns-in-Some
returns-in-Some c =
    last-is c.args.part.now.lines _ c.in-Some.line.now refl
    (subst (λ xs. slice_get xs (length xs - 1) ≡ Some c.in-Some.line.now) c.items.ensures (sym c.in-Some.ensures.value))
