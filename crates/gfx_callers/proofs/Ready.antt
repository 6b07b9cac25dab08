-- The passes of a new capture are ready.
use Rattle.std.proofs.Common.{◌≡◌, ℕ, zero, suc, ◌+◌, All, List, [], ◌∷◌, map, ap}
use Rattle.std.proofs.lemmas.List.Elements.{All-nil, All-cons}
use Rattle.gfx_script_model.specs.Runs.{Entry}
use Rattle.gfx_seats.specs.declared.hand.Hand.{Hand}
use Rattle.gfx_seats.specs.Hand.{fresh, fresh_from}
use Rattle.gfx_callers.specs.Caller.{IsReady}

module _ {P : Type 0} (f : P → Hand Entry) where
  pub ready : (l : List P) (t n : ℕ) → map f l ≡ fresh_from 1 t n → All (λ p. IsReady (f p)) l
  ready [] t n e = All-nil (λ p. IsReady (f p))
  ready (x ∷ l) t zero e = absurd cc
  ready (x ∷ l) t (suc n) e = let first : f x ≡ fresh 1 t = cc in let rest : map f l ≡ fresh_from 1 (t + 1) n = cc in
      All-cons (λ p. IsReady (f p)) x l record { stage = ap (λ h. h.stage) first; kind = ap (λ h. h.kind) first; drawn = ap (λ h. h.drawn) first } (ready l (t + 1) n rest)
