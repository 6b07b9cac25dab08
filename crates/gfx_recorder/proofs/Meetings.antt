-- Workers that meet: what each has seen afterwards.
use Rattle.std.proofs.Common.{◌≡◌, ◌≢◌, ◌⊎◌, ℕ, zero, suc, ◌+◌, ◌<◌, List, [], ◌∷◌, ◌++◌, length, get_or, set, sym, ap, ◌∙◌, subst, arith, append-nil, length-append, get_or-set_same, get_or-set_other, inl, inr}
use Rattle.std.proofs.lemmas.List.{nil_from_length, length-set, get_or_default}
use mathlib.Core.Logic.{dite}
use mathlib.Core.List.{IsPrefix}
use native.Mathlib.Decide.{ℕ_discrete}
use Rattle.gfx_script_model.specs.Runs.{Entry}
use Rattle.gfx_seats.specs.Seat.{desk_of}
use Rattle.gfx_recorder.specs.declared.worker.Worker.{Worker}
use Rattle.gfx_recorder.specs.Work.{hand_of}
use Rattle.gfx_recorder.specs.Workers.{has_seen, SeesMore, Swept, Met}
use Rattle.gfx_recorder.proofs.Going.{prefix-through}

itself : {A : Type 0} (xs : List A) → IsPrefix xs xs
itself xs = ([], append-nil xs)

prefix-both : {A : Type 0} (xs ys : List A) → IsPrefix xs ys → IsPrefix ys xs → xs ≡ ys
prefix-both xs ys p q =
    let a = ap length p.1 in let b = ap length q.1 in let c = length-append xs p.0 in let d = length-append ys q.0 in
    let none : p.0 ≡ [] = nil_from_length p.0 (omega arith) in sym (append-nil xs) ∙ (ap (λ l. xs ++ l) (sym none) ∙ p.1)

-- a worker whose pass has seen this
pub sees-more : (w w' : Worker) (log : List Entry) (known : ℕ) → desk_of w'.pass ≡ desk_of w.pass → w'.buffer ≡ w.buffer → hand_of w' ≡ has_seen (hand_of w) log known → IsPrefix (hand_of w).seen log → SeesMore w w'
sees-more w w' log known desk buffer same before =
    let seen : (hand_of w').seen ≡ log = ap (λ h. h.seen) same in let k : (hand_of w').known ≡ known = ap (λ h. h.known) same in record {
      desk_is = desk;
      buffer = buffer;
      same = same ∙ (λ i. has_seen (hand_of w) (sym seen i) (sym k i));
      before = subst (IsPrefix (hand_of w).seen) (sym seen) before;
    }

pub sees-again : (w w' w'' : Worker) → SeesMore w w' → SeesMore w' w'' → SeesMore w w''
sees-again w w' w'' a b = record {
  desk_is = b.desk_is ∙ a.desk_is;
  buffer = b.buffer ∙ a.buffer;
  same = b.same ∙ ap (λ h. has_seen h (hand_of w'').seen (hand_of w'').known) a.same;
  before = prefix-through (hand_of w).seen (hand_of w').seen (hand_of w'').seen a.before b.before;
}

module _ (f : Worker) (ws : List Worker) (f₁ : Worker) (ws₁ : List Worker) (i : ℕ) (item : Worker) (s : Swept i f ws f₁ ws₁) (less : i < length ws₁)
    (f₂ w₂ : Worker) (first : SeesMore f₁ f₂) (other : SeesMore (get_or ws₁ i item) w₂) (seen : (hand_of w₂).seen ≡ (hand_of f₂).seen)
    (longer : ((hand_of f₂).seen ≡ (hand_of f₁).seen) ⊎ ((hand_of f₂).seen ≡ (hand_of (get_or ws₁ i item)).seen)) where
  less-at-first : i < length ws
  less-at-first = let a = s.len in omega arith

  here : (d : Worker) → get_or ws₁ i item ≡ get_or ws i d
  here d = get_or_default ws₁ i item d less ∙ s.rest i d (omega arith)

  now : (k : ℕ) (d : Worker) → k ≡ i → get_or (set ws₁ i w₂) k d ≡ w₂
  now k d e = ap (λ j. get_or (set ws₁ i w₂) j d) e ∙ get_or-set_same ws₁ i w₂ d less

  at-here : (k : ℕ) (d : Worker) → k ≡ i → SeesMore (get_or ws k d) (get_or (set ws₁ i w₂) k d) × IsPrefix (hand_of (get_or (set ws₁ i w₂) k d)).seen (hand_of f₂).seen
  at-here k d e = subst (λ (w : Worker). SeesMore (get_or ws k d) w × IsPrefix (hand_of w).seen (hand_of f₂).seen) (sym (now k d e))
      (subst (λ (w : Worker). SeesMore w w₂) (here d ∙ sym (ap (λ j. get_or ws j d) e)) other, subst (IsPrefix (hand_of w₂).seen) seen (itself (hand_of w₂).seen))

  at-other : (k : ℕ) (d : Worker) → k < i + 1 → k ≢ i → SeesMore (get_or ws k d) (get_or (set ws₁ i w₂) k d) × IsPrefix (hand_of (get_or (set ws₁ i w₂) k d)).seen (hand_of f₂).seen
  at-other k d h e = let m = s.met k d (omega arith) in subst (λ (w : Worker). SeesMore (get_or ws k d) w × IsPrefix (hand_of w).seen (hand_of f₂).seen) (sym (get_or-set_other ws₁ i k w₂ d e))
      (m.0, prefix-through (hand_of (get_or ws₁ k d)).seen (hand_of f₁).seen (hand_of f₂).seen m.1 first.before)

  -- where the first had seen as much as the others, it sees no more
  f-stays : ((k : ℕ) (d : Worker) → k < length ws → IsPrefix (hand_of (get_or ws k d)).seen (hand_of f).seen) → (hand_of f₁).seen ≡ (hand_of f).seen → (hand_of f₂).seen ≡ (hand_of f).seen
  f-stays all same = go longer
    where
      go : ((hand_of f₂).seen ≡ (hand_of f₁).seen) ⊎ ((hand_of f₂).seen ≡ (hand_of (get_or ws₁ i item)).seen) → (hand_of f₂).seen ≡ (hand_of f).seen
      go (inl e) = e ∙ same
      go (inr e) = prefix-both (hand_of f₂).seen (hand_of f).seen
          (subst (λ l. IsPrefix l (hand_of f).seen) (sym (e ∙ ap (λ (w : Worker). (hand_of w).seen) (here item))) (all i item less-at-first))
          (subst (λ l. IsPrefix l (hand_of f₂).seen) same first.before)

  pub met-one : Swept (i + 1) f ws f₂ (set ws₁ i w₂)
  met-one = record {
    first = sees-again f f₁ f₂ s.first first;
    len = length-set ws₁ i w₂ ∙ s.len;
    met = λ k d h. dite (ℕ_discrete k i) (λ e. at-here k d e) (λ e. at-other k d h e);
    rest = λ k d h. get_or-set_other ws₁ i k w₂ d (λ e. absurd (omega arith)) ∙ s.rest k d (omega arith);
    still = λ all. let t = s.still all in let f-is = f-stays all t.0 in
        (f-is, λ k d h. dite (ℕ_discrete k i) (λ e. ap (λ (w : Worker). (hand_of w).seen) (now k d e) ∙ (seen ∙ f-is)) (λ e. ap (λ (w : Worker). (hand_of w).seen) (get_or-set_other ws₁ i k w₂ d e) ∙ t.1 k d (omega arith)));
  }

-- two sweeps, and all have seen what the first had after the first one
pub all-met : (f : Worker) (ws : List Worker) (f₁ : Worker) (ws₁ : List Worker) (f₂ : Worker) (ws₂ : List Worker) → Swept (length ws) f ws f₁ ws₁ → Swept (length ws₁) f₁ ws₁ f₂ ws₂ → Met (f ∷ ws) (f₂ ∷ ws₂)
all-met f ws f₁ ws₁ f₂ ws₂ a b = record {
  log = (hand_of f₁).seen;
  len = let x = a.len in let y = b.len in omega arith;
  met = go;
}
  where
    still : ((hand_of f₂).seen ≡ (hand_of f₁).seen) × ((k : ℕ) (d : Worker) → k < length ws₁ → (hand_of (get_or ws₂ k d)).seen ≡ (hand_of f₁).seen)
    still = b.still (λ k d h. let l = a.len in (a.met k d (omega arith)).1)

    go : (k : ℕ) (d : Worker) → k < length (f ∷ ws) → SeesMore (get_or (f ∷ ws) k d) (get_or (f₂ ∷ ws₂) k d) × ((hand_of (get_or (f₂ ∷ ws₂) k d)).seen ≡ (hand_of f₁).seen)
    go zero d h = (sees-again f f₁ f₂ a.first b.first, still.0)
    go (suc k) d h = let l = a.len in (sees-again (get_or ws k d) (get_or ws₁ k d) (get_or ws₂ k d) (a.met k d (omega arith)).0 (b.met k d (omega arith)).0, still.1 k d (omega arith))
