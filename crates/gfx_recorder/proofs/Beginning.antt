-- Before the first phase.
use Rattle.std.proofs.Common.{◌≡◌, ℕ, zero, suc, ◌+◌, ◌<◌, ◌≤◌, List, [], ◌∷◌, length, map, get_or, All, sym, refl, ap, ◌∙◌, subst, arith}
use Rattle.std.proofs.lemmas.List.{length-map, get_or-map}
use Rattle.std.proofs.lemmas.List.Elements.{All-get_or}
use Rattle.atomic_table.specs.Seated.{TableId}
use Rattle.gfx_script_model.specs.Runs.{Entry}
use Rattle.gfx_seats.specs.declared.hand.Hand.{Hand}
use Rattle.gfx_seats.specs.Entries.{times}
use Rattle.gfx_seats.specs.Hand.{fresh, fresh_from}
use Rattle.gfx_seats.specs.Seat.{hand, desk_of}
use Rattle.gfx_recorder.specs.Begun.{APass, new_worker}
use Rattle.gfx_recorder.specs.Progress.{MadeOfDrawn, IsBetween, AreNew}

fresh-at : (m n t i : ℕ) (d : Hand Entry) → i < n → get_or (fresh_from m t n) i d ≡ fresh m (t + i)
fresh-at m zero t i d less = absurd (omega arith)
fresh-at m (suc n) t zero d less = let e : t ≡ t + 0 = omega arith in ap (fresh m) e
fresh-at m (suc n) t (suc i) d less = let e : t + 1 + i ≡ t + suc i = omega arith in fresh-at m n (t + 1) i d (omega arith) ∙ ap (fresh m) e

fresh-long : (m n t : ℕ) → length (fresh_from {E = Entry} m t n) ≡ n
fresh-long m zero t = refl
fresh-long m (suc n) t = let r = fresh-long m n (t + 1) in omega arith

module _ (m n : ℕ) (desk : TableId) (ps : List APass) (at : All (λ p. desk_of p ≡ desk) ps) (are : map (λ p. hand p) ps ≡ fresh_from m 0 n) where
  pub long : length (map (new_worker m) ps) ≡ n
  long = length-map ps (new_worker m) ∙ (sym (length-map ps (λ (p : APass). hand p)) ∙ (ap length are ∙ fresh-long m n 0))

  pub all-new : AreNew m desk (map (new_worker m) ps)
  all-new i d less =
      let count = length-map ps (new_worker m) in
      let here : i < length ps = omega arith in
      let p = get_or ps i d.pass in
      let worker : get_or (map (new_worker m) ps) i d ≡ new_worker m p = get_or-map (new_worker m) ps i d.pass d here in
      let shows : hand p ≡ fresh m i = sym (get_or-map (λ (p : APass). hand p) ps i d.pass (hand d.pass) here) ∙ (ap (λ l. get_or l i (hand d.pass)) are ∙ (fresh-at m n 0 i (hand d.pass) (let a = long in omega arith) ∙ (let e : 0 + i ≡ i = omega arith in ap (fresh m) e))) in
      subst (IsBetween m desk i [] (0 ∷ [])) (sym worker) record {
        desk_is = All-get_or (λ p. desk_of p ≡ desk) ps i d.pass here at;
        thread = ap (λ h. h.thread) shows;
        kind = ap (λ h. h.kind) shows;
        idle = ap (λ h. h.stage) shows;
        minor = refl;
        empty = refl;
        seen = ap (λ h. h.seen) shows;
        once = λ x. subst (λ l. times x l ≤ 1) (sym (ap (λ h. h.drawn) shows)) (omega arith);
        drew = λ x. subst (λ h. MadeOfDrawn h) (sym shows) (λ y. omega arith) x;
        few = subst (λ l. length l < 1) (sym (ap (λ h. h.drawn) shows)) (omega arith);
      }
