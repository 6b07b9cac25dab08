-- The index after one more resource is named, asked for, or taken to another layout.
use Rattle.std.proofs.Common.{◌≡◌, ℕ, ◌==◌, Bool, true, false, ◌&&◌, ◌||◌, List, [], ◌∷◌, ◌++◌, Option, Some, None, is_some, unwrap_or, if◌then◌else◌, refl, ap, sym, ◌∙◌, arith}
use Rattle.std.specs.Ordering.{nat_cmp}
use Rattle.std.specs.FinMap as map
use Rattle.std.specs.FinMap.{FinMap, get-empty}
use Rattle.std.proofs.lemmas.Bool.Decides.{nat_tests}
use Rattle.std.proofs.lemmas.List.Folds.{list_any-append}
use Rattle.gfx_table.specs.Rows.{got-insert}
use Rattle.gfx_model.specs.Checks.{Layouts, meets, layouts_after, is_among, but}
use Rattle.gfx_model.specs.Checks.Layouts.{stays, goes}
use Rattle.gfx_commands.specs.declared.uses.Use.{Use}
use Rattle.gfx_commands.specs.Uses.{IsIndex, plain, use_of, suits, accepts, asked, lets_go, gone}

-- ---- asks one after the other

pub layouts_after-append : (layout : ℕ → ℕ) (xs ys : List Layouts) → layouts_after layout (xs ++ ys) ≡ layouts_after (layouts_after layout xs) ys
layouts_after-append layout [] ys = refl
layouts_after-append layout (stays i l ∷ xs) ys = layouts_after-append layout xs ys
layouts_after-append layout (goes i before after ∷ xs) ys = layouts_after-append (but i after layout) xs ys

and_assoc : (a b c : Bool) → (a && (b && c)) ≡ ((a && b) && c)
and_assoc true b c = refl
and_assoc false b c = refl

pub meets-append : (layout : ℕ → ℕ) (xs ys : List Layouts) → meets layout (xs ++ ys) ≡ (meets layout xs && meets (layouts_after layout xs) ys)
meets-append layout [] ys = refl
meets-append layout (stays i l ∷ xs) ys = ap (λ b. layout i == l && b) (meets-append layout xs ys) ∙ and_assoc (layout i == l) _ _
meets-append layout (goes i before after ∷ xs) ys =
    ap (λ b. (before == 0 || before == layout i) && b) (meets-append (but i after layout) xs ys) ∙ and_assoc (before == 0 || before == layout i) _ _

-- ---- one use

asked_met : (u : Use) (l now : ℕ) → unwrap_or u.left now ≡ l → suits u.wanted now ≡ true → (accepts u l ≡ true) × (suits (asked u l).wanted now ≡ true)
asked_met u l now is suit = cases u.left u.wanted refl refl
  where
    cases : (left wanted : Option ℕ) → u.left ≡ left → u.wanted ≡ wanted → (accepts u l ≡ true) × (suits (asked u l).wanted now ≡ true)
    cases None None a b = (grind (arith, nat_tests, a, b, is, suit), grind (arith, nat_tests, a, b, is, suit))
    cases None (Some w) a b = (grind (arith, nat_tests, a, b, is, suit), grind (arith, nat_tests, a, b, is, suit))
    cases (Some k) None a b = (grind (arith, nat_tests, a, b, is, suit), grind (arith, nat_tests, a, b, is, suit))
    cases (Some k) (Some w) a b = (grind (arith, nat_tests, a, b, is, suit), grind (arith, nat_tests, a, b, is, suit))

asked_enough : (u : Use) (l now : ℕ) → accepts u l ≡ true → suits (asked u l).wanted now ≡ true → (unwrap_or u.left now ≡ l) × (suits u.wanted now ≡ true)
asked_enough u l now ok suit = cases u.left u.wanted refl refl
  where
    cases : (left wanted : Option ℕ) → u.left ≡ left → u.wanted ≡ wanted → (unwrap_or u.left now ≡ l) × (suits u.wanted now ≡ true)
    cases None None a b = (grind (arith, nat_tests, a, b, ok, suit), grind (arith, nat_tests, a, b, ok, suit))
    cases None (Some w) a b = (grind (arith, nat_tests, a, b, ok, suit), grind (arith, nat_tests, a, b, ok, suit))
    cases (Some k) None a b = (grind (arith, nat_tests, a, b, ok, suit), grind (arith, nat_tests, a, b, ok, suit))
    cases (Some k) (Some w) a b = (grind (arith, nat_tests, a, b, ok, suit), grind (arith, nat_tests, a, b, ok, suit))

-- ---- the index

pub empty_index : (uses : FinMap nat_cmp Use) → uses ≡ map.empty → IsIndex uses true [] []
empty_index uses is =
    let none = λ (x : ℕ). ap (λ m. map.get m x) is ∙ get-empty nat_cmp x in
    record {
      members = λ x. ap is_some (none x);
      met = λ layout h. (refl, λ x. ap (λ o. suits (unwrap_or o plain).wanted (layout x)) (none x));
      enough = λ layout a h. refl;
      left = λ layout x. sym (ap (λ o. unwrap_or (unwrap_or o plain).left (layout x)) (none x));
    }

module _ (uses : FinMap nat_cmp Use) (agrees : Bool) (named : List ℕ) (asks : List Layouts) (index : IsIndex uses agrees named asks) (x : ℕ) where
  abbrev u : Use
  u = use_of uses x

  use_at : (now : FinMap nat_cmp Use) (v : Use) → now ≡ map.insert uses x v → (y : ℕ) → use_of now y ≡ (if x == y then v else use_of uses y)
  use_at now v is y =
      let at = ap (λ m. map.get m y) is ∙ ap (λ f. f y) (got-insert uses x v) in
      cases (x == y) refl at
    where
      cases : (t : Bool) → (x == y) ≡ t → map.get now y ≡ (if x == y then Some v else map.get uses y) → use_of now y ≡ (if x == y then v else use_of uses y)
      cases true e at = ap (λ o. unwrap_or o plain) (at ∙ ap (λ t. if t then Some v else map.get uses y) e) ∙ sym (ap (λ t. if t then v else use_of uses y) e)
      cases false e at = ap (λ o. unwrap_or o plain) (at ∙ ap (λ t. if t then Some v else map.get uses y) e) ∙ sym (ap (λ t. if t then v else use_of uses y) e)

  members_now : (now : FinMap nat_cmp Use) (v : Use) → now ≡ map.insert uses x v → (y : ℕ) → is_some (map.get now y) ≡ is_among y (named ++ x ∷ [])
  members_now now v is y =
      let at = ap (λ m. is_some (map.get m y)) is ∙ ap (λ f. is_some (f y)) (got-insert uses x v) in
      let among = list_any-append (λ z. z == y) named (x ∷ []) in
      let old = index.members y in
      grind (arith, nat_tests, at, among, old)

  pub named_index : (now : FinMap nat_cmp Use) → now ≡ map.insert uses x u → IsIndex now agrees (named ++ x ∷ []) asks
  named_index now is =
      let same = λ (y : ℕ). use_at now u is y ∙ if_same y in
      record {
        members = members_now now u is;
        met = λ layout h. ((index.met layout h).0, λ y. ap (λ v. suits v.wanted (layout y)) (same y) ∙ (index.met layout h).1 y);
        enough = λ layout a h. index.enough layout a (λ y. sym (ap (λ v. suits v.wanted (layout y)) (same y)) ∙ h y);
        left = λ layout y. index.left layout y ∙ sym (ap (λ v. unwrap_or v.left (layout y)) (same y));
      }
    where
      if_same : (y : ℕ) → (if x == y then u else use_of uses y) ≡ use_of uses y
      if_same y = let e : x ≡ y → use_of uses x ≡ use_of uses y = ap (use_of uses) in grind (arith, nat_tests, e)

  -- where it is under x, and where it stands elsewhere
  at_each : (now : FinMap nat_cmp Use) (v : Use) → now ≡ map.insert uses x v → (P : ℕ → Use → Bool) → P x v ≡ true
      → ((y : ℕ) → P y (use_of uses y) ≡ true) → (y : ℕ) → P y (use_of now y) ≡ true
  at_each now v is P here there y = ap (P y) (use_at now v is y) ∙ cases (x == y) refl
    where
      cases : (t : Bool) → (x == y) ≡ t → P y (if x == y then v else use_of uses y) ≡ true
      cases true e = let same : x ≡ y = grind (arith, nat_tests, e) in ap (λ t. P y (if t then v else use_of uses y)) e ∙ ap (λ z. P z v) (sym same) ∙ here
      cases false e = ap (λ t. P y (if t then v else use_of uses y)) e ∙ there y

  -- and back
  from_each : (now : FinMap nat_cmp Use) (v : Use) → now ≡ map.insert uses x v → (P : ℕ → Use → Bool) → ((y : ℕ) → P y (use_of now y) ≡ true)
      → P x (use_of uses x) ≡ true → (y : ℕ) → P y (use_of uses y) ≡ true
  from_each now v is P all here y = cases (x == y) refl
    where
      cases : (t : Bool) → (x == y) ≡ t → P y (use_of uses y) ≡ true
      cases true e = let same : x ≡ y = grind (arith, nat_tests, e) in ap (λ z. P z (use_of uses z)) (sym same) ∙ here
      cases false e = sym (ap (λ t. P y (if t then v else use_of uses y)) e) ∙ sym (ap (P y) (use_at now v is y)) ∙ all y

  now_here : (now : FinMap nat_cmp Use) (v : Use) → now ≡ map.insert uses x v → use_of now x ≡ v
  now_here now v is = use_at now v is x ∙ (let e : (x == x) ≡ true = grind (arith, nat_tests) in ap (λ t. if t then v else use_of uses x) e)

  module _ (layout : ℕ → ℕ) where
    suits_at : ℕ → Use → Bool
    suits_at y v = suits v.wanted (layout y)

    asked_split : (l : ℕ) → meets layout (asks ++ stays x l ∷ []) ≡ (meets layout asks && (layouts_after layout asks x == l && true))
    asked_split l = meets-append layout asks (stays x l ∷ [])

    asked_parts : (l : ℕ) → meets layout (asks ++ stays x l ∷ []) ≡ true → (meets layout asks ≡ true) × (unwrap_or u.left (layout x) ≡ l)
    asked_parts l h =
        let e = asked_split l in
        let at = index.left layout x in
        let second : layouts_after layout asks x ≡ l = grind (arith, nat_tests, e, h) in
        (grind (arith, nat_tests, e, h), sym at ∙ second)

    asked_both : (l : ℕ) → meets layout asks ≡ true → unwrap_or u.left (layout x) ≡ l → meets layout (asks ++ stays x l ∷ []) ≡ true
    asked_both l a b =
        let e = asked_split l in
        let at : layouts_after layout asks x ≡ l = index.left layout x ∙ b in
        grind (arith, nat_tests, e, a, at)

  asked_left : (layout : ℕ → ℕ) (l : ℕ) (now : FinMap nat_cmp Use) → now ≡ map.insert uses x (asked u l) → (y : ℕ)
      → unwrap_or (use_of now y).left (layout y) ≡ unwrap_or (use_of uses y).left (layout y)
  asked_left layout l now is y =
      let at = use_at now (asked u l) is y in
      let e : x ≡ y → use_of uses x ≡ use_of uses y = ap (use_of uses) in
      grind (arith, nat_tests, at, e)

  pub asked_index : (l : ℕ) (now : FinMap nat_cmp Use) → now ≡ map.insert uses x (asked u l)
      → IsIndex now (agrees && accepts u l) (named ++ x ∷ []) (asks ++ stays x l ∷ [])
  unfolding suits_at
  asked_index l now is = record {
    members = members_now now (asked u l) is;
    met = λ layout h.
        let p = asked_parts layout l h in
        let old = index.met layout p.0 in
        let here = asked_met u l (layout x) p.1 (old.1 x) in
        (let a = old.0 in let b = here.0 in grind (arith, a, b), at_each now (asked u l) is (suits_at layout) here.1 old.1);
    enough = λ layout a h.
        let here = asked_enough u l (layout x) (grind (arith, a)) (sym (ap (suits_at layout x) (now_here now (asked u l) is)) ∙ h x) in
        asked_both layout l (index.enough layout (grind (arith, a)) (from_each now (asked u l) is (suits_at layout) h here.1)) here.0;
    left = λ layout y. ap (λ f. f y) (layouts_after-append layout asks (stays x l ∷ [])) ∙ index.left layout y ∙ sym (asked_left layout l now is y);
  }

  -- ---- a barrier

  gone_met : (b a now : ℕ) → (b == 0 || b == unwrap_or u.left now) ≡ true → suits u.wanted now ≡ true → (lets_go u b ≡ true) × (suits (gone u b a).wanted now ≡ true)
  gone_met b a now ok suit = cases (b == 0) refl
    where
      cases : (t : Bool) → (b == 0) ≡ t → (lets_go u b ≡ true) × (suits (gone u b a).wanted now ≡ true)
      cases true e = (grind (arith, e), ap (λ t. suits (if t then u else asked u b).wanted now) e ∙ suit)
      cases false e =
          let at : unwrap_or u.left now ≡ b = grind (arith, nat_tests, e, ok) in
          let here = asked_met u b now at suit in
          (let h = here.0 in grind (arith, e, h), ap (λ t. suits (if t then u else asked u b).wanted now) e ∙ here.1)

  gone_enough : (b a now : ℕ) → lets_go u b ≡ true → suits (gone u b a).wanted now ≡ true → ((b == 0 || b == unwrap_or u.left now) ≡ true) × (suits u.wanted now ≡ true)
  gone_enough b a now ok suit = cases (b == 0) refl
    where
      cases : (t : Bool) → (b == 0) ≡ t → ((b == 0 || b == unwrap_or u.left now) ≡ true) × (suits u.wanted now ≡ true)
      cases true e = (grind (arith, e), sym (ap (λ t. suits (if t then u else asked u b).wanted now) e) ∙ suit)
      cases false e =
          let accepted : accepts u b ≡ true = grind (arith, e, ok) in
          let suited : suits (asked u b).wanted now ≡ true = sym (ap (λ t. suits (if t then u else asked u b).wanted now) e) ∙ suit in
          let here = asked_enough u b now accepted suited in
          (let h = here.0 in grind (arith, nat_tests, h), here.1)

  module _ (layout : ℕ → ℕ) where
    gone_split : (b a : ℕ) → meets layout (asks ++ goes x b a ∷ []) ≡ (meets layout asks && ((b == 0 || b == layouts_after layout asks x) && true))
    gone_split b a = meets-append layout asks (goes x b a ∷ [])

    gone_parts : (b a : ℕ) → meets layout (asks ++ goes x b a ∷ []) ≡ true → (meets layout asks ≡ true) × ((b == 0 || b == unwrap_or u.left (layout x)) ≡ true)
    gone_parts b a h =
        let e = gone_split b a in
        let at = index.left layout x in
        let second : (b == 0 || b == layouts_after layout asks x) ≡ true = grind (arith, e, h) in
        (grind (arith, e, h), sym (ap (λ l. b == 0 || b == l) at) ∙ second)

    gone_both : (b a : ℕ) → meets layout asks ≡ true → (b == 0 || b == unwrap_or u.left (layout x)) ≡ true → meets layout (asks ++ goes x b a ∷ []) ≡ true
    gone_both b a m ok =
        let e = gone_split b a in
        let at : (b == 0 || b == layouts_after layout asks x) ≡ true = ap (λ l. b == 0 || b == l) (index.left layout x) ∙ ok in
        grind (arith, e, m, at)

  gone_left : (layout : ℕ → ℕ) (b a : ℕ) (now : FinMap nat_cmp Use) → now ≡ map.insert uses x (gone u b a) → (y : ℕ)
      → but x a (layouts_after layout asks) y ≡ unwrap_or (use_of now y).left (layout y)
  gone_left layout b a now is y =
      let at = use_at now (gone u b a) is y in
      let old = index.left layout y in
      grind (arith, nat_tests, at, old)

  pub gone_index : (b a : ℕ) (now : FinMap nat_cmp Use) → now ≡ map.insert uses x (gone u b a)
      → IsIndex now (agrees && lets_go u b) (named ++ x ∷ []) (asks ++ goes x b a ∷ [])
  unfolding suits_at
  gone_index b a now is = record {
    members = members_now now (gone u b a) is;
    met = λ layout h.
        let p = gone_parts layout b a h in
        let old = index.met layout p.0 in
        let here = gone_met b a (layout x) p.1 (old.1 x) in
        (let m = old.0 in let g = here.0 in grind (arith, m, g), at_each now (gone u b a) is (suits_at layout) here.1 old.1);
    enough = λ layout m h.
        let here = gone_enough b a (layout x) (grind (arith, m)) (sym (ap (suits_at layout x) (now_here now (gone u b a) is)) ∙ h x) in
        gone_both layout b a (index.enough layout (grind (arith, m)) (from_each now (gone u b a) is (suits_at layout) h here.1)) here.0;
    left = λ layout y. ap (λ f. f y) (layouts_after-append layout asks (goes x b a ∷ [])) ∙ gone_left layout b a now is y;
  }
