-- New objects are ready to be created.
use Rattle.std.proofs.Common.{◌≡◌, ℕ, ◌+◌, Bool, true, false, refl, sym, ◌∙◌, ap, subst, List, [], ◌∷◌, map, Option, Some, None, cond, is_some, is_none, not, ◌&&◌, ◌||◌, ◌==◌, nat_le, inl, inr, ◌⊎◌, find}
use Rattle.std.specs.List.{AllByRecursion, list_any}
use Rattle.std.specs.Option.{option_map_or}
use Rattle.std.proofs.lemmas.Bool.{eqb-true, leb-true, both_ways, not-true, and_parts, or_parts, or_cases, or_from, and_from, eq-eqb, ne_eqb}
use Rattle.gfx_types.specs.declared.names.Kind.TheVariants as kind
use Rattle.gfx_model.specs.Steps.{Object, Detail, kind_of, kind_number}
use Rattle.gfx_model.specs.Steps.Step.{creates}
use Rattle.gfx_model.specs.Steps.Detail.{a_queue, an_image, a_command_buffer, a_swapchain}
use Rattle.gfx_model.specs.Questions.{Binding, passes}
use Rattle.gfx_model.specs.Views.{View, has_index, is_one, is_queue, is_on, has_swapchain, is_live, size_of, parent_of, queue_of}
use Rattle.gfx_model.specs.Checks.{Check, broken, unless, first_broken, new_fault, queue_fault, is_among}
use Rattle.gfx_model.specs.Checks.Check.{new}
use Rattle.gfx_types.specs.declared.names.Fault.TheVariants.{BadValue}
use Rattle.gfx_model.specs.Table.{new_each, divides}
use Rattle.gfx_model.specs.After.{after}
use Rattle.gfx_model.specs.Covers.{is_fetched}
use Rattle.gfx_model.proofs.Covered.{first_none, unless_none}
use Rattle.gfx_laws.specs.Lawful.{base, LawfulObjects, LawfulIds, IsImageOf, HasParent, IsKind, Rivals, is_allowed, Passes}
use Rattle.gfx_laws.proofs.Ready.{Ready, AllReady, ReadyToBind}
use Rattle.gfx_laws.proofs.MoreObjects.{live_of_kind}

pub all_pass : (v : View) (cs : List Check) → first_broken v cs ≡ None → AllByRecursion (Passes v) cs
all_pass v [] e = tt
all_pass v (c ∷ cs) e = let both = first_none _ _ e in (both.0, all_pass v cs both.1)

-- what is new isn't 0, was not used, and is nowhere earlier
pub record IsNew (v : View) (earlier : List ℕ) (x : ℕ) : Type 0 where
  pub positive : (x == 0) ≡ false
  pub unused : v.used x ≡ false
  pub elsewhere : is_among x earlier ≡ false

pub is_new : (v : View) (earlier : List ℕ) (x : ℕ) → new_fault v earlier x ≡ None → IsNew v earlier x
is_new v earlier x e =
    let both = first_none (unless (not (x == 0)) BadValue) _ e in
    let tests = and_parts (not (v.used x)) (not (is_among x earlier)) (unless_none _ _ both.1) in
    record { positive = not-true _ (unless_none _ _ both.0); unused = not-true _ tests.0; elsewhere = not-true _ tests.1 }

-- no queue, swapchain or image of one: an object that rivals no other
abbrev pub is_mild : Detail → Bool
is_mild a_queue = false
is_mild (a_swapchain surface images format width height usage) = false
is_mild (an_image format width height usage (Some index)) = false
is_mild _ = true

mild_single : (d : Detail) (p : ℕ) (q : Object) → is_mild d ≡ true → Rivals (record { parent = p; detail = d }) q → ⊥
mild_single d p q m (inl a) = both_ways (is_mild d) (queue d a.0) m
  where
    queue : (d : Detail) → is_queue d ≡ true → is_mild d ≡ false
    queue a_queue e = refl
    queue _ e = absurd (cc)
mild_single d p q m (inr (inr a)) = both_ways (is_mild d) (image a.0 d a.1) m
  where
    image : (k : ℕ) (d : Detail) → has_index k d ≡ true → is_mild d ≡ false
    image k (an_image format width height usage (Some index)) e = refl
    image k (an_image format width height usage None) e = absurd (cc)
    image k _ e = absurd (cc)
mild_single d p q m (inr (inl a)) = both_ways (is_mild d) (swapchain a.0 d a.1) m
  where
    swapchain : (s : ℕ) (d : Detail) → is_on s d ≡ true → is_mild d ≡ false
    swapchain s (a_swapchain surface images format width height usage) e = refl
    swapchain s _ e = absurd (cc)

mild_surface : (X : Type 0) (d : Detail) (s : ℕ) → is_mild d ≡ true → is_on s d ≡ true → X
mild_surface X (a_swapchain surface images format width height usage) s m e = absurd (cc)
mild_surface X _ s m e = absurd (cc)

pub made_ready : (v : View) (i p : ℕ) (d : Detail) → Passes v (new [] i) → HasParent d p (v.live p) → IsImageOf d (v.live p) → is_allowed d ≡ true → is_mild d ≡ true → Ready v (creates i p d)
unfolding broken
made_ready v i p d e parent image allowed mild =
    let n = is_new v [] i e in record {
      positive = n.positive;
      unused = n.unused;
      parent = parent;
      image = image;
      allowed = allowed;
      single = λ x o live rivals. mild_single d p o mild rivals;
      surface = λ s on. mild_surface _ d s mild on;
    }

-- an object whose parent is a device is no image of a swapchain
pub own_of_device : (v : View) → LawfulObjects (base v) → (x d : ℕ) → is_live v kind.Device d ≡ true → (parent_of v x == d) ≡ true → passes (λ o. is_fetched o.detail) (v.live x) ≡ false
own_of_device v h x d device made = by (v.live x) refl
  where
    by_detail : (t : Detail) (p : ℕ) → v.live x ≡ Some (record { parent = p; detail = t }) → is_fetched t ≡ false
    by_detail (an_image format width height usage (Some index)) p live =
        let image = h.fetched x (record { parent = p; detail = an_image format width height usage (Some index) }) live in
        let same : p ≡ d = ap (λ l. option_map_or (λ o. o.parent) l 0) (sym live) ∙ eqb-true (parent_of v x) d made in
        absurd (both_ways (is_live v kind.Device d)
        (ap (is_live v kind.Device) (sym same) ∙ ap (passes (λ o. kind_number (kind_of o.detail) == 3)) image.is_live) device)
    by_detail (an_image format width height usage None) p live = refl
    by_detail _ p live = refl

    by : (l : Option Object) → v.live x ≡ l → passes (λ o. is_fetched o.detail) l ≡ false
    by None live = refl
    by (Some o) live = by_detail o.detail o.parent live

pub bind_ready : (v : View) → LawfulObjects (base v) → (test : Object → Bool) (d r memory offset : ℕ) → is_live v kind.Device d ≡ true → passes test (v.live r) ≡ true → is_live v kind.Memory memory ≡ true →
    (parent_of v r == d) ≡ true → (parent_of v memory == d) ≡ true → is_none (v.bound r) ≡ true → divides 16 offset ≡ true → nat_le (offset + size_of v r) (size_of v memory) ≡ true → ReadyToBind (base v) r memory offset
bind_ready v h test d r memory offset device resource is_memory made made_too unbound aligned inside =
    let there = live_of_kind v test r resource in
    record {
      created = ap is_some there.1;
      is_own = own_of_device v h r d device made;
      unbound = none_is (v.bound r) unbound;
      is_memory = is_memory;
      inside = leb-true _ _ inside;
      together = eqb-true (parent_of v memory) d made_too ∙ sym (eqb-true (parent_of v r) d made);
      aligned = aligned;
    }
  where
    none_is : (b : Option Binding) → is_none b ≡ true → b ≡ None
    none_is None e = refl
    none_is (Some b) e = absurd (cc)

-- ---- lists of new objects

-- nothing that passes is missed by a search that finds nothing
find_none : (t : ℕ → Bool) (xs : List ℕ) (x : ℕ) → find t xs ≡ None → is_among x xs ≡ true → t x ≡ true → ⊥
find_none t [] x f m e = cc
find_none t (y ∷ ys) x f m e = by (t y) refl f (or_cases (y == x) (is_among x ys) m) (find_none t ys x)
  where
    by : (b : Bool) → t y ≡ b → cond b (Some y) (find t ys) ≡ None → ((y == x) ≡ true) ⊎ (is_among x ys ≡ true) → (find t ys ≡ None → is_among x ys ≡ true → t x ≡ true → ⊥) → ⊥
    by true k f m more = cc
    by false k f (inl same) more = both_ways (t y) k (ap t (eqb-true y x same) ∙ e)
    by false k f (inr later) more = more f later e

-- nor by a test of any
pub any_none : (t : ℕ → Bool) (xs : List ℕ) (x : ℕ) → list_any t xs ≡ false → is_among x xs ≡ true → t x ≡ true → ⊥
any_none t [] x f m e = cc
any_none t (y ∷ ys) x f m e =
    let parts = or_parts (t y) (list_any t ys) f in
    elim (or_cases (y == x) (is_among x ys) m) [ inl same ↦ both_ways (t y) parts.0 (ap t (eqb-true y x same) ∙ e) | inr more ↦ any_none t ys x parts.1 more e ]

pub queue_ready : (v : View) → LawfulIds v.live v.ids → (device queue : ℕ) (o : Option ℕ) → queue_of v device ≡ o → is_live v kind.Device device ≡ true → queue_fault v queue o ≡ None →
    AllReady v (cond (is_some o) [] (creates queue device a_queue ∷ []))
queue_ready v ids device queue (Some q) is there e = tt
queue_ready v ids device queue None is there e =
    let n = is_new v [] queue (first_none _ _ e).0 in
    (record { positive = n.positive; unused = n.unused; parent = there; image = tt; allowed = refl; single = no_rival; surface = λ s on. absurd (cc) }, tt)
  where
    no_rival : (x : ℕ) (o : Object) → v.live x ≡ Some o → Rivals (record { parent = device; detail = a_queue }) o → ⊥
    no_rival x o live (inl a) =
        find_none (is_one v (λ o. o.parent == device && is_queue o.detail)) v.ids x is (ids.exact x ∙ ap is_some live)
        (ap (passes (λ o. o.parent == device && is_queue o.detail)) live ∙ and_from _ _ (eq-eqb o.parent device (sym a.2)) a.1)
    no_rival x o live (inr (inl a)) = let e : false ≡ true = a.1 in cc
    no_rival x o live (inr (inr a)) = let e : false ≡ true = a.1 in cc

-- a live object is as it was, where one with an id that is new is created
pub stays_new : (v u : View) (x y : ℕ) (r : Object) → v.used x ≡ false → v.used y ≡ true → cond (x == y) (Some r) (u.live y) ≡ u.live y
stays_new v u x y r fresh old = ap (λ t. cond t (Some r) (u.live y)) (ne_eqb x y (λ same. both_ways (v.used x) fresh (ap v.used same ∙ old)))

-- what was created after v has the ids that are earlier
abbrev pub IsLater : View → View → List ℕ → Type 0
IsLater v u earlier = (x : ℕ) → v.used x ≡ false → is_among x earlier ≡ false → u.used x ≡ false

pub later : (v u : View) (earlier : List ℕ) (x : ℕ) → IsLater v u earlier → (y : ℕ) → v.used y ≡ false → is_among y (x ∷ earlier) ≡ false → (x == y) || u.used y ≡ false
later v u earlier x fresh y old among = let parts = or_parts (x == y) (is_among y earlier) among in or_from (x == y) (u.used y) parts.0 (fresh y old parts.1)

pub buffers_ready : (v u : View) (pool : ℕ) (earlier xs : List ℕ) → v.used pool ≡ true → IsKind kind.Pool (u.live pool) → IsLater v u earlier →
    AllByRecursion (Passes v) (new_each earlier xs) → AllReady u (map (λ cb. creates cb pool a_command_buffer) xs)
unfolding after broken
buffers_ready v u pool earlier [] used there fresh a = tt
buffers_ready v u pool earlier (x ∷ xs) used there fresh a =
    let n = is_new v earlier x a.0 in (
      record { positive = n.positive; unused = fresh x n.unused n.elsewhere; parent = there; image = tt; allowed = refl; single = λ y o at rivals. mild_single a_command_buffer pool o refl rivals; surface = λ s on. absurd (cc) },
      buffers_ready v (after u (creates x pool a_command_buffer)) pool (x ∷ earlier) xs used
          (ap (passes (λ o. kind_number (kind_of o.detail) == 8)) (stays_new v u x pool (record { parent = pool; detail = a_command_buffer }) n.unused used) ∙ there)
          (later v u earlier x fresh) a.1,
    )

-- a swapchain on a surface that is free
pub swapchain_ready : (v : View) → LawfulIds v.live v.ids → (device swapchain surface images format width height usage : ℕ) → is_live v kind.Device device ≡ true → is_live v kind.Surface surface ≡ true →
    parent_of v device ≡ parent_of v surface → Passes v (new [] swapchain) → has_swapchain v surface ≡ false → is_allowed (a_swapchain surface images format width height usage) ≡ true →
    Ready v (creates swapchain device (a_swapchain surface images format width height usage))
unfolding broken
swapchain_ready v ids device swapchain surface images format width height usage there on_surface same e free allowed =
    let n = is_new v [] swapchain e in
    record {
      positive = n.positive;
      unused = n.unused;
      parent = there;
      image = tt;
      allowed = allowed;
      single = no_rival;
      surface = λ s on. subst (λ y. IsKind kind.Surface (v.live y) × (parent_of v y ≡ parent_of v device)) (eqb-true surface s on) (on_surface, sym same);
    }
  where
    no_rival : (x : ℕ) (o : Object) → v.live x ≡ Some o → Rivals (record { parent = device; detail = a_swapchain surface images format width height usage }) o → ⊥
    no_rival x o at (inl a) = let e : false ≡ true = a.0 in cc
    no_rival x o at (inr (inr a)) = let e : false ≡ true = a.1 in cc
    no_rival x o at (inr (inl a)) =
        any_none (is_one v (λ o. is_on surface o.detail)) v.ids x free (ids.exact x ∙ ap is_some at)
        (ap (passes (λ o. is_on surface o.detail)) at ∙ subst (λ y. is_on y o.detail ≡ true) (sym (eqb-true surface a.0 a.1)) a.2)
