-- What the end of a live object makes of the buffers that are recorded.
use Rattle.std.proofs.Common.{◌≡◌, ℕ, ◌==◌, Bool, true, false, ◌&&◌, ◌||◌, List, [], ◌∷◌, flat_map, Option, Some, None, is_some, if◌then◌else◌, refl, ap, sym, subst, ◌∙◌, arith}
use Rattle.std.specs.List.{AllByRecursion, list_any}
use Rattle.std.specs.Option.{option_map_or}
use Rattle.std.proofs.Math.Logic.{∥∥₁_elim}
use Rattle.std.proofs.Props.{props}
use Rattle.std.proofs.lemmas.Bool.{both_ways, eqb-true, eq-eqb, or_from}
use Rattle.std.proofs.lemmas.Bool.Decides.{nat_tests}
use Rattle.gfx_types.specs.declared.names.Kind.{Kind}
use Rattle.gfx_types.specs.declared.names.Kind.TheVariants as kind
use Rattle.gfx_model.specs.Events.{Event}
use Rattle.gfx_model.specs.Steps.{Object, Detail, kind_of, kind_number, resources_of}
use Rattle.gfx_model.specs.Steps.Detail.{a_buffer, an_image, a_command_buffer}
use Rattle.gfx_model.specs.Questions.{State, Binding, Buffer, new_buffer, image_size, is_kept, is_owned, invalidated, passes, goes_with, rests_on}
use Rattle.gfx_model.specs.Views.{View, is_live, is_usable, parent_of, detail_window, bound_window}
use Rattle.gfx_model.specs.Covers.{AllUsable, is_fetched}
use Rattle.gfx_model.specs.Checks.{is_among}
use Rattle.gfx_model.specs.After.{is_gone, is_lost, buffer_after_end}
use Rattle.gfx_model.proofs.Lists.{all_along}
use Rattle.gfx_laws.specs.Lawful.{HasParent}
use Rattle.gfx_laws.proofs.LawfulLayouts.{usable_live}
use Rattle.gfx_laws.proofs.MoreObjects.{live_of_kind}
use Rattle.gfx_laws.proofs.Staying.{bound_live}
use Rattle.gfx_laws.proofs.Covering.{any_same, kept_usable}
use Rattle.gfx_table.specs.Dense.{is_listed}
use Rattle.gfx_commands.specs.Recording.{names}
use Rattle.gfx_commands.proofs.Named.{list_any-flat_map}
use Rattle.gfx_tracker.specs.Gathered.{gathered, IsPlain, LawfulUsers}
use Rattle.gfx_tracker.proofs.Gathered.{new_is}
use Rattle.gfx_tracker.proofs.Meeting.{met}

-- ---- kinds

one_kind : (j k : Kind) (o : Option Object) → passes (λ o. kind_number (kind_of o.detail) == kind_number j) o ≡ true
    → passes (λ o. kind_number (kind_of o.detail) == kind_number k) o ≡ true → kind_number j ≡ kind_number k
one_kind j k None a b = absurd cc
one_kind j k (Some o) a b = sym (eqb-true (kind_number (kind_of o.detail)) (kind_number j) a) ∙ eqb-true (kind_number (kind_of o.detail)) (kind_number k) b

-- objects of two kinds are two
pub apart : (v : View) (j k : Kind) (x y : ℕ) → (kind_number j == kind_number k) ≡ false → is_live v j x ≡ true → is_live v k y ≡ true → (x == y) ≡ false
apart v j k x y differ a b = by (x == y) refl
  where
    by : (t : Bool) → (x == y) ≡ t → t ≡ false
    by true same =
        let one = one_kind j k (v.live y) (ap (is_live v j) (sym (eqb-true x y same)) ∙ a) b in
        absurd (both_ways (kind_number j == kind_number k) differ (eq-eqb (kind_number j) (kind_number k) one))
    by false other = refl

turned : (x y : ℕ) → (x == y) ≡ (y == x)
turned x y = grind (arith, nat_tests)

none_any : {X : Type 0} (f : X → Bool) (xs : List X) → AllByRecursion (λ x. f x ≡ false) xs → list_any f xs ≡ false
none_any f [] none = refl
none_any f (x ∷ xs) none = or_from (f x) (list_any f xs) none.0 (none_any f xs none.1)

-- ---- the command buffers that go with an object

module _ (v : View) (b : ℕ → Buffer) (lawful : LawfulUsers v b) (x : ℕ) (is_there : is_live v kind.CommandBuffer x ≡ true) where
  of_kind : (d : Detail) → (kind_number (kind_of d) == 9) ≡ true → d ≡ a_command_buffer
  of_kind a_command_buffer e = refl
  of_kind _ e = absurd cc

  pooled : (p : ℕ) (d : Detail) → d ≡ a_command_buffer → HasParent d p (v.live p) → is_live v kind.Pool p ≡ true
  pooled p d is h = subst (λ d. HasParent d p (v.live p)) is h

  found : (o : Object) × (v.live x ≡ Some o)
  found = live_of_kind v (λ o. kind_number (kind_of o.detail) == 9) x is_there

  is_buffer : (found.0).detail ≡ a_command_buffer
  is_buffer = of_kind (found.0).detail (ap (passes (λ o. kind_number (kind_of o.detail) == 9)) (sym found.1) ∙ is_there)

  its_parent : parent_of v x ≡ (found.0).parent
  its_parent = ap (λ l. option_map_or (λ o. o.parent) l 0) found.1

  parent_is_pool : is_live v kind.Pool (parent_of v x) ≡ true
  parent_is_pool = ap (is_live v kind.Pool) its_parent ∙ pooled (found.0).parent (found.0).detail is_buffer ((lawful.objects).parent x found.0 found.1)

  -- a command buffer goes with itself and with its pool
  goes : (gone : ℕ) → is_gone v gone x ≡ (gone == x || gone == parent_of v x)
  goes gone =
      ap (passes (goes_with gone x)) found.1 ∙ ap (λ d. gone == x || is_owned d && gone == (found.0).parent) is_buffer
      ∙ ap (λ p. gone == x || gone == p) (sym its_parent)

  -- and a pool owns its command buffers
  in_pool : (gone : ℕ) → passes (λ o. is_owned o.detail && gone == o.parent) (v.live x) ≡ (gone == parent_of v x)
  in_pool gone =
      ap (passes (λ o. is_owned o.detail && gone == o.parent)) found.1 ∙ ap (λ d. is_owned d && gone == (found.0).parent) is_buffer
      ∙ ap (λ p. gone == p) (sym its_parent)

-- ---- the resources that are lost

or_false : (t : Bool) → (t || false) ≡ t
or_false true = refl
or_false false = refl

alone : (t p q : Bool) → p ≡ false → q ≡ false → (t || (t || p) || q) ≡ t
alone true p q e f = refl
alone false p q e f = or_from p q e f

only_rests : (t p q : Bool) → t ≡ false → p ≡ false → (t || (t || p) || q) ≡ q
only_rests true p q e f = absurd cc
only_rests false p q e f = ap (λ p. p || q) f

only_owned : (t p q : Bool) → t ≡ false → q ≡ false → (t || (t || p) || q) ≡ p
only_owned true p q e f = absurd cc
only_owned false p q e f = ap (λ q. p || q) f ∙ or_false p

module _ (v : View) (b : ℕ → Buffer) (lawful : LawfulUsers v b) (k : Kind) (gone : ℕ) (there : is_live v k gone ≡ true) where
  -- whether a command names what is lost, where each usable resource is lost as the test says
  lost_as : (test : ℕ → Bool) → ((r : ℕ) → is_usable v r ≡ true → is_lost v gone r ≡ test r)
      → (cs : List Event) → AllUsable v cs → list_any (λ c. list_any (is_lost v gone) (resources_of c)) cs ≡ list_any test (flat_map resources_of cs)
  lost_as test each cs usable =
      any_same (λ c. list_any (is_lost v gone) (resources_of c)) (λ c. list_any test (resources_of c)) cs
      (all_along _ _ (λ c all. any_same (is_lost v gone) test (resources_of c) (all_along _ _ each (resources_of c) all)) cs usable)
      ∙ sym (list_any-flat_map test resources_of cs)

  -- what is no swapchain owns no resource
  module _ (no_swapchain : (kind_number k == 12) ≡ false) where
    owned_not : (r p : ℕ) (d : Detail) → is_some (detail_window v r d) ≡ true → HasParent d p (v.live p) → (is_owned d && gone == p) ≡ false
    owned_not r p (a_buffer size usage) w h = refl
    owned_not r p (an_image format width height usage None) w h = refl
    owned_not r p (an_image format width height usage (Some index)) w h = apart v k kind.Swapchain gone p no_swapchain there h
    owned_not r p _ w h = absurd cc

  -- and none rests on what is no memory
  module _ (no_memory : (kind_number k == 5) ≡ false) where
    rests_not : (n : ℕ) (l : Option Binding) → is_some (bound_window v n l) ≡ true → rests_on gone l ≡ false
    rests_not n None w = absurd cc
    rests_not n (Some c) w = turned c.memory gone ∙ apart v k kind.Memory gone c.memory no_memory there (sym (bound_live v n c) ∙ w)

    bound_not : (r : ℕ) (d : Detail) → is_some (detail_window v r d) ≡ true → (is_fetched d ≡ true → v.bound r ≡ None) → rests_on gone (v.bound r) ≡ false
    bound_not r (a_buffer size usage) w fetched = rests_not size (v.bound r) w
    bound_not r (an_image format width height usage None) w fetched = rests_not (image_size format width height) (v.bound r) w
    bound_not r (an_image format width height usage (Some index)) w fetched = ap (rests_on gone) (fetched refl)
    bound_not r _ w fetched = absurd cc

  -- an end of what is neither a memory nor a swapchain: a usable resource is lost with no object but itself
  lost_itself : (kind_number k == 5) ≡ false → (kind_number k == 12) ≡ false → (r : ℕ) → is_usable v r ≡ true → is_lost v gone r ≡ (r == gone)
  lost_itself no_memory no_swapchain r usable =
      let f = usable_live v r usable in
      let o = f.0 in
      ap (λ l. gone == r || passes (goes_with gone r) l || rests_on gone (v.bound r)) f.1
      ∙ alone (gone == r) (is_owned o.detail && gone == o.parent) (rests_on gone (v.bound r))
      (owned_not no_swapchain r o.parent o.detail f.2 ((lawful.objects).parent r o f.1))
      (bound_not no_memory r o.detail f.2 ((lawful.objects).unbound r o f.1))
      ∙ turned gone r

  -- so the end concerns the buffers that name it
  lost_named : (kind_number k == 5) ≡ false → (kind_number k == 12) ≡ false → (cs : List Event) → AllUsable v cs
      → list_any (λ c. list_any (is_lost v gone) (resources_of c)) cs ≡ is_among gone (flat_map resources_of cs)
  lost_named no_memory no_swapchain = lost_as (λ r. r == gone) (lost_itself no_memory no_swapchain)

  -- an end of what is neither a buffer nor an image: commands don't name it
  module _ (no_buffer : (kind_number k == 6) ≡ false) (no_image : (kind_number k == 7) ≡ false) where
    other : (r : ℕ) → is_usable v r ≡ true → (gone == r) ≡ false
    other r usable = let f = usable_live v r usable in by (f.0).detail f.0 f.1 refl f.2
      where
        live_of : (j : Kind) (o : Object) → v.live r ≡ Some o → kind_of o.detail ≡ j → is_live v j r ≡ true
        live_of j o is same = ap (passes (λ o. kind_number (kind_of o.detail) == kind_number j)) is ∙ eq-eqb (kind_number (kind_of o.detail)) (kind_number j) (ap kind_number same)

        by : (d : Detail) (o : Object) → v.live r ≡ Some o → o.detail ≡ d → is_some (detail_window v r d) ≡ true → (gone == r) ≡ false
        by (a_buffer size usage) o is same w = apart v k kind.Buffer gone r no_buffer there (live_of kind.Buffer o is (ap kind_of same))
        by (an_image format width height usage index) o is same w = apart v k kind.Image gone r no_image there (live_of kind.Image o is (ap kind_of same))
        by _ o is same w = absurd cc

    none_named : (cs : List Event) → AllUsable v cs → is_among gone (flat_map resources_of cs) ≡ false
    none_named cs usable =
        list_any-flat_map (λ r. r == gone) resources_of cs
        ∙ none_any (λ c. is_among gone (resources_of c)) cs
        (all_along _ _ (λ c all. none_any (λ r. r == gone) (resources_of c) (all_along _ _ (λ r usable. turned r gone ∙ other r usable) (resources_of c) all)) cs usable)

    -- with a memory those are lost that rest on it
    lost_resting : (kind_number k == 12) ≡ false → (r : ℕ) → is_usable v r ≡ true → is_lost v gone r ≡ rests_on gone (v.bound r)
    lost_resting no_swapchain r usable =
        let f = usable_live v r usable in
        let o = f.0 in
        ap (λ l. gone == r || passes (goes_with gone r) l || rests_on gone (v.bound r)) f.1
        ∙ only_rests (gone == r) (is_owned o.detail && gone == o.parent) (rests_on gone (v.bound r))
        (other r usable) (owned_not no_swapchain r o.parent o.detail f.2 ((lawful.objects).parent r o f.1))

    -- and with a swapchain those that it owns
    lost_owned : (kind_number k == 5) ≡ false → (r : ℕ) → is_usable v r ≡ true → is_lost v gone r ≡ passes (λ o. is_owned o.detail && gone == o.parent) (v.live r)
    lost_owned no_memory r usable =
        let f = usable_live v r usable in
        let o = f.0 in
        ap (λ l. gone == r || passes (goes_with gone r) l || rests_on gone (v.bound r)) f.1
        ∙ only_owned (gone == r) (is_owned o.detail && gone == o.parent) (rests_on gone (v.bound r))
        (other r usable) (bound_not no_memory r o.detail f.2 ((lawful.objects).unbound r o f.1))
        ∙ ap (passes (λ o. is_owned o.detail && gone == o.parent)) (sym f.1)

-- ---- what becomes of each buffer

-- whether a command of the buffer names what is lost
abbrev pub is_user : View → ℕ → Buffer → Bool
is_user v gone b = list_any (λ c. list_any (is_lost v gone) (resources_of c)) b.commands

-- the command buffers that go are these, and the others that become invalid these
record Told (v : View) (b : ℕ → Buffer) (gone : ℕ) (own named : ℕ → Bool) : Type 0 where
  goes : (x : ℕ) → is_live v kind.CommandBuffer x ≡ true → is_gone v gone x ≡ own x
  loses : (x : ℕ) → is_kept (b x).state ≡ true → is_user v gone (b x) ≡ named x

-- each buffer after the end
abbrev pub ended : View → ℕ → (ℕ → Buffer) → ℕ → Buffer
ended v gone b x = if is_gone v gone x then new_buffer else buffer_after_end v gone (b x)

still_new : (own named : Bool) → (if own then new_buffer else invalidated named new_buffer) ≡ new_buffer
still_new true named = refl
still_new false true = refl
still_new false false = refl

same_hit : (hit named : Bool) (b : Buffer) → (is_kept b.state ≡ true → hit ≡ named) → invalidated named b ≡ invalidated hit b
same_hit hit named b same = by (is_kept b.state) refl
  where
    at : (k : Bool) → Buffer
    at k = if k then record b { state = State.invalid } else b

    by : (k : Bool) → is_kept b.state ≡ k → at (named && is_kept b.state) ≡ at (hit && is_kept b.state)
    by true kept = ap (λ t. at (t && is_kept b.state)) (sym (same kept))
    by false e = ap (λ k. at (named && k)) e ∙ both hit named ∙ ap (λ k. at (hit && k)) (sym e)
      where
        both : (s t : Bool) → at (t && false) ≡ at (s && false)
        both true true = refl
        both true false = refl
        both false true = refl
        both false false = refl

by_facts : (v : View) (b : ℕ → Buffer) (gone : ℕ) (own named : ℕ → Bool) → IsPlain v.live b → Told v b gone own named → (λ x. if own x then new_buffer else invalidated (named x) (b x)) ≡ ended v gone b
by_facts v b gone own named plain told = λ j x. by x (is_live v kind.CommandBuffer x) refl j
  where
    by : (x : ℕ) (t : Bool) → is_live v kind.CommandBuffer x ≡ t → (if own x then new_buffer else invalidated (named x) (b x)) ≡ ended v gone b x
    by x true there =
        ap (λ t. if t then new_buffer else invalidated (named x) (b x)) (sym (told.goes x there))
        ∙ ap (λ c. if is_gone v gone x then new_buffer else c) (same_hit (is_user v gone (b x)) (named x) (b x) (told.loses x))
    by x false dead =
        let new = new_is (b x) (plain.plain x dead) in
        ap (λ c. if own x then new_buffer else invalidated (named x) c) new ∙ still_new (own x) (named x)
        ∙ sym (still_new (is_gone v gone x) (is_user v gone new_buffer)) ∙ ap (λ c. if is_gone v gone x then new_buffer else buffer_after_end v gone c) (sym new)

-- ---- by the kind of what ends

module _ (v : View) (b : ℕ → Buffer) (plain : IsPlain v.live b) (lawful : ∥ LawfulUsers v b ∥₁) (k : Kind) (gone : ℕ) (there : is_live v k gone ≡ true) where
  it_not : (kind_number k == 9) ≡ false → (x : ℕ) → is_live v kind.CommandBuffer x ≡ true → (gone == x) ≡ false
  it_not differ x = apart v k kind.CommandBuffer gone x differ there

  pool_not : LawfulUsers v b → (kind_number k == 8) ≡ false → (x : ℕ) → is_live v kind.CommandBuffer x ≡ true → (gone == parent_of v x) ≡ false
  pool_not h differ x is = apart v k kind.Pool gone (parent_of v x) differ there (parent_is_pool v b h x is)

  usable : LawfulUsers v b → (x : ℕ) → is_kept (b x).state ≡ true → AllUsable v (b x).commands
  usable h = kept_usable (gathered v b 0 false None) h.buffers

  stays : LawfulUsers v b → (kind_number k == 8) ≡ false → (kind_number k == 9) ≡ false → (x : ℕ) → is_live v kind.CommandBuffer x ≡ true → is_gone v gone x ≡ false
  stays h d e x is = goes v b h x is gone ∙ or_from _ _ (it_not e x is) (pool_not h d x is)

  -- a buffer or an image: its users become invalid
  pub users_ended : (kind_number k == 5) ≡ false → (kind_number k == 12) ≡ false → (kind_number k == 8) ≡ false → (kind_number k == 9) ≡ false
      → (λ x. invalidated (names gone (b x)) (b x)) ≡ ended v gone b
  users_ended a c d e = by_facts v b gone (λ x. false) (λ x. names gone (b x)) plain (record {
    goes = ∥∥₁_elim lawful (hlevel props) (λ h x is. stays h d e x is);
    loses = ∥∥₁_elim lawful (hlevel props) (λ h x kept. lost_named v b h k gone there a c (b x).commands (usable h x kept));
  })

  module _ (f : (kind_number k == 6) ≡ false) (g : (kind_number k == 7) ≡ false) where
    -- a memory or a swapchain: the users of what is lost with it become invalid
    each_ended : (kind_number k == 8) ≡ false → (kind_number k == 9) ≡ false → (xs : List ℕ)
        → (LawfulUsers v b → (r : ℕ) → is_usable v r ≡ true → is_lost v gone r ≡ is_listed r xs)
        → (λ x. invalidated (list_any (λ r. names r (b x)) xs) (b x)) ≡ ended v gone b
    each_ended d e xs lost = by_facts v b gone (λ x. false) (λ x. list_any (λ r. names r (b x)) xs) plain (record {
      goes = ∥∥₁_elim lawful (hlevel props) (λ h x is. stays h d e x is);
      loses = ∥∥₁_elim lawful (hlevel props) (λ h x kept.
          lost_as v b h k gone there (λ r. is_listed r xs) (lost h) (b x).commands (usable h x kept) ∙ met xs (flat_map resources_of (b x).commands));
    })

    pub memory_ended : (kind_number k == 12) ≡ false → (kind_number k == 8) ≡ false → (kind_number k == 9) ≡ false → (xs : List ℕ)
        → ((x : ℕ) → is_listed x xs ≡ rests_on gone (v.bound x)) → (λ x. invalidated (list_any (λ r. names r (b x)) xs) (b x)) ≡ ended v gone b
    memory_ended c d e xs all = each_ended d e xs (λ h r usable. lost_resting v b h k gone there f g c r usable ∙ sym (all r))

    pub swapchain_ended : (kind_number k == 5) ≡ false → (kind_number k == 8) ≡ false → (kind_number k == 9) ≡ false → (xs : List ℕ)
        → ((x : ℕ) → is_listed x xs ≡ passes (λ o. is_owned o.detail && gone == o.parent) (v.live x)) → (λ x. invalidated (list_any (λ r. names r (b x)) xs) (b x)) ≡ ended v gone b
    swapchain_ended a d e xs all = each_ended d e xs (λ h r usable. lost_owned v b h k gone there f g a r usable ∙ sym (all r))

    module _ (a : (kind_number k == 5) ≡ false) (c : (kind_number k == 12) ≡ false) where
      no_user : LawfulUsers v b → (x : ℕ) → is_kept (b x).state ≡ true → is_user v gone (b x) ≡ false
      no_user h x kept =
          lost_named v b h k gone there a c (b x).commands (usable h x kept) ∙ none_named v b h k gone there f g (b x).commands (usable h x kept)

      -- a command buffer: it goes, and no other
      pub itself_ended : (kind_number k == 8) ≡ false → (λ x. if gone == x then new_buffer else b x) ≡ ended v gone b
      itself_ended d = by_facts v b gone (λ x. gone == x) (λ x. false) plain (record {
        goes = ∥∥₁_elim lawful (hlevel props) (λ h x is. goes v b h x is gone ∙ ap (λ t. gone == x || t) (pool_not h d x is) ∙ or_false (gone == x));
        loses = ∥∥₁_elim lawful (hlevel props) no_user;
      })

      -- a pool: the command buffers that it owns go
      pub pool_ended : (kind_number k == 9) ≡ false → (xs : List ℕ) → ((x : ℕ) → is_listed x xs ≡ passes (λ o. is_owned o.detail && gone == o.parent) (v.live x))
          → (λ x. if is_listed x xs then new_buffer else b x) ≡ ended v gone b
      pool_ended e xs all = by_facts v b gone (λ x. is_listed x xs) (λ x. false) plain (record {
        goes = ∥∥₁_elim lawful (hlevel props) (λ h x is. goes v b h x is gone ∙ ap (λ t. t || gone == parent_of v x) (it_not e x is) ∙ sym (in_pool v b h x is gone) ∙ sym (all x));
        loses = ∥∥₁_elim lawful (hlevel props) no_user;
      })

      -- anything else: no buffer is concerned
      pub none_ended : (kind_number k == 8) ≡ false → (kind_number k == 9) ≡ false → b ≡ ended v gone b
      none_ended d e = by_facts v b gone (λ x. false) (λ x. false) plain (record {
        goes = ∥∥₁_elim lawful (hlevel props) (λ h x is. stays h d e x is);
        loses = ∥∥₁_elim lawful (hlevel props) no_user;
      })
