-- The members of sets after a change of one of them.
use Rattle.std.proofs.Common.{◌≡◌, ℕ, ◌+◌, ◌≤◌, ◌==◌, Bool, true, false, ◌&&◌, ◌||◌, Option, Some, None, is_some, if◌then◌else◌, refl, ap, ◌∙◌, arith, Bor}
use Rattle.std.specs.Option.{option_map_or, option_copied}
use Rattle.std.specs.Ordering.{nat_cmp}
use Rattle.std.specs.FinMap as map
use Rattle.std.specs.FinMap.{FinMap, get-empty}
use Rattle.std.proofs.lemmas.Bool.Decides.{nat_tests}
use Rattle.gfx_table.specs.Slots.{Slots}
use Rattle.gfx_table.specs.Rows.{got-insert, got-remove}
use Rattle.gfx_table.specs.Groups.{members_of, is_member, room_in}

abbrev Set : Type 0
Set = Slots (Unit {0})

pub some_copied : {X : Type 0} (o : Option (Bor X)) → is_some o ≡ is_some (option_copied o)
some_copied None = refl
some_copied (Some x) = refl

abbrev pub has : Option Set → ℕ → Bool
has None x = false
has (Some s) x = is_some (map.get s.map x)

module _ (m : FinMap nat_cmp Set) (g : ℕ) where
  -- the members are those of what is kept
  pub kept : (x : ℕ) (o : Option Set) → map.get m g ≡ o → is_member m g x ≡ has o x
  unfolding members_of
  kept x None is = ap (λ o. is_some (map.get (option_map_or (λ (s : Set). s.map) o map.empty) x)) is ∙ ap is_some (get-empty nat_cmp x)
  kept x (Some s) is = ap (λ o. is_some (map.get (option_map_or (λ (s : Set). s.map) o map.empty) x)) is

  pub spared : (o : Option Set) → map.get m g ≡ o → room_in m g ≡ option_map_or (λ s. s.spare) o 0
  unfolding room_in
  spared o is = ap (λ o. option_map_or (λ (s : Set). s.spare) o 0) is

pub no_members : (m : FinMap nat_cmp Set) → m ≡ map.empty → is_member m ≡ (λ g x. false)
no_members m is = λ i g x. (kept m g x None (ap (λ m. map.get m g) is ∙ get-empty nat_cmp g)) i

pub put : (m n : FinMap nat_cmp Set) (r : ℕ) (s : Set) → n ≡ map.insert m r s → (g x : ℕ) → is_member n g x ≡ (if r == g then is_some (map.get s.map x) else is_member m g x)
put m n r s is g x =
    let a : map.get n g ≡ (if r == g then Some s else map.get m g) = ap (λ m. map.get m g) is ∙ ap (λ f. f g) (got-insert m r s) in
    let b = kept n g x (if r == g then Some s else map.get m g) a in
    let c = kept m g x (map.get m g) refl in
    grind (arith, nat_tests, b, c)

pub closed : (m n : FinMap nat_cmp Set) (r : ℕ) → n ≡ map.remove m r → is_member n ≡ (λ g x. if r == g then false else is_member m g x)
closed m n r is = λ i g x. (each g x) i
  where
    each : (g x : ℕ) → is_member n g x ≡ (if r == g then false else is_member m g x)
    each g x =
        let a : map.get n g ≡ (if r == g then None else map.get m g) = ap (λ m. map.get m g) is ∙ ap (λ f. f g) (got-remove m r) in
        let b = kept n g x (if r == g then None else map.get m g) a in
        let c = kept m g x (map.get m g) refl in
        grind (arith, nat_tests, b, c)

-- a set that is closed leaves the room of the others
pub closed_room : (m n : FinMap nat_cmp Set) (r : ℕ) → n ≡ map.remove m r → (g : ℕ) → (r == g) ≡ false → room_in m g ≤ room_in n g
closed_room m n r is g apart =
    let a : map.get n g ≡ (if r == g then None else map.get m g) = ap (λ m. map.get m g) is ∙ ap (λ f. f g) (got-remove m r) in
    let b = spared n g (if r == g then None else map.get m g) a in
    let c = spared m g (map.get m g) refl in
    grind (arith, nat_tests, b, c, apart)

module _ (m n : FinMap nat_cmp Set) (r : ℕ) where
  module _ (s : Set) (is : n ≡ map.insert m r s) where
    pub put_room : (g : ℕ) → room_in n g ≡ (if r == g then s.spare else room_in m g)
    put_room g =
        let a : map.get n g ≡ (if r == g then Some s else map.get m g) = ap (λ m. map.get m g) is ∙ ap (λ f. f g) (got-insert m r s) in
        let b = spared n g (if r == g then Some s else map.get m g) a in
        let c = spared m g (map.get m g) refl in
        grind (arith, nat_tests, b, c)

  -- a set with one member more, or as it is
  pub one_more : (s t : Set) (id : ℕ) → map.get m r ≡ Some s → t.map ≡ map.insert s.map id tt → n ≡ map.insert m r t → is_member n ≡ (λ g x. (r == g && id == x) || is_member m g x)
  one_more s t id was more is = λ i g x. (each g x) i
    where
      each : (g x : ℕ) → is_member n g x ≡ ((r == g && id == x) || is_member m g x)
      each g x =
          let a = put m n r t is g x in
          let b : is_some (map.get t.map x) ≡ is_some (if id == x then Some tt else map.get s.map x) = ap (λ m. is_some (map.get m x)) more ∙ ap (λ f. is_some (f x)) (got-insert s.map id tt) in
          let c : r ≡ g → map.get m g ≡ Some s = λ p. rw p at was in
          let d = kept m g x (map.get m g) refl in
          grind (arith, nat_tests, a, b, c, d)

  pub one_less : (s t : Set) (id : ℕ) → map.get m r ≡ Some s → t.map ≡ map.remove s.map id → n ≡ map.insert m r t → is_member n ≡ (λ g x. if r == g && id == x then false else is_member m g x)
  one_less s t id was less is = λ i g x. (each g x) i
    where
      each : (g x : ℕ) → is_member n g x ≡ (if r == g && id == x then false else is_member m g x)
      each g x =
          let a = put m n r t is g x in
          let b : is_some (map.get t.map x) ≡ is_some (if id == x then None else map.get s.map x) = ap (λ m. is_some (map.get m x)) less ∙ ap (λ f. is_some (f x)) (got-remove s.map id) in
          let c : r ≡ g → map.get m g ≡ Some s = λ p. rw p at was in
          let d = kept m g x (map.get m g) refl in
          grind (arith, nat_tests, a, b, c, d)

  -- a set with the same members
  pub as_before : (o : Option Set) (t : Set) → map.get m r ≡ o → ((x : ℕ) → is_some (map.get t.map x) ≡ has o x) → n ≡ map.insert m r t → is_member n ≡ is_member m
  as_before o t was same is = λ i g x. (each g x) i
    where
      each : (g x : ℕ) → is_member n g x ≡ is_member m g x
      each g x =
          let a = put m n r t is g x in
          let b = same x in
          let c : r ≡ g → map.get m g ≡ o = λ p. rw p at was in
          let d = kept m g x (map.get m g) refl in
          grind (arith, nat_tests, a, b, c, d)

  -- a set with less room
  pub room_less : (s t : Set) → map.get m r ≡ Some s → s.spare ≤ t.spare + 1 → n ≡ map.insert m r t → (g : ℕ) → room_in m g ≤ room_in n g + (if r == g then 1 else 0)
  room_less s t was less is g =
      let a = put_room t is g in
      let b = spared m r (Some s) was in
      let c : r ≡ g → room_in m r ≡ room_in m g = ap (room_in m) in
      grind (arith, nat_tests, a, b, c, less)

  -- a set with room for more
  pub room_more : (o : Option Set) (t : Set) → map.get m r ≡ o → option_map_or (λ s. s.spare) o 0 ≤ t.spare → n ≡ map.insert m r t → (g : ℕ) → room_in m g ≤ room_in n g
  room_more o t was more is g =
      let a = put_room t is g in
      let b = spared m r o was in
      let c : r ≡ g → room_in m r ≡ room_in m g = ap (room_in m) in
      grind (arith, nat_tests, a, b, c, more)

  -- a set that loses a member and its own room leaves the room of the others
  pub last_room : (t : Set) → n ≡ map.remove (map.insert m r t) r → (g : ℕ) → (r == g) ≡ false → room_in m g ≤ room_in n g
  last_room t is g apart =
      let a : map.get n g ≡ (if r == g then None else map.get (map.insert m r t) g) = ap (λ m. map.get m g) is ∙ ap (λ f. f g) (got-remove (map.insert m r t) r) in
      let b : map.get (map.insert m r t) g ≡ (if r == g then Some t else map.get m g) = ap (λ f. f g) (got-insert m r t) in
      let d = spared n g (map.get n g) refl in
      let e = spared m g (map.get m g) refl in
      grind (arith, nat_tests, a, b, d, e, apart)

  -- nothing is left in it, so what has a member is another set
  pub last_left : (t : Set) → n ≡ map.remove (map.insert m r t) r → (g x : ℕ) → is_member n g x ≡ true → room_in m g ≤ room_in n g
  last_left t is g x member =
      let gone : is_member n g x ≡ (if r == g then false else is_member (map.insert m r t) g x) = ap (λ f. f g x) (closed (map.insert m r t) n r is) in
      let others = last_room t is g in
      grind (arith, nat_tests, gone, others, member)

  pub room_there : (t : Set) → n ≡ map.insert m r t → room_in n r ≡ t.spare
  room_there t is = let a = put_room t is r in grind (arith, nat_tests, a)

  -- the last member goes, and its set with it
  pub last_less : (s : Set) (id : ℕ) → map.get m r ≡ Some s → ((x : ℕ) → is_some (map.get (map.remove s.map id) x) ≡ false) → (t : Set) → n ≡ map.remove (map.insert m r t) r
      → is_member n ≡ (λ g x. if r == g && id == x then false else is_member m g x)
  last_less s id was none t is = λ i g x. (each g x) i
    where
      each : (g x : ℕ) → is_member n g x ≡ (if r == g && id == x then false else is_member m g x)
      each g x =
          let a : is_member n g x ≡ (if r == g then false else is_member (map.insert m r t) g x) = ap (λ f. f g x) (closed (map.insert m r t) n r is) in
          let f = put m (map.insert m r t) r t refl g x in
          let b : is_some (map.get (map.remove s.map id) x) ≡ is_some (if id == x then None else map.get s.map x) = ap (λ f. is_some (f x)) (got-remove s.map id) in
          let c : r ≡ g → map.get m g ≡ Some s = λ p. rw p at was in
          let d = kept m g x (map.get m g) refl in
          let e = none x in
          grind (arith, nat_tests, a, b, c, d, e, f)

-- where the set isn't kept nothing is in it
pub none_in : (m : FinMap nat_cmp Set) (r id : ℕ) → map.get m r ≡ None → is_member m ≡ (λ g x. if r == g && id == x then false else is_member m g x)
none_in m r id none = λ i g x. (each g x) i
  where
    each : (g x : ℕ) → is_member m g x ≡ (if r == g && id == x then false else is_member m g x)
    each g x =
        let a : r ≡ g → map.get m g ≡ None = λ p. rw p at none in
        let b = kept m g x (map.get m g) refl in
        grind (arith, nat_tests, a, b)
