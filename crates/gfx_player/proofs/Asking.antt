-- The frames that are asked for, one frame after another.
use Rattle.std.proofs.Common.{◌≡◌, ◌≤◌, ◌+◌, ◌||◌, ℕ, Bool, true, false, if◌then◌else◌, List, [], ◌∷◌, ◌++◌, length, refl, sym, ap, ◌∙◌, arith, length-append}
use Rattle.std.specs.Prelude.{filter, unwrap_or}
use Rattle.std.proofs.lemmas.List.Folds.{list_any-append}
use Rattle.std.proofs.lemmas.List.Elements.{filter-append}
use Rattle.gfx_types.specs.declared.frame.Frame.{Frame}
use Rattle.gfx_player.specs.declared.asked.Asked.{Asked}
use Rattle.gfx_player.specs.Asked.{IsBehindLast, asked_of, has_last, is_asked, is_last}
use Rattle.gfx_player.specs.Ends.{IsBehindFrame}
use Rattle.gfx_player.specs.Meanings.{first_of}

-- the number of the first frame of a file, with one frame more
abbrev pub first_with : List Frame → ℕ → ℕ
first_with fs n = unwrap_or (first_of fs) n

-- the frame, where it is asked for
abbrev pub if_asked : Bool → Frame → List Frame
if_asked t f = if t then f ∷ [] else []

pub asked_more : (a : Asked) (fs : List Frame) (f : Frame) → asked_of a (fs ++ f ∷ []) ≡ asked_of a fs ++ if_asked (is_asked a (first_with fs f.number) f.number) f
asked_more a [] f = refl
asked_more a (g ∷ gs) f = filter-append (λ f. is_asked a g.number f.number) (g ∷ gs) (f ∷ [])

-- one where it is asked for
abbrev pub one_if : Bool → ℕ
one_if t = if t then 1 else 0

length-asked : (t : Bool) (f : Frame) → length (if_asked t f) ≡ one_if t
length-asked true f = refl
length-asked false f = refl

pub count_more : (a : Asked) (fs : List Frame) (f : Frame) → length (asked_of a fs) + one_if (is_asked a (first_with fs f.number) f.number) ≡ length (asked_of a (fs ++ f ∷ []))
count_more a fs f =
    let t = is_asked a (first_with fs f.number) f.number in
    sym (ap length (asked_more a fs f) ∙ length-append (asked_of a fs) (if_asked t f) ∙ ap (λ n. length (asked_of a fs) + n) (length-asked t f))

-- no more are asked for than there are
pub few_asked : (a : Asked) (first : ℕ) (fs : List Frame) → length (filter (λ (f : Frame). is_asked a first f.number) fs) ≤ length fs
few_asked a first [] = omega arith
few_asked a first (f ∷ fs) = by (is_asked a first f.number) (few_asked a first fs)
  where
    by : (t : Bool) → length (filter (λ (f : Frame). is_asked a first f.number) fs) ≤ length fs →
        length (if t then f ∷ filter (λ (f : Frame). is_asked a first f.number) fs else filter (λ (f : Frame). is_asked a first f.number) fs) ≤ length (f ∷ fs)
    by true less = omega (arith, less)
    by false less = omega (arith, less)

last_with : (a : Asked) (fs : List Frame) (f : Frame) → has_last a (fs ++ f ∷ []) ≡ (has_last a fs || (is_last a (first_with fs f.number) f.number || false))
last_with a [] f = refl
last_with a (g ∷ gs) f = list_any-append (λ (x : Frame). is_last a g.number x.number) (g ∷ gs) (f ∷ [])

-- whether the last is among them, where it wasn't before
pub last_more : (a : Asked) (fs : List Frame) (f : Frame) → has_last a fs ≡ false → has_last a (fs ++ f ∷ []) ≡ is_last a (first_with fs f.number) f.number
last_more a fs f none = last_with a fs f ∙ ap (λ t. t || (is_last a (first_with fs f.number) f.number || false)) none ∙ or_none (is_last a (first_with fs f.number) f.number)
  where
    or_none : (t : Bool) → (t || false) ≡ t
    or_none true = refl
    or_none false = refl

-- what is asked for of the first frames is first
pub record InFront (a : Asked) (fs all : List Frame) : Type 0 where
  pub more : List Frame
  pub is : asked_of a all ≡ asked_of a fs ++ more

pub asked_front : (a : Asked) (fs more : List Frame) → InFront a fs (fs ++ more)
asked_front a [] more = record { more = asked_of a more; is = refl }
asked_front a (f ∷ fs) more = record {
  more = filter (λ (x : Frame). is_asked a f.number x.number) more;
  is = filter-append (λ (x : Frame). is_asked a f.number x.number) (f ∷ fs) more;
}

-- the frame that is shown is the last
pub behind_last : (a : Asked) (shown : List Frame) (f : Frame) (bytes left : List ℕ) → IsBehindFrame shown f bytes left → has_last a shown ≡ false → has_last a (shown ++ f ∷ []) ≡ true → IsBehindLast a bytes left
behind_last a shown f bytes left b before there = record {
  fed = b.fed;
  block = b.block;
  through = b.through;
  before = ap (has_last a) b.before ∙ before;
  there = ap (has_last a) b.there ∙ there;
}
