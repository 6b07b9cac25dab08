-- Where a word ends, single bytes, and fronts.
use Rattle.std.proofs.Common.{◌≡◌, ℕ, ◌+◌, ◌≤◌, nat_eq, nat_lt, not, ◌&&◌, Bool, true, false, cond, List, [], ◌∷◌, ◌++◌, length, take, drop, Option, Some, None, refl, sym, ap, ◌∙◌, arith, one-add}
use Rattle.std.specs.Prelude.{MatchOption, position}
use Rattle.std.specs.List.{position_or_len}
use Rattle.std.specs.Cmp.Lexicographic.{pointwise}
use Rattle.std.proofs.lemmas.Bool.{cond-true, cond-false, ltb-false}
use Rattle.std.proofs.lemmas.Option.{cond_some}
use Rattle.std.proofs.lemmas.List.Sums.{prefix_len-le-length}
use Rattle.gfx_script_model.specs.Names.{is_letter_or_digit}
use Rattle.gfx_grammar.specs.Reading.{◌>>=◌}
use Rattle.gfx_text_grammar.specs.Words.{word_of, after_word}
use Rattle.gfx_text_grammar.specs.Reading.{behind}
use Rattle.gfx_text_grammar.specs.FieldReading.{without_front}

-- no word goes on here
abbrev pub ends : ℕ → Bool
ends c = not (is_letter_or_digit c)

-- a word is what is before its end
pub word_is : (text : List ℕ) → word_of text ≡ take (position_or_len ends text) text
word_is [] = refl
word_is (c ∷ cs) = by (is_letter_or_digit c) (word_is cs)
  where
    by : (b : Bool) → word_of cs ≡ take (position_or_len ends cs) cs
        → cond b (c ∷ word_of cs) [] ≡ take (cond (not (not b)) (1 + position_or_len ends cs) 0) (c ∷ cs)
    by true h = rw one-add (ap (λ (z : List ℕ). c ∷ z) h)
    by false h = refl

pub after_is : (text : List ℕ) → after_word text ≡ drop (position_or_len ends text) text
after_is [] = refl
after_is (c ∷ cs) = by (is_letter_or_digit c) (after_is cs)
  where
    by : (b : Bool) → after_word cs ≡ drop (position_or_len ends cs) cs
        → cond b (after_word cs) (c ∷ cs) ≡ drop (cond (not (not b)) (1 + position_or_len ends cs) 0) (c ∷ cs)
    by true h = rw one-add h
    by false h = refl

-- ---- fronts

pub front_cut : (front text : List ℕ) → without_front front text ≡ cond (pointwise nat_eq (take (length front) text) front) (Some (drop (length front) text)) None
front_cut [] text = refl
front_cut (c ∷ cs) [] = refl
front_cut (c ∷ cs) (d ∷ text) = by (nat_eq d c) (front_cut cs text)
  where
    by : (b : Bool) → without_front cs text ≡ cond (pointwise nat_eq (take (length cs) text) cs) (Some (drop (length cs) text)) None
        → (cond b (Some text) None >>= without_front cs) ≡ cond (b && pointwise nat_eq (take (length cs) text) cs) (Some (drop (length cs) text)) None
    by true h = h
    by false h = refl

pub front_there : (front text rest : List ℕ) → pointwise nat_eq (take (length front) text) front ≡ true → rest ≡ drop (length front) text
    → without_front front text ≡ Some rest
front_there front text rest same is = front_cut front text ∙ cond-true _ _ None same ∙ ap Some (sym is)

pub front_not : (front text : List ℕ) → pointwise nat_eq (take (length front) text) front ≡ false → without_front front text ≡ None
front_not front text other = front_cut front text ∙ cond-false _ (Some (drop (length front) text)) _ other

-- one front behind another
pub fronts_join : (a b text : List ℕ) → without_front (a ++ b) text ≡ (without_front a text >>= without_front b)
fronts_join [] b text = refl
fronts_join (c ∷ cs) b text = by (λ t. fronts_join cs b t) (behind c text)
  where
    by : ((t : List ℕ) → without_front (cs ++ b) t ≡ (without_front cs t >>= without_front b)) → (o : Option (List ℕ)) → (o >>= without_front (cs ++ b)) ≡ ((o >>= without_front cs) >>= without_front b)
    by more None = refl
    by more (Some t) = more t

-- a prefix is cut off exactly where it is there
pub front_matches : {R : Type 0} (now : R → List ℕ) (front text : List ℕ) (r : Option R)
    → MatchOption r (pointwise nat_eq (take (length front) text) front ≡ false)
    (λ x. (pointwise nat_eq (take (length front) text) front ≡ true) × (now x ≡ drop (length front) text) × (length (now x) + length front ≡ length text))
    → MatchOption r (without_front front text ≡ None) (λ x. without_front front text ≡ Some (now x))
front_matches now front text None other = front_not front text other
front_matches now front text (Some x) is = front_there front text (now x) is.0 is.1

-- ---- the first end of a word

pub position_some : {X : Type 0} (p : X → Bool) (xs : List X) (i : ℕ) → position p xs ≡ Some i → i ≡ position_or_len p xs
position_some p xs i is = sym (cond_some (nat_lt (position_or_len p xs) (length xs)) (position_or_len p xs) i is).1

pub position_none : {X : Type 0} (p : X → Bool) (xs : List X) → position p xs ≡ None → length xs ≡ position_or_len p xs
position_none p xs is = by (nat_lt (position_or_len p xs) (length xs)) refl is
  where
    by : (b : Bool) → nat_lt (position_or_len p xs) (length xs) ≡ b → cond b (Some (position_or_len p xs)) None ≡ None → length xs ≡ position_or_len p xs
    by true e h = absurd cc
    by false e h =
        let low : length xs ≤ position_or_len p xs = ltb-false _ _ e in
        let high : position_or_len p xs ≤ length xs = prefix_len-le-length (λ x. not (p x)) xs in
        omega (arith, low, high)

pub end_within : {X : Type 0} (p : X → Bool) (xs : List X) → position_or_len p xs ≤ length xs
end_within p xs = prefix_len-le-length (λ x. not (p x)) xs
