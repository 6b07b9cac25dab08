-- The texts of values have neither spaces nor line feeds.
use Rattle.std.proofs.Common.{◌≡◌, ℕ, ◌<◌, ◌^◌, nat_le, ◌&&◌, Bool, true, List, [], ◌∷◌, ◌++◌, map, refl, ◌∙◌, arith, decimal, codes}
use Rattle.std.proofs.lemmas.Bool.{and_parts, and_from}
use Rattle.std.specs.List.{AllByRecursion, list_all, join_with_byte}
use Rattle.std.proofs.lemmas.Bool.Decides.{nat_tests}
use Rattle.std.proofs.lemmas.List.Folds.{list_all-append}
use Rattle.gfx_types.specs.declared.lists.Submit.{Submit}
use Rattle.gfx_model.specs.Fields.{Atom, Value, Named, atoms_of}
use Rattle.gfx_model.specs.Fields.Atom.{an_id, a_wide, a_short}
use Rattle.gfx_model.specs.Fields.Value.{names, makes, maybe, wide, short, raw, names_each, makes_each, shorts, records, submitted}
use Rattle.gfx_script_model.specs.Names.{is_letter_or_digit}
use Rattle.gfx_script_model.specs.FieldText.{list_text, record_text, atom_text, submit_text, value_text, field_text, IdFits, AtomFits, ListFits, SubmitFits, ValueFits}
use Rattle.gfx_model.specs.Text.{hex_text}
use Rattle.gfx_text_grammar.specs.Reading.{Style}
use Rattle.gfx_text_grammar.specs.Reads.{IsStyle}
use Rattle.gfx_text_grammar.proofs.WordLaws.{decimal_letters, hex_letters}
use Rattle.gfx_text_grammar.proofs.Lists.{map_of_all}
use Rattle.gfx_model.proofs.Lists.{all_along}

-- a byte that shows
abbrev pub is_graphic : ℕ → Bool
is_graphic c = nat_le 33 c && nat_le c 126

abbrev pub are_graphic : List ℕ → Bool
are_graphic text = list_all is_graphic text

pub graphic-append : (a b : List ℕ) → are_graphic a ≡ true → are_graphic b ≡ true → are_graphic (a ++ b) ≡ true
graphic-append a b p q = list_all-append is_graphic a b ∙ and_from _ _ p q

letter_graphic : (c : ℕ) → is_letter_or_digit c ≡ true → is_graphic c ≡ true
letter_graphic c h = grind (arith, nat_tests, h)

pub letters_graphic : (word : List ℕ) → list_all is_letter_or_digit word ≡ true → are_graphic word ≡ true
letters_graphic [] h = refl
letters_graphic (c ∷ cs) h = let p = and_parts (is_letter_or_digit c) (list_all is_letter_or_digit cs) h in and_from _ _ (letter_graphic c p.0) (letters_graphic cs p.1)

pub decimal_graphic : (n : ℕ) → n < 2 ^ 64 → are_graphic (decimal n) ≡ true
decimal_graphic n small = letters_graphic (decimal n) (decimal_letters n small)

join_graphic : (texts : List (List ℕ)) → AllByRecursion (λ t. are_graphic t ≡ true) texts → are_graphic (join_with_byte 44 texts) ≡ true
join_graphic [] h = refl
join_graphic (t ∷ []) h = h.0
join_graphic (t ∷ u ∷ ts) h = graphic-append t (44 ∷ join_with_byte 44 (u ∷ ts)) h.0 (join_graphic (u ∷ ts) h.1)

list_graphic : (texts : List (List ℕ)) → AllByRecursion (λ t. are_graphic t ≡ true) texts → are_graphic (list_text texts) ≡ true
list_graphic texts h = graphic-append (join_with_byte 44 texts) (93 ∷ []) (join_graphic texts h) refl

record_graphic : (texts : List (List ℕ)) → AllByRecursion (λ t. are_graphic t ≡ true) texts → are_graphic (record_text texts) ≡ true
record_graphic texts h = graphic-append (join_with_byte 44 texts) (41 ∷ []) (join_graphic texts h) refl

each : {X : Type 0} (P : X → Type 0) (t : X → List ℕ) → ((x : X) → P x → are_graphic (t x) ≡ true) → (xs : List X) → AllByRecursion P xs → AllByRecursion (λ u. are_graphic u ≡ true) (map t xs)
each P t one xs h = map_of_all (λ u. are_graphic u ≡ true) t xs (all_along P (λ x. are_graphic (t x) ≡ true) one xs h)

ids_graphic : (s : Style) → IsStyle s → (xs : List ℕ) → ListFits (IdFits s.ids) xs → are_graphic (list_text (map s.ids.show xs)) ≡ true
ids_graphic s is xs h = list_graphic (map s.ids.show xs) (each (IdFits s.ids) s.ids.show (λ x p. letters_graphic (s.ids.show x) (is.again x p).1) xs h.1)

atom_graphic : (s : Style) → IsStyle s → (a : Atom) → AtomFits s.ids a → are_graphic (atom_text s.ids.show a) ≡ true
atom_graphic s is (an_id n) h = letters_graphic (s.ids.show n) (is.again n h).1
atom_graphic s is (a_wide n) h = decimal_graphic n h
atom_graphic s is (a_short n) h = decimal_graphic n (omega arith)

submit_graphic : (s : Style) → IsStyle s → (x : Submit) → SubmitFits s.ids x → are_graphic (submit_text s.ids.show x) ≡ true
submit_graphic s is x h =
    record_graphic (list_text (map s.ids.show x.waits) ∷ list_text (map s.ids.show x.cbs) ∷ list_text (map s.ids.show x.signals) ∷ [])
    (ids_graphic s is x.waits h.0, (ids_graphic s is x.cbs h.1.0, (ids_graphic s is x.signals h.1.1, tt)))

pub value_graphic : (s : Style) → IsStyle s → (v : Value) → ValueFits s.ids v → are_graphic (value_text s.ids.show v) ≡ true
value_graphic s is (names n) h = letters_graphic (s.ids.show n) (is.again n h).1
value_graphic s is (makes n) h = letters_graphic (s.ids.show n) (is.again n h).1
value_graphic s is (maybe n) h = letters_graphic (s.ids.show n) (is.maybe_again n h).1
value_graphic s is (wide n) h = decimal_graphic n h
value_graphic s is (short n) h = decimal_graphic n (omega arith)
value_graphic s is (raw bytes) h = letters_graphic (hex_text bytes) (hex_letters bytes h)
value_graphic s is (names_each xs) h = ids_graphic s is xs h
value_graphic s is (makes_each xs) h = ids_graphic s is xs h.1
value_graphic s is (shorts xs) h = list_graphic (map decimal xs) (each (λ n. n < 2 ^ 32) decimal (λ x p. decimal_graphic x (omega arith)) xs h.1)
value_graphic s is (records rs) h =
    list_graphic (map (λ r. record_text (map (atom_text s.ids.show) r)) (atoms_of rs))
    (each (AllByRecursion (AtomFits s.ids)) (λ r. record_text (map (atom_text s.ids.show) r)) (λ r p. record_graphic (map (atom_text s.ids.show) r) (each (AtomFits s.ids) (atom_text s.ids.show) (atom_graphic s is) r p)) (atoms_of rs) h.1)
value_graphic s is (submitted xs) h = list_graphic (map (submit_text s.ids.show) xs) (each (SubmitFits s.ids) (submit_text s.ids.show) (submit_graphic s is) xs h.1)

pub field_graphic : (s : Style) → IsStyle s → (f : Named) → are_graphic f.name ≡ true → ValueFits s.ids f.value → are_graphic (field_text s.ids.show f) ≡ true
field_graphic s is f name h = graphic-append (f.name ++ codes "=") (value_text s.ids.show f.value) (graphic-append f.name (codes "=") name refl) (value_graphic s is f.value h)
