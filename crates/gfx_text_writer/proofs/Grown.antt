-- Text that grows at its end.
use Rattle.std.proofs.Common.{◌≡◌, ℕ, Bool, true, false, cond, ◌&&◌, ◌∷◌, ◌++◌, List, [], length, take, refl, sym, ap, ◌∙◌, arith, append-nil, append_assoc, length-append}
use Rattle.std.specs.List.{join_with_byte}
use Rattle.std.specs.Prelude.{map, flat_map, codes, Result, OnOk, OnErr}
use Rattle.std.proofs.lemmas.List.{take-append-le, take-take, take_all}
use Rattle.std.proofs.lemmas.Result.{on_ok_weaker, on_err_weaker}
use Rattle.gfx_types.specs.declared.effect.Meta.{Meta}
use Rattle.gfx_model.specs.Events.{event_of_meta}
use Rattle.gfx_model.specs.Fields.{Named, Value, is_made, named_fields}
use Rattle.gfx_script_model.specs.FieldText.{field_text, value_text}
use Rattle.gfx_text_grammar.specs.Reading.{Style}
use Rattle.gfx_text_grammar.specs.FieldReading.{Left, with_fields, made_text, nothing}
use Rattle.gfx_text_writer.specs.Shown.{behind_spaces, token_text, tokens_text}

-- items with a comma between each two: the first, and each other one behind a comma
pub join_first : {X : Type 0} (text : X → List ℕ) (x : X) (xs : List X) → join_with_byte 44 (map text (x ∷ xs)) ≡ text x ++ flat_map (λ y. 44 ∷ text y) xs
join_first text x [] = sym (append-nil (text x))
join_first {X} text x (y ∷ ys) = ap (λ (z : List ℕ). text x ++ (44 ∷ z)) (join_first text y ys)

-- what was at the start stays there, where what grew behind it stays
pub front_stays : (old mid more new : List ℕ) → mid ≡ old ++ more → take (length mid) new ≡ mid → take (length old) new ≡ old
front_stays old mid more new grown kept =
    sym (take-take (length old) (length mid) new (omega (arith, ap length grown, length-append old more)))
    ∙ ap (take (length old)) (kept ∙ grown)
    ∙ take-append-le (length old) old more (omega arith)
    ∙ take_all (length old) old (omega arith)

-- and so where a call that failed left what grew behind it
pub err_stays : {T E : Type 0} (r : Result T E) (old mid more new : List ℕ) → mid ≡ old ++ more → OnErr r (take (length mid) new ≡ mid)
    → OnErr r (take (length old) new ≡ old)
err_stays r old mid more new grown kept = on_err_weaker r (λ h. front_stays old mid more new grown h) kept

-- two maps in one
pub map_both : {X Y Z : Type 0} (g : Y → Z) (f : X → Y) (xs : List X) → map g (map f xs) ≡ map (λ x. g (f x)) xs
map_both g f [] = refl
map_both g f (x ∷ xs) = ap (λ zs. g (f x) ∷ zs) (map_both g f xs)

-- one field
one_token : (s : Style) (f : Named) → tokens_text s (f ∷ []) ≡ token_text s f
unfolding tokens_text
one_token s f = append-nil (token_text s f)

-- the text of a field is its name, = and its value
field_spelled : (show : ℕ → List ℕ) (name text : List ℕ) (v : Value) → value_text show v ≡ text
    → 32 ∷ field_text show (record { name = name; value = v }) ≡ 32 ∷ (name ++ (61 ∷ text))
field_spelled show name text v same =
    ap (λ (z : List ℕ). 32 ∷ z) (append_assoc name (codes "=") (value_text show v) ∙ ap (λ (z : List ℕ). name ++ (61 ∷ z)) same)

-- a field that the call doesn't make
pub plain_token : (s : Style) (name text : List ℕ) (v : Value) → is_made v ≡ false → value_text s.ids.show v ≡ text
    → tokens_text s (record { name = name; value = v } ∷ []) ≡ 32 ∷ (name ++ (61 ∷ text))
plain_token s name text v plain same =
    let f : Named = record { name = name; value = v } in
    one_token s f
    ∙ ap (λ (b : Bool). cond (b && s.ids.apart) [] (32 ∷ field_text s.ids.show f)) plain
    ∙ field_spelled s.ids.show name text v same

-- one that it makes, where it is among the others and where it is written apart
pub made_token : (s : Style) (name text : List ℕ) (v : Value) → is_made v ≡ true → s.ids.apart ≡ false → value_text s.ids.show v ≡ text
    → tokens_text s (record { name = name; value = v } ∷ []) ≡ 32 ∷ (name ++ (61 ∷ text))
made_token s name text v made among same =
    let f : Named = record { name = name; value = v } in
    one_token s f
    ∙ ap (λ (b : Bool). cond (b && s.ids.apart) [] (32 ∷ field_text s.ids.show f)) made
    ∙ ap (λ (b : Bool). cond b [] (32 ∷ field_text s.ids.show f)) among
    ∙ field_spelled s.ids.show name text v same

pub apart_token : (s : Style) (name : List ℕ) (v : Value) → is_made v ≡ true → s.ids.apart ≡ true
    → tokens_text s (record { name = name; value = v } ∷ []) ≡ []
apart_token s name v made apart =
    let f : Named = record { name = name; value = v } in
    one_token s f
    ∙ ap (λ (b : Bool). cond (b && s.ids.apart) [] (32 ∷ field_text s.ids.show f)) made
    ∙ ap (λ (b : Bool). cond b [] (32 ∷ field_text s.ids.show f)) apart

-- the texts of fields are those that are not written apart
pub tokens_left : (s : Style) (fields : List Named) → tokens_text s fields ≡ behind_spaces (with_fields s fields nothing).1
unfolding tokens_text
tokens_left s [] = refl
tokens_left s (f ∷ fs) = by (is_made f.value) s.ids.apart (tokens_left s fs)
  where
    by : (made apart : Bool) → tokens_text s fs ≡ behind_spaces (with_fields s fs nothing).1
        → (cond (made && apart) [] (32 ∷ field_text s.ids.show f)) ++ tokens_text s fs
        ≡ behind_spaces (cond {A = Left} (apart && made) (made_text s f.value ∷ (with_fields s fs nothing).0, (with_fields s fs nothing).1)
        ((with_fields s fs nothing).0, field_text s.ids.show f ∷ (with_fields s fs nothing).1)).1
    by true true h = h
    by true false h = ap (λ (z : List ℕ). (32 ∷ field_text s.ids.show f) ++ z) h
    by false true h = ap (λ (z : List ℕ). (32 ∷ field_text s.ids.show f) ++ z) h
    by false false h = ap (λ (z : List ℕ). (32 ∷ field_text s.ids.show f) ++ z) h

-- the fields of a metadata are the same in both versions
pub meta_left : (s : Style) (m : ℕ) (meta : Meta) → tokens_text s (named_fields 1 (event_of_meta meta)) ≡ behind_spaces (with_fields s (named_fields m (event_of_meta meta)) nothing).1
meta_left s m meta = ap (tokens_text s) (by meta) ∙ tokens_left s (named_fields m (event_of_meta meta))
  where
    by : (meta : Meta) → named_fields 1 (event_of_meta meta) ≡ named_fields m (event_of_meta meta)
    by (Meta.FillMemory memory offset bytes) = refl
    by _ = refl

-- what was appended is the text of other fields, where these are equal
pub row_shown : {T E : Type 0} (r : Result T E) (old new : List ℕ) (s : Style) (fields others : List Named) → OnOk r (new ≡ old ++ tokens_text s fields) → fields ≡ others
    → OnOk r (new ≡ old ++ tokens_text s others)
row_shown r old new s fields others put same =
    on_ok_weaker r (λ (h : new ≡ old ++ tokens_text s fields). h ∙ ap (λ fs. old ++ tokens_text s fs) same) put
