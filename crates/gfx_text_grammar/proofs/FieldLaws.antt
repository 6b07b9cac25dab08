-- Laws of fields: a token, ids that are written apart, and fields one after the other.
use Rattle.std.proofs.Common.{◌≡◌, ℕ, ◌≤◌, nat_eq, ◌&&◌, Bool, true, false, List, [], ◌∷◌, ◌++◌, length, map, Option, Some, refl, sym, ap, subst, ◌∙◌, arith, append-nil, codes}
use Rattle.std.proofs.lemmas.Option.{cond_some}
use Prim.Native.String.{String}
use Rattle.std.specs.List.{join_with_byte}
use Rattle.std.proofs.lemmas.Bool.{cond-true, cond-false, eqb-true, and_right}
use Rattle.std.proofs.lemmas.List.{append_cancel_right, nil_from_length}
use Rattle.gfx_model.specs.Fields.{Value, Named, is_made, field, Atom, Records, atoms_of}
use Rattle.gfx_model.specs.Fields.Value.{makes, makes_each, names, maybe, wide, short, raw, names_each, shorts, records, submitted}
use Rattle.gfx_script_model.specs.FieldText.{list_text, value_text, IdFits, ListFits, ValueFits, FieldsFit}
use Rattle.gfx_grammar.specs.Reading.{◌>>=◌, Reader}
use Rattle.gfx_grammar.specs.Rows.{if_none_left}
use Rattle.gfx_grammar.proofs.NumberLaws.{bind_some, some_is}
use Rattle.gfx_text_grammar.specs.Reading.{Style, behind, read_id, read_ids}
use Rattle.gfx_text_grammar.specs.Reads.{Reads, IsStyle}
use Rattle.gfx_text_grammar.specs.FieldReading.{Left, FieldReader, whole, without_front, read_first, named_value, read_field, read_apart, read_made, one_apart, if_any, each_apart, read_new, read_new_each, read_both, ◌⊛◌, made_text, with_field, with_fields, ReadsFields}
use Rattle.gfx_text_grammar.proofs.ReaderLaws.{behind_some, behind-same}
use Rattle.gfx_text_grammar.proofs.ValueLaws.{reads_id, reads_ids, reads_u32, reads_u64, reads_raw, reads_maybe, reads_words, ReadsAtoms, reads_records, reads_submits}
use Rattle.gfx_model.proofs.Lists.{all_append}
use Rattle.gfx_text_grammar.proofs.Lists.{all_parts}
use Rattle.gfx_text_grammar.specs.Rows.{id_field, maybe_field, wide_field, short_field, raw_field, ids_field, words_field, records_field, submits_field}

-- ---- a whole text

none_left : {X : Type 0} (x : X) (rest : List ℕ) (y : X) → if_none_left x rest ≡ Some y → (rest ≡ []) × (x ≡ y)
none_left x rest y is = let h = cond_some (nat_eq (length rest) 0) x y is in (nil_from_length rest (eqb-true (length rest) 0 h.0), h.1)

pub whole_takes : {X : Type 0} {r : Reader X} {t : X → List ℕ} {f : X → Type 0} → Reads r t f → (text : List ℕ) (x : X) → whole r text ≡ Some x → (text ≡ t x) × f x
unfolding whole
whole_takes {X} {r} {t} {f} p text x is =
    let a = bind_some (r text) (λ x. if_none_left x.0 x.1) x is in
    let e = none_left a.0.0 a.0.1 x a.2 in
    let h = p.takes text a.0.0 a.0.1 a.1 in
    subst (λ (z : X). (text ≡ t z) × f z) e.1 (h.0 ∙ ap (λ (z : List ℕ). t a.0.0 ++ z) e.0 ∙ append-nil (t a.0.0), h.1)

pub whole_again : {X : Type 0} {r : Reader X} {t : X → List ℕ} {f : X → Type 0} → Reads r t f → (x : X) → f x → whole r (t x) ≡ Some x
unfolding whole
whole_again {X} {r} {t} {f} p x fit =
    ap (λ (z : List ℕ). r z >>= λ v. if_none_left v.0 v.1) (sym (append-nil (t x)))
    ∙ ap (λ (o : Option (X × List ℕ)). o >>= λ v. if_none_left v.0 v.1) (p.again x [] fit refl)

-- ---- a token

pub without_front_some : (front text rest : List ℕ) → without_front front text ≡ Some rest → text ≡ front ++ rest
without_front_some [] text rest is = some_is _ _ is
without_front_some (c ∷ cs) text rest is =
    let a = bind_some (behind c text) (without_front cs) rest is in
    behind_some c text a.0 a.1 ∙ ap (λ (z : List ℕ). c ∷ z) (without_front_some cs a.0 rest a.2)

pub without_front-same : (front rest : List ℕ) → without_front front (front ++ rest) ≡ Some rest
without_front-same [] rest = refl
without_front-same (c ∷ cs) rest = ap (λ o. o >>= without_front cs) (behind-same c (cs ++ rest)) ∙ without_front-same cs rest

pub named_takes : {X : Type 0} {r : Reader X} {t : X → List ℕ} {f : X → Type 0} → Reads r t f → (name token : List ℕ) (x : X) → named_value name r token ≡ Some x
    → (token ≡ name ++ codes "=" ++ t x) × f x
named_takes {X} {r} {t} {f} p name token x is =
    let a = bind_some (without_front (name ++ codes "=") token) (whole r) x is in
    let h = whole_takes p a.0 x a.2 in
    (without_front_some (name ++ codes "=") token a.0 a.1 ∙ ap (λ (z : List ℕ). name ++ codes "=" ++ z) h.0, h.1)

pub named_again : {X : Type 0} {r : Reader X} {t : X → List ℕ} {f : X → Type 0} → Reads r t f → (name : List ℕ) (x : X) → f x
    → named_value name r (name ++ codes "=" ++ t x) ≡ Some x
named_again {X} {r} {t} {f} p name x fit =
    ap (λ o. o >>= whole r) (without_front-same (name ++ codes "=") (t x)) ∙ whole_again p x fit

first_same : {X : Type 0} (value : List ℕ → Option X) (t : List ℕ) (ts : List (List ℕ)) (x : X) → value t ≡ Some x → read_first value (t ∷ ts) ≡ Some (x, ts)
first_same {X} value t ts x is = ap (λ (o : Option X). o >>= λ v. Some (v, ts)) is

first_some : {X : Type 0} (value : List ℕ → Option X) (texts : List (List ℕ)) (x : X) (rest : List (List ℕ)) → read_first value texts ≡ Some (x, rest)
    → (t : List ℕ) × (texts ≡ t ∷ rest) × (value t ≡ Some x)
first_some value [] x rest is = absurd cc
first_some {X} value (t ∷ ts) x rest is =
    let a = bind_some (value t) (λ x. Some (x, ts)) (x, rest) is in
    let made : (a.0, ts) ≡ (x, rest) = some_is _ _ a.2 in
    subst (λ (z : X × List (List ℕ)). (u : List ℕ) × (t ∷ ts ≡ u ∷ z.1) × (value u ≡ Some z.0)) made (t, refl, a.1)

-- a field that the call does not create
pub reads_field : {X : Type 0} {s : Style} (name : String) (v : X → Value) {r : Reader X}
    → Reads r (λ x. value_text s.ids.show (v x)) (λ x. ValueFits s.ids (v x)) → ((x : X) → (s.ids.apart && is_made (v x)) ≡ false)
    → ReadsFields s (read_field name r) (λ x. field name (v x) ∷ [])
unfolding read_field
reads_field {X} {s} name v {r} p here = record {
  takes = λ left x rest is.
      let a = bind_some (read_first (named_value (codes name) r) left.1) (λ x. Some (x.0, (left.0, x.1))) (x, rest) is in
      let made : (a.0.0, (left.0, a.0.1)) ≡ (x, rest) = some_is _ _ a.2 in
      let b = first_some (named_value (codes name) r) left.1 a.0.0 a.0.1 a.1 in
      let h = named_takes p (codes name) b.0 a.0.0 b.2 in
      let same : left ≡ (left.0, (codes name ++ codes "=" ++ value_text s.ids.show (v a.0.0)) ∷ a.0.1) = ap (λ (z : List (List ℕ)). (left.0, z)) (b.1 ∙ ap (λ (z : List ℕ). z ∷ a.0.1) h.0) in
      subst (λ (z : X × Left). (left ≡ with_fields s (field name (v z.0) ∷ []) z.1) × FieldsFit s.ids (field name (v z.0) ∷ [])) made
      (same ∙ sym (cond-false (s.ids.apart && is_made (v a.0.0)) _ _ (here a.0.0)), (h.1, tt));
  again = λ x rest fit.
      ap (read_field name r) (cond-false (s.ids.apart && is_made (v x)) _ _ (here x))
      ∙ ap (λ (o : Option (X × List (List ℕ))). o >>= λ v. Some (v.0, (rest.0, v.1))) (first_same (named_value (codes name) r) (codes name ++ codes "=" ++ value_text s.ids.show (v x)) rest.1 x (named_again p (codes name) x fit.0));
}

-- ---- ids that the call creates

-- either they are written apart, or they are not
made_apart : {X : Type 0} {s : Style} (name : String) (v : X → Value) (r : Reader X) (value : List ℕ → Option X)
    → s.ids.apart ≡ true → ((x : X) → is_made (v x) ≡ true)
    → ((text : List ℕ) (x : X) → value text ≡ Some x → (text ≡ made_text s (v x)) × ValueFits s.ids (v x))
    → ((x : X) → ValueFits s.ids (v x) → value (made_text s (v x)) ≡ Some x)
    → ReadsFields s (read_made s name r value) (λ x. field name (v x) ∷ [])
unfolding read_made
made_apart {X} {s} name v r value apart is_new from to =
    let there : (x : X) → (s.ids.apart && is_made (v x)) ≡ true = λ x. rw (apart, is_new x) refl in
    record {
      takes = λ left x rest is.
          let run = sym (cond-true s.ids.apart (read_apart value left) (read_field name r left) apart) ∙ is in
          let a = bind_some (read_first value left.0) (λ x. Some (x.0, (x.1, left.1))) (x, rest) run in
          let made : (a.0.0, (a.0.1, left.1)) ≡ (x, rest) = some_is _ _ a.2 in
          let b = first_some value left.0 a.0.0 a.0.1 a.1 in
          let h = from b.0 a.0.0 b.2 in
          let same : left ≡ (made_text s (v a.0.0) ∷ a.0.1, left.1) = ap (λ (z : List (List ℕ)). (z, left.1)) (b.1 ∙ ap (λ (z : List ℕ). z ∷ a.0.1) h.0) in
          subst (λ (z : X × Left). (left ≡ with_fields s (field name (v z.0) ∷ []) z.1) × FieldsFit s.ids (field name (v z.0) ∷ [])) made
          (same ∙ sym (cond-true (s.ids.apart && is_made (v a.0.0)) _ _ (there a.0.0)), (h.1, tt));
      again = λ x rest fit.
          ap (read_made s name r value) (cond-true (s.ids.apart && is_made (v x)) _ _ (there x))
          ∙ cond-true s.ids.apart _ _ apart
          ∙ ap (λ (o : Option (X × List (List ℕ))). o >>= λ v. Some (v.0, (v.1, rest.1))) (first_same value (made_text s (v x)) rest.0 x (to x fit.0));
    }

-- the reader is another
reads_by : {X : Type 0} {s : Style} {r q : FieldReader X} {fields : X → List Named} → ((left : Left) → q left ≡ r left) → ReadsFields s r fields → ReadsFields s q fields
reads_by same p = record {
  takes = λ left x rest is. p.takes left x rest (sym (same left) ∙ is);
  again = λ x rest fit. same _ ∙ p.again x rest fit;
}

made_here : {X : Type 0} {s : Style} (name : String) (v : X → Value) {r : Reader X} (value : List ℕ → Option X) → s.ids.apart ≡ false
    → Reads r (λ x. value_text s.ids.show (v x)) (λ x. ValueFits s.ids (v x)) → ReadsFields s (read_made s name r value) (λ x. field name (v x) ∷ [])
unfolding read_made
made_here {X} {s} name v {r} value apart p =
    reads_by (λ left. cond-false s.ids.apart _ _ apart) (reads_field name v p (λ x. rw apart refl))

pub reads_new : {s : Style} (name : String) → IsStyle s → ReadsFields s (read_new s name) (λ x. field name (makes x) ∷ [])
reads_new {s} name is = by s.ids.apart refl
  where
    by : (b : Bool) → s.ids.apart ≡ b → ReadsFields s (read_new s name) (λ x. field name (makes x) ∷ [])
    by true e = made_apart name makes (read_id s) (one_apart s) e (λ x. refl) (λ text x q. whole_takes (reads_id is) text x q) (λ x fit. whole_again (reads_id is) x fit)
    by false e = made_here name makes (one_apart s) e (reads_id is)

any_some : (xs ys : List ℕ) → if_any xs ≡ Some ys → (xs ≡ ys) × (1 ≤ length ys)
any_some [] ys is = absurd cc
any_some (x ∷ xs) ys is = subst (λ (z : List ℕ). (x ∷ xs ≡ z) × (1 ≤ length z)) (some_is _ _ is) (refl, omega arith)

some_any : (xs : List ℕ) → 1 ≤ length xs → if_any xs ≡ Some xs
some_any [] long = absurd (omega arith)
some_any (x ∷ xs) long = refl

-- without the brackets
no_brackets : (a b : List ℕ) → 91 ∷ a ++ 93 ∷ [] ≡ 91 ∷ b ++ 93 ∷ [] → a ≡ b
no_brackets a b is = let same : a ++ 93 ∷ [] ≡ b ++ 93 ∷ [] = cc in append_cancel_right a b (93 ∷ []) same

pub reads_new_each : {s : Style} (name : String) → IsStyle s → ReadsFields s (read_new_each s name) (λ xs. field name (makes_each xs) ∷ [])
reads_new_each {s} name is = by s.ids.apart refl
  where
    from : (text xs : List ℕ) → each_apart s text ≡ Some xs → (text ≡ made_text s (makes_each xs)) × ValueFits s.ids (makes_each xs)
    from text xs q =
        let a = bind_some (whole (read_ids s) (91 ∷ text ++ 93 ∷ [])) if_any xs q in
        let h = whole_takes (reads_ids is) (91 ∷ text ++ 93 ∷ []) a.0 a.1 in
        let k = any_some a.0 xs a.2 in
        let g = subst (λ (z : List ℕ). (91 ∷ text ++ 93 ∷ [] ≡ list_text (map s.ids.show z)) × ListFits (IdFits s.ids) z) k.0 h in
        (no_brackets text (join_with_byte 44 (map s.ids.show xs)) g.0, (λ e. k.1, g.1))

    to : s.ids.apart ≡ true → (xs : List ℕ) → ValueFits s.ids (makes_each xs) → each_apart s (made_text s (makes_each xs)) ≡ Some xs
    to e xs fit = ap (λ o. o >>= if_any) (whole_again (reads_ids is) xs fit.1) ∙ some_any xs (fit.0 e)

    here : s.ids.apart ≡ false → Reads (read_ids s) (λ xs. value_text s.ids.show (makes_each xs)) (λ xs. ValueFits s.ids (makes_each xs))
    here e = let p = reads_ids is in record {
      takes = λ text x rest q. let h = p.takes text x rest q in (h.0, (λ t. let no : ⊥ = cc in absurd no, h.1));
      again = λ x rest fit end. p.again x rest fit.1 end;
    }

    by : (b : Bool) → s.ids.apart ≡ b → ReadsFields s (read_new_each s name) (λ xs. field name (makes_each xs) ∷ [])
    by true e = made_apart name makes_each (read_ids s) (each_apart s) e (λ x. refl) from (to e)
    by false e = made_here name makes_each (each_apart s) e (here e)

-- ---- one after the other

pub with_fields-append : (s : Style) (a b : List Named) (rest : Left) → with_fields s (a ++ b) rest ≡ with_fields s a (with_fields s b rest)
with_fields-append s [] b rest = refl
with_fields-append s (f ∷ a) b rest = ap (with_field s f) (with_fields-append s a b rest)

infixr 12 ◌⊠⊠◌
pub ◌⊠⊠◌ : {A B : Type 0} {s : Style} {r : FieldReader A} {q : FieldReader B} {t : A → List Named} {u : B → List Named} → ReadsFields s r t → ReadsFields s q u
    → ReadsFields s (r ⊛ q) (λ x. t x.0 ++ u x.1)
unfolding read_both
◌⊠⊠◌ {A} {B} {s} {r} {q} {t} {u} p k = record {
  takes = λ left x rest is.
      let a = bind_some (r left) (λ x. q x.1 >>= λ y. Some ((x.0, y.0), y.1)) (x, rest) is in
      let b = bind_some (q a.0.1) (λ y. Some ((a.0.0, y.0), y.1)) (x, rest) a.2 in
      let made : ((a.0.0, b.0.0), b.0.1) ≡ (x, rest) = some_is _ _ b.2 in
      let f = p.takes left a.0.0 a.0.1 a.1 in
      let g = k.takes a.0.1 b.0.0 b.0.1 b.1 in
      subst (λ (z : (A × B) × Left). (left ≡ with_fields s (t z.0.0 ++ u z.0.1) z.1) × FieldsFit s.ids (t z.0.0 ++ u z.0.1)) made
      (f.0 ∙ ap (with_fields s (t a.0.0)) g.0 ∙ sym (with_fields-append s (t a.0.0) (u b.0.0) b.0.1), all_append (λ f. ValueFits s.ids f.value) (t a.0.0) (u b.0.0) f.1 g.1);
  again = λ x rest fit.
      let parts = all_parts (λ f. ValueFits s.ids f.value) (t x.0) (u x.1) fit in
      ap (r ⊛ q) (with_fields-append s (t x.0) (u x.1) rest)
      ∙ ap (λ o. o >>= λ x. q x.1 >>= λ y. Some ((x.0, y.0), y.1)) (p.again x.0 (with_fields s (u x.1) rest) parts.0)
      ∙ ap (λ o. o >>= λ y. Some ((x.0, y.0), y.1)) (k.again x.1 rest parts.1);
}

-- ---- fields, by the kind of their values

pub reads_id_field : {s : Style} → IsStyle s → (name : String) → ReadsFields s (id_field s name) (λ x. field name (names x) ∷ [])
reads_id_field {s} is name = reads_field name names (reads_id is) (λ x. and_right s.ids.apart false refl)

pub reads_maybe_field : {s : Style} → IsStyle s → (name : String) → ReadsFields s (maybe_field s name) (λ x. field name (maybe x) ∷ [])
reads_maybe_field {s} is name = reads_field name maybe (reads_maybe is) (λ x. and_right s.ids.apart false refl)

pub reads_wide_field : (s : Style) (name : String) → ReadsFields s (wide_field name) (λ x. field name (wide x) ∷ [])
reads_wide_field s name = reads_field name wide reads_u64 (λ x. and_right s.ids.apart false refl)

pub reads_short_field : (s : Style) (name : String) → ReadsFields s (short_field name) (λ x. field name (short x) ∷ [])
reads_short_field s name = reads_field name short reads_u32 (λ x. and_right s.ids.apart false refl)

pub reads_raw_field : (s : Style) (name : String) → ReadsFields s (raw_field name) (λ x. field name (raw x) ∷ [])
reads_raw_field s name = reads_field name raw reads_raw (λ x. and_right s.ids.apart false refl)

pub reads_ids_field : {s : Style} → IsStyle s → (name : String) → ReadsFields s (ids_field s name) (λ x. field name (names_each x) ∷ [])
reads_ids_field {s} is name = reads_field name names_each (reads_ids is) (λ x. and_right s.ids.apart false refl)

pub reads_words_field : (s : Style) (name : String) → ReadsFields s (words_field name) (λ x. field name (shorts x) ∷ [])
reads_words_field s name = reads_field name shorts reads_words (λ x. and_right s.ids.apart false refl)

pub reads_records_field : {X : Type 0} (s : Style) (name : String) {r : Reader X} (kind : List X → Records) (atoms : X → List Atom)
    → ((xs : List X) → atoms_of (kind xs) ≡ map atoms xs) → ReadsAtoms s r atoms
    → ReadsFields s (records_field name r) (λ x. field name (records (kind x)) ∷ [])
reads_records_field s name kind atoms same p = reads_field name (λ x. records (kind x)) (reads_records s kind atoms same p) (λ x. and_right s.ids.apart false refl)

pub reads_submits_field : {s : Style} → IsStyle s → (name : String) → ReadsFields s (submits_field s name) (λ x. field name (submitted x) ∷ [])
reads_submits_field {s} is name = reads_field name submitted (reads_submits is) (λ x. and_right s.ids.apart false refl)
