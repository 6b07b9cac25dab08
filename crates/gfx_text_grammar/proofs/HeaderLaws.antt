-- What is read of the line of a header is a header with this line, and the line of a header is read.
use Rattle.std.proofs.Common.{◌≡◌, ℕ, zero, suc, ◌+◌, ◌*◌, ◌<◌, ◌≤◌, ◌^◌, nat_eq, nat_le, ◌&&◌, ◌||◌, not, Bool, true, false, cond, List, [], ◌∷◌, ◌++◌, length, take, drop, map, flat_map, Option, Some, None, is_none, refl, sym, ap, subst, ◌∙◌, arith, append_assoc, append-nil, length-append, length-drop, take-append-drop, drop-drop, drop_of_length-le, codes, decimal}
use Rattle.std.proofs.lemmas.Option.{cond_some}
use Rattle.std.specs.Int.{w32, to_le_bytes, from_le_bytes}
use Rattle.std.specs.List.{AllByRecursion, join_with_byte}
use Rattle.std.proofs.lemmas.Bool.{cond-true, eqb-true, eq-eqb, le-leb, leb-true, and_parts, and_from, not-false}
use Rattle.std.proofs.lemmas.List.{length-take-le, take_at}
use Rattle.gfx_types.specs.declared.names.Fault.{Fault}
use Rattle.gfx_types.specs.declared.names.Fault.TheVariants.{BadMagic, BadVersion}
use Rattle.gfx_model.specs.Checks.{same_list}
use Rattle.gfx_feature_model.specs.Listing.{option_texts, header_text}
use Rattle.gfx_model.specs.Blocks.{u32_at, header_fault, header_length, minor_of, option_count}
use Rattle.gfx_grammar.specs.Reading.{◌>>=◌}
use Rattle.gfx_grammar.specs.Reads.{AreBytes}
use Rattle.gfx_grammar.proofs.NumberLaws.{bind_some, some_is, AreBytes-take, AreBytes-drop, wide32}
use Rattle.gfx_grammar.specs.Framing.{IsHeader, start_fault}
use Rattle.gfx_grammar.proofs.FramingLaws.{refuse_none, u32_at-behind}
use Rattle.gfx_grammar.proofs.HeaderLaws.{header_good, header_fault-append, start_options}
use Rattle.gfx_text_grammar.specs.Words.{number_in}
use Rattle.gfx_text_grammar.specs.Reading.{behind, read_u32}
use Rattle.gfx_text_grammar.specs.Reads.{Reads}
use Rattle.gfx_text_grammar.specs.FieldReading.{whole, without_front}
use Rattle.gfx_text_grammar.specs.Splits.{is_without, tokens_of, each_read}
use Rattle.gfx_text_grammar.specs.Listings.{read_pair, option_bytes, header_with, is_header, good_header, header_of, header_of_tokens, read_header, HasHeaderLine}
use Rattle.gfx_text_grammar.proofs.WordLaws.{number_takes, number_again}
use Rattle.gfx_text_grammar.proofs.ReaderLaws.{behind_some, behind-same}
use Rattle.gfx_text_grammar.proofs.ValueLaws.{reads_u32}
use Rattle.gfx_text_grammar.proofs.FieldLaws.{whole_takes, whole_again, without_front_some, without_front-same}
use Rattle.gfx_text_grammar.proofs.Graphic.{are_graphic, graphic-append, decimal_graphic}
use Rattle.gfx_text_grammar.proofs.SplitLaws.{tokens_takes, tokens_again, each_takes, each_again, join_no_feed}
use Rattle.gfx_grammar.proofs.ByteLaws.{are_bytes, le32_bytes, both_bytes, AllBytes}
use Rattle.gfx_text_grammar.proofs.Lists.{same_list-true}
use Rattle.gfx_model.specs.Limits.{max_options}

-- ---- options

abbrev option_text : ℕ × ℕ → List ℕ
option_text o = decimal o.0 ++ codes "=" ++ decimal o.1

abbrev OptionFits : ℕ × ℕ → Type 0
OptionFits o = (o.0 < 2 ^ 32) × (o.1 < 2 ^ 32)

reads_pair : Reads read_pair option_text OptionFits
unfolding read_pair
reads_pair = record {
  takes = λ text x rest is.
      let a = bind_some (read_u32 text) (λ k. behind 61 k.1 >>= λ t. read_u32 t >>= λ v. Some ((k.0, v.0), v.1)) (x, rest) is in
      let b = bind_some (behind 61 a.0.1) (λ t. read_u32 t >>= λ v. Some ((a.0.0, v.0), v.1)) (x, rest) a.2 in
      let c = bind_some (read_u32 b.0) (λ v. Some ((a.0.0, v.0), v.1)) (x, rest) b.2 in
      let made : ((a.0.0, c.0.0), c.0.1) ≡ (x, rest) = some_is _ _ c.2 in
      let h = reads_u32.takes text a.0.0 a.0.1 a.1 in
      let k = reads_u32.takes b.0 c.0.0 c.0.1 c.1 in
      let same : text ≡ decimal a.0.0 ++ (61 ∷ (decimal c.0.0 ++ c.0.1)) = h.0 ∙ ap (λ (z : List ℕ). decimal a.0.0 ++ z) (behind_some 61 a.0.1 b.0 b.1 ∙ ap (λ (z : List ℕ). 61 ∷ z) k.0) in
      subst (λ (z : (ℕ × ℕ) × List ℕ). (text ≡ option_text z.0 ++ z.1) × OptionFits z.0) made
      (same ∙ sym (regroup (decimal a.0.0) (decimal c.0.0) c.0.1), (h.1, k.1));
  again = λ x rest fit end.
      ap read_pair (regroup (decimal x.0) (decimal x.1) rest)
      ∙ ap (λ o. o >>= λ k. behind 61 k.1 >>= λ t. read_u32 t >>= λ v. Some ((k.0, v.0), v.1)) (reads_u32.again x.0 (61 ∷ (decimal x.1 ++ rest)) fit.0 refl)
      ∙ ap (λ o. o >>= λ t. read_u32 t >>= λ v. Some ((x.0, v.0), v.1)) (behind-same 61 (decimal x.1 ++ rest))
      ∙ ap (λ o. o >>= λ v. Some ((x.0, v.0), v.1)) (reads_u32.again x.1 rest fit.1 end);
}
  where
    regroup : (a b rest : List ℕ) → (a ++ codes "=" ++ b) ++ rest ≡ a ++ (61 ∷ (b ++ rest))
    regroup a b rest = append_assoc (a ++ codes "=") b rest ∙ append_assoc a (codes "=") (b ++ rest)

abbrev OptionsFit : List (ℕ × ℕ) → Type 0
OptionsFit os = AllByRecursion OptionFits os

-- the options after a prefix are shown
options_shown : (front : List ℕ) (at : ℕ) (os : List (ℕ × ℕ)) → length front ≡ at → OptionsFit os → option_texts (front ++ flat_map option_bytes os) at (length os) ≡ map option_text os
options_shown front at [] long fits = refl
options_shown front at (o ∷ os) long fits =
    let rest = flat_map option_bytes os in
    let k = to_le_bytes w32 o.0 in
    let v = to_le_bytes w32 o.1 in
    let bytes = front ++ (option_bytes o ++ rest) in
    let parts : bytes ≡ front ++ (k ++ (v ++ rest)) = ap (λ (z : List ℕ). front ++ z) (append_assoc k v rest) in
    let key : u32_at bytes at ≡ o.0 =
    u32_at-behind at front (option_bytes o ++ rest) long ∙ ap (λ (z : List ℕ). from_le_bytes w32 z) (ap (take 4) (append_assoc k v rest) ∙ take_at k (v ++ rest) 4 refl) ∙ wide32.again o.0 fits.0.0 in
    let value : u32_at bytes (at + 4) ≡ o.1 =
    ap (λ (z : List ℕ). u32_at z (at + 4)) (parts ∙ sym (append_assoc front k (v ++ rest)))
    ∙ u32_at-behind (at + 4) (front ++ k) (v ++ rest) (omega (arith, length-append front k))
    ∙ ap (λ (z : List ℕ). from_le_bytes w32 z) (take_at v rest 4 refl) ∙ wide32.again o.1 fits.0.1 in
    let later : option_texts bytes (at + 8) (length os) ≡ map option_text os =
    ap (λ (z : List ℕ). option_texts z (at + 8) (length os)) (sym (append_assoc front (option_bytes o) rest))
    ∙ options_shown (front ++ option_bytes o) (at + 8) os (omega (arith, length-append front (option_bytes o))) fits.1 in
    ap (λ n. (decimal n ++ codes "=" ++ decimal (u32_at bytes (at + 4))) ∷ option_texts bytes (at + 8) (length os)) key
    ∙ ap (λ n. (decimal o.0 ++ codes "=" ++ decimal n) ∷ option_texts bytes (at + 8) (length os)) value
    ∙ ap (λ (z : List (List ℕ)). option_text o ∷ z) later

-- ---- what is read is a header

none_is : (o : Option Fault) → is_none o ≡ true → o ≡ None
none_is None h = refl
none_is (Some f) h = absurd cc

option_all : (os : List (ℕ × ℕ)) → AllBytes (flat_map option_bytes os)
option_all [] = tt
option_all (o ∷ os) = both_bytes (option_bytes o) (flat_map option_bytes os) (both_bytes (to_le_bytes w32 o.0) (to_le_bytes w32 o.1) (le32_bytes o.0) (le32_bytes o.1)) (option_all os)

header_all : (m : ℕ) (os : List (ℕ × ℕ)) → AllBytes (header_with m os)
header_all m os =
    let d = to_le_bytes w32 (length os) in
    let c = to_le_bytes w32 m in
    let b = to_le_bytes w32 1000 in
    let a = to_le_bytes w32 0x52584647 in
    both_bytes (a ++ (b ++ (c ++ d))) (flat_map option_bytes os)
    (both_bytes a (b ++ (c ++ d)) (le32_bytes 0x52584647) (both_bytes b (c ++ d) (le32_bytes 1000) (both_bytes c d (le32_bytes m) (le32_bytes (length os)))))
    (option_all os)

good_takes : (m : ℕ) (os : List (ℕ × ℕ)) (bytes : List ℕ) → m < 2 ^ 32 → OptionsFit os → good_header m os ≡ Some bytes
    → HasHeaderLine bytes (join_with_byte 32 (codes "gfxr" ∷ (codes "1000." ++ decimal m) ∷ map option_text os))
good_takes m os bytes small fits is =
    let h = cond_some _ _ _ is in
    let t = and_parts (nat_le (length os) max_options) (is_header (header_with m os)) h.0 in
    let few : length os ≤ max_options = leb-true _ _ t.0 in
    let p = and_parts (is_none (header_fault (header_with m os))) (nat_eq (length (header_with m os)) (header_length (header_with m os))) t.1 in
    let g = header_good (header_with m os) (none_is _ p.0) in
    let minor : minor_of (header_with m os) ≡ m = wide32.again m small in
    let count : option_count (header_with m os) ≡ length os = wide32.again (length os) (omega arith) in
    let start = to_le_bytes w32 0x52584647 ++ (to_le_bytes w32 1000 ++ (to_le_bytes w32 m ++ to_le_bytes w32 (length os))) in
    let texts : option_texts (header_with m os) 16 (option_count (header_with m os)) ≡ map option_text os =
    ap (option_texts (header_with m os) 16) count ∙ options_shown start 16 os refl fits in
    subst (λ (z : List ℕ). HasHeaderLine z (join_with_byte 32 (codes "gfxr" ∷ (codes "1000." ++ decimal m) ∷ map option_text os))) h.1 (record {
      header = record { there = g.0; start = g.1; long = eqb-true _ _ p.1; options = g.3 };
      bytes_fit = are_bytes (header_with m os) (header_all m os);
      same =
          ap (λ n. join_with_byte 32 (codes "gfxr" ∷ (codes "1000." ++ decimal n) ∷ map option_text os)) (sym minor)
          ∙ ap (λ (z : List (List ℕ)). join_with_byte 32 (codes "gfxr" ∷ (codes "1000." ++ decimal (minor_of (header_with m os))) ∷ z)) (sym texts);
    })

tokens_header : (tokens : List (List ℕ)) (bytes : List ℕ) → header_of_tokens tokens ≡ Some bytes → HasHeaderLine bytes (join_with_byte 32 tokens)
tokens_header [] bytes is = absurd cc
tokens_header (name ∷ []) bytes is = absurd cc
tokens_header (name ∷ version ∷ options) bytes is =
    let h = chosen_some (same_list name (codes "gfxr")) (header_of version options) bytes is in
    let b = bind_some (without_front (codes "1000.") version >>= number_in (2 ^ 32)) (λ m. each_read (whole read_pair) options >>= good_header m) bytes h.1 in
    let a = bind_some (without_front (codes "1000.") version) (number_in (2 ^ 32)) b.0 b.1 in
    let n = number_takes (2 ^ 32) a.0 b.0 (omega arith) a.2 in
    let version_is : version ≡ codes "1000." ++ decimal b.0 = without_front_some (codes "1000.") version a.0 a.1 ∙ ap (λ (z : List ℕ). codes "1000." ++ z) n.0 in
    let c = bind_some (each_read (whole read_pair) options) (good_header b.0) bytes b.2 in
    let os = each_takes (whole read_pair) option_text OptionFits (λ t x q. whole_takes reads_pair t x q) options c.0 c.1 in
    let same : name ∷ version ∷ options ≡ codes "gfxr" ∷ (codes "1000." ++ decimal b.0) ∷ map option_text c.0 =
    ap (λ (z : List ℕ). z ∷ version ∷ options) (same_list-true name (codes "gfxr") h.0)
    ∙ ap (λ (z : List ℕ). codes "gfxr" ∷ z ∷ options) version_is
    ∙ ap (λ (z : List (List ℕ)). codes "gfxr" ∷ (codes "1000." ++ decimal b.0) ∷ z) os.0 in
    subst (λ (z : List (List ℕ)). HasHeaderLine bytes (join_with_byte 32 z)) (sym same) (good_takes b.0 c.0 bytes n.1 os.1 c.2)
  where
    chosen_some : (b : Bool) (o : Option (List ℕ)) (x : List ℕ) → cond b o None ≡ Some x → (b ≡ true) × (o ≡ Some x)
    chosen_some true o x h = (refl, h)
    chosen_some false o x h = absurd cc

pub header_takes : (line bytes : List ℕ) → read_header line ≡ Some bytes → HasHeaderLine bytes line
unfolding read_header
header_takes line bytes is = subst (λ (z : List ℕ). HasHeaderLine bytes z) (tokens_takes line) (tokens_header (tokens_of line) bytes is)

-- ---- the line of a header is read

-- four bytes at a place
cell : (bytes : List ℕ) (at : ℕ) → AreBytes bytes → at + 4 ≤ length bytes → drop at bytes ≡ to_le_bytes w32 (u32_at bytes at) ++ drop (at + 4) bytes
cell bytes at fit there =
    let rest = drop at bytes in
    sym (ap (λ (z : List ℕ). z ++ drop (at + 4) bytes) (wide32.back (take 4 rest) (length-take-le 4 rest (omega (arith, length-drop at bytes))) (AreBytes-take 4 rest (AreBytes-drop at bytes fit)))
    ∙ ap (λ (z : List ℕ). take 4 rest ++ z) (sym (drop-drop 4 at bytes)) ∙ take-append-drop 4 rest)

-- the options of a header
pairs_of : List ℕ → ℕ → ℕ → List (ℕ × ℕ)
pairs_of bytes at zero = []
pairs_of bytes at (suc n) = (u32_at bytes at, u32_at bytes (at + 4)) ∷ pairs_of bytes (at + 8) n

pairs_texts : (bytes : List ℕ) (at n : ℕ) → option_texts bytes at n ≡ map option_text (pairs_of bytes at n)
unfolding pairs_of
pairs_texts bytes at zero = refl
pairs_texts bytes at (suc n) = ap (λ (z : List (List ℕ)). option_text (u32_at bytes at, u32_at bytes (at + 4)) ∷ z) (pairs_texts bytes (at + 8) n)

pairs_long : (bytes : List ℕ) (at n : ℕ) → length (pairs_of bytes at n) ≡ n
unfolding pairs_of
pairs_long bytes at zero = refl
pairs_long bytes at (suc n) = ap suc (pairs_long bytes (at + 8) n)

u32_small : (bytes : List ℕ) (at : ℕ) → AreBytes bytes → u32_at bytes at < 2 ^ 32
u32_small bytes at fit = wide32.below (take 4 (drop at bytes)) (AreBytes-take 4 (drop at bytes) (AreBytes-drop at bytes fit))

pairs_fit : (bytes : List ℕ) (at n : ℕ) → AreBytes bytes → OptionsFit (pairs_of bytes at n)
unfolding pairs_of
pairs_fit bytes at zero fit = tt
pairs_fit bytes at (suc n) fit = ((u32_small bytes at fit, u32_small bytes (at + 4) fit), pairs_fit bytes (at + 8) n fit)

pairs_bytes : (bytes : List ℕ) (at n : ℕ) → AreBytes bytes → length bytes ≡ at + 8 * n → drop at bytes ≡ flat_map option_bytes (pairs_of bytes at n)
unfolding pairs_of
pairs_bytes bytes at zero fit long = drop_of_length-le bytes (omega (arith, long))
pairs_bytes bytes at (suc n) fit long =
    let k = to_le_bytes w32 (u32_at bytes at) in
    let v = to_le_bytes w32 (u32_at bytes (at + 4)) in
    let there : at + 8 ≤ length bytes = omega (arith, long) in
    let same : (at + 4) + 4 ≡ at + 8 = omega arith in
    cell bytes at fit (omega (arith, there))
    ∙ ap (λ (z : List ℕ). k ++ z) (cell bytes (at + 4) fit (omega (arith, there)) ∙ ap (λ i. v ++ drop i bytes) same ∙ ap (λ (z : List ℕ). v ++ z) (pairs_bytes bytes (at + 8) n fit (omega (arith, long))))
    ∙ sym (append_assoc k v (flat_map option_bytes (pairs_of bytes (at + 8) n)))

-- the bytes of a header are made of its version and its options
header_made : (bytes : List ℕ) → IsHeader bytes → AreBytes bytes → header_with (minor_of bytes) (pairs_of bytes 16 (option_count bytes)) ≡ bytes
unfolding start_fault
header_made bytes h fit =
    let n = option_count bytes in
    let os = pairs_of bytes 16 n in
    let magic = refuse_none (not (nat_eq (u32_at bytes 0) 0x52584647)) BadMagic _ h.start in
    let version = refuse_none (not (nat_eq (u32_at bytes 4) 1000 && (nat_eq (minor_of bytes) 1 || nat_eq (minor_of bytes) 2))) BadVersion _ magic.1 in
    let first : u32_at bytes 0 ≡ 0x52584647 = eqb-true _ _ (not-false _ magic.0) in
    let second : u32_at bytes 4 ≡ 1000 = eqb-true _ _ (and_parts (nat_eq (u32_at bytes 4) 1000) _ (not-false _ version.0)).0 in
    let options : drop 16 bytes ≡ flat_map option_bytes os = pairs_bytes bytes 16 n fit (omega (arith, h.long)) in
    sym (cell bytes 0 fit (omega (arith, h.there))
    ∙ ap (λ (z : List ℕ). to_le_bytes w32 (u32_at bytes 0) ++ z) (cell bytes 4 fit (omega (arith, h.there)))
    ∙ ap (λ (z : List ℕ). to_le_bytes w32 (u32_at bytes 0) ++ (to_le_bytes w32 (u32_at bytes 4) ++ z)) (cell bytes 8 fit (omega (arith, h.there)))
    ∙ ap (λ (z : List ℕ). to_le_bytes w32 (u32_at bytes 0) ++ (to_le_bytes w32 (u32_at bytes 4) ++ (to_le_bytes w32 (minor_of bytes) ++ z))) (cell bytes 12 fit (omega (arith, h.there)))
    ∙ ap (λ k. to_le_bytes w32 k ++ (to_le_bytes w32 (u32_at bytes 4) ++ (to_le_bytes w32 (minor_of bytes) ++ (to_le_bytes w32 n ++ drop 16 bytes)))) first
    ∙ ap (λ k. to_le_bytes w32 0x52584647 ++ (to_le_bytes w32 k ++ (to_le_bytes w32 (minor_of bytes) ++ (to_le_bytes w32 n ++ drop 16 bytes)))) second
    ∙ ap (λ k. to_le_bytes w32 0x52584647 ++ (to_le_bytes w32 1000 ++ (to_le_bytes w32 (minor_of bytes) ++ (to_le_bytes w32 k ++ drop 16 bytes)))) (sym (pairs_long bytes 16 n))
    ∙ ap (λ (z : List ℕ). to_le_bytes w32 0x52584647 ++ (to_le_bytes w32 1000 ++ (to_le_bytes w32 (minor_of bytes) ++ (to_le_bytes w32 (length os) ++ z)))) options)

option_graphic : (os : List (ℕ × ℕ)) → OptionsFit os → AllByRecursion (λ t. are_graphic t ≡ true) (map option_text os)
option_graphic [] h = tt
option_graphic (o ∷ os) h = (
  graphic-append (decimal o.0 ++ codes "=") (decimal o.1) (graphic-append (decimal o.0) (codes "=") (decimal_graphic o.0 (omega (arith, h.0.0))) refl) (decimal_graphic o.1 (omega (arith, h.0.1))),
  option_graphic os h.1,
)

pub header_again : (bytes : List ℕ) → IsHeader bytes → AreBytes bytes → read_header (header_text bytes) ≡ Some bytes
unfolding read_header
header_again bytes h fit =
    let n = option_count bytes in
    let m = minor_of bytes in
    let os = pairs_of bytes 16 n in
    let fits = pairs_fit bytes 16 n fit in
    let small : m < 2 ^ 32 = u32_small bytes 8 fit in
    let version = codes "1000." ++ decimal m in
    let made = header_made bytes h fit in
    let good : header_fault bytes ≡ None = ap header_fault (sym (append-nil bytes)) ∙ header_fault-append bytes [] h in
    let tested : is_header bytes ≡ true = and_from _ _ (ap is_none good) (eq-eqb _ _ h.long) in
    let few : nat_le (length os) 16 ≡ true = le-leb _ _ (omega (arith, pairs_long bytes 16 n, start_options bytes h.start)) in
    let passes : good_header m os ≡ Some bytes =
    cond-true _ _ _ (and_from _ _ few (ap is_header made ∙ tested)) ∙ ap Some made in
    let shows : AllByRecursion (λ t. are_graphic t ≡ true) (codes "gfxr" ∷ version ∷ map option_text os) =
    (refl, (graphic-append (codes "1000.") (decimal m) refl (decimal_graphic m (omega (arith, small))), option_graphic os fits)) in
    ap (λ (z : List (List ℕ)). header_of_tokens (tokens_of (join_with_byte 32 (codes "gfxr" ∷ version ∷ z)))) (pairs_texts bytes 16 n)
    ∙ ap header_of_tokens (tokens_again (codes "gfxr") (version ∷ map option_text os) shows)
    ∙ ap (λ o. o >>= number_in (2 ^ 32) >>= λ m. each_read (whole read_pair) (map option_text os) >>= good_header m) (without_front-same (codes "1000.") (decimal m))
    ∙ ap (λ o. o >>= λ m. each_read (whole read_pair) (map option_text os) >>= good_header m) (number_again (2 ^ 32) m (omega arith) small)
    ∙ ap (λ o. o >>= good_header m) (each_again (whole read_pair) option_text OptionFits (λ x q. whole_again reads_pair x q) os fits)
    ∙ passes

-- the line of a header has no line feed
pub header_no_feed : (bytes : List ℕ) → AreBytes bytes → is_without 10 (header_text bytes) ≡ true
header_no_feed bytes fit =
    let n = option_count bytes in
    let m = minor_of bytes in
    join_no_feed (codes "gfxr" ∷ (codes "1000." ++ decimal m) ∷ option_texts bytes 16 n) (
      refl,
      (
        graphic-append (codes "1000.") (decimal m) refl (decimal_graphic m (omega (arith, u32_small bytes 8 fit))),
        subst (λ (z : List (List ℕ)). AllByRecursion (λ t. are_graphic t ≡ true) z) (sym (pairs_texts bytes 16 n)) (option_graphic (pairs_of bytes 16 n) (pairs_fit bytes 16 n fit)),
      ),
    )
