-- The header of a line, as it is appended.
use Rattle.std.proofs.Common.{◌≡◌, ℕ, suc, ◌+◌, ◌-◌, ◌*◌, ◌<◌, ◌≤◌, ◌^◌, nat_eq, nat_le, ◌&&◌, Bool, true, false, cond, List, [], ◌∷◌, ◌++◌, length, get_or, take, drop, flat_map, Option, Some, None, Result, Err, is_none, refl, sym, ap, subst, ◌∙◌, arith, ◌⊎◌, append-nil, append_assoc, length-append, drop_of_length-le, codes}
use Rattle.std.proofs.Math.Path.{ap₂}
use Rattle.std.specs.Int.{w32, to_le_bytes}
use lib.Seq.{paste}
use Rattle.std.specs.Result.{IsErrAnd}
use Rattle.std.proofs.lemmas.Bool.{cond-true, cond-false, le-leb, leb-true, eq-eqb, and_parts, and_from, and_left, and_right}
use Rattle.std.proofs.lemmas.List.{drop_more, drop_all, drop_at, take_at}
use Rattle.std.proofs.lemmas.Grind.{flat_map-append}
use Rattle.gfx_text_writer.proofs.Grown.{front_stays}
use Rattle.gfx_model.specs.Spelling.{header}
use Rattle.std.proofs.lemmas.Option.{cond_some}
use Rattle.std.proofs.lemmas.Result.{err_from_is_err_and}
use Rattle.gfx_types.specs.declared.names.Fault.{Fault}
use Rattle.gfx_model.specs.Checks.{same_list}
use Rattle.gfx_model.specs.Blocks.{header_fault, header_length, minor_of, option_count}
use Rattle.gfx_model.specs.Limits.{max_options}
use Rattle.gfx_grammar.specs.Reading.{◌>>=◌}
use Rattle.gfx_grammar.proofs.HeaderLaws.{start_minor}
use Rattle.gfx_grammar.proofs.NumberLaws.{bind_some, some_is, wide32}
use Rattle.gfx_text_grammar.specs.FieldReading.{whole, without_front}
use Rattle.gfx_text_grammar.specs.Listings.{read_pair, option_bytes, header_with, is_header, good_header, header_of, header_of_tokens, read_header}
use Rattle.gfx_text_grammar.specs.Splits.{tokens_of, each_read}
use Rattle.gfx_text_grammar.specs.Words.{number_in}
use Rattle.gfx_text_grammar.proofs.HeaderLaws.{header_takes}
use Rattle.gfx_listing.specs.declared.fault.LineFault.{LineFault}
use Rattle.gfx_listing.specs.declared.fault.LineFault.TheVariants.{BadLine, WantMemory}
use Rattle.gfx_listing.specs.Answers.{Refuses, AppendsRead, AppendsHeader}
use Rattle.gfx_listing.specs.Lines.{start_of}
use Rattle.gfx_listing.proofs.Cuts.{left_behind}

-- ---- how many tokens the line of a header has

each_long : {X : Type 0} (read : List ℕ → Option X) (ts : List (List ℕ)) (xs : List X) → each_read read ts ≡ Some xs → length xs ≡ length ts
unfolding each_read
each_long {X} read [] xs is = ap length (sym (some_is [] xs is))
each_long {X} read (t ∷ ts) xs is =
    let a = bind_some (read t) (λ x. each_read read ts >>= λ xs. Some (x ∷ xs)) xs is in
    let b = bind_some (each_read read ts) (λ xs. Some (a.0 ∷ xs)) xs a.2 in
    ap length (sym (some_is (a.0 ∷ b.0) xs b.2)) ∙ ap suc (each_long read ts b.0 b.1)

when_some : (b : Bool) (o : Option (List ℕ)) (x : List ℕ) → cond b o None ≡ Some x → o ≡ Some x
when_some true o x h = h
when_some false o x h = absurd cc

header_few : (tokens : List (List ℕ)) (bytes : List ℕ) → header_of_tokens tokens ≡ Some bytes → length tokens ≤ 18
header_few [] bytes is = absurd cc
header_few (name ∷ []) bytes is = absurd cc
header_few (name ∷ version ∷ options) bytes is =
    let h = when_some (same_list name (codes "gfxr")) (header_of version options) bytes is in
    let b = bind_some (without_front (codes "1000.") version >>= number_in (2 ^ 32)) (λ m. each_read (whole read_pair) options >>= good_header m) bytes h in
    let c = bind_some (each_read (whole read_pair) options) (good_header b.0) bytes b.2 in
    let good = cond_some (nat_le (length c.0) max_options && is_header (header_with b.0 c.0)) (header_with b.0 c.0) bytes c.2 in
    let t = and_parts (nat_le (length c.0) max_options) (is_header (header_with b.0 c.0)) good.0 in
    let few : length c.0 ≤ max_options = leb-true (length c.0) max_options t.0 in
    omega (arith, few, each_long (whole read_pair) options c.0 c.1)

-- a line with more tokens is that of no header
pub many_tokens : (line : List ℕ) → 18 < length (tokens_of line) → read_header line ≡ None
unfolding read_header
many_tokens line many = by (header_of_tokens (tokens_of line)) refl
  where
    by : (o : Option (List ℕ)) → header_of_tokens (tokens_of line) ≡ o → o ≡ None
    by None e = refl
    by (Some bytes) e = absurd (let few = header_few (tokens_of line) bytes e in omega (arith, few, many))

-- the line of a header is read by its tokens
pub header_by_tokens : (line : List ℕ) (tokens : List (List ℕ)) → tokens ≡ tokens_of line → read_header line ≡ header_of_tokens tokens
unfolding read_header
header_by_tokens line tokens is = ap header_of_tokens (sym is)

-- the version of a header that is read
pub header_version : (line bytes : List ℕ) → read_header line ≡ Some bytes → (minor_of bytes ≡ 1) ⊎ (minor_of bytes ≡ 2)
header_version line bytes is = start_minor bytes (header_takes line bytes is).header.start

-- ---- its options

-- the options that were read, and then those that follow
abbrev pub OptionsGoOn : List (ℕ × ℕ) → ℕ → List (List ℕ) → Type 0
OptionsGoOn os i texts = (each_read (whole read_pair) (drop i texts) >>= λ more. Some (os ++ more)) ≡ each_read (whole read_pair) texts

pub options_start : (texts : List (List ℕ)) → OptionsGoOn [] 0 texts
options_start texts = by (each_read (whole read_pair) texts)
  where
    by : (o : Option (List (ℕ × ℕ))) → (o >>= λ more. Some ([] ++ more)) ≡ o
    by None = refl
    by (Some os) = refl

next_option : (texts : List (List ℕ)) (i : ℕ) → i < length texts → drop i texts ≡ get_or texts i [] ∷ drop (i + 1) texts
next_option texts i there = drop_more texts i [] there

pub options_go_on : (os : List (ℕ × ℕ)) (texts : List (List ℕ)) (i : ℕ) (o : ℕ × ℕ) → i < length texts → whole read_pair (get_or texts i []) ≡ Some o
    → OptionsGoOn os i texts → OptionsGoOn (os ++ o ∷ []) (i + 1) texts
unfolding each_read
options_go_on os texts i o there is so_far = sym next ∙ so_far
  where
    regroup : (q : Option (List (ℕ × ℕ))) → ((q >>= λ xs. Some (o ∷ xs)) >>= λ more. Some (os ++ more)) ≡ (q >>= λ more. Some ((os ++ o ∷ []) ++ more))
    regroup None = refl
    regroup (Some xs) = ap Some (sym (append_assoc os (o ∷ []) xs))

    next : (each_read (whole read_pair) (drop i texts) >>= λ more. Some (os ++ more)) ≡ (each_read (whole read_pair) (drop (i + 1) texts) >>= λ more. Some ((os ++ o ∷ []) ++ more))
    next =
        ap (λ (z : List (List ℕ)). each_read (whole read_pair) z >>= λ more. Some (os ++ more)) (next_option texts i there)
        ∙ ap (λ (p : Option (ℕ × ℕ)). (p >>= λ x. each_read (whole read_pair) (drop (i + 1) texts) >>= λ xs. Some (x ∷ xs)) >>= λ more. Some (os ++ more)) is
        ∙ regroup (each_read (whole read_pair) (drop (i + 1) texts))

pub options_break : (os : List (ℕ × ℕ)) (texts : List (List ℕ)) (i : ℕ) → i < length texts → whole read_pair (get_or texts i []) ≡ None
    → OptionsGoOn os i texts → each_read (whole read_pair) texts ≡ None
unfolding each_read
options_break os texts i there none so_far =
    sym so_far
    ∙ ap (λ (z : List (List ℕ)). each_read (whole read_pair) z >>= λ more. Some (os ++ more)) (next_option texts i there)
    ∙ ap (λ (p : Option (ℕ × ℕ)). (p >>= λ x. each_read (whole read_pair) (drop (i + 1) texts) >>= λ xs. Some (x ∷ xs)) >>= λ more. Some (os ++ more)) none

pub options_end : (os : List (ℕ × ℕ)) (texts : List (List ℕ)) (i : ℕ) → length texts ≤ i → OptionsGoOn os i texts → each_read (whole read_pair) texts ≡ Some os
unfolding each_read
options_end os texts i all so_far =
    sym so_far
    ∙ ap (λ (z : List (List ℕ)). each_read (whole read_pair) z >>= λ more. Some (os ++ more)) (drop_all i texts all)
    ∙ ap Some (append-nil os)

-- an option is none, or memory was needed
pub options_fail : {A : Type 0} (result : Result A LineFault) (fault : LineFault) (os : List (ℕ × ℕ)) (texts : List (List ℕ)) (i : ℕ) (old mid new : List ℕ) → result ≡ Err fault
    → i < length texts → mid ≡ old ++ flat_map option_bytes os → OptionsGoOn os i texts → Refuses fault (whole read_pair (get_or texts i [])) mid new
    → AppendsRead result (each_read (whole read_pair) texts) (flat_map option_bytes) old new
options_fail {A} result fault os texts i old mid new is there grown so_far h =
    subst (λ (r : Result A LineFault). AppendsRead r (each_read (whole read_pair) texts) (flat_map option_bytes) old new) (sym is) (by fault h)
  where
    stays : take (length mid) new ≡ mid → take (length old) new ≡ old
    stays kept = front_stays old mid (flat_map option_bytes os) new grown kept

    by : (f : LineFault) → Refuses f (whole read_pair (get_or texts i [])) mid new → Refuses f (each_read (whole read_pair) texts) old new
    by BadLine k = (options_break os texts i there k.0 so_far, stays k.1)
    by WantMemory k = stays k

-- one option more
pub options_grow : (os : List (ℕ × ℕ)) (o : ℕ × ℕ) (old mid new : List ℕ) → mid ≡ old ++ flat_map option_bytes os → new ≡ mid ++ option_bytes o
    → new ≡ old ++ flat_map option_bytes (os ++ o ∷ [])
options_grow os o old mid new grown more =
    more
    ∙ ap (λ (z : List ℕ). z ++ option_bytes o) grown
    ∙ append_assoc old (flat_map option_bytes os) (option_bytes o)
    ∙ ap (λ (z : List ℕ). old ++ (flat_map option_bytes os ++ z)) (sym (append-nil (option_bytes o)))
    ∙ ap (λ (z : List ℕ). old ++ z) (sym (flat_map-append option_bytes os (o ∷ [])))

-- ---- the header

-- sixteen bytes with another count of options
pub header_begun : (m count n : ℕ) (old first : List ℕ) → first ≡ old ++ header m → n ≡ length first - 4 → paste first n (to_le_bytes w32 count) 4 ≡ old ++ start_of m count
header_begun m count n old first begun all =
    let front = (71 ∷ 70 ∷ 88 ∷ 82 ∷ [] ++ to_le_bytes w32 1000) ++ to_le_bytes w32 m in
    let zero4 = to_le_bytes w32 0 in
    let parts : first ≡ (old ++ front) ++ zero4 = begun ∙ sym (append_assoc old front zero4) in
    let long : length (old ++ front) ≡ n = omega (arith, all, ap length parts, length-append (old ++ front) zero4) in
    let ends : length first ≤ n + 4 = omega (arith, all) in
    ap₂ (λ u v. (u ++ to_le_bytes w32 count) ++ v) (ap (take n) parts ∙ take_at (old ++ front) zero4 n long) (drop_of_length-le first {i = n + 4} ends)
    ∙ append-nil ((old ++ front) ++ to_le_bytes w32 count)
    ∙ append_assoc old front (to_le_bytes w32 count)

-- what is seen of the bytes behind the old ones
pub header_seen : (old bytes held : List ℕ) (start : ℕ) → held ≡ old ++ bytes → start ≡ length old → take (length held - start) (drop start held) ≡ bytes
header_seen old bytes held start grown from = left_behind start held ∙ ap (drop start) grown ∙ drop_at old bytes start (sym from)

options_long : (os : List (ℕ × ℕ)) → length (flat_map option_bytes os) ≡ 8 * length os
options_long [] = refl
options_long (o ∷ os) =
    let more = options_long os in
    length-append (option_bytes o) (flat_map option_bytes os) ∙ (let e : 8 + length (flat_map option_bytes os) ≡ 8 * suc (length os) = omega (arith, more) in e)

-- the header of a version and options that stand for its line
pub header_is : (m count : ℕ) (os : List (ℕ × ℕ)) (old mid new : List ℕ) → length os ≡ count → mid ≡ old ++ start_of m count → new ≡ mid ++ flat_map option_bytes os
    → new ≡ old ++ header_with m os
header_is m count os old mid new long begun grown =
    grown
    ∙ ap (λ (z : List ℕ). z ++ flat_map option_bytes os) (begun ∙ ap (λ n. old ++ start_of m n) (sym long))
    ∙ append_assoc old (start_of m (length os)) (flat_map option_bytes os)

-- there are as many options as texts
pub options_count : (texts : List (List ℕ)) (os : List (ℕ × ℕ)) → each_read (whole read_pair) texts ≡ Some os → length os ≡ length texts
options_count texts os is = each_long (whole read_pair) texts os is

pub good_is : (m : ℕ) (os : List (ℕ × ℕ)) → length os ≤ 16 → header_fault (header_with m os) ≡ None → good_header m os ≡ Some (header_with m os)
good_is m os few good =
    let count : option_count (header_with m os) ≡ length os = wide32.again (length os) (omega (arith, few)) in
    let long : length (header_with m os) ≡ header_length (header_with m os) =
    length-append (start_of m (length os)) (flat_map option_bytes os) ∙ (let e : 16 + length (flat_map option_bytes os) ≡ 16 + 8 * option_count (header_with m os) = omega (arith, options_long os, count) in e) in
    cond-true (nat_le (length os) max_options && is_header (header_with m os)) _ None
    (and_from _ _ (le-leb (length os) max_options few) (and_from _ _ (ap is_none good) (eq-eqb _ _ long)))

pub bad_is : (m : ℕ) (os : List (ℕ × ℕ)) (fault : Fault) → header_fault (header_with m os) ≡ Some fault → good_header m os ≡ None
bad_is m os fault bad =
    let bytes = header_with m os in
    cond-false (nat_le (length os) max_options && is_header bytes) (Some bytes) None
    (and_right (nat_le (length os) max_options) (is_header bytes) (and_left (is_none (header_fault bytes)) (nat_eq (length bytes) (header_length bytes)) (ap is_none bad)))

-- memory was needed
pub wants_header : (result : Result ℕ LineFault) (read : Option (List ℕ)) (old new : List ℕ)
    → IsErrAnd result (λ fault. fault ≡ WantMemory) → take (length old) new ≡ old → AppendsHeader result read old new
wants_header result read old new is stays =
    let p = err_from_is_err_and result is in
    subst (λ (r : Result ℕ LineFault). AppendsHeader r read old new) (sym (p.1 ∙ ap Err p.2)) stays

pub along_header : (result : Result ℕ LineFault) (read other : Option (List ℕ)) (old new : List ℕ) → read ≡ other → AppendsHeader result other old new → AppendsHeader result read old new
along_header result read other old new same h = subst (λ (o : Option (List ℕ)). AppendsHeader result o old new) (sym same) h

-- ---- its tokens

pub header_short : (ts : List (List ℕ)) → length ts < 2 → header_of_tokens ts ≡ None
header_short [] few = refl
header_short (t ∷ []) few = refl
header_short (t ∷ u ∷ us) few = absurd (omega arith)

pub header_other : (tokens : List (List ℕ)) (name : List ℕ) (ts : List (List ℕ)) → tokens ≡ name ∷ ts → same_list name (codes "gfxr") ≡ false → header_of_tokens tokens ≡ None
header_other tokens name ts same other = ap header_of_tokens same ∙ by ts
  where
    by : (ts : List (List ℕ)) → header_of_tokens (name ∷ ts) ≡ None
    by [] = refl
    by (version ∷ options) = cond-false (same_list name (codes "gfxr")) (header_of version options) None other

pub header_named : (name version : List ℕ) (ts : List (List ℕ)) → same_list name (codes "gfxr") ≡ true → header_of_tokens (name ∷ version ∷ ts) ≡ header_of version ts
header_named name version ts same = cond-true (same_list name (codes "gfxr")) (header_of version ts) None same

abbrev minor_in : List ℕ → Option ℕ
minor_in version = without_front (codes "1000.") version >>= number_in (2 ^ 32)

pub header_versed : (version : List ℕ) (m : ℕ) (ts : List (List ℕ)) → minor_in version ≡ Some m → header_of version ts ≡ (each_read (whole read_pair) ts >>= good_header m)
header_versed version m ts is = ap (λ (o : Option ℕ). o >>= λ m. each_read (whole read_pair) ts >>= good_header m) is

pub header_unversed : (version : List ℕ) (ts : List (List ℕ)) → minor_in version ≡ None → header_of version ts ≡ None
header_unversed version ts none = ap (λ (o : Option ℕ). o >>= λ m. each_read (whole read_pair) ts >>= good_header m) none
