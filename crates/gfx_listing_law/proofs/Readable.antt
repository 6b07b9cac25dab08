-- What the first lines of a text list.
use Rattle.std.proofs.Common.{◌≡◌, ◌⊎◌, inl, inr, ℕ, ◌<◌, ◌^◌, Bool, true, false, cond, List, [], ◌∷◌, ◌++◌, length, flat_map, Option, Some, None, sym, refl, ap, subst, ◌∙◌, arith, append_assoc, append-nil, length-append}
use Rattle.std.specs.Prelude.{is_some}
use Rattle.std.specs.List.{AllByRecursion}
use Rattle.std.specs.Option.{option_map_or}
use Rattle.std.proofs.lemmas.List.{append_cancel_left}
use Rattle.std.proofs.lemmas.Bool.{cond-true, cond-false}
use Rattle.std.proofs.lemmas.List.Concat.{flat_map-append}
use Rattle.gfx_model.specs.Text.{line}
use Rattle.gfx_model.specs.Blocks.{minor_of}
use Rattle.gfx_feature_model.specs.Listing.{IsListing}
use Rattle.gfx_grammar.specs.Framing.{Part}
use Rattle.gfx_grammar.specs.Reading.{◌>>=◌}
use Rattle.gfx_grammar.specs.Reads.{AreBytes}
use Rattle.gfx_grammar.proofs.NumberLaws.{bind_some}
use Rattle.gfx_text_grammar.specs.Lines.{read_line}
use Rattle.gfx_text_grammar.specs.Listings.{Listed, file_of, if_room, listed_of, read_header, read_lines, read_listing}
use Rattle.gfx_text_grammar.specs.Splits.{is_without, each_read, whole_lines}
use Rattle.gfx_text_grammar.proofs.HeaderLaws.{header_takes, header_no_feed}
use Rattle.gfx_text_grammar.proofs.LineLaws.{line_takes, line_no_feed}
use Rattle.gfx_text_grammar.proofs.SplitLaws.{lines_takes}
use Rattle.gfx_text_grammar.proofs.TextLaws.{fronts_are_listings, listed_is_read}
use Rattle.gfx_listing_law.specs.Fronts.{AreRead, BeginsWith, IsBadAtLine, IsCutLine, IsLongLine, IsNoLine, bytes_in, ended_lines, max_line_bytes, readable, unlisted}
use Rattle.gfx_listing_law.proofs.EndedLines.{BeginsLong, ended-line, ended-lines, ended-long, ended-none}
use Rattle.gfx_listing_law.proofs.ShortLines.{header_short, line_short}

-- ---- single lines

pub header_is_short : (text bytes : List ℕ) → read_header text ≡ Some bytes → length text < max_line_bytes
header_is_short text bytes is = let h = header_takes text bytes is in subst (λ (z : List ℕ). length z < 2 ^ 29) (sym h.same) (header_short bytes h.header h.bytes_fit)

pub line_is_short : (m : ℕ) (text : List ℕ) (p : Part) → read_line m text ≡ Some p → length text < max_line_bytes
line_is_short m text p is = let h = line_takes m text p is in subst (λ (z : List ℕ). length z < 2 ^ 29) (sym h.same) (line_short m p h.block h.bytes)

header_without : (text bytes : List ℕ) → read_header text ≡ Some bytes → is_without 10 text ≡ true
header_without text bytes is = let h = header_takes text bytes is in subst (λ (z : List ℕ). is_without 10 z ≡ true) (sym h.same) (header_no_feed bytes h.bytes_fit)

line_without : (m : ℕ) (text : List ℕ) (p : Part) → read_line m text ≡ Some p → is_without 10 text ≡ true
line_without m text p is = let h = line_takes m text p is in subst (λ (z : List ℕ). is_without 10 z ≡ true) (sym h.same) (line_no_feed m p h.block h.bytes)

-- ---- lines of a listing

-- each of the texts of which something is read
each_one : {X : Type 0} (read : List ℕ → Option X) (P : List ℕ → Type 0) → ((t : List ℕ) (x : X) → read t ≡ Some x → P t) → (ts : List (List ℕ)) (xs : List X)
    → each_read read ts ≡ Some xs → AllByRecursion P ts
unfolding each_read
each_one read P each [] xs is = tt
each_one read P each (t ∷ ts) xs is =
    let a = bind_some (read t) (λ x. each_read read ts >>= λ xs. Some (x ∷ xs)) xs is in
    let b = bind_some (each_read read ts) (λ xs. Some (a.0 ∷ xs)) xs a.2 in
    (each t a.0 a.1, each_one read P each ts b.0 b.1)

-- a property of each line of a header and of a block holds of all lines of a listing
all_lines : (P : List ℕ → Type 0) → ((t bytes : List ℕ) → read_header t ≡ Some bytes → P t) → ((m : ℕ) (t : List ℕ) (p : Part) → read_line m t ≡ Some p → P t)
    → (lines : List (List ℕ)) (l : Listed) → read_lines lines ≡ Some l → AllByRecursion P lines
unfolding read_lines
all_lines P first next [] l is = absurd cc
all_lines P first next (h ∷ ls) l is =
    let a = bind_some (read_header h) (λ header. each_read (read_line (minor_of header)) ls >>= if_room header) l is in
    let b = bind_some (each_read (read_line (minor_of a.0)) ls) (if_room a.0) l a.2 in
    (first h a.0 a.1, each_one (read_line (minor_of a.0)) P (next (minor_of a.0)) ls b.0 b.1)

-- what is some
some_of : {X : Type 0} (o : Option X) → is_some o ≡ true → (x : X) × (o ≡ Some x)
some_of None is = absurd cc
some_of (Some x) is = (x, refl)

-- the lines have no line feed
read_without : (lines : List (List ℕ)) → AreRead lines → AllByRecursion (λ l. is_without 10 l ≡ true) lines
read_without lines (inl none) = subst (AllByRecursion (λ l. is_without 10 l ≡ true)) (sym none) tt
read_without lines (inr is) = let found = some_of (read_lines lines) is in all_lines (λ l. is_without 10 l ≡ true) header_without line_without lines found.0 found.1

-- the last of several lines is short
last_short : (lines : List (List ℕ)) (l : List ℕ) → is_some (read_lines (lines ++ l ∷ [])) ≡ true → length l < max_line_bytes
last_short lines l is =
    let found = some_of (read_lines (lines ++ l ∷ [])) is in
    last lines (all_lines (λ t. length t < max_line_bytes) header_is_short line_is_short (lines ++ l ∷ []) found.0 found.1)
  where
    last : (ls : List (List ℕ)) → AllByRecursion (λ t. length t < max_line_bytes) (ls ++ l ∷ []) → length l < max_line_bytes
    last [] all = all.0
    last (k ∷ ls) all = last ls all.1

-- first lines of a listing are one, and what they list is a prefix
front_read : (lines more : List (List ℕ)) → is_some (read_lines (lines ++ more)) ≡ true → AreRead lines × ((rest : List ℕ) × (bytes_in (lines ++ more) ≡ bytes_in lines ++ rest))
unfolding read_lines
front_read [] more is = (inl refl, (bytes_in more, refl))
front_read (h ∷ ls) more is =
    let whole = some_of (read_lines ((h ∷ ls) ++ more)) is in
    let front = fronts_are_listings h ls more whole.0 whole.1 in
    let rest = flat_map (λ (p : Part). p.bytes) front.3.0 in
    let all : bytes_in ((h ∷ ls) ++ more) ≡ file_of whole.0 = ap (λ (o : Option Listed). option_map_or file_of o []) whole.1 in
    let some : bytes_in (h ∷ ls) ≡ file_of front.0 = ap (λ (o : Option Listed). option_map_or file_of o []) front.1 in
    (inr (subst (λ (o : Option Listed). is_some o ≡ true) (sym front.1) refl), (rest, all ∙ parts whole.0 front.0 front.3.0 front.2 front.3.1 ∙ ap (λ (z : List ℕ). z ++ rest) (sym some)))
  where
    parts : (l front : Listed) (more : List Part) → front.header ≡ l.header → l.parts ≡ front.parts ++ more → file_of l ≡ file_of front ++ flat_map (λ (p : Part). p.bytes) more
    parts l front more header is =
        ap (λ (z : List Part). l.header ++ flat_map (λ (p : Part). p.bytes) z) is
        ∙ ap (λ (z : List ℕ). l.header ++ z) (flat_map-append (λ (p : Part). p.bytes) front.parts more)
        ∙ sym (append_assoc l.header (flat_map (λ (p : Part). p.bytes) front.parts) (flat_map (λ (p : Part). p.bytes) more))
        ∙ ap (λ (z : List ℕ). (z ++ flat_map (λ (p : Part). p.bytes) front.parts) ++ flat_map (λ (p : Part). p.bytes) more) (sym header)

-- ---- the lines that are read

-- lines that are read are gone through
readable-through : (front ls more : List (List ℕ)) → is_some (read_lines (front ++ ls)) ≡ true ⊎ (ls ≡ []) → readable front (ls ++ more) ≡ readable (front ++ ls) more
unfolding readable
readable-through front [] more is = ap (λ (z : List (List ℕ)). readable z more) (sym (append-nil front))
readable-through front (l ∷ ls) more (inr none) = absurd cc
readable-through front (l ∷ ls) more (inl is) =
    let one : (front ++ l ∷ []) ++ ls ≡ front ++ (l ∷ ls) = append_assoc front (l ∷ []) ls in
    let whole : is_some (read_lines ((front ++ l ∷ []) ++ ls)) ≡ true = ap (λ (z : List (List ℕ)). is_some (read_lines z)) one ∙ is in
    let here : is_some (read_lines (front ++ l ∷ [])) ≡ true = some_front (front ++ l ∷ []) ls (front_read (front ++ l ∷ []) ls whole).0 (λ none. absurd (let n = ap length none in let m = length-append front (l ∷ []) in omega (arith, n, m))) in
    cond-true _ _ _ here ∙ readable-through (front ++ l ∷ []) ls more (inl whole) ∙ ap (λ (z : List (List ℕ)). readable z more) one
  where
    some_front : (lines more : List (List ℕ)) → AreRead lines → ¬ (lines ≡ []) → is_some (read_lines lines) ≡ true
    some_front lines more (inl none) some = absurd (some none)
    some_front lines more (inr is) some = is

-- what lines list is a prefix of what is read behind them
readable_front : (lines more : List (List ℕ)) → (rest : List ℕ) × (bytes_in (readable lines more) ≡ bytes_in lines ++ rest)
unfolding readable
readable_front lines [] = ([], sym (append-nil (bytes_in lines)))
readable_front lines (l ∷ ls) = by (is_some (read_lines (lines ++ l ∷ []))) refl (readable_front (lines ++ l ∷ []) ls)
  where
    by : (b : Bool) → is_some (read_lines (lines ++ l ∷ [])) ≡ b
        → ((rest : List ℕ) × (bytes_in (readable (lines ++ l ∷ []) ls) ≡ bytes_in (lines ++ l ∷ []) ++ rest))
        → (rest : List ℕ) × (bytes_in (cond b (readable (lines ++ l ∷ []) ls) lines) ≡ bytes_in lines ++ rest)
    by true is more =
        let one = (front_read lines (l ∷ []) is).1 in
        (one.0 ++ more.0, more.1 ∙ ap (λ (z : List ℕ). z ++ more.0) one.1 ∙ append_assoc (bytes_in lines) one.0 more.0)
    by false is more = ([], sym (append-nil (bytes_in lines)))

-- a text that begins with lines that are read
begins_through : (lines : List (List ℕ)) (rest text : List ℕ) → BeginsWith lines rest text → readable [] (ended_lines text) ≡ readable lines (ended_lines rest)
begins_through lines rest text begins =
    ap (λ (z : List ℕ). readable [] (ended_lines z)) begins.parts
    ∙ ap (readable []) (ended-lines lines rest (read_without lines begins.are_read))
    ∙ readable-through [] lines (ended_lines rest) (by begins.are_read)
  where
    by : AreRead lines → is_some (read_lines lines) ≡ true ⊎ (lines ≡ [])
    by (inl none) = inr none
    by (inr is) = inl is

-- ---- the laws

pub fronts : (lines : List (List ℕ)) (rest text : List ℕ) → BeginsWith lines rest text → (more : List ℕ) × (unlisted text ≡ bytes_in lines ++ more)
fronts lines rest text begins =
    let found = readable_front lines (ended_lines rest) in
    (found.0, ap bytes_in (begins_through lines rest text begins) ∙ found.1)

-- nothing is read behind the lines
stops_here : (lines : List (List ℕ)) (rest : List ℕ) → IsNoLine lines rest ⊎ ((is_without 10 rest ≡ true) ⊎ IsLongLine rest) → readable lines (ended_lines rest) ≡ lines
unfolding readable
stops_here lines rest (inl (next, more, parts, without, none)) =
    ap (λ (z : List ℕ). readable lines (ended_lines z)) parts ∙ ap (readable lines) (ended-line next more without) ∙ cond-false _ _ _ (ap is_some none)
stops_here lines rest (inr (inl without)) = ap (readable lines) (ended-none rest without)
stops_here lines rest (inr (inr (next, more, parts, without, long))) =
    ap (λ (z : List ℕ). readable lines (ended_lines z)) parts ∙ by (ended_lines (next ++ more)) (ended-long next more without)
  where
    by : (ls : List (List ℕ)) → BeginsLong (length next) ls → readable lines ls ≡ lines
    by [] long_first = refl
    by (l ∷ ls) long_first = at (is_some (read_lines (lines ++ l ∷ []))) refl
      where
        at : (b : Bool) → is_some (read_lines (lines ++ l ∷ [])) ≡ b → cond b (readable (lines ++ l ∷ []) ls) lines ≡ lines
        at true is = absurd (let short = last_short lines l is in omega (arith, short, long_first, long))
        at false is = refl

pub all_of : (lines : List (List ℕ)) (rest text : List ℕ) → BeginsWith lines rest text → IsNoLine lines rest ⊎ ((is_without 10 rest ≡ true) ⊎ IsLongLine rest) → unlisted text ≡ bytes_in lines
all_of lines rest text begins stops = ap bytes_in (begins_through lines rest text begins ∙ stops_here lines rest stops)

-- the lines of a listing
record IsWholly (bytes text : List ℕ) (lines : List (List ℕ)) : Type 0 where
  begins : BeginsWith lines [] text
  lists : bytes_in lines ≡ bytes
  some : is_some (read_lines lines) ≡ true

lines_of_listing : (bytes text : List ℕ) → AreBytes bytes → IsListing bytes text → (lines : List (List ℕ)) × IsWholly bytes text lines
unfolding read_listing
lines_of_listing bytes text fit is =
    let read = listed_is_read bytes text fit is in
    let found = bind_some (whole_lines text) read_lines (listed_of bytes) read.0 in
    let lines = found.0 in
    let lists : bytes_in lines ≡ file_of (listed_of bytes) = ap (λ (o : Option Listed). option_map_or file_of o []) found.2 in (
      lines,
      record {
        begins = record { parts = lines_takes text lines found.1 ∙ sym (append-nil (flat_map line lines)); are_read = inr (subst (λ (o : Option Listed). is_some o ≡ true) (sym found.2) refl) };
        lists = lists ∙ read.1;
        some = ap is_some found.2;
      },
    )

pub listings_unlisted : (bytes text : List ℕ) → AreBytes bytes → IsListing bytes text → unlisted text ≡ bytes
listings_unlisted bytes text fit is =
    let found = lines_of_listing bytes text fit is in
    all_of found.0 [] text found.1.begins (inr (inl refl)) ∙ found.1.lists

-- where a text stops being a listing, as a case of where nothing is read behind its lines
pub stops_of : (lines : List (List ℕ)) (rest : List ℕ) → IsNoLine lines rest ⊎ (IsCutLine lines rest ⊎ IsLongLine rest) → IsNoLine lines rest ⊎ ((is_without 10 rest ≡ true) ⊎ IsLongLine rest)
stops_of lines rest (inl absent) = inl absent
stops_of lines rest (inr (inl cut)) = inr (inl cut.0)
stops_of lines rest (inr (inr long)) = inr (inr long)

-- the lines before the first bad one
bad_lines : (text : List ℕ) (number : ℕ) (bad : IsBadAtLine number text) → readable [] (ended_lines text) ≡ bad.lines
bad_lines text number bad = begins_through bad.lines bad.rest text bad.begins ∙ stops_here bad.lines bad.rest (stops_of bad.lines bad.rest bad.stops)

pub one_bad : (text : List ℕ) (number other : ℕ) → IsBadAtLine number text → IsBadAtLine other text → number ≡ other
one_bad text number other bad same =
    let lines = ap length (sym (bad_lines text number bad) ∙ bad_lines text other same) in
    let a = bad.number_is in let b = same.number_is in omega (arith, lines, a, b)

pub listing_is_good : (bytes text : List ℕ) (number : ℕ) → AreBytes bytes → IsListing bytes text → IsBadAtLine number text → ⊥
unfolding read_lines
listing_is_good bytes text number fit is bad =
    let found = lines_of_listing bytes text fit is in
    let through = begins_through found.0 [] text found.1.begins in
    let all : readable [] (ended_lines text) ≡ found.0 = through ∙ stops_here found.0 [] (inr (inl refl)) in
    let same : bad.lines ≡ found.0 = sym (bad_lines text number bad) ∙ all in
    let rest : bad.rest ≡ [] = append_cancel_left (flat_map line bad.lines) bad.rest [] (sym bad.begins.parts ∙ found.1.begins.parts ∙ ap (λ (z : List (List ℕ)). flat_map line z ++ []) (sym same)) in
    none found.0 bad.lines bad.rest found.1.some same rest bad.stops
  where
    none : (all lines : List (List ℕ)) (rest : List ℕ) → is_some (read_lines all) ≡ true → lines ≡ all → rest ≡ [] → IsNoLine lines rest ⊎ (IsCutLine lines rest ⊎ IsLongLine rest) → ⊥
    none all lines rest some same empty (inl (next, more, parts, without, absent)) =
        let n = ap length (sym empty ∙ parts) in let a = length-append (line next) more in let b = length-append next (10 ∷ []) in absurd (omega (arith, n, a, b))
    none all lines rest some same empty (inr (inl (without, inl missing))) = absurd (no_lines all (sym same ∙ missing) some)
      where
        no_lines : (ls : List (List ℕ)) → ls ≡ [] → is_some (read_lines ls) ≡ true → ⊥
        no_lines [] e is = absurd cc
        no_lines (l ∷ ls) e is = absurd cc
    none all lines rest some same empty (inr (inl (without, inr more))) = more empty
    none all lines rest some same empty (inr (inr (next, more, parts, without, long))) =
        let n = ap length (sym empty ∙ parts) in let a = length-append next more in absurd (omega (arith, n, a, long))
