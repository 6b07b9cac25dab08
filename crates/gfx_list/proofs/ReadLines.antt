-- Lines of a listing that are read one after another.
use Rattle.std.proofs.Common.{◌≡◌, ℕ, ◌<◌, nat_lt, true, List, [], ◌∷◌, ◌++◌, Option, Some, None, refl, sym, ap, subst, ◌∙◌, append_assoc}
use Rattle.std.specs.Prelude.{flat_map}
use Rattle.std.specs.List.{AllByRecursion}
use Rattle.std.specs.Option.{option_map_or}
use Rattle.std.proofs.lemmas.Bool.{cond-true, lt-ltb, ltb-true, and_parts, and_from}
use Rattle.std.proofs.lemmas.Option.{cond_some}
use Rattle.std.proofs.lemmas.List.{append-nil}
use Rattle.std.proofs.lemmas.Grind.{flat_map-append}
use Rattle.gfx_model.specs.Blocks.{Position, first_position, minor_of, next_position, side_count}
use Rattle.gfx_model.specs.Limits.{max_side_blocks}
use Rattle.gfx_model.specs.Text.{line}
use Rattle.gfx_grammar.specs.Framing.{Part, place_after}
use Rattle.gfx_grammar.specs.Reading.{◌>>=◌}
use Rattle.gfx_grammar.proofs.NumberLaws.{bind_some, some_is}
use Rattle.gfx_text_grammar.specs.Splits.{each_read, is_without}
use Rattle.gfx_text_grammar.specs.Lines.{read_line}
use Rattle.gfx_text_grammar.specs.Listings.{Listed, file_of, has_room, if_room, read_header, read_lines, read_listing}
use Rattle.gfx_text_grammar.proofs.SplitLaws.{lines_again}
use Rattle.gfx_listing_law.specs.Fronts.{bytes_in}
use Rattle.gfx_list.specs.Parts.{HasNoBlock}

-- ---- one line more

each_more : {X : Type 0} (read : List ℕ → Option X) (ts : List (List ℕ)) (xs : List X) (t : List ℕ) (x : X) → each_read read ts ≡ Some xs → read t ≡ Some x
    → each_read read (ts ++ t ∷ []) ≡ Some (xs ++ x ∷ [])
unfolding each_read
each_more {X} read [] xs t x is one =
    ap (λ (o : Option X). o >>= λ v. each_read read [] >>= λ vs. Some (v ∷ vs)) one
    ∙ ap (λ (zs : List X). Some (zs ++ x ∷ [])) (some_is [] xs is)
each_more {X} read (s ∷ ss) xs t x is one =
    let a = bind_some (read s) (λ v. each_read read ss >>= λ vs. Some (v ∷ vs)) xs is in
    let b = bind_some (each_read read ss) (λ vs. Some (a.0 ∷ vs)) xs a.2 in
    ap (λ (o : Option X). o >>= λ v. each_read read (ss ++ t ∷ []) >>= λ vs. Some (v ∷ vs)) a.1
    ∙ ap (λ (o : Option (List X)). o >>= λ vs. Some (a.0 ∷ vs)) (each_more read ss b.0 t x b.1 one)
    ∙ ap (λ (zs : List X). Some (zs ++ x ∷ [])) (some_is (a.0 ∷ b.0) xs b.2)

each_last : {X : Type 0} (read : List ℕ → Option X) (ts : List (List ℕ)) (t : List ℕ) (ys : List X) → each_read read (ts ++ t ∷ []) ≡ Some ys
    → (xs : List X) × (x : X) × (each_read read ts ≡ Some xs) × (read t ≡ Some x) × (ys ≡ xs ++ x ∷ [])
unfolding each_read
each_last {X} read [] t ys is =
    let a = bind_some (read t) (λ v. each_read read [] >>= λ vs. Some (v ∷ vs)) ys is in
    ([], a.0, refl, a.1, sym (some_is (a.0 ∷ []) ys a.2))
each_last {X} read (s ∷ ss) t ys is =
    let a = bind_some (read s) (λ v. each_read read (ss ++ t ∷ []) >>= λ vs. Some (v ∷ vs)) ys is in
    let b = bind_some (each_read read (ss ++ t ∷ [])) (λ vs. Some (a.0 ∷ vs)) ys a.2 in
    let (xs, x, front, last, parts) = each_last read ss t b.0 b.1 in (
      a.0 ∷ xs,
      x,
      ap (λ (o : Option X). o >>= λ v. each_read read ss >>= λ vs. Some (v ∷ vs)) a.1 ∙ ap (λ (o : Option (List X)). o >>= λ vs. Some (a.0 ∷ vs)) front,
      last,
      sym (some_is (a.0 ∷ b.0) ys b.2) ∙ ap (λ (zs : List X). a.0 ∷ zs) parts,
    )

room_more : (at : Position) (ps : List Part) (p : Part) → has_room at ps ≡ true → side_count (place_after at ps) p.bytes < max_side_blocks → has_room at (ps ++ p ∷ []) ≡ true
room_more at [] p h room = and_from _ _ (lt-ltb _ _ room) refl
room_more at (q ∷ qs) p h room =
    let b = and_parts (nat_lt (side_count at q.bytes) max_side_blocks) (has_room (next_position at q.bytes) qs) h in
    and_from _ _ b.0 (room_more (next_position at q.bytes) qs p b.1 room)

room_last : (at : Position) (ps : List Part) (p : Part) → has_room at (ps ++ p ∷ []) ≡ true → (has_room at ps ≡ true) × (side_count (place_after at ps) p.bytes < max_side_blocks)
room_last at [] p h =
    let b = and_parts (nat_lt (side_count at p.bytes) max_side_blocks) (has_room (next_position at p.bytes) []) h in
    (refl, ltb-true _ _ b.0)
room_last at (q ∷ qs) p h =
    let b = and_parts (nat_lt (side_count at q.bytes) max_side_blocks) (has_room (next_position at q.bytes) (qs ++ p ∷ [])) h in
    let more = room_last (next_position at q.bytes) qs p b.1 in
    (and_from _ _ b.0 more.0, more.1)

pub place_more : (at : Position) (ps : List Part) (p : Part) → place_after at (ps ++ p ∷ []) ≡ next_position (place_after at ps) p.bytes
place_more at [] p = refl
place_more at (q ∷ qs) p = place_more (next_position at q.bytes) qs p

-- ---- lines of a listing

pub no_lines : bytes_in [] ≡ []
unfolding read_lines
no_lines = refl

pub first_line : (h head : List ℕ) → read_header h ≡ Some head → read_lines (h ∷ []) ≡ Some (record { header = head; parts = [] })
unfolding read_lines each_read
first_line h head is = ap (λ (o : Option (List ℕ)). o >>= λ header. each_read (read_line (minor_of header)) [] >>= if_room header) is

pub no_first_line : (h : List ℕ) → read_header h ≡ None → read_lines (h ∷ []) ≡ None
unfolding read_lines
no_first_line h is = ap (λ (o : Option (List ℕ)). o >>= λ header. each_read (read_line (minor_of header)) [] >>= if_room header) is

-- where the next block follows those of the lines
abbrev pub place_in : Listed → Position
place_in l = place_after (first_position l.header) l.parts

pub lines_more : (lines : List (List ℕ)) (l : Listed) (next : List ℕ) (p : Part) → read_lines lines ≡ Some l → read_line (minor_of l.header) next ≡ Some p
    → side_count (place_in l) p.bytes < max_side_blocks → read_lines (lines ++ next ∷ []) ≡ Some (record { header = l.header; parts = l.parts ++ p ∷ [] })
unfolding read_lines
lines_more [] l next p is read room = absurd cc
lines_more (h ∷ ls) l next p is read room =
    let a = bind_some (read_header h) (λ header. each_read (read_line (minor_of header)) ls >>= if_room header) l is in
    let head = a.0 in
    let b = bind_some (each_read (read_line (minor_of head)) ls) (if_room head) l a.2 in
    let c = cond_some (has_room (first_position head) b.0) _ _ b.2 in
    let by = λ (one : read_line (minor_of head) next ≡ Some p) (fits : side_count (place_after (first_position head) b.0) p.bytes < max_side_blocks).
    ap (λ (o : Option (List ℕ)). o >>= λ header. each_read (read_line (minor_of header)) (ls ++ next ∷ []) >>= if_room header) a.1
    ∙ ap (λ (o : Option (List Part)). o >>= if_room head) (each_more (read_line (minor_of head)) ls b.0 next p b.1 one)
    ∙ cond-true _ _ _ (room_more (first_position head) b.0 p c.0 fits) in
    subst (λ (z : Listed). read_line (minor_of z.header) next ≡ Some p → side_count (place_in z) p.bytes < max_side_blocks
    → read_lines ((h ∷ ls) ++ next ∷ []) ≡ Some (record { header = z.header; parts = z.parts ++ p ∷ [] })) c.1 by read room

-- lines that are read with one more behind them are read without it, and this one is a block with room
lines_last : (h : List ℕ) (ls : List (List ℕ)) (next : List ℕ) (m : Listed) → read_lines ((h ∷ ls) ++ next ∷ []) ≡ Some m
    → (l : Listed) × (p : Part) × (read_lines (h ∷ ls) ≡ Some l) × (read_line (minor_of l.header) next ≡ Some p) × (side_count (place_in l) p.bytes < max_side_blocks)
unfolding read_lines
lines_last h ls next m is =
    let a = bind_some (read_header h) (λ header. each_read (read_line (minor_of header)) (ls ++ next ∷ []) >>= if_room header) m is in
    let head = a.0 in
    let b = bind_some (each_read (read_line (minor_of head)) (ls ++ next ∷ [])) (if_room head) m a.2 in
    let c = cond_some (has_room (first_position head) b.0) _ _ b.2 in
    let (ps, p, front, last, parts) = each_last (read_line (minor_of head)) ls next b.0 b.1 in
    let room = room_last (first_position head) ps p (ap (has_room (first_position head)) (sym parts) ∙ c.0) in (
      record { header = head; parts = ps },
      p,
      ap (λ (o : Option (List ℕ)). o >>= λ header. each_read (read_line (minor_of header)) ls >>= if_room header) a.1
          ∙ ap (λ (o : Option (List Part)). o >>= if_room head) front ∙ cond-true _ _ _ room.0,
      last,
      room.1,
    )

some_lines : (lines : List (List ℕ)) (l : Listed) → read_lines lines ≡ Some l → (h : List ℕ) × (ls : List (List ℕ)) × (lines ≡ h ∷ ls)
unfolding read_lines
some_lines [] l is = absurd cc
some_lines (h ∷ ls) l is = (h, ls, refl)

stop_behind : (h : List ℕ) (ls : List (List ℕ)) (l : Listed) (next : List ℕ) → read_lines (h ∷ ls) ≡ Some l → HasNoBlock (minor_of l.header) (place_in l) next
    → (o : Option Listed) → read_lines ((h ∷ ls) ++ next ∷ []) ≡ o → read_lines ((h ∷ ls) ++ next ∷ []) ≡ None
stop_behind h ls l next is none None also = also
stop_behind h ls l next is none (Some m) also =
    let (k, p, front, last, room) = lines_last h ls next m also in
    let same : l ≡ k = some_is l k (sym is ∙ front) in
    let none_here : HasNoBlock (minor_of k.header) (place_in k) next = subst (λ (z : Listed). HasNoBlock (minor_of z.header) (place_in z) next) same none in
    absurd (none_here p last room)

-- no listing begins with the lines and one behind them that is no block with room
pub lines_stop : (lines : List (List ℕ)) (l : Listed) (next : List ℕ) → read_lines lines ≡ Some l → HasNoBlock (minor_of l.header) (place_in l) next
    → read_lines (lines ++ next ∷ []) ≡ None
lines_stop lines l next is none =
    let (h, ls, are) = some_lines lines l is in
    subst (λ (z : List (List ℕ)). read_lines (z ++ next ∷ []) ≡ None) (sym are)
    (stop_behind h ls l next (subst (λ (z : List (List ℕ)). read_lines z ≡ Some l) are is) none (read_lines ((h ∷ ls) ++ next ∷ [])) refl)

-- what lines list
pub lines_bytes : (lines : List (List ℕ)) (l : Listed) → read_lines lines ≡ Some l → bytes_in lines ≡ file_of l
lines_bytes lines l is = ap (λ (o : Option Listed). option_map_or file_of o []) is

-- the text of whole lines is read as they are
pub text_read : (lines : List (List ℕ)) (l : Listed) → AllByRecursion (λ t. is_without 10 t ≡ true) lines → read_lines lines ≡ Some l
    → read_listing (flat_map line lines) ≡ Some l
unfolding read_listing
text_read lines l feeds is = ap (λ (o : Option (List (List ℕ))). o >>= read_lines) (lines_again lines feeds) ∙ is

-- ---- texts of lines

pub text_more : (lines : List (List ℕ)) (next : List ℕ) → flat_map line (lines ++ next ∷ []) ≡ flat_map line lines ++ line next
text_more lines next = flat_map-append line lines (next ∷ []) ∙ ap (λ (z : List ℕ). flat_map line lines ++ z) (append-nil (line next))

pub all_more : {X : Type 0} (P : X → Type 0) (xs : List X) (x : X) → AllByRecursion P xs → P x → AllByRecursion P (xs ++ x ∷ [])
all_more P [] x all one = (one, tt)
all_more P (y ∷ ys) x all one = (all.0, all_more P ys x all.1 one)

-- the bytes of one block more
pub file_more : (l : Listed) (p : Part) → file_of (record { header = l.header; parts = l.parts ++ p ∷ [] }) ≡ file_of l ++ p.bytes
file_more l p =
    ap (λ (z : List ℕ). l.header ++ z) (flat_map-append (λ (q : Part). q.bytes) l.parts (p ∷ []))
    ∙ ap (λ (z : List ℕ). l.header ++ (flat_map (λ q. q.bytes) l.parts ++ z)) (append-nil p.bytes)
    ∙ sym (append_assoc l.header (flat_map (λ q. q.bytes) l.parts) p.bytes)
