-- Where blocks stand that lines list.
use Rattle.std.proofs.Common.{◌≡◌, ℕ, ◌+◌, ◌-◌, ◌<◌, ◌≤◌, ◌^◌, List, [], ◌++◌, length, take, drop, Option, Some, None, refl, sym, ap, subst, ◌∙◌, arith, length-drop, length-take-le, take-append-drop, take_at, drop_at}
use Rattle.gfx_model.specs.Blocks.{Position, first_position, next_position, side_count, size_field, type_field}
use Rattle.gfx_grammar.specs.Framing.{IsHeader, Part, head_fault}
use Rattle.gfx_grammar.proofs.FramingLaws.{head_fault-append, size_field-append, type_field-append}
use Rattle.gfx_grammar.proofs.HeaderLaws.{start_options}
use Rattle.gfx_text_grammar.specs.Lines.{read_line}
use Rattle.gfx_text_grammar.specs.Listings.{read_header}
use Rattle.gfx_text_grammar.proofs.LineLaws.{line_takes}
use Rattle.gfx_text_grammar.proofs.HeaderLaws.{header_takes}
use Rattle.gfx_decode.specs.Reachable.{IsInReach}
use Rattle.gfx_decode.specs.Reading.{IsFramed}
use Rattle.gfx_decode.specs.Whole.{LeadsTo}
use Rattle.gfx_listing.specs.declared.fault.LineFault.{LineFault}
use Rattle.gfx_listing.specs.declared.fault.LineFault.TheVariants as of_line
use Rattle.gfx_list.specs.Parts.{HasNoBlock, IsHeaderOf, IsNoBlock, IsNoHeader, IsSomeBlock, TakesBlock, TakesHeader, fault_of, first_place}

-- a block by its type and the bytes behind its head
pub framed : (bytes : List ℕ) → IsSomeBlock bytes → IsFramed (type_field bytes) (length bytes - 12) bytes
framed bytes (m, content, b) =
    let head = take 12 bytes in
    let payload = drop 12 bytes in
    let long = b.long in
    let there : length head ≡ 12 = length-take-le 12 bytes (omega (arith, long)) in
    let low : 12 ≤ length head = omega (arith, there) in
    let parts : head ++ payload ≡ bytes = take-append-drop 12 bytes in
    let size : size_field head ≡ size_field bytes = sym (size_field-append head payload low) ∙ ap size_field parts in
    record {
      head = head;
      payload = payload;
      parts = sym parts;
      good = record {
        there = there;
        good = sym (head_fault-append head payload low) ∙ ap head_fault parts ∙ b.head;
        kind_is = sym (type_field-append head payload low) ∙ ap type_field parts;
        size_is = omega (arith, size, long);
      };
      long = length-drop 12 bytes;
    }

-- twelve bytes or more
pub block_long : (bytes : List ℕ) → IsSomeBlock bytes → 12 ≤ length bytes
block_long bytes (m, content, b) = let long = b.long in omega (arith, long)

-- what was appended for a line is a block
pub part_is_block : (m : ℕ) (line : List ℕ) (p : Part) → read_line m line ≡ Some p → IsSomeBlock p.bytes
part_is_block m line p is = (m, p.content, (line_takes m line p is).block)

-- what follows the old bytes
pub behind_old : (old new part : List ℕ) (front : ℕ) → front ≡ length old → new ≡ old ++ part → drop front new ≡ part
behind_old old new part front long is = ap (drop front) is ∙ drop_at old part front (sym long)

pub before_new : (old new part : List ℕ) (front : ℕ) → front ≡ length old → new ≡ old ++ part → take front new ≡ old
before_new old new part front long is = ap (take front) is ∙ take_at old part front (sym long)

-- the block was appended, and has room
pub takes_block : (m : ℕ) (at next : Position) (line old new block : List ℕ) (p : Part) → read_line m line ≡ Some p → new ≡ old ++ p.bytes → block ≡ p.bytes → LeadsTo at block next
    → TakesBlock m at line old new next
takes_block m at next line old new block p read grown is leads = record {
  part = p;
  read = read;
  counted = subst (λ xs. side_count at xs < 2 ^ 32) is leads.counted;
  behind = subst (λ xs. next ≡ next_position at xs) is leads.behind;
  reach = leads.reach;
  grown = grown;
}

-- there is no room for the block of this line
pub no_room : (m : ℕ) (at : Position) (line block : List ℕ) (p : Part) → read_line m line ≡ Some p → block ≡ p.bytes → 2 ^ 32 ≤ side_count at block → HasNoBlock m at line
no_room m at line block p read is full q also counted =
    let same : Some p ≡ Some q = sym read ∙ also in
    let one : p.bytes ≡ q.bytes = ap bytes_or same in
    let crowded : 2 ^ 32 ≤ side_count at q.bytes = subst (λ xs. 2 ^ 32 ≤ side_count at xs) (is ∙ one) full in
    omega (arith, crowded, counted)
  where
    bytes_or : Option Part → List ℕ
    bytes_or (Some x) = x.bytes
    bytes_or None = []

-- no block has the line
pub no_block : (m number : ℕ) (at : Position) (line : List ℕ) (fault : LineFault) → number ≡ at.number + 1 → (fault ≡ of_line.BadLine → read_line m line ≡ None)
    → IsNoBlock m at line (fault_of number fault)
no_block m number at line of_line.BadLine is none = (is, (λ p read counted. cc (none refl)))
no_block m number at line of_line.WantMemory is none = tt

-- nor a header
pub no_header : (line : List ℕ) (fault : LineFault) → (fault ≡ of_line.BadLine → read_header line ≡ None) → IsNoHeader line (fault_of 1 fault)
no_header line of_line.BadLine none = (refl, none refl)
no_header line of_line.WantMemory none = tt

-- ---- behind a header

pub header_of : (line bytes : List ℕ) (minor : ℕ) → TakesHeader line bytes minor → IsHeaderOf minor bytes
header_of line bytes minor t = record { good = (header_takes line bytes t.read).header; minor_is = t.minor_is; version = t.version }

-- it has few bytes, so the place behind it is in reach
pub first_reach : (minor : ℕ) (bytes : List ℕ) → IsHeaderOf minor bytes → IsInReach (first_place (length bytes))
first_reach minor bytes h =
    let few = start_options bytes h.good.start in
    let long = h.good.long in
    record { counted = refl; inside = omega arith; outside = omega arith; offset = omega (arith, few, long) }

-- and is where the file of the header has its first block
pub first_is : (bytes : List ℕ) → IsHeader bytes → first_place (length bytes) ≡ first_position bytes
first_is bytes h = ap first_place h.long
