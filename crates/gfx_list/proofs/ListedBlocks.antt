-- The listing of a file is what is written of it anew, and of a file that ends cleanly it is its listing.
use Rattle.std.proofs.Common.{◌≡◌, ℕ, zero, suc, ◌+◌, ◌*◌, ◌≤◌, List, [], ◌∷◌, ◌++◌, length, drop, Option, Some, None, Result, Ok, Err, refl, sym, ap, subst, ◌∙◌, arith, codes, decimal, length-take-le, take-append-drop}
use Rattle.std.specs.Prelude.{flat_map, if◌then◌else◌, is_none, OnOk}
use Rattle.std.specs.List.{join_with_byte}
use Rattle.gfx_types.specs.declared.names.Fault.{Fault}
use Rattle.gfx_model.specs.Blocks.{AreBlocks, bad, clean, header_fault, header_length, minor_of, option_count, u32_at}
use Rattle.gfx_model.specs.Text.{line}
use Rattle.gfx_grammar.specs.Reads.{AreBytes}
use Rattle.gfx_grammar.specs.Splitting.{Blocks, blocks_of}
use Rattle.gfx_grammar.proofs.BlockLaws.{blocks_are_computed}
use Rattle.gfx_grammar.proofs.FramingLaws.{u32_at-append}
use Rattle.gfx_grammar.proofs.HeaderLaws.{blocks_of-bad, header_good, minor_of-append, option_count-append}
use Rattle.gfx_feature_model.specs.Listing.{IsListing, block_text, header_text, listing_of, option_texts}
use Rattle.gfx_text_grammar.proofs.TextLaws.{one_listing}
use Rattle.gfx_player.specs.declared.fault.PlayFault.{PlayFault}
use Rattle.gfx_rewrite.specs.Texts.{header_in, rewritten, text_by}
use Rattle.gfx_list.specs.Laws.{ListedIsGivenBack}
use Rattle.gfx_list.specs.Lists.{Answers, TookListing, in_listing, listed}

-- ---- the line of a header

-- what follows a header does not matter for its line
options-append : (n at : ℕ) (bytes rest : List ℕ) → at + 8 * n ≤ length bytes → option_texts (bytes ++ rest) at n ≡ option_texts bytes at n
options-append zero at bytes rest there = refl
options-append (suc n) at bytes rest there =
    ap (λ k. (decimal k ++ codes "=" ++ decimal (u32_at (bytes ++ rest) (at + 4))) ∷ option_texts (bytes ++ rest) (at + 8) n) (u32_at-append at bytes rest (omega (arith, there)))
    ∙ ap (λ k. (decimal (u32_at bytes at) ++ codes "=" ++ decimal k) ∷ option_texts (bytes ++ rest) (at + 8) n) (u32_at-append (at + 4) bytes rest (omega (arith, there)))
    ∙ ap (λ (z : List (List ℕ)). (decimal (u32_at bytes at) ++ codes "=" ++ decimal (u32_at bytes (at + 4))) ∷ z) (options-append n (at + 8) bytes rest (omega (arith, there)))

header_text-append : (bytes rest : List ℕ) → 16 ≤ length bytes → 16 + 8 * option_count bytes ≤ length bytes → header_text (bytes ++ rest) ≡ header_text bytes
header_text-append bytes rest there long =
    let count = option_count-append bytes rest there in
    ap (λ n. join_with_byte 32 (codes "gfxr" ∷ (codes "1000." ++ decimal n) ∷ option_texts (bytes ++ rest) 16 (option_count (bytes ++ rest)))) (minor_of-append bytes rest there)
    ∙ ap (λ n. join_with_byte 32 (codes "gfxr" ∷ (codes "1000." ++ decimal (minor_of bytes)) ∷ option_texts (bytes ++ rest) 16 n)) count
    ∙ ap (λ (z : List (List ℕ)). join_with_byte 32 (codes "gfxr" ∷ (codes "1000." ++ decimal (minor_of bytes)) ∷ z)) (options-append (option_count bytes) 16 bytes rest long)

-- ---- what is written

-- the bytes of a good header say all that is listed of it
listed_header : (bytes : List ℕ) → header_fault bytes ≡ None → text_by in_listing (header_in bytes) (blocks_of bytes).items ≡ listing_of bytes (blocks_of bytes).items
listed_header bytes good =
    let is = header_good bytes good in
    let head = header_in bytes in
    let rest = drop (header_length bytes) bytes in
    let whole : head ++ rest ≡ bytes = take-append-drop (header_length bytes) bytes in
    let size : length head ≡ header_length bytes = length-take-le (header_length bytes) bytes is.2 in
    let there : 16 ≤ length head = omega (arith, size) in
    let count : option_count bytes ≡ option_count head = ap option_count (sym whole) ∙ option_count-append head rest there in
    let minor : minor_of bytes ≡ minor_of head = ap minor_of (sym whole) ∙ minor_of-append head rest there in
    let text : header_text bytes ≡ header_text head = ap header_text (sym whole) ∙ header_text-append head rest there (omega (arith, size, count)) in
    ap (λ (xs : List ℕ). line xs ++ flat_map (λ w. line (block_text (minor_of head) w.bytes w.content)) (blocks_of bytes).items) (sym text)
    ∙ ap (λ n. line (header_text bytes) ++ flat_map (λ w. line (block_text n w.bytes w.content)) (blocks_of bytes).items) (sym minor)

pub rewritten_is_listed : (bytes : List ℕ) → rewritten in_listing bytes ≡ listed bytes
rewritten_is_listed bytes = by (header_fault bytes) refl
  where
    by : (o : Option Fault) → header_fault bytes ≡ o
        → (if is_none o then text_by in_listing (header_in bytes) (blocks_of bytes).items else []) ≡ (if is_none o then listing_of bytes (blocks_of bytes).items else [])
    by (Some f) is = refl
    by None is = listed_header bytes is

-- ---- the listing of a file that ends cleanly

-- the header of a file that ends cleanly is in order
clean_header : (bytes : List ℕ) → (blocks_of bytes).end ≡ clean → header_fault bytes ≡ None
clean_header bytes ends = by (header_fault bytes) refl
  where
    by : (o : Option Fault) → header_fault bytes ≡ o → o ≡ None
    by None is = refl
    by (Some f) is = absurd (let e : bad f 0 0 ≡ clean = sym (ap (λ (b : Blocks). b.end) (blocks_of-bad bytes f is)) ∙ ends in cc)

is_listing : (bytes : List ℕ) → AreBytes bytes → (blocks_of bytes).end ≡ clean → IsListing bytes (listed bytes)
is_listing bytes fit ends = record {
  blocks = (blocks_of bytes).items;
  are = subst (λ e. AreBlocks bytes (blocks_of bytes).items e) ends (blocks_are_computed bytes fit).0;
  same = ap (λ (o : Option Fault). if is_none o then listing_of bytes (blocks_of bytes).items else []) (clean_header bytes ends);
}

-- of bytes the sink took their listing
pub took_listing : (end : Result Unit PlayFault) (before after : Option (List ℕ)) (all rest : List ℕ) → AreBytes all
    → Answers before after end all rest → OnOk end (TookListing before after all)
took_listing (Ok done) before after all rest fit a = (listed all, a.text, is_listing all fit a.clean_end)
took_listing (Err why) before after all rest fit a = tt

pub given_back : ListedIsGivenBack
given_back bytes fit ends =
    let is = is_listing bytes fit ends in
    record { is = is; only = λ other also same. one_listing other bytes (listed bytes) also fit same is }
