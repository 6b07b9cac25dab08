-- Blocks that are read one after another.
use Rattle.std.proofs.Common.{◌≡◌, ℕ, List, [], ◌∷◌, ◌++◌, sym, ap, ◌∙◌, append_assoc}
use Rattle.std.specs.Prelude.{flat_map}
use Rattle.std.proofs.lemmas.List.{append-nil}
use Rattle.std.proofs.lemmas.Grind.{flat_map-append}
use Rattle.gfx_model.specs.Blocks.{Whole}
use Rattle.gfx_grammar.specs.Framing.{with_items}
use Rattle.gfx_grammar.specs.Splitting.{Blocks, blocks_of, with_item}
use Rattle.gfx_blocks.specs.declared.header.Header.{Header}
use Rattle.gfx_decode.specs.declared.decoder.Raw.{Raw}
use Rattle.gfx_decode.specs.Stage.{Stage, Fresh, At, Failed}
use Rattle.gfx_decode.specs.Decoding.{IsBlockAt, behind, coming, item_of, start_of}
use Rattle.gfx_decode.specs.Reading.{IsHeader}
use Rattle.gfx_player.specs.Fed.{ComesNext, IsFed, IsReadThrough, file_with}
use Rattle.gfx_decode.proofs.Finding.{here_comes}
use Rattle.gfx_decode.proofs.Front.{behind_header}

-- nothing was read but the header
pub fed_none : (header : Header) (all rest bytes : List ℕ) → IsHeader header bytes → all ≡ bytes ++ rest → IsFed [] (At header.minor (start_of header)) all rest
fed_none header all rest bytes is parts = record {
  head = bytes;
  header = is.good;
  parts = parts ∙ ap (λ l. l ++ rest) (sym (append-nil bytes));
  blocks = λ more. ap (λ l. blocks_of (l ++ more)) (append-nil bytes) ∙ behind_header header bytes more is;
}

-- a block that a decoder gives comes next
pub block_comes : (stage : Stage) (raw : Raw) → IsBlockAt stage raw → ComesNext stage (behind stage raw) (item_of raw)
block_comes Fresh raw block = absurd block
block_comes (At minor at) raw block = λ more. here_comes minor at raw more block
block_comes (Failed why) raw block = absurd block

-- what follows the bytes of one block more
file-more : (head : List ℕ) (fed : List Whole) (w : Whole) (rest : List ℕ) → file_with head fed (w.bytes ++ rest) ≡ file_with head (fed ++ w ∷ []) rest
file-more head fed w rest =
    sym (append_assoc (head ++ flat_map (λ w. w.bytes) fed) w.bytes rest)
    ∙ ap (λ l. l ++ rest) (append_assoc head (flat_map (λ w. w.bytes) fed) w.bytes)
    ∙ ap (λ l. head ++ l ++ rest) (ap (λ l. flat_map (λ w. w.bytes) fed ++ l) (sym (append-nil w.bytes)) ∙ sym (flat_map-append (λ (w : Whole). w.bytes) fed (w ∷ [])))

items-more : (fed : List Whole) (w : Whole) (rest : Blocks) → with_items fed (with_item w rest) ≡ with_items (fed ++ w ∷ []) rest
items-more fed w rest = ap (λ ws. record { items = ws; end = rest.end }) (sym (append_assoc fed (w ∷ []) rest.items))

-- one block more was read
pub fed_more : (fed : List Whole) (w : Whole) (old new : Stage) (all left rest : List ℕ) → IsFed fed old all left → ComesNext old new w → left ≡ w.bytes ++ rest → IsFed (fed ++ w ∷ []) new all rest
fed_more fed w old new all left rest f comes took = record {
  head = f.head;
  header = f.header;
  parts = f.parts ∙ ap (file_with f.head fed) took ∙ file-more f.head fed w rest;
  blocks = λ more. ap blocks_of (sym (file-more f.head fed w more)) ∙ f.blocks (w.bytes ++ more) ∙ ap (with_items fed) (comes more) ∙ items-more fed w (coming new more);
}

-- the blocks of the file are those that were read, and those that the decoder finds in what is left
pub fed_blocks : (fed : List Whole) (stage : Stage) (all rest : List ℕ) → IsFed fed stage all rest → blocks_of all ≡ with_items fed (coming stage rest)
fed_blocks fed stage all rest f = ap blocks_of f.parts ∙ f.blocks rest

-- the same, where one block more was read
pub fed_with : (fed : List Whole) (w : Whole) (stage : Stage) (all rest : List ℕ) → IsFed (fed ++ w ∷ []) stage all rest → blocks_of all ≡ with_items fed (with_item w (coming stage rest))
fed_with fed w stage all rest f =
    fed_blocks (fed ++ w ∷ []) stage all rest f ∙ ap (λ ws. record { items = ws; end = (coming stage rest).end }) (append_assoc fed (w ∷ []) (coming stage rest).items)

-- what is left follows the block that was read last
pub read_through : (fed : List Whole) (w : Whole) (stage : Stage) (all rest : List ℕ) → IsFed (fed ++ w ∷ []) stage all rest → IsReadThrough fed w all rest
read_through fed w stage all rest f = record {
  head = f.head;
  header = f.header;
  later = (coming stage rest).items;
  blocks = ap (λ (b : Blocks). b.items) (fed_with fed w stage all rest f);
  parts = f.parts;
}
