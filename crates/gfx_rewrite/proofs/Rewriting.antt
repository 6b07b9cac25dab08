-- A file that is written anew, block by block, and what the call answers where it stops.
use Rattle.std.proofs.Common.{◌≡◌, ◌⊎◌, inl, inr, ℕ, List, [], ◌∷◌, ◌++◌, take, Option, Some, None, Result, Ok, Err, refl, sym, ap, subst, ◌∙◌, append_assoc, arith, take_at}
use Rattle.std.specs.Prelude.{flat_map, if◌then◌else◌, is_none}
use Rattle.std.specs.Io.KnownBytes.{Appends}
use Rattle.std.proofs.lemmas.List.{append-nil, append_cancel_right}
use Rattle.std.proofs.lemmas.Grind.{flat_map-append}
use Rattle.gfx_io.specs.Pieces.{AppendsPart}
use Rattle.gfx_io.specs.Told.{IfTold}
use Rattle.gfx_types.specs.declared.names.Fault.{Fault}
use Rattle.gfx_model.specs.Blocks.{Position, Whole, clean, bad, header_fault, header_length, minor_of}
use Rattle.gfx_grammar.specs.Framing.{IsBlock, with_items}
use Rattle.gfx_grammar.specs.Framing.{IsHeader as IsGoodHeader}
use Rattle.gfx_grammar.specs.Splitting.{Blocks, blocks_of, only_end}
use Rattle.gfx_grammar.proofs.HeaderLaws.{blocks_of-bad, header_fault-append, header_good, header_length-append, start_minor}
use Rattle.gfx_blocks.specs.declared.header.Header.{Header}
use Rattle.gfx_blocks.specs.Payloads.{content_of}
use Rattle.gfx_decode.specs.declared.decoder.Raw.{Raw}
use Rattle.gfx_decode.specs.declared.fault.DecodeFault.{DecodeFault}
use Rattle.gfx_decode.specs.declared.fault.DecodeFault.TheVariants as decoder
use Rattle.gfx_decode.specs.Decoding.{Gives, GivesHeader, IsBlockAt, behind, coming, item_of, start_of}
use Rattle.gfx_decode.specs.Reachable.{IsBehind}
use Rattle.gfx_decode.specs.Reading.{IsHeader, IsHeaderCut, StopsAt, StopsInHeader}
use Rattle.gfx_decode.specs.Stage.{Stage, Fresh, At, Failed}
use Rattle.gfx_decode.proofs.Told.{told_through}
use Rattle.gfx_player.specs.declared.fault.PlayFault.{PlayFault}
use Rattle.gfx_player.specs.declared.fault.PlayFault.TheVariants as play
use Rattle.gfx_player.specs.Faults.{IsUnwritten, of_decoder}
use Rattle.gfx_player.specs.Fed.{IsFed, IsGiven, IsUnfinished, file_with}
use Rattle.gfx_player.proofs.Feeding.{block_comes, fed_blocks, fed_more, fed_none}
use Rattle.gfx_player.proofs.Stopping.{GivesNone, stops_behind, told_stop}
use Rattle.gfx_rewrite.specs.Held.{Held, HeldPart}
use Rattle.gfx_rewrite.specs.Rewrites.{AnswersBy, AsksForNone}
use Rattle.gfx_rewrite.specs.Texts.{Texts, header_in, rewritten, text_by}
use Rattle.gfx_rewrite.proofs.Holding.{held_all, held_as, held_failed, held_first, held_front, held_on, part_all, part_front, part_held, part_more, part_on}

-- ---- what is written

-- the texts of so many blocks of a file with this header
abbrev texts_of : Texts → List ℕ → List Whole → List ℕ
texts_of texts header blocks = flat_map (λ w. texts.of_block (minor_of header) w) blocks

-- blocks behind others are written behind them
text_both : (texts : Texts) (header : List ℕ) (ws more : List Whole) → text_by texts header (ws ++ more) ≡ text_by texts header ws ++ texts_of texts header more
text_both texts header ws more =
    ap (λ (l : List ℕ). texts.of_header header ++ l) (flat_map-append (λ (w : Whole). texts.of_block (minor_of header) w) ws more)
    ∙ sym (append_assoc (texts.of_header header) (texts_of texts header ws) (texts_of texts header more))

text_more : (texts : Texts) (header : List ℕ) (ws : List Whole) (w : Whole) → text_by texts header (ws ++ w ∷ []) ≡ text_by texts header ws ++ texts.of_block (minor_of header) w
text_more texts header ws w = text_both texts header ws (w ∷ []) ∙ ap (λ (l : List ℕ). text_by texts header ws ++ l) (append-nil (texts.of_block (minor_of header) w))

-- a file begins with its header
pub header_first : (header rest : List ℕ) → IsGoodHeader header → header_in (header ++ rest) ≡ header
header_first header rest good =
    ap (λ n. take n (header ++ rest)) (header_length-append header rest good.there) ∙ take_at header rest (header_length header) good.long

-- of a file with a good header all blocks are written, and of another nothing
written_good : (texts : Texts) (all : List ℕ) (ws : List Whole) → header_fault all ≡ None → (blocks_of all).items ≡ ws → rewritten texts all ≡ text_by texts (header_in all) ws
written_good texts all ws good is =
    ap (λ (o : Option Fault). if is_none o then text_by texts (header_in all) (blocks_of all).items else []) good ∙ ap (text_by texts (header_in all)) is

written_bad : (texts : Texts) (all : List ℕ) (f : Fault) → header_fault all ≡ Some f → rewritten texts all ≡ []
written_bad texts all f wrong = ap (λ (o : Option Fault). if is_none o then text_by texts (header_in all) (blocks_of all).items else []) wrong

-- a file of which blocks were read has a good header
good_header : (fed : List Whole) (stage : Stage) (all rest : List ℕ) → IsFed fed stage all rest → header_fault all ≡ None
good_header fed stage all rest f =
    ap header_fault (f.parts ∙ append_assoc f.head (flat_map (λ w. w.bytes) fed) rest) ∙ header_fault-append f.head (flat_map (λ w. w.bytes) fed ++ rest) f.header

-- the blocks that were read are written before all
written_front : (texts : Texts) (fed : List Whole) (stage : Stage) (all rest : List ℕ) → IsFed fed stage all rest
    → rewritten texts all ≡ text_by texts (header_in all) fed ++ texts_of texts (header_in all) (coming stage rest).items
written_front texts fed stage all rest f =
    let more = (coming stage rest).items in
    written_good texts all (fed ++ more) (good_header fed stage all rest f) (ap (λ (b : Blocks). b.items) (fed_blocks fed stage all rest f)) ∙ text_both texts (header_in all) fed more

-- ---- the blocks so far

-- a decoder follows these blocks, and their texts were taken or are held
pub record Rewriting (texts : Texts) (m : ℕ) (stage : Stage) (before after : Option (List ℕ)) (held all rest : List ℕ) : Type 0 where
  pub fed : List Whole
  pub file : IsFed fed stage all rest
  pub minor : minor_of (header_in all) ≡ m
  pub text : Held before after held (text_by texts (header_in all) fed)

pub begins : (texts : Texts) (header_of : Header) (all rest bytes old grown new : List ℕ) (before after : Option (List ℕ)) → IsHeader header_of bytes → all ≡ bytes ++ rest
    → old ≡ [] → grown ≡ old ++ texts.of_header bytes → Held before after new grown → Rewriting texts header_of.minor (At header_of.minor (start_of header_of)) before after new all rest
begins texts header_of all rest bytes old grown new before after is parts none put took =
    let header : header_in all ≡ bytes = ap header_in parts ∙ header_first bytes rest is.good in
    record {
      fed = [];
      file = fed_none header_of all rest bytes is parts;
      minor = ap minor_of header ∙ sym is.minor;
      text = held_as before after new _ _ took
          (put ∙ ap (λ (xs : List ℕ). xs ++ texts.of_header bytes) none ∙ sym (append-nil (texts.of_header bytes)) ∙ ap (λ (l : List ℕ). text_by texts l []) (sym header));
    }

-- the text of one block more
pub goes_on : (texts : Texts) (m : ℕ) (stage : Stage) (raw : Raw) (before mid after : Option (List ℕ)) (held new all left rest : List ℕ) → Rewriting texts m stage before mid held all left
    → IsBlockAt stage raw → left ≡ raw.bytes.now ++ rest → Held mid after new (held ++ texts.of_block m (item_of raw)) → Rewriting texts m (behind stage raw) before after new all rest
goes_on texts m stage raw before mid after held new all left rest u block came put =
    let w = item_of raw in
    record {
      fed = u.fed ++ w ∷ [];
      file = fed_more u.fed w stage (behind stage raw) all left rest u.file (block_comes stage raw block) came;
      minor = u.minor;
      text = held_as before after new _ _ (held_on before mid after held (texts.of_block m w) new (text_by texts (header_in all) u.fed) u.text put)
          (ap (λ n. text_by texts (header_in all) u.fed ++ texts.of_block n w) (sym u.minor) ∙ sym (text_more texts (header_in all) u.fed w));
    }

-- the decoder reads a file of this version, which is 1 or 2
abbrev pub IsOfVersion : ℕ → Stage → Type 0
IsOfVersion m Fresh = ⊥
IsOfVersion m (At minor at) = (minor ≡ m) × ((m ≡ 1) ⊎ (m ≡ 2))
IsOfVersion m (Failed why) = ⊥

pub of_header : (header_of : Header) (bytes : List ℕ) → IsHeader header_of bytes → IsOfVersion header_of.minor (At header_of.minor (start_of header_of))
of_header header_of bytes is = (refl, subst (λ m. (m ≡ 1) ⊎ (m ≡ 2)) (sym is.minor) (start_minor bytes is.good.start))

pub still_of_version : (m : ℕ) (stage : Stage) (raw : Raw) → IsOfVersion m stage → IsOfVersion m (behind stage raw)
still_of_version m Fresh raw of = absurd of
still_of_version m (At minor at) raw of = of
still_of_version m (Failed why) raw of = absurd of

-- what the block has to be to be written
pub is_block : (m : ℕ) (stage : Stage) (raw : Raw) → IsOfVersion m stage → IsBlockAt stage raw → ((m ≡ 1) ⊎ (m ≡ 2)) × IsBlock m raw.bytes.now (content_of raw.block)
is_block m Fresh raw of block = absurd of
is_block m (At minor at) raw of block = (of.1, subst (λ m. IsBlock m raw.bytes.now (content_of raw.block)) of.0 block.block)
is_block m (Failed why) raw of block = absurd of

-- ---- how it ends

-- what is held of the blocks so far is held of a prefix of all
front_of : (texts : Texts) (m : ℕ) (stage : Stage) (before after : Option (List ℕ)) (held all rest : List ℕ) → Rewriting texts m stage before after held all rest
    → HeldPart before after held (rewritten texts all)
front_of texts m stage before after held all rest u =
    let text = text_by texts (header_in all) u.fed in
    subst (HeldPart before after held) (sym (written_front texts u.fed stage all rest u.file))
    (part_more before after held text (texts_of texts (header_in all) (coming stage rest).items) (part_held before after held text u.text))

-- where no block is left, all is held or was taken
all_held : (texts : Texts) (m : ℕ) (stage : Stage) (before after : Option (List ℕ)) (held all rest : List ℕ) (u : Rewriting texts m stage before after held all rest) → (blocks_of all).items ≡ u.fed
    → Held before after held (rewritten texts all)
all_held texts m stage before after held all rest u is = held_as before after held _ _ u.text (sym (written_good texts all u.fed (good_header u.fed stage all rest u.file) is))

pub done : (texts : Texts) (m : ℕ) (stage : Stage) (before after : Option (List ℕ)) (held all left rest : List ℕ) → Rewriting texts m stage before after held all left → Gives stage (Ok None) left rest
    → rest ≡ [] → AnswersBy (rewritten texts) (Held before after held) (HeldPart before after held) (Ok tt) all rest
done texts m stage before after held all left rest u gives none =
    let is : blocks_of all ≡ with_items u.fed (only_end clean) = fed_blocks u.fed stage all left u.file ∙ ap (with_items u.fed) gives in
    record {
      clean_end = ap (λ (b : Blocks). b.end) is;
      text = all_held texts m stage before after held all left u (ap (λ (b : Blocks). b.items) is ∙ append-nil u.fed);
      read = none;
    }

-- the next block is bad
is_bad : (texts : Texts) (m : ℕ) (stage : Stage) (before after : Option (List ℕ)) (fault : Fault) (block offset : ℕ) (held all left rest : List ℕ) → Rewriting texts m stage before after held all left
    → Gives stage (Err (decoder.Bad fault block offset)) left rest → AnswersBy (rewritten texts) (Held before after held) (HeldPart before after held) (Err (play.Bad fault block offset)) all rest
is_bad texts m stage before after fault block offset held all left rest u gives =
    let is : blocks_of all ≡ with_items u.fed (only_end (bad fault block offset)) = fed_blocks u.fed stage all left u.file ∙ ap (with_items u.fed) gives in
    record {
      end = ap (λ (b : Blocks). b.end) is;
      text = all_held texts m stage before after held all left u (ap (λ (b : Blocks). b.items) is ∙ append-nil u.fed);
    }

-- bytes that end within a header have a bad one
short_header : (bytes : List ℕ) → IsHeaderCut bytes → (f : Fault) × (header_fault bytes ≡ Some f)
short_header bytes cut = by (header_fault bytes) refl cut
  where
    by : (o : Option Fault) → header_fault bytes ≡ o → IsHeaderCut bytes → (f : Fault) × (header_fault bytes ≡ Some f)
    by (Some f) is cut = (f, is)
    by None is (inl short) = absurd (let good = header_good bytes is in omega (arith, short, good.0))
    by None is (inr cut) = absurd (let good = header_good bytes is in omega (arith, cut.1, good.2))

-- a read failed within the next block
cut_behind : (texts : Texts) (m : ℕ) (stage : Stage) (before after : Option (List ℕ)) (held all left rest : List ℕ) → Rewriting texts m stage before after held all left → GivesNone stage left rest
    → AnswersBy (rewritten texts) (Held before after held) (HeldPart before after held) (Err play.ReadFault) all rest
cut_behind texts m Fresh before after held all left rest u none = absurd none
cut_behind texts m (At minor at) before after held all left rest u (part, came, cut) =
    let f = u.file in
    let blocks = flat_map (λ w. w.bytes) u.fed in
    let g : IsGiven u.fed all rest = stops_behind u.fed (At minor at) all left rest f (part, came, cut) in
    let whole : all ≡ file_with f.head u.fed part ++ rest = f.parts ∙ ap (file_with f.head u.fed) came ∙ sym (append_assoc (f.head ++ blocks) part rest) in
    let is : g.given ≡ file_with f.head u.fed part = append_cancel_right g.given (file_with f.head u.fed part) rest (sym g.parts ∙ whole) in
    let tail : g.given ≡ f.head ++ (blocks ++ part) = is ∙ append_assoc f.head blocks part in
    let header : header_in all ≡ header_in g.given =
    ap header_in (f.parts ∙ append_assoc f.head blocks left) ∙ header_first f.head (blocks ++ left) f.header ∙ sym (ap header_in tail ∙ header_first f.head (blocks ++ part) f.header) in
    let good : header_fault g.given ≡ None = ap header_fault tail ∙ header_fault-append f.head (blocks ++ part) f.header in
    record {
      given = g.given;
      parts = g.parts;
      cut = subst (λ ws. IsUnfinished ws g.given) (sym g.blocks) g.cut;
      text = held_as before after held _ _ u.text (ap (λ (l : List ℕ). text_by texts l u.fed) header ∙ sym (written_good texts g.given u.fed good g.blocks));
      front = front_of texts m (At minor at) before after held all left u;
    }
cut_behind texts m (Failed why) before after held all left rest u none = absurd none

-- why no further block came
pub stops : (n : ℕ) (texts : Texts) (m : ℕ) (stage : Stage) (why : DecodeFault) (before after : Option (List ℕ)) (held : List ℕ) (first old new : Option (List ℕ)) → IsBehind n stage
    → IfTold first old (Rewriting texts m stage before after held) → IfTold old new (Gives stage (Err why))
    → ((minor : ℕ) (at : Position) → stage ≡ At minor at → StopsAt minor at old new why)
    → IfTold first new (AnswersBy (rewritten texts) (Held before after held) (HeldPart before after held) (Err (of_decoder why)))
stops n texts m stage (decoder.Bad fault block offset) before after held first old new place told gives stop =
    told_through first old new _ _ _ told gives (λ all left rest u g. is_bad texts m stage before after fault block offset held all left rest u g)
stops n texts m stage decoder.ReadFault before after held first old new place told gives stop =
    told_through first old new _ _ _ told (told_stop n stage old new _ place gives stop)
    (λ all left rest u none. cut_behind texts m stage before after held all left rest u none)
stops n texts m stage decoder.WantMemory before after held first old new place told gives stop =
    told_through first old new _ _ _ told gives (λ all left rest u g. front_of texts m stage before after held all left u)

-- nothing was written or is held, which is a prefix of anything
pub nothing_held : (taken : Option (List ℕ)) (held all : List ℕ) → held ≡ [] → HeldPart taken taken held all
nothing_held taken held all none = ([], all, held_first taken held [] none, refl)

-- and so in the header, before which nothing is written
pub no_header : (texts : Texts) (why : DecodeFault) (taken old new : Option (List ℕ)) (held : List ℕ) → held ≡ [] → IfTold old new (GivesHeader (Err why)) → StopsInHeader old new why
    → IfTold old new (AnswersBy (rewritten texts) (Held taken taken held) (HeldPart taken taken held) (Err (of_decoder why)))
no_header texts why taken None new held none told stop = tt
no_header texts why taken (Some all) None held none told stop = absurd told
no_header texts (decoder.Bad fault block offset) taken (Some all) (Some rest) held none told (number, place, wrong) =
    record { end = ap (λ (b : Blocks). b.end) told; text = held_first taken held (rewritten texts all) (none ∙ sym (written_bad texts all fault wrong)) }
no_header texts decoder.ReadFault taken (Some all) (Some rest) held none told (bytes, reads, cut) =
    let (f, is) = short_header bytes cut in
    record {
      given = bytes;
      parts = reads;
      cut = inl (ap (λ (b : Blocks). b.items) (blocks_of-bad bytes f is), cut);
      text = held_first taken held (rewritten texts bytes) (none ∙ sym (written_bad texts bytes f is));
      front = nothing_held taken held (rewritten texts all) none;
    }
no_header texts decoder.WantMemory taken (Some all) (Some rest) held none told stop = absurd stop

-- the text of the header was not written
pub header_fails : (texts : Texts) (header_of : Header) (all rest bytes old grown new : List ℕ) (before after : Option (List ℕ)) → IsHeader header_of bytes → all ≡ bytes ++ rest
    → old ≡ [] → grown ≡ old ++ texts.of_header bytes → AppendsPart before after grown → new ≡ [] → HeldPart before after new (rewritten texts all)
header_fails texts header_of all rest bytes old grown new before after is parts none put part gone =
    let header : header_in all ≡ bytes = ap header_in parts ∙ header_first bytes rest is.good in
    let text = text_by texts (header_in all) [] in
    let whole : grown ≡ text =
    put ∙ ap (λ (xs : List ℕ). xs ++ texts.of_header bytes) none ∙ sym (append-nil (texts.of_header bytes)) ∙ ap (λ (l : List ℕ). text_by texts l []) (sym header) in
    subst (HeldPart before after new) (sym (written_front texts [] (At header_of.minor (start_of header_of)) all rest (fed_none header_of all rest bytes is parts)))
    (part_more before after new text (texts_of texts (header_in all) (coming (At header_of.minor (start_of header_of)) rest).items)
    (held_failed before before after grown new text (held_first before grown text whole) part gone))

-- a prefix of the text of a block was taken, and a write failed or there was no memory
unwritten : (texts : Texts) (why : PlayFault) (took part : List ℕ → Type 0) (all rest : List ℕ) → IsUnwritten why → part (rewritten texts all) → AnswersBy (rewritten texts) took part (Err why) all rest
unwritten texts (play.Bad fault block offset) took part all rest why front = absurd why
unwritten texts (play.NoSuchFrame first last) took part all rest why front = absurd why
unwritten texts play.ReadFault took part all rest why front = absurd why
unwritten texts play.SinkFault took part all rest why front = front
unwritten texts play.WantMemory took part all rest why front = front

pub block_fails : (texts : Texts) (m : ℕ) (stage : Stage) (raw : Raw) (why : PlayFault) (before mid after : Option (List ℕ)) (held new all left rest : List ℕ)
    → Rewriting texts m stage before mid held all left → IsBlockAt stage raw → left ≡ raw.bytes.now ++ rest → IsUnwritten why → HeldPart mid after new (held ++ texts.of_block m (item_of raw))
    → AnswersBy (rewritten texts) (Held before after new) (HeldPart before after new) (Err why) all rest
block_fails texts m stage raw why before mid after held new all left rest u block came fails part =
    let w = item_of raw in
    let head = header_in all in
    let f = fed_more u.fed w stage (behind stage raw) all left rest u.file (block_comes stage raw block) came in
    let text : text_by texts head u.fed ++ texts.of_block m w ≡ text_by texts head (u.fed ++ w ∷ []) =
    ap (λ n. text_by texts head u.fed ++ texts.of_block n w) (sym u.minor) ∙ sym (text_more texts head u.fed w) in
    unwritten texts why (Held before after new) (HeldPart before after new) all rest fails
    (subst (HeldPart before after new) (sym (written_front texts (u.fed ++ w ∷ []) (behind stage raw) all rest f))
    (part_more before after new _ (texts_of texts head (coming (behind stage raw) rest).items)
    (subst (HeldPart before after new) text (part_on before mid after held (texts.of_block m w) new (text_by texts head u.fed) u.text part))))

pub decoder_asks : (why : DecodeFault) → AsksForNone (of_decoder why)
decoder_asks (decoder.Bad fault block offset) = tt
decoder_asks decoder.ReadFault = tt
decoder_asks decoder.WantMemory = tt

pub unwritten_asks : (why : PlayFault) → IsUnwritten why → AsksForNone why
unwritten_asks (play.Bad fault block offset) fails = tt
unwritten_asks (play.NoSuchFrame first last) fails = absurd fails
unwritten_asks play.ReadFault fails = tt
unwritten_asks play.SinkFault fails = tt
unwritten_asks play.WantMemory fails = tt

-- ---- what was held is written

-- all of it
pub answers_all : (written : List ℕ → List ℕ) (end : Result Unit PlayFault) (before mid after : Option (List ℕ)) (held all rest : List ℕ) → Appends mid after held
    → AnswersBy written (Held before mid held) (HeldPart before mid held) end all rest → AnswersBy written (Appends before after) (AppendsPart before after) end all rest
answers_all written (Ok done) before mid after held all rest more a =
    record { clean_end = a.clean_end; text = held_all before mid after held (written all) a.text more; read = a.read }
answers_all written (Err (play.Bad fault block offset)) before mid after held all rest more a =
    record { end = a.end; text = held_all before mid after held (written all) a.text more }
answers_all written (Err (play.NoSuchFrame first last)) before mid after held all rest more a = absurd a
answers_all written (Err play.ReadFault) before mid after held all rest more a = record {
  given = a.given;
  parts = a.parts;
  cut = a.cut;
  text = held_all before mid after held (written a.given) a.text more;
  front = part_all before mid after held (written all) a.front more;
}
answers_all written (Err play.SinkFault) before mid after held all rest more a = part_all before mid after held (written all) a more
answers_all written (Err play.WantMemory) before mid after held all rest more a = part_all before mid after held (written all) a more

-- or a prefix of it
pub answers_front : (written : List ℕ → List ℕ) (end : Result Unit PlayFault) (before mid after : Option (List ℕ)) (held all rest : List ℕ) → AppendsPart mid after held
    → AnswersBy written (Held before mid held) (HeldPart before mid held) end all rest → AppendsPart before after (written all)
answers_front written (Ok done) before mid after held all rest part a = held_front before mid after held (written all) a.text part
answers_front written (Err (play.Bad fault block offset)) before mid after held all rest part a = held_front before mid after held (written all) a.text part
answers_front written (Err (play.NoSuchFrame first last)) before mid after held all rest part a = absurd a
answers_front written (Err play.ReadFault) before mid after held all rest part a = part_front before mid after held (written all) a.front part
answers_front written (Err play.SinkFault) before mid after held all rest part a = part_front before mid after held (written all) a part
answers_front written (Err play.WantMemory) before mid after held all rest part a = part_front before mid after held (written all) a part

-- ---- what is written may be said in another way
pub answers_as : (written same : List ℕ → List ℕ) (took part : List ℕ → Type 0) (end : Result Unit PlayFault) (all rest : List ℕ) → ((bytes : List ℕ) → written bytes ≡ same bytes)
    → AnswersBy written took part end all rest → AnswersBy same took part end all rest
answers_as written same took part (Ok done) all rest is a = record { clean_end = a.clean_end; text = subst took (is all) a.text; read = a.read }
answers_as written same took part (Err (play.Bad fault block offset)) all rest is a = record { end = a.end; text = subst took (is all) a.text }
answers_as written same took part (Err (play.NoSuchFrame first last)) all rest is a = absurd a
answers_as written same took part (Err play.ReadFault) all rest is a =
    record { given = a.given; parts = a.parts; cut = a.cut; text = subst took (is a.given) a.text; front = subst part (is all) a.front }
answers_as written same took part (Err play.SinkFault) all rest is a = subst part (is all) a
answers_as written same took part (Err play.WantMemory) all rest is a = subst part (is all) a
