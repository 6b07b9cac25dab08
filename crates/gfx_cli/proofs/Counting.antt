-- How the counts follow the blocks, one at a time.
use Rattle.std.proofs.Common.{◌≡◌, ℕ, ◌+◌, ◌==◌, true, false, add-zero, ◌≤◌, List, [], ◌∷◌, ◌++◌, length, None, Ok, Err, Option, cond, Bool, refl, sym, ap, ◌∙◌, arith, length-append}
use Rattle.std.specs.Prelude.{count_by}
use mir.Val.{bool_byte}
use Rattle.std.proofs.lemmas.List.{append-nil}
use Rattle.std.proofs.lemmas.List.Sums.{sum_by_push}
use Rattle.gfx_io.specs.Told.{IfTold}
use Rattle.gfx_blocks.specs.declared.header.Header.{Header}
use Rattle.gfx_blocks.specs.Payloads.{content_of}
use Rattle.gfx_model.specs.Blocks.{Content, Position, Whole, clean, effect as in_file, minor_of}
use Rattle.gfx_model.specs.Text.{is_call, is_present}
use Rattle.gfx_grammar.specs.Framing.{with_items}
use Rattle.gfx_grammar.specs.Splitting.{Blocks, blocks_of, only_end}
use Rattle.gfx_types.specs.declared.call.Call.{Call}
use Rattle.gfx_types.specs.declared.effect.Meta.{Meta}
use Rattle.gfx_types.specs.declared.effect.Effect.TheVariants as effect
use Rattle.gfx_model.specs.Events.{event_of, event_of_call, event_of_meta}
use Rattle.gfx_model.specs.Spelling.{id_of}
use Rattle.gfx_cli.proofs.Events.{with_call, with_meta, with_marker}
use Rattle.gfx_decode.specs.declared.decoder.Raw.{Raw}
use Rattle.gfx_decode.specs.Stage.{Stage, At}
use Rattle.gfx_decode.specs.declared.fault.DecodeFault.{DecodeFault}
use Rattle.gfx_decode.specs.declared.fault.DecodeFault.TheVariants.{Bad, ReadFault, WantMemory}
use Rattle.gfx_decode.specs.Decoding.{Gives, GivesHeader, IsBlockAt, item_of, behind, start_of}
use Rattle.gfx_decode.specs.Reachable.{IsBehind}
use Rattle.gfx_decode.specs.Reading.{IsHeader, StopsAt, StopsInHeader}
use Rattle.gfx_decode.proofs.Told.{told_if, told_through}
use Rattle.gfx_player.specs.Fed.{IsFed}
use Rattle.gfx_player.proofs.Feeding.{block_comes, fed_blocks, fed_more, fed_none}
use Rattle.gfx_player.proofs.Stopping.{header_stops, stops_behind, told_stop}
use Rattle.gfx_cli.specs.declared.counts.Counts.{Counts}
use Rattle.gfx_cli.specs.Counts.{one_if, with_block, CountsAll}

-- ---- the counts with one block more

pub counts_call : (counts : Counts) (thread : ℕ) (c : Call) (ends : Bool) (n : ℕ) → ends ≡ (id_of (event_of_call c) == 48) → n ≡ bool_byte ends
    → record { minor = counts.minor; blocks = counts.blocks + 1; calls = counts.calls + 1; frames = counts.frames + n } ≡ with_block counts (in_file thread (event_of (effect.Call c)))
counts_call counts thread c true n is one =
    let (call, present) = with_call thread c in
    ap (λ k. record { minor = counts.minor; blocks = counts.blocks + 1; calls = counts.calls + 1; frames = counts.frames + k }) one
    ∙ ap (λ b. record { minor = counts.minor; blocks = counts.blocks + 1; calls = counts.calls + 1; frames = counts.frames + one_if b }) (is ∙ sym present)
    ∙ ap (λ b. record { minor = counts.minor; blocks = counts.blocks + 1; calls = counts.calls + one_if b; frames = counts.frames + one_if (is_present (in_file thread (event_of_call c))) }) (sym call)
counts_call counts thread c false n is none =
    let (call, present) = with_call thread c in
    ap (λ k. record { minor = counts.minor; blocks = counts.blocks + 1; calls = counts.calls + 1; frames = counts.frames + k }) none
    ∙ ap (λ b. record { minor = counts.minor; blocks = counts.blocks + 1; calls = counts.calls + 1; frames = counts.frames + one_if b }) (is ∙ sym present)
    ∙ ap (λ b. record { minor = counts.minor; blocks = counts.blocks + 1; calls = counts.calls + one_if b; frames = counts.frames + one_if (is_present (in_file thread (event_of_call c))) }) (sym call)

-- neither a call nor a present
counts_other : (counts : Counts) (c : Content) → is_call c ≡ false → is_present c ≡ false
    → record { minor = counts.minor; blocks = counts.blocks + 1; calls = counts.calls; frames = counts.frames } ≡ with_block counts c
counts_other counts c call present =
    ap (λ n. record { minor = counts.minor; blocks = counts.blocks + 1; calls = n; frames = counts.frames }) (sym (add-zero counts.calls))
    ∙ ap (λ n. record { minor = counts.minor; blocks = counts.blocks + 1; calls = counts.calls + 0; frames = n }) (sym (add-zero counts.frames))
    ∙ ap (λ b. record { minor = counts.minor; blocks = counts.blocks + 1; calls = counts.calls + one_if b; frames = counts.frames + 0 }) (sym call)
    ∙ ap (λ b. record { minor = counts.minor; blocks = counts.blocks + 1; calls = counts.calls + one_if (is_call c); frames = counts.frames + one_if b }) (sym present)

pub counts_meta : (counts : Counts) (thread : ℕ) (m : Meta)
    → record { minor = counts.minor; blocks = counts.blocks + 1; calls = counts.calls; frames = counts.frames } ≡ with_block counts (in_file thread (event_of (effect.Meta m)))
counts_meta counts thread m = let (call, present) = with_meta thread m in counts_other counts (in_file thread (event_of_meta m)) call present

pub counts_marker : (counts : Counts) (thread : ℕ) (begin : Bool) (frame : ℕ)
    → record { minor = counts.minor; blocks = counts.blocks + 1; calls = counts.calls; frames = counts.frames } ≡ with_block counts (in_file thread (event_of (effect.Marker begin frame)))
counts_marker counts thread begin frame = let (call, present) = with_marker thread begin frame in counts_other counts (in_file thread (event_of (effect.Marker begin frame))) call present

-- ---- the blocks that were counted

-- the counts of these blocks
pub record HasCounted (counts : Counts) (fed : List Whole) : Type 0 where
  pub blocks : counts.blocks ≡ length fed
  pub calls : counts.calls ≡ count_by (λ w. is_call w.content) fed
  pub frames : counts.frames ≡ count_by (λ w. is_present w.content) fed

-- a decoder follows the blocks that were counted
pub record Counted (counts : Counts) (stage : Stage) (all rest : List ℕ) : Type 0 where
  pub fed : List Whole
  pub file : IsFed fed stage all rest
  pub minor : counts.minor ≡ minor_of all
  pub counted : HasCounted counts fed

counted_more : (counts : Counts) (fed : List Whole) (w : Whole) → HasCounted counts fed → HasCounted (with_block counts w.content) (fed ++ w ∷ [])
counted_more counts fed w h =
    let calls : count_by (λ w. is_call w.content) (fed ++ w ∷ []) ≡ count_by (λ w. is_call w.content) fed + one_if (is_call w.content) =
    sum_by_push (λ (x : Whole). cond (is_call x.content) 1 0) fed w in
    let frames : count_by (λ w. is_present w.content) (fed ++ w ∷ []) ≡ count_by (λ w. is_present w.content) fed + one_if (is_present w.content) =
    sum_by_push (λ (x : Whole). cond (is_present x.content) 1 0) fed w in
    record {
      blocks = omega (arith, h.blocks, length-append fed (w ∷ []));
      calls = omega (arith, h.calls, calls);
      frames = omega (arith, h.frames, frames);
    }

-- behind the header nothing is counted
pub count_none : (header : Header) (all rest bytes : List ℕ) → IsHeader header bytes → GivesHeader (Ok header) all rest → all ≡ bytes ++ rest
    → Counted (record { minor = header.minor; blocks = 0; calls = 0; frames = 0 }) (At header.minor (start_of header)) all rest
count_none header all rest bytes is gives parts = record {
  fed = [];
  file = fed_none header all rest bytes is parts;
  minor = gives.1;
  counted = record { blocks = refl; calls = refl; frames = refl };
}

-- one block more is counted
pub count_more : (counts : Counts) (stage : Stage) (raw : Raw) (all before after : List ℕ)
    → Counted counts stage all before → IsBlockAt stage raw → before ≡ raw.bytes.now ++ after
    → Counted (with_block counts (content_of raw.block)) (behind stage raw) all after
count_more counts stage raw all before after c block took = record {
  fed = c.fed ++ item_of raw ∷ [];
  file = fed_more c.fed (item_of raw) stage (behind stage raw) all before after c.file (block_comes stage raw block) took;
  minor = c.minor;
  counted = counted_more counts c.fed (item_of raw) c.counted;
}

-- at the end all is counted
pub count_all : (counts : Counts) (stage : Stage) (all before after : List ℕ) → Counted counts stage all before → Gives stage (Ok None) before after → after ≡ []
    → CountsAll (Ok counts) all after
count_all counts stage all before after c gives none =
    let is : blocks_of all ≡ with_items c.fed (only_end clean) = fed_blocks c.fed stage all before c.file ∙ ap (with_items c.fed) gives in
    let items : c.fed ≡ (blocks_of all).items = sym (ap (λ (b : Blocks). b.items) is ∙ append-nil c.fed) in (
      record {
        minor = c.minor;
        blocks = c.counted.blocks ∙ ap (λ (ws : List Whole). length ws) items;
        calls = c.counted.calls ∙ ap (λ (ws : List Whole). count_by (λ w. is_call w.content) ws) items;
        frames = c.counted.frames ∙ ap (λ (ws : List Whole). count_by (λ w. is_present w.content) ws) items;
      },
      ap (λ (b : Blocks). b.end) is,
      none,
    )

-- ---- faults

-- a fault of a block is the file's, and where a read failed the next block isn't whole
pub count_stops : (n : ℕ) (counts : Counts) (stage : Stage) (why : DecodeFault) (first old new : Option (List ℕ)) → IsBehind n stage
    → IfTold first old (Counted counts stage) → IfTold old new (Gives stage (Err why))
    → ((minor : ℕ) (at : Position) → stage ≡ At minor at → StopsAt minor at old new why) → IfTold first new (CountsAll (Err why))
count_stops n counts stage (Bad fault block offset) first old new place counted gives stops =
    told_through first old new _ _ _ counted gives (λ all before after c g. ap (λ (b : Blocks). b.end) (fed_blocks c.fed stage all before c.file ∙ ap (with_items c.fed) g))
count_stops n counts stage ReadFault first old new place counted gives stops =
    told_through first old new _ _ _ counted (told_stop n stage old new _ place gives stops) (λ all before after c none. (c.fed, stops_behind c.fed stage all before after c.file none))
count_stops n counts stage WantMemory first old new place counted gives stops =
    told_through first old new _ _ _ counted gives (λ all before after c g. tt)

-- and so in the header
pub count_no_header : (why : DecodeFault) (old new : Option (List ℕ)) → IfTold old new (GivesHeader (Err why)) → StopsInHeader old new why → IfTold old new (CountsAll (Err why))
count_no_header (Bad fault block offset) old new gives stops = told_if old new _ _ gives (λ all rest g. ap (λ (b : Blocks). b.end) g)
count_no_header ReadFault old new gives stops = told_if old new _ _ (header_stops old new _ gives stops) (λ all rest none. ([], none))
count_no_header WantMemory old new gives stops = told_if old new _ _ gives (λ all rest g. tt)

-- a block adds one or none
pub with_one_if : (b : Bool) (n most : ℕ) → n ≤ most → n + one_if b ≤ most + 1
with_one_if true n most below = omega arith
with_one_if false n most below = omega arith
