-- What payloads in bytes say, one after another.
use Rattle.std.proofs.Common.{◌≡◌, ◌<◌, ◌+◌, ℕ, suc, List, [], ◌∷◌, ◌++◌, length, take, drop, get_or, drop-cons, map, Some, None, Result, Ok, Err, refl, sym, ap, subst, ◌∙◌, arith, length-take-le}
use Rattle.std.specs.Prelude.{IfOk, IsSome, MatchResult}
use Rattle.std.specs.List.{All, AllZip, Contains}
use Rattle.std.specs.declared.vec.Vec.{Vec}
use Rattle.std.proofs.lemmas.List.{take-append-drop, take_more}
use Rattle.std.proofs.lemmas.List.Elements.{All-push}
use Rattle.gfx_types.specs.declared.effect.Block.{Block}
use Rattle.gfx_types.specs.declared.names.Fault.{Fault}
use Rattle.gfx_grammar.specs.Splitting.{payload_fault}
use Rattle.gfx_blocks.specs.declared.payload.BlockFault.{BlockFault}
use Rattle.gfx_blocks.specs.Payloads.{Says, content_of}
use Rattle.gfx_fan.specs.declared.decode.Framed.{Framed}
use Rattle.gfx_fan.specs.Decoded.{IsFirstBad, payload_at, said}

-- the answer to a payload is what it says
abbrev pub SaysAt : ℕ → List ℕ → Framed → Result Block BlockFault → Type 0
SaysAt m bytes f answer = Says answer m f.framing.kind (payload_at bytes f)

-- blocks alone were answered
said_blocks : (m : ℕ) (bytes : List ℕ) (places : List Framed) (blocks : List Block) → AllZip (SaysAt m bytes) places (map Ok blocks) → map (said m bytes) places ≡ map (λ (b : Block). Some (content_of b)) blocks
said_blocks m bytes [] [] all = refl
said_blocks m bytes [] (b ∷ blocks) all = absurd all
said_blocks m bytes (f ∷ places) [] all = absurd all
said_blocks m bytes (f ∷ places) (b ∷ blocks) all = λ t. all.0 t ∷ said_blocks m bytes places blocks all.1 t

-- what was gathered of the answers
pub found_blocks : {Z : Type 0} (m : ℕ) (bytes : List ℕ) (places : List Framed) (answers : List (Result Block BlockFault)) (found : Result (Vec Block Z) BlockFault) → AllZip (SaysAt m bytes) places answers →
    MatchResult found (λ blocks. (items : List Block) × (answers ≡ map Ok items) × (blocks.items ≡ items)) (λ fault. Contains answers (Err fault)) →
    IfOk found (λ blocks. map (said m bytes) places ≡ map (λ (b : Block). Some (content_of b)) blocks.items)
found_blocks m bytes places answers (Ok blocks) all gave =
    said_blocks m bytes places blocks.items (subst (AllZip (SaysAt m bytes) places) (gave.1 ∙ ap (map Ok) (sym gave.2)) all)
found_blocks m bytes places answers (Err fault) all gave = tt

-- the same, of a version and of bytes that are these
pub found_as : {Z : Type 0} (m n : ℕ) (bytes all : List ℕ) (places : List Framed) (answers : List (Result Block BlockFault)) (found : Result (Vec Block Z) BlockFault) → n ≡ m → all ≡ bytes →
    AllZip (SaysAt n all) places answers →
    MatchResult found (λ blocks. (items : List Block) × (answers ≡ map Ok items) × (blocks.items ≡ items)) (λ fault. Contains answers (Err fault)) →
    IfOk found (λ blocks. map (said m bytes) places ≡ map (λ (b : Block). Some (content_of b)) blocks.items)
found_as m n bytes all places answers found version same says gave =
    found_blocks m bytes places answers found (subst (λ k. AllZip (SaysAt k bytes) places answers) version (subst (λ bs. AllZip (SaysAt n bs) places answers) same says)) gave

-- one more says something
pub more_good : (m : ℕ) (bytes : List ℕ) (places : List Framed) (i : ℕ) (d : Framed) → i < length places → All (λ f. IsSome (said m bytes f)) (take i places) → IsSome (said m bytes (get_or places i d)) →
    All (λ f. IsSome (said m bytes f)) (take (i + 1) places)
more_good m bytes places i d below good here =
    subst (All (λ f. IsSome (said m bytes f))) (sym (take_more places i d below)) (All-push (λ f. IsSome (said m bytes f)) (take i places) (get_or places i d) good here)

-- the first that says nothing
pub first_bad : (m : ℕ) (bytes : List ℕ) (places : List Framed) (i : ℕ) (d : Framed) (fault : Fault) → i < length places → All (λ f. IsSome (said m bytes f)) (take i places) →
    said m bytes (get_or places i d) ≡ None → fault ≡ payload_fault (get_or places i d).framing.kind (payload_at bytes (get_or places i d)) → IsFirstBad m bytes places fault i
first_bad m bytes places i d fault below good none because = record {
  before = take i places;
  here = get_or places i d;
  later = drop (i + 1) places;
  parts = sym (take-append-drop i places) ∙ ap (λ l. take i places ++ l) (drop-cons places i d below ∙ ap (λ n. get_or places i d ∷ drop n places) (next i));
  counted = sym (length-take-le i places (omega (arith, below)));
  good = good;
  none = none;
  because = because;
}
  where
    next : (n : ℕ) → suc n ≡ n + 1
    next n = omega arith
