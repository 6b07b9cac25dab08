-- A read that failed: the blocks of what was given are those that were taken.
use Rattle.std.proofs.Common.{◌≡◌, ℕ, ◌≤◌, inl, inr, List, [], ◌++◌, length, Option, Some, None, refl, sym, ap, ◌∙◌, append_assoc, length-append, arith}
use Rattle.std.specs.Prelude.{flat_map}
use Rattle.std.proofs.lemmas.List.{append-nil}
use Rattle.gfx_io.specs.Told.{IfTold}
use Rattle.gfx_types.specs.declared.names.Fault.{Fault}
use Rattle.gfx_model.specs.Blocks.{Position, Whole, header_fault, minor_of}
use Rattle.gfx_grammar.proofs.HeaderLaws.{blocks_of-bad, header_good, minor_of-append}
use Rattle.gfx_grammar.specs.Splitting.{Blocks, Front, Stops, Finds, blocks_from, blocks_of, front}
use Rattle.gfx_grammar.proofs.AloneLaws.{blocks_from-as}
use Rattle.gfx_decode.specs.declared.fault.DecodeFault.TheVariants.{ReadFault}
use Rattle.gfx_decode.specs.Stage.{Stage, Fresh, At, Failed}
use Rattle.gfx_decode.specs.Reading.{IsBlockCut, IsHeaderCut, StopsAt, StopsInHeader}
use Rattle.gfx_decode.specs.Reachable.{IsBehind}
use Rattle.gfx_decode.proofs.Steps.{cut_finds_none}
use Rattle.gfx_player.specs.Fed.{IsFed, IsGiven, file_with}

-- ---- in the header

-- a header that isn't whole breaks a step
cut_fault : (bytes : List ℕ) (o : Option Fault) → IsHeaderCut bytes → header_fault bytes ≡ o → (blocks_of bytes).items ≡ []
cut_fault bytes (Some f) cut is = ap (λ (b : Blocks). b.items) (blocks_of-bad bytes f is)
cut_fault bytes None (inl short) is =
    let good = header_good bytes is in absurd (omega (arith, short, good.0))
cut_fault bytes None (inr cut) is =
    let good = header_good bytes is in absurd (omega (arith, cut.1, good.2))

-- the header wasn't whole in what was given
pub header_stops : (old new : Option (List ℕ)) (Q : List ℕ → List ℕ → Type 0) → IfTold old new Q → StopsInHeader old new ReadFault → IfTold old new (λ all left. IsGiven [] all left)
header_stops None new Q told (bytes, reads, cut) = tt
header_stops (Some all) None Q told stops = absurd told
header_stops (Some all) (Some left) Q told (bytes, reads, cut) =
    record { given = bytes; parts = reads; blocks = cut_fault bytes (header_fault bytes) cut refl; cut = inl (refl, cut); minor = inl refl }

-- ---- behind it

-- a part of what was left was given, in which the next block isn't whole
abbrev pub GivesNone : Stage → List ℕ → List ℕ → Type 0
GivesNone Fresh before after = ⊥
GivesNone (At minor at) before after = (part : List ℕ) × (before ≡ part ++ after) × IsBlockCut at part
GivesNone (Failed why) before after = ⊥

pub told_stop : (count : ℕ) (stage : Stage) (old new : Option (List ℕ)) (Q : List ℕ → List ℕ → Type 0) → IsBehind count stage → IfTold old new Q →
    ((minor : ℕ) (at : Position) → stage ≡ At minor at → StopsAt minor at old new ReadFault) → IfTold old new (GivesNone stage)
told_stop count Fresh old new Q place told stops = absurd place
told_stop count (At minor at) None new Q place told stops = tt
told_stop count (At minor at) (Some before) None Q place told stops = absurd told
told_stop count (At minor at) (Some before) (Some after) Q place told stops = stops minor at refl
told_stop count (Failed why) old new Q place told stops = absurd place

none_comes : (m : ℕ) (at : Position) (part : List ℕ) → IsBlockCut at part → (f : Front) → front m at part ≡ f → (blocks_from m at part).items ≡ []
none_comes m at part cut (Stops end) is = ap (λ (b : Blocks). b.items) (blocks_from-as m at part (Stops end) is)
none_comes m at part cut (Finds w) is = absurd (cut_finds_none m at part w cut is)

-- the blocks of what was given, which begins with the whole header
pub stops_behind : (fed : List Whole) (stage : Stage) (all before after : List ℕ) → IsFed fed stage all before → GivesNone stage before after → IsGiven fed all after
stops_behind fed Fresh all before after f stops = absurd stops
stops_behind fed (At minor at) all before after f (part, came, cut) =
    let given = file_with f.head fed part in
    let long : 16 ≤ length given = omega (arith, f.header.there, length-append f.head (flat_map (λ w. w.bytes) fed), length-append (f.head ++ flat_map (λ w. w.bytes) fed) part) in
    let parts : all ≡ given ++ after = f.parts ∙ ap (file_with f.head fed) came ∙ sym (append_assoc (f.head ++ flat_map (λ w. w.bytes) fed) part after) in
    record {
      given = given;
      parts = parts;
      blocks = ap (λ (b : Blocks). b.items) (f.blocks part) ∙ ap (λ (ws : List Whole). fed ++ ws) (none_comes minor at part cut (front minor at part) refl) ∙ append-nil fed;
      cut = inr (record { minor = minor; at = at; part = part; fits = record { head = f.head; header = f.header; parts = refl; blocks = f.blocks }; cut = cut });
      minor = inr (sym (ap minor_of parts ∙ minor_of-append given after long));
    }
stops_behind fed (Failed why) all before after f stops = absurd stops
