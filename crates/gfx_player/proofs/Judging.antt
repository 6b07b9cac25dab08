-- What a file means, by the blocks that were read.
use Rattle.std.proofs.Common.{◌≡◌, ℕ, List, [], ◌∷◌, ◌++◌, Option, Some, None, true, refl, sym, ap, ◌∙◌}
use Rattle.std.proofs.lemmas.List.{append-nil}
use Rattle.gfx_types.specs.declared.names.Fault.{Fault}
use Rattle.gfx_types.specs.declared.frame.Frame.{Frame}
use Rattle.gfx_model.specs.Events.{Event}
use Rattle.gfx_model.specs.Blocks.{Whole, End, Content}
use Rattle.gfx_model.specs.Blocks.Content.{skipped, effect}
use Rattle.gfx_model.specs.Blocks.End.{bad}
use Rattle.gfx_model.specs.Frames.{frames}
use Rattle.gfx_model.specs.History.{fault, is_valid}
use Rattle.gfx_model.specs.Meaning.{Judged, content_onto, content_fault, judged, judge, events_onto}
use Rattle.gfx_grammar.specs.Framing.{with_items}
use Rattle.gfx_grammar.specs.Splitting.{Blocks, blocks_of, only_end, with_item}
use Rattle.gfx_laws.specs.Laws.{frames_after}
use Rattle.gfx_laws.proofs.Ranges.{frames_parts}
use Rattle.gfx_trim_law.proofs.Numbers.{last_parts}
use Rattle.gfx_trim_law.proofs.Cuts.{events_in, onto_events, valid_start}
use Rattle.gfx_trim_law.proofs.Prefix.{judge-valid, prefix}
use Rattle.gfx_player.specs.Ends.{BeginsWith, EndsBehind}
use Rattle.gfx_player.specs.Meanings.{frames_in, judged_of, unless_bad, valid_from}
use Rattle.gfx_player.specs.Fed.{IsGiven, history_of}

-- a block without a fault
pub fine : (h : List Event) (c : Content) → is_valid (content_onto c h) ≡ true → content_fault h c ≡ None
fine h skipped v = refl
fine h (effect thread e) v = (last_parts e h v).1

-- blocks without a fault come before whatever is judged behind them
pub judge_on : (fed rest : List Whole) (h : List Event) (end : End) → is_valid (events_onto fed h) ≡ true → judge h (fed ++ rest) end ≡ judge (events_onto fed h) rest end
unfolding judge
judge_on [] rest h end valid = refl
judge_on (w ∷ fed) rest h end valid =
    ap (λ (f : Option Fault). judged h w f (judge (content_onto w.content h) (fed ++ rest) end)) (fine h w.content (valid_start fed (content_onto w.content h) valid))
    ∙ judge_on fed rest (content_onto w.content h) end valid

-- and so do those before the first with a rule fault
pub valid_on : (fed rest : List Whole) (h : List Event) → is_valid (events_onto fed h) ≡ true → valid_from h (fed ++ rest) ≡ fed ++ valid_from (events_onto fed h) rest
unfolding valid_from
valid_on [] rest h valid = refl
valid_on (w ∷ fed) rest h valid =
    ap (λ (f : Option Fault). unless_bad f w (valid_from (content_onto w.content h) (fed ++ rest))) (fine h w.content (valid_start fed (content_onto w.content h) valid))
    ∙ ap (λ (ws : List Whole). w ∷ ws) (valid_on fed rest (content_onto w.content h) valid)

pub valid_none : (h : List Event) → valid_from h [] ≡ []
unfolding valid_from
valid_none h = refl

valid_bad : (h : List Event) (w : Whole) (ws : List Whole) (f : Fault) → content_fault h w.content ≡ Some f → valid_from h (w ∷ ws) ≡ []
unfolding valid_from
valid_bad h w ws f is = ap (λ (f : Option Fault). unless_bad f w (valid_from (content_onto w.content h) ws)) is

-- blocks without a fault, and none behind them
pub valid_alone : (fed : List Whole) → is_valid (history_of fed) ≡ true → valid_from [] fed ≡ fed
valid_alone fed valid =
    ap (valid_from []) (sym (append-nil fed)) ∙ valid_on fed [] [] valid ∙ ap (λ (ws : List Whole). fed ++ ws) (valid_none (history_of fed)) ∙ append-nil fed

-- the file ends here, so or so
pub judged_end : (fed : List Whole) (all : List ℕ) (end : End) → is_valid (history_of fed) ≡ true → blocks_of all ≡ with_items fed (only_end end) → EndsBehind fed end all
unfolding judge
judged_end fed all end valid is =
    let judged = ap judged_of is ∙ judge_on fed [] [] end valid in
    record {
      blocks = ap (λ (b : Blocks). valid_from [] b.items) is ∙ ap (valid_from []) (append-nil fed) ∙ valid_alone fed valid;
      history = ap (λ (j : Judged). j.history) judged;
      ends = ap (λ (j : Judged). j.end) judged;
    }

-- the next block has a rule fault
pub judged_fault : (fed : List Whole) (w : Whole) (later : Blocks) (all : List ℕ) (f : Fault) → is_valid (history_of fed) ≡ true → blocks_of all ≡ with_items fed (with_item w later) →
    content_fault (history_of fed) w.content ≡ Some f → EndsBehind fed (bad f w.number w.offset) all
unfolding judge
judged_fault fed w later all f valid is fault =
    let judged : judged_of (blocks_of all) ≡ record { history = history_of fed; end = bad f w.number w.offset } =
    ap judged_of is ∙ judge_on fed (w ∷ later.items) [] later.end valid
    ∙ ap (λ o. judged (history_of fed) w o (judge (content_onto w.content (history_of fed)) later.items later.end)) fault in
    record {
      blocks = ap (λ (b : Blocks). valid_from [] b.items) is ∙ valid_on fed (w ∷ later.items) [] valid
          ∙ ap (λ (ws : List Whole). fed ++ ws) (valid_bad (history_of fed) w later.items f fault) ∙ append-nil fed;
      history = ap (λ (j : Judged). j.history) judged;
      ends = ap (λ (j : Judged). j.end) judged;
    }

-- what was given before a read failed
pub judged_given : (fed : List Whole) (all left : List ℕ) (g : IsGiven fed all left) → is_valid (history_of fed) ≡ true → EndsBehind fed (blocks_of g.given).end g.given
judged_given fed all left g valid =
    let judged = ap (λ ws. judge [] ws (blocks_of g.given).end) g.blocks ∙ judge-valid fed [] (blocks_of g.given).end valid in
    record {
      blocks = ap (valid_from []) g.blocks ∙ valid_alone fed valid;
      history = ap (λ (j : Judged). j.history) judged;
      ends = ap (λ (j : Judged). j.end) judged;
    }

-- the frames of a file, those of the blocks that were read first
pub record Longer (h : List Event) (fs : List Frame) : Type 0 where
  pub good : List Whole
  pub is : fs ≡ frames h ++ frames_after h (events_in good)
  pub valid : is_valid (events_onto good h) ≡ true

pub longer : (fed : List Whole) (all : List ℕ) → BeginsWith fed all → is_valid (history_of fed) ≡ true → Longer (history_of fed) (frames_in all)
longer fed all b valid =
    let h = history_of fed in
    let p = prefix b.later.items h b.later.end valid in
    record {
      good = p.good;
      is = ap (λ (j : Judged). frames j.history) (ap judged_of b.is ∙ judge_on fed b.later.items [] b.later.end valid)
          ∙ ap frames (p.history ∙ onto_events p.good h) ∙ frames_parts (events_in p.good) h;
      valid = p.valid;
    }
