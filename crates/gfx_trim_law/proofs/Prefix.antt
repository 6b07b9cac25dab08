-- The blocks that are judged without a fault.
use Rattle.std.proofs.Common.{◌≡◌, true, refl, ◌∙◌, ap, List, [], ◌∷◌, ◌++◌, Option, Some, None, is_none}
use Rattle.std.proofs.lemmas.Bool.{and_from}
use Rattle.gfx_types.specs.declared.names.Fault.{Fault}
use Rattle.gfx_model.specs.Events.{Event}
use Rattle.gfx_model.specs.Blocks.{Whole, Content, End}
use Rattle.gfx_model.specs.Blocks.Content.{skipped, effect}
use Rattle.gfx_model.specs.History.{fault, is_valid}
use Rattle.gfx_model.specs.Meaning.{content_onto, content_fault, judged, judge, events_onto}
use Rattle.gfx_trim_law.proofs.Numbers.{last_parts}
use Rattle.gfx_trim_law.proofs.Cuts.{valid_start}

-- the blocks before the first with a rule fault, and those from it on
pub record Prefix (h : List Event) (ws : List Whole) (end : End) : Type 0 where
  pub good : List Whole
  pub others : List Whole
  pub parts : good ++ others ≡ ws
  pub valid : is_valid (events_onto good h) ≡ true
  pub history : (judge h ws end).history ≡ events_onto good h

-- one block more without a fault
pub valid_more : (h : List Event) (c : Content) → is_valid h ≡ true → content_fault h c ≡ None → is_valid (content_onto c h) ≡ true
valid_more h skipped valid fine = valid
valid_more h (effect thread e) valid fine = and_from (is_valid h) (is_none (fault h e)) valid (ap is_none fine)

pub prefix : (ws : List Whole) (h : List Event) (end : End) → is_valid h ≡ true → Prefix h ws end
unfolding judge
prefix [] h end valid = record { good = []; others = []; parts = refl; valid = valid; history = refl }
prefix (w ∷ ws) h end valid = by (content_fault h w.content) refl (λ more. prefix ws (content_onto w.content h) end more)
  where
    by : (f : Option Fault) → content_fault h w.content ≡ f → (is_valid (content_onto w.content h) ≡ true → Prefix (content_onto w.content h) ws end) → Prefix h (w ∷ ws) end
    by (Some f) is later = record {
      good = [];
      others = w ∷ ws;
      parts = refl;
      valid = valid;
      history = ap (λ (f : Option Fault). (judged h w f (judge (content_onto w.content h) ws end)).history) is;
    }
    by None is later =
        let p = later (valid_more h w.content valid is) in
        record {
          good = w ∷ p.good;
          others = p.others;
          parts = ap (λ (r : List Whole). w ∷ r) p.parts;
          valid = p.valid;
          history = ap (λ (f : Option Fault). (judged h w f (judge (content_onto w.content h) ws end)).history) is ∙ p.history;
        }

-- blocks without a fault are judged to their end
pub judge-valid : (ws : List Whole) (h : List Event) (end : End) → is_valid (events_onto ws h) ≡ true → judge h ws end ≡ record { history = events_onto ws h; end = end }
unfolding judge
judge-valid [] h end valid = refl
judge-valid (w ∷ ws) h end valid =
    ap (λ (f : Option Fault). judged h w f (judge (content_onto w.content h) ws end)) (fine w.content (valid_start ws (content_onto w.content h) valid))
    ∙ judge-valid ws (content_onto w.content h) end valid
  where
    fine : (c : Content) → is_valid (content_onto c h) ≡ true → content_fault h c ≡ None
    fine skipped v = refl
    fine (effect thread e) v = (last_parts e h v).1
