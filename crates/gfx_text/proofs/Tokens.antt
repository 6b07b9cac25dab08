-- Fields that are read one after the other.
use Rattle.std.proofs.Common.{◌≡◌, ℕ, List, Option, Some, None, ap, ◌∙◌, codes}
use Rattle.gfx_grammar.specs.Reading.{◌>>=◌, Reader}
use Rattle.gfx_text_grammar.specs.Reading.{behind}
use Rattle.gfx_text_grammar.specs.FieldReading.{whole, without_front, named_value}
use Rattle.gfx_text.proofs.Fronts.{fronts_join}

-- ---- a token

pub token_read : {X : Type 0} (name : List ℕ) (r : Reader X) (token after value : List ℕ) → without_front name token ≡ Some after → behind 61 after ≡ Some value
    → named_value name r token ≡ whole r value
token_read name r token after value is equals =
    ap (λ (o : Option (List ℕ)). o >>= whole r) (fronts_join name (codes "=") token ∙ ap (λ (o : Option (List ℕ)). o >>= without_front (codes "=")) is ∙ ap (λ (o : Option (List ℕ)). o >>= λ t. Some t) equals)

pub token_not : {X : Type 0} (name : List ℕ) (r : Reader X) (token : List ℕ) → without_front name token ≡ None → named_value name r token ≡ None
token_not name r token none =
    ap (λ (o : Option (List ℕ)). o >>= whole r) (fronts_join name (codes "=") token ∙ ap (λ (o : Option (List ℕ)). o >>= without_front (codes "=")) none)

pub token_unequal : {X : Type 0} (name : List ℕ) (r : Reader X) (token after : List ℕ) → without_front name token ≡ Some after → behind 61 after ≡ None
    → named_value name r token ≡ None
token_unequal name r token after is none =
    ap (λ (o : Option (List ℕ)). o >>= whole r) (fronts_join name (codes "=") token ∙ ap (λ (o : Option (List ℕ)). o >>= without_front (codes "=")) is ∙ ap (λ (o : Option (List ℕ)). o >>= λ t. Some t) none)
