-- The bytes of live places stay the same in both, step by step.
use Rattle.std.proofs.Common.{◌≡◌, ℕ, ◌+◌, ◌-◌, ◌<◌, Bool, true, false, refl, sym, ◌∙◌, ap, subst, List, ◌∷◌, Some, cond, ◌==◌, ◌&&◌, length, nat_le, nat_lt, slice_index, arith}
use Rattle.std.specs.Option.{option_map_or}
use Rattle.std.proofs.lemmas.Bool.{eqb-true, and_parts, leb-true, ltb-true}
use Rattle.gfx_types.specs.declared.op.Place.{Place}
use Rattle.gfx_types.specs.declared.op.Place.TheVariants as place
use Rattle.gfx_model.specs.Steps.{Step, Change, Object, kind_of, kind_number}
use Rattle.gfx_model.specs.Steps.Step.{creates, ends, changes}
use Rattle.gfx_model.specs.Steps.Change.{put, fill, copy, set_layout}
use Rattle.gfx_model.specs.Questions.{passes}
use Rattle.gfx_model.specs.Views.{View, detail_size}
use Rattle.gfx_model.specs.Covers.{IsInPlace, is_fetched}
use Rattle.gfx_model.specs.After.{after}
use Rattle.gfx_model.specs.Bytes.{byte, same_place, covers_byte, word_byte}
use Rattle.gfx_laws.specs.Lawful.{base, LawfulBytes, id_in}
use Rattle.gfx_laws.proofs.Ready.{Ready}
use Rattle.gfx_laws.proofs.Cases.{by_test}
use Rattle.gfx_laws.proofs.MoreObjects.{live_of_kind, with_object}
use Rattle.gfx_laws.proofs.FewerObjects.{without, ended_same}
use Rattle.gfx_laws.proofs.LawfulBytes.{changed}

-- bytes of places that are there are the same in both
abbrev pub SameBytes : View → List Change → List Change → Type 0
SameBytes v es ds = (at : Place) (i : ℕ) → IsInPlace v at i → byte ds at i ≡ byte es at i

-- a place that is there is so where its object is the same
in_place_along : (v u : View) (at : Place) (i : ℕ) → u.live (id_in at) ≡ v.live (id_in at) → IsInPlace v at i → IsInPlace u at i
in_place_along v u (place.Memory m) i e h =
    (ap (passes (λ o. kind_number (kind_of o.detail) == 5)) e ∙ h.0, subst (λ l. i < option_map_or (λ o. detail_size o.detail) l 0) (sym e) h.1)
in_place_along v u (place.Image x) i e h =
    (ap (passes (λ o. is_fetched o.detail)) e ∙ h.0, subst (λ l. i < option_map_or (λ o. detail_size o.detail) l 0) (sym e) h.1)

-- what is there is a live object
live_in_place : (v : View) (at : Place) (i : ℕ) → IsInPlace v at i → (o : Object) × (v.live (id_in at) ≡ Some o)
live_in_place v (place.Memory m) i h = live_of_kind v _ m h.0
live_in_place v (place.Image x) i h = live_of_kind v _ x h.0

-- ---- one change in both

chosen_same : (t : Bool) (a b c d : ℕ) → (t ≡ true → a ≡ c) → b ≡ d → (elim t as (λ r. ℕ) [ true ↦ a | false ↦ b ]) ≡ (elim t as (λ r. ℕ) [ true ↦ c | false ↦ d ])
chosen_same true a b c d e f = e refl
chosen_same false a b c d e f = f

change_same : (v : View) (c : Change) (es ds : List Change) → Ready v (changes c) → SameBytes v es ds → SameBytes v (c ∷ es) (c ∷ ds)
unfolding byte
change_same v (put to offset bytes) es ds ready same at i there =
    ap (cond (covers_byte to offset (length bytes) at i) (slice_index bytes (i - offset))) (same at i there)
change_same v (fill to offset n word) es ds ready same at i there =
    ap (cond (covers_byte to offset n at i) (word_byte word (i - offset))) (same at i there)
change_same v (copy to to_offset source source_offset n) es ds ready same at i there =
    chosen_same (covers_byte to to_offset n at i) (byte ds source (source_offset + (i - to_offset))) (byte ds at i) (byte es source (source_offset + (i - to_offset))) (byte es at i)
    (λ e.
    let parts = and_parts (same_place to at && nat_le to_offset i) (nat_lt i (to_offset + n)) e in
    let low = leb-true to_offset i (and_parts (same_place to at) (nat_le to_offset i) parts.0).1 in
    let high = ltb-true i (to_offset + n) parts.1 in
    same source (source_offset + (i - to_offset)) (ready.1 (i - to_offset) (omega (arith, low, high))))
    (same at i there)
change_same v (set_layout image layout) es ds ready same at i there = same at i there

pub bytes_along : (v w : View) (s : Step) (es ds : List Change) → LawfulBytes (base v) es → LawfulBytes (base w) ds → Ready v s → Ready w s → SameBytes v es ds →
    SameBytes (after v s) (changed s es) (changed s ds)
unfolding after
bytes_along v w (creates i parent detail) es ds h k ready also same at j there =
    by_test _ (i == id_in at)
    (λ e. k at j (subst (λ y. w.used y ≡ false) (eqb-true i (id_in at) e) also.unused) ∙ sym (h at j (subst (λ y. v.used y ≡ false) (eqb-true i (id_in at) e) ready.unused)))
    (λ e. same at j (in_place_along (with_object v i (record { parent = parent; detail = detail })) v at j (sym (ap (λ t. cond t (Some (record { parent = parent; detail = detail })) (v.live (id_in at))) e)) there))
bytes_along v w (ends gone) es ds h k ready also same at j there =
    let o = live_in_place (without v gone) at j there in
    same at j (in_place_along (without v gone) v at j (sym (ended_same gone (id_in at) (v.live (id_in at)) o.0 o.1)) there)
bytes_along v w (changes c) es ds h k ready also same at j there = change_same v c es ds ready same at j there
bytes_along v w _ es ds h k ready also same at j there = same at j there
