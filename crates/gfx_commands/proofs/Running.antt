-- The commands of a buffer, one after another.
use Rattle.std.proofs.Common.{◌≡◌, ℕ, nat_eq, ◌+◌, Some, List, [], ◌∷◌, ◌++◌, length, take, append_assoc, map, refl, sym, ap, ◌∙◌, arith}
use Rattle.std.specs.Prelude.{flat_map, slice_get}
use Rattle.std.proofs.lemmas.List.{take-append-le, take-take, take_all, length-append}
use Rattle.gfx_model.specs.Events.{Event}
use Rattle.gfx_model.specs.Events.Event.{CmdPipelineBarrier}
use Rattle.gfx_model.specs.Spelling.{id_of}
use Rattle.gfx_ops.specs.Operations.{is_barrier}
use Rattle.gfx_commands.proofs.Added.{flat_map-more}
use Rattle.gfx_commands.proofs.Executed.{take_next}

pub flat_map-map : {X Y Z : Type 0} (f : Y → List Z) (g : X → Y) (xs : List X) → flat_map f (map g xs) ≡ flat_map (λ x. f (g x)) xs
flat_map-map f g [] = refl
flat_map-map f g (x ∷ xs) = ap (λ ys. f (g x) ++ ys) (flat_map-map f g xs)

-- what was at the start stays there, where what grew behind it stays
pub front_kept : {X : Type 0} (old mid more new : List X) → mid ≡ old ++ more → take (length mid) new ≡ mid → take (length old) new ≡ old
front_kept old mid more new grown kept =
    sym (take-take (length old) (length mid) new (omega (arith, ap length grown, length-append old more)))
    ∙ ap (take (length old)) (kept ∙ grown)
    ∙ take-append-le (length old) old more (omega arith)
    ∙ take_all (length old) old (omega arith)

-- what one more command appends
pub ops_more : {X Y : Type 0} (f : X → List Y) (xs : List X) (k : ℕ) (x : X) (first old new : List Y) → slice_get xs k ≡ Some x
    → old ≡ first ++ flat_map f (take k xs) → new ≡ old ++ f x → new ≡ first ++ flat_map f (take (k + 1) xs)
ops_more f xs k x first old new there was now =
    now ∙ ap (λ l. l ++ f x) was ∙ append_assoc first (flat_map f (take k xs)) (f x)
    ∙ ap (λ l. first ++ l) (sym (ap (flat_map f) (take_next x xs k there) ∙ flat_map-more f (take k xs) x))

-- the number of a barrier in the table of calls, which no other event has
pub barrier_number : (e : Event) → nat_eq (id_of e) 26 ≡ is_barrier e
unfolding id_of
barrier_number (CmdPipelineBarrier cb barriers) = refl
barrier_number _ = refl
