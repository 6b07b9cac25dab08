-- What is asked for of the operations of commands: all of them, or those that change bytes.
use Rattle.std.proofs.Common.{◌≡◌, Bool, true, false, not, ◌&&◌, cond, subst, List, [], ◌∷◌, ◌++◌, map, Option, Some, None, refl, ap, sym, ◌∙◌}
use Rattle.std.specs.Prelude.{◌||◌, flat_map}
use Rattle.std.specs.List.{AllByRecursion}
use Rattle.std.proofs.lemmas.List.Elements.{filter-append}
use Rattle.gfx_types.specs.declared.lists.Barrier.{Barrier}
use Rattle.gfx_types.specs.declared.op.Op.{Op}
use Rattle.gfx_types.specs.declared.op.Op.TheVariants as op
use Rattle.gfx_model.specs.Events.{Event}
use Rattle.gfx_model.specs.Events.Event.{CmdPipelineBarrier, CmdFillBuffer, CmdUpdateBuffer, CmdCopyBuffer, CmdCopyImage, CmdCopyBufferToImage, CmdCopyImageToBuffer, CmdClearColorImage}
use Rattle.gfx_model.specs.Views.{View, Window, window}
use Rattle.gfx_ops.specs.Operations.{ops_of_command, ops_in, ops_between, barrier_op, changes_bytes, listed, is_barrier}

pub listed_all : (ops : List Op) → listed true ops ≡ ops
listed_all [] = refl
listed_all (o ∷ ops) = ap (λ os. o ∷ os) (listed_all ops)

-- what is asked for item by item is what is asked for of all
pub listed_flat : {X : Type 0} (with_layouts : Bool) (f : X → List Op) (xs : List X) → flat_map (λ x. listed with_layouts (f x)) xs ≡ listed with_layouts (flat_map f xs)
listed_flat with_layouts f [] = refl
listed_flat with_layouts f (x ∷ xs) =
    ap (λ os. listed with_layouts (f x) ++ os) (listed_flat with_layouts f xs)
    ∙ sym (filter-append (λ o. with_layouts || changes_bytes o) (f x) (flat_map f xs))

-- ---- a barrier

pub barriers_none : (bs : List Barrier) → listed false (map barrier_op bs) ≡ []
barriers_none [] = refl
barriers_none (b ∷ bs) = barriers_none bs

pub barrier_none : (v : View) (c : Event) → is_barrier c ≡ true → listed false (ops_of_command v c) ≡ []
unfolding ops_of_command
barrier_none v (CmdPipelineBarrier cb barriers) e = barriers_none barriers
barrier_none v _ e = absurd cc

-- ---- another command

each_all : {X : Type 0} (f : X → Op) → ((x : X) → changes_bytes (f x) ≡ true) → (xs : List X) → listed false (map f xs) ≡ map f xs
each_all f each [] = refl
each_all f each (x ∷ xs) =
    ap (λ t. cond t (f x ∷ listed false (map f xs)) (listed false (map f xs))) (each x) ∙ ap (λ os. f x ∷ os) (each_all f each xs)

in_all : (w : Option Window) (f : Window → List Op) → ((s : Window) → listed false (f s) ≡ f s) → listed false (ops_in w f) ≡ ops_in w f
in_all None f each = refl
in_all (Some s) f each = each s

between_all : (s t : Option Window) (f : Window → Window → List Op) → ((a b : Window) → listed false (f a b) ≡ f a b) → listed false (ops_between s t f) ≡ ops_between s t f
between_all s t f each = in_all s (λ a. ops_in t (f a)) (λ a. in_all t (f a) (each a))

pub other_all : (v : View) (c : Event) → is_barrier c ≡ false → listed false (ops_of_command v c) ≡ ops_of_command v c
unfolding ops_of_command
other_all v (CmdPipelineBarrier cb barriers) e = absurd cc
other_all v (CmdFillBuffer cb buffer offset size word) e = in_all (window v buffer) _ (λ w. refl)
other_all v (CmdUpdateBuffer cb buffer offset bytes) e = in_all (window v buffer) _ (λ w. refl)
other_all v (CmdCopyBuffer cb source target regions) e = between_all (window v source) (window v target) _ (λ s t. each_all _ (λ r. refl) regions)
other_all v (CmdCopyImage cb source source_layout target target_layout regions) e = between_all (window v source) (window v target) _ (λ s t. each_all _ (λ r. refl) regions)
other_all v (CmdCopyBufferToImage cb source target layout regions) e = between_all (window v source) (window v target) _ (λ s t. each_all _ (λ r. refl) regions)
other_all v (CmdCopyImageToBuffer cb source layout target regions) e = between_all (window v source) (window v target) _ (λ s t. each_all _ (λ r. refl) regions)
other_all v (CmdClearColorImage cb image layout c0 c1 c2 c3) e = in_all (window v image) _ (λ w. refl)
other_all v _ e = refl

-- what is left of operations changes bytes
pub bytes_alone : (ops : List Op) → AllByRecursion (λ o. changes_bytes o ≡ true) (listed false ops)
bytes_alone [] = tt
bytes_alone (op.SetLayout image layout ∷ ops) = bytes_alone ops
bytes_alone (op.Put at offset bytes ∷ ops) = (refl, bytes_alone ops)
bytes_alone (op.PutGiven at offset ∷ ops) = (refl, bytes_alone ops)
bytes_alone (op.Fill at offset n word ∷ ops) = (refl, bytes_alone ops)
bytes_alone (op.Copy to to_offset to_step source source_offset source_step n rows ∷ ops) = (refl, bytes_alone ops)

pub other_bytes : (v : View) (c : Event) → is_barrier c ≡ false → AllByRecursion (λ o. changes_bytes o ≡ true) (ops_of_command v c)
other_bytes v c e = subst (AllByRecursion (λ o. changes_bytes o ≡ true)) (other_all v c e) (bytes_alone (ops_of_command v c))

-- what is asked for of a command, where it is no barrier or layouts are asked for
pub whole_command : (v : View) (c : Event) (with_layouts : Bool) → (not with_layouts && is_barrier c) ≡ false → listed with_layouts (ops_of_command v c) ≡ ops_of_command v c
whole_command v c true e = listed_all (ops_of_command v c)
whole_command v c false e = other_all v c e

-- and of a barrier, where none are
pub none_of_barrier : (v : View) (c : Event) (with_layouts : Bool) → (not with_layouts && is_barrier c) ≡ true → listed with_layouts (ops_of_command v c) ≡ []
none_of_barrier v c true e = absurd cc
none_of_barrier v c false e = barrier_none v c e
