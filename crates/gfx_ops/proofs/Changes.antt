-- The operations of a command make its changes.
use Rattle.std.proofs.Common.{◌≡◌, ℕ, ◌+◌, ◌*◌, refl, ap, ◌∙◌, List, [], ◌∷◌, ◌++◌, map, flat_map, Option, Some, None}
use Rattle.gfx_types.specs.declared.lists.BufferRegion.{BufferRegion}
use Rattle.gfx_types.specs.declared.op.Op.{Op}
use Rattle.gfx_model.specs.Events.{Event}
use Rattle.gfx_model.specs.Events.Event.{CmdPipelineBarrier, CmdFillBuffer, CmdUpdateBuffer, CmdCopyBuffer, CmdCopyImage, CmdCopyBufferToImage, CmdCopyImageToBuffer, CmdClearColorImage}
use Rattle.gfx_model.specs.Steps.{Change}
use Rattle.gfx_model.specs.Steps.Change.{copy}
use Rattle.gfx_model.specs.Views.{View, Window, window}
use Rattle.gfx_model.specs.Effects.{changes_of_command, changes_of_op, inside_of, inside_both, barrier_change, buffer_copy, image_copy, upload, download}
use Rattle.gfx_ops.specs.Operations.{ops_of_command, shape_of, ops_in, ops_between, barrier_op, buffer_op, image_op, upload_op, download_op}

flat_map-map : {X Y Z : Type 0} (f : Y → List Z) (g : X → Y) (h : X → List Z) → ((x : X) → f (g x) ≡ h x) → (xs : List X) → flat_map f (map g xs) ≡ flat_map h xs
flat_map-map f g h same [] = refl
flat_map-map f g h same (x ∷ xs) = ap (λ ys. ys ++ flat_map f (map g xs)) (same x) ∙ ap (λ ys. h x ++ ys) (flat_map-map f g h same xs)

singles : {X Z : Type 0} (g : X → Z) (xs : List X) → flat_map (λ x. g x ∷ []) xs ≡ map g xs
singles g [] = refl
singles g (x ∷ xs) = ap (λ ys. g x ∷ ys) (singles g xs)

-- a copy of one row is one copy
one_row : (given : List ℕ) (s t : Window) (r : BufferRegion) → changes_of_op given (buffer_op s t r) ≡ buffer_copy s t r ∷ []
one_row given s t r = ap (λ n. copy t.place (t.offset + r.to + n) s.place (s.offset + r.from + n) r.size ∷ []) zero_step ∙ no_step (t.offset + r.to) (s.offset + r.from)
  where
    zero_step : 0 * 0 ≡ 0
    zero_step = refl

    no_step : (m n : ℕ) → copy t.place (m + 0) s.place (n + 0) r.size ∷ [] ≡ copy t.place m s.place n r.size ∷ []
    no_step m n = simp Rattle.std.proofs.Common.add-zero

in_window : (given : List ℕ) (w : Option Window) (f : Window → List Op) (g : Window → List Change) → ((x : Window) → flat_map (changes_of_op given) (f x) ≡ g x) →
    flat_map (changes_of_op given) (ops_in w f) ≡ inside_of w g
in_window given None f g same = refl
in_window given (Some w) f g same = same w

between_windows : (given : List ℕ) (s t : Option Window) (f : Window → Window → List Op) (g : Window → Window → List Change) →
    ((x y : Window) → flat_map (changes_of_op given) (f x y) ≡ g x y) → flat_map (changes_of_op given) (ops_between s t f) ≡ inside_both s t g
between_windows given None t f g same = refl
between_windows given (Some s) None f g same = refl
between_windows given (Some s) (Some t) f g same = same s t

pub operations_are_changes : (v : View) (command : Event) (given : List ℕ) → flat_map (changes_of_op given) (ops_of_command v command) ≡ changes_of_command v command
unfolding ops_of_command changes_of_command
operations_are_changes v (CmdPipelineBarrier cb barriers) given =
    flat_map-map (changes_of_op given) barrier_op (λ b. barrier_change b ∷ []) (λ b. refl) barriers ∙ singles barrier_change barriers
operations_are_changes v (CmdFillBuffer cb buffer offset size word) given = in_window given (window v buffer) _ _ (λ w. refl)
operations_are_changes v (CmdUpdateBuffer cb buffer offset bytes) given = in_window given (window v buffer) _ _ (λ w. refl)
operations_are_changes v (CmdCopyBuffer cb source target regions) given = between_windows given (window v source) (window v target) _ _
    (λ s t. flat_map-map (changes_of_op given) (buffer_op s t) (λ r. buffer_copy s t r ∷ []) (one_row given s t) regions ∙ singles (buffer_copy s t) regions)
operations_are_changes v (CmdCopyImage cb source source_layout target target_layout regions) given = between_windows given (window v source) (window v target) _ _
    (λ s t. flat_map-map (changes_of_op given) (image_op (shape_of v source) (shape_of v target) s t) (image_copy v source target s t) (λ r. refl) regions)
operations_are_changes v (CmdCopyBufferToImage cb source target layout regions) given = between_windows given (window v source) (window v target) _ _
    (λ s t. flat_map-map (changes_of_op given) (upload_op (shape_of v target) s t) (upload v target s t) (λ r. refl) regions)
operations_are_changes v (CmdCopyImageToBuffer cb source layout target regions) given = between_windows given (window v source) (window v target) _ _
    (λ s t. flat_map-map (changes_of_op given) (download_op (shape_of v source) s t) (download v source s t) (λ r. refl) regions)
operations_are_changes v (CmdClearColorImage cb image layout c0 c1 c2 c3) given = in_window given (window v image) _ _ (λ w. refl)
operations_are_changes v _ given = refl
