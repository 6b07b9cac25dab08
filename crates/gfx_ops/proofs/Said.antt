-- The operations of a command, where the windows of its resources are known.
use Rattle.std.proofs.Common.{◌≡◌, ℕ, ◌+◌, sym, ap, ◌∙◌, List, [], ◌∷◌, ◌++◌, map, Option, Some, None, append-nil}
use Rattle.gfx_types.specs.declared.lists.BufferRegion.{BufferRegion}
use Rattle.gfx_types.specs.declared.lists.ImageRegion.{ImageRegion}
use Rattle.gfx_types.specs.declared.lists.MixedRegion.{MixedRegion}
use Rattle.gfx_types.specs.declared.op.Op.{Op}
use Rattle.gfx_types.specs.declared.op.Op.TheVariants as op
use Rattle.gfx_model.specs.Events.Event.{CmdFillBuffer, CmdUpdateBuffer, CmdCopyBuffer, CmdCopyImage, CmdCopyBufferToImage, CmdCopyImageToBuffer, CmdClearColorImage}
use Rattle.gfx_model.specs.Views.{View, Window, window, size_of, format_at}
use Rattle.gfx_model.specs.Effects.{fill_size, clear_word}
use Rattle.gfx_ops.specs.declared.shape.Shape.{Shape}
use Rattle.gfx_ops.specs.Operations.{ops_of_command, shape_of, ops_in, ops_between, buffer_op, image_op, upload_op, download_op}

-- nothing is appended
pub unchanged : (old more : List Op) → more ≡ [] → old ≡ old ++ more
unchanged old more none = sym (append-nil old) ∙ ap (λ xs. old ++ xs) (sym none)

in_none : (w : Option Window) (f : Window → List Op) → None ≡ w → ops_in w f ≡ []
in_none w f e = sym (ap (λ w. ops_in w f) e)

in_some : (w : Option Window) (s : Window) (f : Window → List Op) → Some s ≡ w → f s ≡ ops_in w f
in_some w s f e = ap (λ w. ops_in w f) e

between_none : (s : Window) (ws wt : Option Window) (f : Window → Window → List Op) → Some s ≡ ws → None ≡ wt → ops_between ws wt f ≡ []
between_none s ws wt f a b = sym (ap (λ w. ops_between w wt f) a) ∙ sym (ap (λ w. ops_between (Some s) w f) b)

between_some : (s t : Window) (ws wt : Option Window) (f : Window → Window → List Op) → Some s ≡ ws → Some t ≡ wt → f s t ≡ ops_between ws wt f
between_some s t ws wt f a b = ap (λ w. ops_between (Some s) w f) b ∙ ap (λ w. ops_between w wt f) a

-- ---- no window

pub no_source : (v : View) (cb source target : ℕ) (rs : List BufferRegion) → None ≡ window v source → ops_of_command v (CmdCopyBuffer cb source target rs) ≡ []
unfolding ops_of_command
no_source v cb source target rs e = in_none (window v source) _ e

pub no_target : (v : View) (cb source target : ℕ) (rs : List BufferRegion) (s : Window) → Some s ≡ window v source → None ≡ window v target → ops_of_command v (CmdCopyBuffer cb source target rs) ≡ []
unfolding ops_of_command
no_target v cb source target rs s a b = between_none s (window v source) (window v target) _ a b

pub no_source_image : (v : View) (cb source l target m : ℕ) (rs : List ImageRegion) → None ≡ window v source → ops_of_command v (CmdCopyImage cb source l target m rs) ≡ []
unfolding ops_of_command
no_source_image v cb source l target m rs e = in_none (window v source) _ e

pub no_target_image : (v : View) (cb source l target m : ℕ) (rs : List ImageRegion) (s : Window) → Some s ≡ window v source → None ≡ window v target → ops_of_command v (CmdCopyImage cb source l target m rs) ≡ []
unfolding ops_of_command
no_target_image v cb source l target m rs s a b = between_none s (window v source) (window v target) _ a b

pub no_upload_source : (v : View) (cb source target l : ℕ) (rs : List MixedRegion) → None ≡ window v source → ops_of_command v (CmdCopyBufferToImage cb source target l rs) ≡ []
unfolding ops_of_command
no_upload_source v cb source target l rs e = in_none (window v source) _ e

pub no_upload_target : (v : View) (cb source target l : ℕ) (rs : List MixedRegion) (s : Window) → Some s ≡ window v source → None ≡ window v target → ops_of_command v (CmdCopyBufferToImage cb source target l rs) ≡ []
unfolding ops_of_command
no_upload_target v cb source target l rs s a b = between_none s (window v source) (window v target) _ a b

pub no_download_source : (v : View) (cb source l target : ℕ) (rs : List MixedRegion) → None ≡ window v source → ops_of_command v (CmdCopyImageToBuffer cb source l target rs) ≡ []
unfolding ops_of_command
no_download_source v cb source l target rs e = in_none (window v source) _ e

pub no_download_target : (v : View) (cb source l target : ℕ) (rs : List MixedRegion) (s : Window) → Some s ≡ window v source → None ≡ window v target → ops_of_command v (CmdCopyImageToBuffer cb source l target rs) ≡ []
unfolding ops_of_command
no_download_target v cb source l target rs s a b = between_none s (window v source) (window v target) _ a b

pub nothing_filled : (v : View) (cb buffer offset size word : ℕ) → None ≡ window v buffer → ops_of_command v (CmdFillBuffer cb buffer offset size word) ≡ []
unfolding ops_of_command
nothing_filled v cb buffer offset size word e = in_none (window v buffer) _ e

pub nothing_updated : (v : View) (cb buffer offset : ℕ) (bytes : List ℕ) → None ≡ window v buffer → ops_of_command v (CmdUpdateBuffer cb buffer offset bytes) ≡ []
unfolding ops_of_command
nothing_updated v cb buffer offset bytes e = in_none (window v buffer) _ e

pub nothing_cleared : (v : View) (cb image l c0 c1 c2 c3 : ℕ) → None ≡ window v image → ops_of_command v (CmdClearColorImage cb image l c0 c1 c2 c3) ≡ []
unfolding ops_of_command
nothing_cleared v cb image l c0 c1 c2 c3 e = in_none (window v image) _ e

-- ---- windows that are there

pub buffer_ops : (v : View) (cb source target : ℕ) (rs : List BufferRegion) (s t : Window) → Some s ≡ window v source → Some t ≡ window v target →
    map (buffer_op s t) rs ≡ ops_of_command v (CmdCopyBuffer cb source target rs)
unfolding ops_of_command
buffer_ops v cb source target rs s t a b = between_some s t (window v source) (window v target) (λ s t. map (buffer_op s t) rs) a b

pub image_ops : (v : View) (cb source l target m : ℕ) (rs : List ImageRegion) (s t : Window) (p q : Shape) → Some s ≡ window v source → Some t ≡ window v target →
    p ≡ shape_of v source → q ≡ shape_of v target → map (image_op p q s t) rs ≡ ops_of_command v (CmdCopyImage cb source l target m rs)
unfolding ops_of_command
image_ops v cb source l target m rs s t p q a b e f =
    ap (λ p. map (image_op p q s t) rs) e ∙ ap (λ q. map (image_op (shape_of v source) q s t) rs) f
    ∙ between_some s t (window v source) (window v target) (λ s t. map (image_op (shape_of v source) (shape_of v target) s t) rs) a b

pub upload_ops : (v : View) (cb source target l : ℕ) (rs : List MixedRegion) (s t : Window) (p : Shape) → Some s ≡ window v source → Some t ≡ window v target →
    p ≡ shape_of v target → map (upload_op p s t) rs ≡ ops_of_command v (CmdCopyBufferToImage cb source target l rs)
unfolding ops_of_command
upload_ops v cb source target l rs s t p a b e =
    ap (λ p. map (upload_op p s t) rs) e ∙ between_some s t (window v source) (window v target) (λ s t. map (upload_op (shape_of v target) s t) rs) a b

pub download_ops : (v : View) (cb source l target : ℕ) (rs : List MixedRegion) (s t : Window) (p : Shape) → Some s ≡ window v source → Some t ≡ window v target →
    p ≡ shape_of v source → map (download_op p s t) rs ≡ ops_of_command v (CmdCopyImageToBuffer cb source l target rs)
unfolding ops_of_command
download_ops v cb source l target rs s t p a b e =
    ap (λ p. map (download_op p s t) rs) e ∙ between_some s t (window v source) (window v target) (λ s t. map (download_op (shape_of v source) s t) rs) a b

pub fill_ops : (v : View) (cb buffer offset size word n : ℕ) (w : Window) → Some w ≡ window v buffer → n ≡ fill_size (size_of v buffer) offset size →
    op.Fill w.place (w.offset + offset) n word ∷ [] ≡ ops_of_command v (CmdFillBuffer cb buffer offset size word)
unfolding ops_of_command
fill_ops v cb buffer offset size word n w a e =
    ap (λ n. op.Fill w.place (w.offset + offset) n word ∷ []) e
    ∙ in_some (window v buffer) w (λ w. op.Fill w.place (w.offset + offset) (fill_size (size_of v buffer) offset size) word ∷ []) a

pub update_ops : (v : View) (cb buffer offset : ℕ) (bytes : List ℕ) (w : Window) → Some w ≡ window v buffer →
    op.Put w.place (w.offset + offset) bytes ∷ [] ≡ ops_of_command v (CmdUpdateBuffer cb buffer offset bytes)
unfolding ops_of_command
update_ops v cb buffer offset bytes w a = in_some (window v buffer) w (λ w. op.Put w.place (w.offset + offset) bytes ∷ []) a

pub clear_ops : (v : View) (cb image l c0 c1 c2 c3 word : ℕ) (w : Window) → Some w ≡ window v image → word ≡ clear_word (format_at v image) c0 c1 c2 c3 →
    op.Fill w.place w.offset w.length word ∷ [] ≡ ops_of_command v (CmdClearColorImage cb image l c0 c1 c2 c3)
unfolding ops_of_command
clear_ops v cb image l c0 c1 c2 c3 word w a e =
    ap (λ n. op.Fill w.place w.offset w.length n ∷ []) e
    ∙ in_some (window v image) w (λ w. op.Fill w.place w.offset w.length (clear_word (format_at v image) c0 c1 c2 c3) ∷ []) a
