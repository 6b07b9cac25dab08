-- What a present shows is there, and is the frame of the definition.
use Rattle.std.proofs.Common.{◌≡◌, ℕ, zero, suc, ◌*◌, true, false, cond, refl, sym, ap, ◌∙◌, subst, List, [], ◌∷◌, ◌++◌, map, length, Option, Some, None, is_some, option_map, option_and_then, unwrap_or, slice_get, ◌==◌, ◌&&◌, nat_le, arith}
use Rattle.std.specs.Prelude.{IsSomeAnd, filter_map}
use Rattle.std.specs.Option.{option_map_or}
use Rattle.std.specs.List.{AllByRecursion, range_with_len, cons_option}
use Rattle.std.proofs.lemmas.List.FromFn.{length-map-range_with_len}
use Rattle.std.proofs.lemmas.Bool.{and_parts, eqb-true, leb-true}
use Rattle.gfx_types.specs.Names.{format_of, texel_of}
use Rattle.gfx_types.specs.declared.names.Format.{Format}
use Rattle.gfx_types.specs.declared.names.Kind.TheVariants as kind
use Rattle.gfx_types.specs.declared.names.Format.TheVariants.{R8Uint}
use Rattle.gfx_types.specs.declared.lists.Present.{Present}
use Rattle.gfx_types.specs.declared.op.Place.{Place}
use Rattle.gfx_types.specs.declared.op.Place.TheVariants as place
use Rattle.gfx_model.specs.Events.Event.{QueuePresentKHR}
use Rattle.gfx_model.specs.Steps.{Object, Detail, Change, kind_of, kind_number}
use Rattle.gfx_model.specs.Steps.Detail.{a_memory, an_image, a_swapchain}
use Rattle.gfx_model.specs.Questions.{passes, image_size}
use Rattle.gfx_model.specs.Views.{View, is_live, is_one, has_index, fetched, image_at, images_in, detail_size, detail_format, detail_width, detail_height}
use Rattle.gfx_model.specs.Covers.{is_fetched}
use Rattle.gfx_types.specs.declared.frame.Picture.{Picture}
use Rattle.gfx_model.specs.Checks.{Check, broken, first_broken, is_distinct}
use Rattle.gfx_model.specs.Checks.Check.{live as is_a, near, index_in, is_acquired, presentable, in_turn, frame_room}
use Rattle.gfx_model.specs.Checks.Turn.{wait}
use Rattle.gfx_model.specs.Table.{row_of, checks_of, near_each, between, value}
use Rattle.gfx_model.proofs.Covered.{unless_none}
use Rattle.gfx_model.specs.Bytes.{byte, bytes_at}
use Rattle.gfx_model.specs.Frames.{picture, picture_size}
use Rattle.gfx_model.proofs.Lists.{all_flat_map, all_along}
use Rattle.gfx_laws.proofs.Lists.{all_before, all_behind}
use Rattle.gfx_laws.specs.Lawful.{base, LawfulObjects, is_allowed, Passes}
use Rattle.gfx_laws.proofs.LastingChecks.{of_live}
use Rattle.gfx_laws.proofs.SameFrames.{all_filter}
use Rattle.gfx_replay.specs.Held.{Bytes}
use Rattle.gfx_replay.specs.Sizes.{place_size}
use Rattle.gfx_replay.specs.Stands.{ArePlacesOf}
use Rattle.gfx_replay.specs.Shown.{picture_of, IsThere, shown_in, shown_by}
use Rattle.gfx_replay.proofs.SizeSteps.{memory_size}
use Rattle.gfx_replay.proofs.SizeChanges.{row_passes}
use Rattle.gfx_replay.specs.declared.shown.ShownPicture.{ShownPicture}

-- ---- the images of a swapchain have its size

abbrev IsSized : View → ℕ → ℕ → Type 0
IsSized v swapchain x = place_size v (place.Image x) ≡ Some (picture_size v swapchain)

one_sized : (v : View) → LawfulObjects (base v) → (swapchain k x : ℕ) → is_one v (λ o. o.parent == swapchain && has_index k o.detail) x ≡ true → IsSized v swapchain x
one_sized v h swapchain k x e = by (v.live x) refl e
  where
    by_detail : (p : ℕ) (d : Detail) → v.live x ≡ Some (record { parent = p; detail = d }) → (p == swapchain) ≡ true → has_index k d ≡ true → IsSized v swapchain x
    by_detail p (an_image format width height usage (Some index)) live parent indexed =
        let image = h.fetched x (record { parent = p; detail = an_image format width height usage (Some index) }) live in
        let of : v.live swapchain ≡ Some (record { parent = image.parent; detail = a_swapchain image.surface image.images format width height usage }) =
        ap v.live (sym (eqb-true p swapchain parent)) ∙ image.is_live in
        ap (λ l. cond (passes (λ o. is_fetched o.detail) l) (Some (of_live detail_size l)) None) live
        ∙ sym (ap (λ l. Some (image_size (of_live detail_format l) (of_live detail_width l) (of_live detail_height l))) of)
    by_detail p (an_image format width height usage None) live parent indexed = absurd (cc)
    by_detail p _ live parent indexed = absurd (cc)

    by : (l : Option Object) → v.live x ≡ l → passes (λ o. o.parent == swapchain && has_index k o.detail) l ≡ true → IsSized v swapchain x
    by None live e = absurd (cc)
    by (Some o) live e = let parts = and_parts (o.parent == swapchain) (has_index k o.detail) e in by_detail o.parent o.detail live parts.0 parts.1

all_sized : (v : View) → LawfulObjects (base v) → (swapchain : ℕ) → AllByRecursion (IsSized v swapchain) (fetched v swapchain)
all_sized v h swapchain =
    all_flat_map (IsSized v swapchain) _ (λ k. all_filter (IsSized v swapchain) _ (one_sized v h swapchain k) v.ids) (range_with_len 0 (images_in v swapchain))

at_index : (P : ℕ → Type 0) (xs : List ℕ) (index x : ℕ) → AllByRecursion P xs → slice_get xs index ≡ Some x → P x
at_index P [] index x a e = absurd (cc)
at_index P (y ∷ ys) zero x a e = subst P (let same : y ≡ x = cc in same) a.0
at_index P (y ∷ ys) (suc index) x a e = at_index P ys index x a.1 e

-- ---- one picture

-- a place that stands, of this size
pub held_bytes : (b : Bytes) (v : View) (es : List Change) → ArePlacesOf b v es → (at : Place) (n : ℕ) → place_size v at ≡ Some n → b at ≡ Some (bytes_at es at 0 n)
held_bytes b v es stands at n sized = by (b at) refl
  where
    by : (o : Option (List ℕ)) → b at ≡ o → b at ≡ Some (bytes_at es at 0 n)
    by None e = let no : None ≡ Some n = sym (ap (option_map length) e) ∙ stands.sizes at ∙ sized in absurd (cc)
    by (Some bytes) e =
        let long : Some (length bytes) ≡ Some n = sym (ap (option_map length) e) ∙ stands.sizes at ∙ sized in
        let size : length bytes ≡ n = cc in
        e ∙ ap (λ xs. Some xs) ((stands.held).left at bytes e ∙ ap (bytes_at es at 0) size)

-- a live memory has the bytes that the changes left
pub memory_stored : (b : Bytes) (v : View) (es : List Change) → ArePlacesOf b v es → (x parent size : ℕ) → v.live x ≡ Some (record { parent = parent; detail = a_memory size }) →
    b (place.Memory x) ≡ Some (bytes_at es (place.Memory x) 0 size)
memory_stored b v es stands x parent size is = held_bytes b v es stands (place.Memory x) size (ap memory_size is)

-- and so have the images of a swapchain
pub images_stored : (b : Bytes) (v : View) (es : List Change) → LawfulObjects (base v) → ArePlacesOf b v es → (swapchain : ℕ) →
    AllByRecursion (λ x. b (place.Image x) ≡ Some (bytes_at es (place.Image x) 0 (picture_size v swapchain))) (fetched v swapchain)
images_stored b v es h stands swapchain =
    all_along (IsSized v swapchain) (λ x. b (place.Image x) ≡ Some (bytes_at es (place.Image x) 0 (picture_size v swapchain)))
    (λ x sized. held_bytes b v es stands (place.Image x) (picture_size v swapchain) sized) (fetched v swapchain) (all_sized v h swapchain)

-- a present that shows something: which, and that it is the picture
pub record Shows (b : Bytes) (v : View) (es : List Change) (p : Present) : Type 0 where
  pub shown : ShownPicture
  pub is : shown_by v p ≡ Some shown
  pub same : picture_of b shown ≡ picture v es p
  pub there : IsThere b shown

rows_size : (w h t : ℕ) → w * h * t ≡ h * (w * t)
rows_size w h t = grind arith

with_parts : ℕ → ℕ → Format → List ℕ → Picture
with_parts w h f pixels = record { width = w; height = h; format = f; pixels = pixels }

module _ (b : Bytes) (v : View) (es : List Change) (h : LawfulObjects (base v)) (stands : ArePlacesOf b v es) (p : Present) where
  chain_shows : (parent surface images format width height usage : ℕ) (f : Format) (image : ℕ) →
      v.live p.swapchain ≡ Some (record { parent = parent; detail = a_swapchain surface images format width height usage }) → format_of format ≡ Some f → image_at v p.swapchain p.index ≡ Some image →
      is_allowed (a_swapchain surface images format width height usage) ≡ true → Shows b v es p
  unfolding with_parts
  chain_shows parent surface images format width height usage f image live known found allowed =
      let shown : ShownPicture = record { width = width; height = height; format = f; place = place.Image image } in
      let sized = at_index (IsSized v p.swapchain) (fetched v p.swapchain) p.index image (all_sized v h p.swapchain) found in
      let bytes = held_bytes b v es stands (place.Image image) (picture_size v p.swapchain) sized in
      let limits = (and_parts _ _ allowed).1 in
      let size : picture_size v p.swapchain ≡ height * (width * texel_of f) =
      ap (λ l. image_size (of_live detail_format l) (of_live detail_width l) (of_live detail_height l)) live
      ∙ ap (λ o. width * height * unwrap_or (option_map texel_of o) 0) known ∙ rows_size width height (texel_of f) in
      record {
        shown = shown;
        is =
            ap (option_and_then (λ o. shown_in o.detail (image_at v p.swapchain p.index))) live
            ∙ ap (option_and_then (λ f. option_map (λ i. record { width = width; height = height; format = f; place = place.Image i }) (image_at v p.swapchain p.index))) known
            ∙ ap (option_map (λ i. record { width = width; height = height; format = f; place = place.Image i })) found;
        same =
            ap (λ o. with_parts width height f (unwrap_or o [])) bytes
            ∙ ap (λ o. with_parts width height f (option_map_or (λ i. bytes_at es (place.Image i) 0 (picture_size v p.swapchain)) o [])) (sym found)
            ∙ ap (λ o. with_parts width height (unwrap_or o R8Uint) (option_map_or (λ i. bytes_at es (place.Image i) 0 (picture_size v p.swapchain)) (image_at v p.swapchain p.index) [])) (sym known)
            ∙ ap (λ l. with_parts (of_live detail_width l) (of_live detail_height l) (unwrap_or (format_of (of_live detail_format l)) R8Uint)
            (option_map_or (λ i. bytes_at es (place.Image i) 0 (picture_size v p.swapchain)) (image_at v p.swapchain p.index) [])) (sym live);
        there = record {
          wide = leb-true width 4096 (and_parts (nat_le images 16) (nat_le width 4096) (and_parts _ (nat_le height 4096) limits).0).1;
          high = leb-true height 4096 (and_parts _ (nat_le height 4096) limits).1;
          there = subst (λ o. IsSomeAnd o (λ bytes. length bytes ≡ height * (width * texel_of f))) (sym bytes) (length-map-range_with_len (byte es (place.Image image)) 0 (picture_size v p.swapchain) ∙ size);
        };
      }

  pub picture_shows : is_live v kind.Swapchain p.swapchain ≡ true → is_some (image_at v p.swapchain p.index) ≡ true → Shows b v es p
  picture_shows chain found = by (v.live p.swapchain) refl chain
    where
      by_format : (parent surface images format width height usage : ℕ) → v.live p.swapchain ≡ Some (record { parent = parent; detail = a_swapchain surface images format width height usage }) →
          (o : Option Format) → format_of format ≡ o → is_some o ≡ true → (i : Option ℕ) → image_at v p.swapchain p.index ≡ i → is_some i ≡ true → is_allowed (a_swapchain surface images format width height usage) ≡ true → Shows b v es p
      by_format parent surface images format width height usage live None known some i at there allowed = absurd (cc)
      by_format parent surface images format width height usage live (Some f) known some None at there allowed = absurd (cc)
      by_format parent surface images format width height usage live (Some f) known some (Some image) at there allowed =
          chain_shows parent surface images format width height usage f image live known at allowed

      by_detail : (parent : ℕ) (d : Detail) → v.live p.swapchain ≡ Some (record { parent = parent; detail = d }) → (kind_number (kind_of d) == 12) ≡ true → Shows b v es p
      by_detail parent (a_swapchain surface images format width height usage) live k =
          let allowed = h.allowed p.swapchain (record { parent = parent; detail = a_swapchain surface images format width height usage }) live in
          by_format parent surface images format width height usage live (format_of format) refl (and_parts _ (is_some (format_of format)) (and_parts _ _ allowed).0).1
          (image_at v p.swapchain p.index) refl found allowed
      by_detail parent (an_image format width height usage index) live k = absurd (cc)
      by_detail parent _ live k = absurd (cc)

      by : (l : Option Object) → v.live p.swapchain ≡ l → passes (λ o. kind_number (kind_of o.detail) == 12) l ≡ true → Shows b v es p
      by None live k = absurd (cc)
      by (Some o) live k = by_detail o.parent o.detail live k

-- ---- all pictures of a present

pub record AllShow (b : Bytes) (v : View) (es : List Change) (ps : List Present) : Type 0 where
  pub same : map (picture_of b) (filter_map (shown_by v) ps) ≡ map (picture v es) ps
  pub there : AllByRecursion (IsThere b) (filter_map (shown_by v) ps)

pub all_show : (b : Bytes) (v : View) (es : List Change) (ps : List Present) → AllByRecursion (Shows b v es) ps → AllShow b v es ps
all_show b v es [] a = record { same = refl; there = tt }
all_show b v es (p ∷ ps) a =
    let one = a.0 in
    let rest = all_show b v es ps a.1 in
    let first : filter_map (shown_by v) (p ∷ ps) ≡ one.shown ∷ filter_map (shown_by v) ps = ap (λ o. cons_option o (filter_map (shown_by v) ps)) one.is in
    record {
      same = ap (map (picture_of b)) first ∙ ap (λ x. x ∷ map (picture_of b) (filter_map (shown_by v) ps)) one.same ∙ ap (λ xs. picture v es p ∷ xs) rest.same;
      there = subst (AllByRecursion (IsThere b)) (sym first) (one.there, rest.there);
    }

-- ---- a present without a fault

can_show : (v : View) (ps : List Present) → AllByRecursion (Passes v) (map (is_a kind.Swapchain) (map (λ p. p.swapchain) ps)) → AllByRecursion (Passes v) (map (λ p. presentable p.swapchain p.index) ps) →
    AllByRecursion (λ p. (is_live v kind.Swapchain p.swapchain ≡ true) × (is_some (image_at v p.swapchain p.index) ≡ true)) ps
unfolding broken
can_show v [] a c = tt
can_show v (p ∷ ps) a c = ((unless_none _ _ a.0, some (image_at v p.swapchain p.index) (unless_none _ _ c.0)), can_show v ps a.1 c.1)
  where
    some : (o : Option ℕ) → option_map_or (λ image. v.layout image == 1000001002) o false ≡ true → is_some o ≡ true
    some None e = e
    some (Some image) e = refl

presents_pass : (v : View) (queue : ℕ) (waits : List ℕ) (ps : List Present) → AllByRecursion (Passes v) (row_of (QueuePresentKHR queue waits ps)) →
    AllByRecursion (λ p. (is_live v kind.Swapchain p.swapchain ≡ true) × (is_some (image_at v p.swapchain p.index) ≡ true)) ps
unfolding row_of
presents_pass v queue waits ps a =
    let chains : List ℕ = map (λ p. p.swapchain) ps in
    let front : List Check = near_each kind.Semaphore queue waits ++ between 1 8 ps in
    let near_chains : List Check = near_each kind.Swapchain queue chains in
    let indices : List Check = value (is_distinct chains) ∷ map (λ p. index_in p.swapchain p.index) ps in
    let acquired : List Check = map (λ p. is_acquired p.swapchain p.index) ps in
    let shown : List Check = map (λ p. presentable p.swapchain p.index) ps in
    let all_shown = all_before (Passes v) (front ++ near_chains ++ indices ++ acquired ++ shown) (in_turn (map wait waits) ∷ frame_room ∷ []) a.1.1.1 in
    let all_acquired = all_before (Passes v) (front ++ near_chains ++ indices ++ acquired) shown all_shown in
    let all_indices = all_before (Passes v) (front ++ near_chains ++ indices) acquired all_acquired in
    let all_chains = all_behind (Passes v) front near_chains (all_before (Passes v) (front ++ near_chains) indices all_indices) in
    can_show v ps (all_before (Passes v) (map (is_a kind.Swapchain) chains) (map (λ y. near y queue) chains) all_chains) (all_behind (Passes v) (front ++ near_chains ++ indices ++ acquired) shown all_shown)

-- a present without a fault shows the frame of the definition
pub present_shows : (b : Bytes) (v : View) (es : List Change) → LawfulObjects (base v) → ArePlacesOf b v es → (queue : ℕ) (waits : List ℕ) (ps : List Present) →
    first_broken v (checks_of (QueuePresentKHR queue waits ps)) ≡ None → AllShow b v es ps
present_shows b v es h stands queue waits ps none =
    all_show b v es ps
    (all_along (λ p. (is_live v kind.Swapchain p.swapchain ≡ true) × (is_some (image_at v p.swapchain p.index) ≡ true)) (Shows b v es)
    (λ p can. picture_shows b v es h stands p can.0 can.1) ps (presents_pass v queue waits ps (row_passes v (QueuePresentKHR queue waits ps) none)))
