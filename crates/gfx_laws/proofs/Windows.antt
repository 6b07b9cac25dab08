-- Windows of usable resources lie in places that exist.
use Rattle.std.proofs.Common.{◌≡◌, ℕ, ◌+◌, ◌*◌, ◌<◌, Bool, true, false, refl, sym, ◌∙◌, ap, subst, Option, Some, None, cond, ◌==◌, option_and_then, arith}
use Rattle.std.specs.Option.{option_map_or}
use Rattle.gfx_types.specs.declared.names.Kind.TheVariants as kind
use Rattle.gfx_types.specs.declared.op.Place.TheVariants as place
use Rattle.gfx_model.specs.Steps.{Object, Detail, kind_of, kind_number}
use Rattle.gfx_model.specs.Steps.Detail.{an_image, a_buffer}
use Rattle.gfx_model.specs.Questions.{Binding, passes, image_size, texel_size}
use Rattle.gfx_model.specs.Views.{View, Window, is_live, window, size_of, detail_size, detail_width, detail_height, detail_format, detail_window, bound_window, width_of, height_of, texel}
use Rattle.gfx_model.specs.Covers.{IsInPlace, is_fetched}
use Rattle.gfx_laws.specs.Lawful.{LawfulObjects, id_in}
use Rattle.gfx_laws.proofs.MoreObjects.{live_of_kind}

-- where a window stands: its place existed, and all of it is in its place
pub record IsWindow (v : View) (n : ℕ) (w : Window) : Type 0 where
  pub used : v.used (id_in w.place) ≡ true
  pub inside : (j : ℕ) → j < n → IsInPlace v w.place (w.offset + j)

window_bound : (v : View) → LawfulObjects v → (x : ℕ) (o : Object) → v.live x ≡ Some o → (b : Option Binding) → v.bound x ≡ b → (w : Window) → bound_window v (detail_size o.detail) b ≡ Some w →
    IsWindow v (detail_size o.detail) w
window_bound v h x o live None is w e = absurd (cc)
window_bound v h x o live (Some b) is w e = by (is_live v kind.Memory b.memory) refl e
  where
    by : (t : Bool) → is_live v kind.Memory b.memory ≡ t → cond t (Some (record { place = place.Memory b.memory; offset = b.offset; length = detail_size o.detail })) None ≡ Some w →
        IsWindow v (detail_size o.detail) w
    by false f e = absurd (cc)
    by true memory e =
        let m = live_of_kind v _ b.memory memory in
        let fits = h.inside x o b live is memory in
        let here : IsWindow v (detail_size o.detail) (record { place = place.Memory b.memory; offset = b.offset; length = detail_size o.detail }) = record {
          used = h.used b.memory m.0 m.1;
          inside = λ j below. (memory, omega (arith, fits));
        } in
        subst (IsWindow v (detail_size o.detail)) (let same : record { place = place.Memory b.memory; offset = b.offset; length = detail_size o.detail } ≡ w = cc in same) here

window_of_detail : (v : View) → LawfulObjects v → (x : ℕ) (o : Object) → v.live x ≡ Some o → (d : Detail) → o.detail ≡ d → (w : Window) → detail_window v x d ≡ Some w → IsWindow v (detail_size o.detail) w
window_of_detail v h x o live (a_buffer size usage) is w e =
    window_bound v h x o live (v.bound x) refl w (ap (λ d. bound_window v (detail_size d) (v.bound x)) is ∙ e)
window_of_detail v h x o live (an_image format width height usage None) is w e =
    window_bound v h x o live (v.bound x) refl w (ap (λ d. bound_window v (detail_size d) (v.bound x)) is ∙ e)
window_of_detail v h x o live (an_image format width height usage (Some index)) is w e =
    let here : IsWindow v (detail_size o.detail) (record { place = place.Image x; offset = 0; length = image_size format width height }) = record {
      used = h.used x o live;
      inside = λ j below. (ap (passes (λ o. is_fetched o.detail)) live ∙ ap is_fetched is, (let size : size_of v x ≡ detail_size o.detail = ap (λ l. option_map_or (λ o. detail_size o.detail) l 0) live in omega (arith, size)));
    } in
    subst (IsWindow v (detail_size o.detail)) (let same : record { place = place.Image x; offset = 0; length = image_size format width height } ≡ w = cc in same) here
window_of_detail v h x o live _ is w e = absurd (cc)

-- the window of a resource
pub is_window : (v : View) → LawfulObjects v → (x : ℕ) (w : Window) → window v x ≡ Some w → IsWindow v (size_of v x) w
is_window v h x w e = by (v.live x) refl e
  where
    by : (l : Option Object) → v.live x ≡ l → option_and_then (λ o. detail_window v x o.detail) l ≡ Some w → IsWindow v (size_of v x) w
    by None live e = absurd (cc)
    by (Some o) live e = subst (λ l. IsWindow v (option_map_or (λ o. detail_size o.detail) l 0) w) (sym live) (window_of_detail v h x o live o.detail refl w e)

-- the size of a live image
pub size_of_image : (v : View) (x : ℕ) → is_live v kind.Image x ≡ true → size_of v x ≡ width_of v x * height_of v x * texel v x
size_of_image v x e = by (v.live x) refl e
  where
    by_detail : (p : ℕ) (d : Detail) → v.live x ≡ Some (record { parent = p; detail = d }) → (kind_number (kind_of d) == 7) ≡ true → size_of v x ≡ width_of v x * height_of v x * texel v x
    by_detail p (an_image format width height usage index) live k =
        ap (λ l. option_map_or (λ o. detail_size o.detail) l 0) live
        ∙ sym (ap (λ l. option_map_or (λ o. detail_width o.detail) l 0 * option_map_or (λ o. detail_height o.detail) l 0 * texel_size (option_map_or (λ o. detail_format o.detail) l 0)) live)
    by_detail p _ live k = absurd (cc)

    by : (l : Option Object) → v.live x ≡ l → passes (λ o. kind_number (kind_of o.detail) == 7) l ≡ true → size_of v x ≡ width_of v x * height_of v x * texel v x
    by None live e = absurd (cc)
    by (Some o) live e = by_detail o.parent o.detail live e
