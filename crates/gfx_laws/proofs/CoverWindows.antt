-- Windows before and after a step.
use Rattle.std.proofs.Common.{◌≡◌, ℕ, Bool, true, false, refl, sym, ◌∙◌, ap, Option, Some, None, cond, is_some, not, ◌==◌, ◌&&◌, option_and_then}
use Rattle.gfx_types.specs.declared.names.Kind.TheVariants as kind
use Rattle.gfx_types.specs.declared.op.Place.{Place}
use Rattle.gfx_types.specs.declared.op.Place.TheVariants as place
use Rattle.gfx_model.specs.Steps.{Object, Detail, kind_of, kind_number}
use Rattle.gfx_model.specs.Steps.Detail.{an_image, a_buffer}
use Rattle.gfx_model.specs.Questions.{Binding, passes, image_size, goes_with, after_end, rests_on}
use Rattle.gfx_model.specs.Views.{View, Window, is_live, window, is_usable, detail_window, bound_window}
use Rattle.gfx_model.specs.After.{is_gone}
use Rattle.gfx_laws.specs.Lawful.{LawfulObjects}
use Rattle.gfx_laws.proofs.MoreObjects.{with_object, is_other}
use Rattle.gfx_laws.proofs.FewerObjects.{without}

-- ---- where nothing changes

bound_same : (u t : View) (n : ℕ) (b : Option Binding) → ((c : Binding) → b ≡ Some c → t.live c.memory ≡ u.live c.memory) → bound_window t n b ≡ bound_window u n b
bound_same u t n None kept = refl
bound_same u t n (Some b) kept =
    ap (λ l. cond (passes (λ o. kind_number (kind_of o.detail) == 5) l) (Some (record { place = place.Memory b.memory; offset = b.offset; length = n })) None) (kept b refl)

detail_same : (u t : View) (x : ℕ) (d : Detail) → t.bound x ≡ u.bound x → ((c : Binding) → u.bound x ≡ Some c → t.live c.memory ≡ u.live c.memory) → detail_window t x d ≡ detail_window u x d
detail_same u t x (a_buffer size usage) same kept = ap (bound_window t size) same ∙ bound_same u t size (u.bound x) kept
detail_same u t x (an_image format width height usage None) same kept = ap (bound_window t (image_size format width height)) same ∙ bound_same u t (image_size format width height) (u.bound x) kept
detail_same u t x (an_image format width height usage (Some index)) same kept = refl
detail_same u t x _ same kept = refl

optional_same : (f g : Object → Option Window) (l : Option Object) → ((o : Object) → f o ≡ g o) → option_and_then f l ≡ option_and_then g l
optional_same f g None each = refl
optional_same f g (Some o) each = each o

pub window_same : (u t : View) (x : ℕ) → t.live x ≡ u.live x → t.bound x ≡ u.bound x → ((c : Binding) → u.bound x ≡ Some c → t.live c.memory ≡ u.live c.memory) → window t x ≡ window u x
window_same u t x live same kept =
    ap (option_and_then (λ o. detail_window t x o.detail)) live
    ∙ optional_same (λ o. detail_window t x o.detail) (λ o. detail_window u x o.detail) (u.live x) (λ o. detail_same u t x o.detail same kept)

-- ---- one object more

pub window_create : (u : View) → LawfulObjects u → (i : ℕ) (r : Object) → u.used i ≡ false → (x : ℕ) → (i == x) ≡ false → window (with_object u i r) x ≡ window u x
window_create u h i r new x other =
    window_same u (with_object u i r) x (ap (λ t. cond t (Some r) (u.live x)) other) (ap (λ t. cond t None (u.bound x)) other)
    (λ c bound. ap (λ t. cond t (Some r) (u.live c.memory)) (is_other u i c.memory new (h.memory x c bound)))

-- the window of a new object depends on it alone
abbrev pub own_window : ℕ → Detail → Option Window
own_window x (an_image format width height usage (Some index)) = Some (record { place = place.Image x; offset = 0; length = image_size format width height })
own_window x _ = None

new_window : (t : View) (x : ℕ) (d : Detail) → t.bound x ≡ None → detail_window t x d ≡ own_window x d
new_window t x (a_buffer size usage) e = ap (bound_window t size) e
new_window t x (an_image format width height usage None) e = ap (bound_window t (image_size format width height)) e
new_window t x (an_image format width height usage (Some index)) e = refl
new_window t x _ e = refl

pub window_created : (u : View) (i : ℕ) (r : Object) (x : ℕ) → (i == x) ≡ true → window (with_object u i r) x ≡ own_window x r.detail
window_created u i r x same =
    ap (λ t. option_and_then (λ o. detail_window (with_object u i r) x o.detail) (cond t (Some r) (u.live x))) same
    ∙ new_window (with_object u i r) x r.detail (ap (λ t. cond t None (u.bound x)) same)

-- ---- an end

-- the place goes with what ends
abbrev pub gone_place : View → ℕ → Place → Bool
gone_place u gone (place.Memory m) = is_gone u gone m
gone_place u gone (place.Image x) = false

abbrev pub stay : (Place → Bool) → Option Window → Option Window
stay g None = None
stay g (Some w) = cond (g w.place) None (Some w)

cond_stay : (g : Place → Bool) (w : Window) (k t : Bool) → g w.place ≡ t → cond (k && not t) (Some w) None ≡ stay g (cond k (Some w) None)
cond_stay g w true true e = sym (ap (λ t. cond {A = Option Window} t None (Some w)) e)
cond_stay g w true false e = sym (ap (λ t. cond {A = Option Window} t None (Some w)) e)
cond_stay g w false t e = refl

ended_passes : (test : Object → Bool) (gone x : ℕ) (l : Option Object) → passes test (after_end gone x l) ≡ passes test l && not (passes (goes_with gone x) l)
ended_passes test gone x None = refl
ended_passes test gone x (Some o) = by (goes_with gone x o) (test o) refl
  where
    by : (g t : Bool) → test o ≡ t → passes test (cond g None (Some o)) ≡ test o && not g
    by true true e = sym (ap (λ t. t && false) e)
    by true false e = sym (ap (λ t. t && false) e)
    by false true e = e ∙ sym (ap (λ t. t && true) e)
    by false false e = e ∙ sym (ap (λ t. t && true) e)

bound_end : (u : View) (gone n : ℕ) (b : Option Binding) → bound_window (without u gone) n b ≡ stay (gone_place u gone) (bound_window u n b)
bound_end u gone n None = refl
bound_end u gone n (Some b) =
    let w : Window = record { place = place.Memory b.memory; offset = b.offset; length = n } in
    ap (λ k. cond k (Some w) None) (ended_passes (λ o. kind_number (kind_of o.detail) == 5) gone b.memory (u.live b.memory))
    ∙ cond_stay (gone_place u gone) w (is_live u kind.Memory b.memory) (is_gone u gone b.memory) refl

-- of an object that stays
detail_end : (u : View) (gone x : ℕ) (d : Detail) → is_gone u gone x ≡ false → detail_window (without u gone) x d ≡ stay (gone_place u gone) (detail_window u x d)
detail_end u gone x (a_buffer size usage) stays =
    ap (λ t. bound_window (without u gone) size (cond t None (u.bound x))) stays ∙ bound_end u gone size (u.bound x)
detail_end u gone x (an_image format width height usage None) stays =
    ap (λ t. bound_window (without u gone) (image_size format width height) (cond t None (u.bound x))) stays ∙ bound_end u gone (image_size format width height) (u.bound x)
detail_end u gone x (an_image format width height usage (Some index)) stays = refl
detail_end u gone x _ stays = refl

-- the window after an end, from that before it
pub window_end : (u : View) (gone x : ℕ) → window (without u gone) x ≡ cond (is_gone u gone x) None (stay (gone_place u gone) (window u x))
window_end u gone x = by (u.live x) refl
  where
    at : (o : Object) (g : Bool) → is_gone u gone x ≡ g →
        option_and_then (λ o. detail_window (without u gone) x o.detail) (cond g None (Some o)) ≡ cond g None (stay (gone_place u gone) (detail_window u x o.detail))
    at o true e = refl
    at o false e = detail_end u gone x o.detail e

    by : (l : Option Object) → u.live x ≡ l → option_and_then (λ o. detail_window (without u gone) x o.detail) (after_end gone x l)
        ≡ cond (passes (goes_with gone x) l) None (stay (gone_place u gone) (option_and_then (λ o. detail_window u x o.detail) l))
    by None e = refl
    by (Some o) e = at o (goes_with gone x o) (ap (passes (goes_with gone x)) e)

-- what is usable after an end was so before it
pub usable_before_end : (u : View) (gone x : ℕ) → is_usable (without u gone) x ≡ true → is_usable u x ≡ true
usable_before_end u gone x e = by (is_gone u gone x) (window u x) (ap is_some (sym (window_end u gone x)) ∙ e)
  where
    by : (g : Bool) (w : Option Window) → is_some (cond g None (stay (gone_place u gone) w)) ≡ true → is_some w ≡ true
    by true w e = absurd (cc)
    by false None e = e
    by false (Some w) e = refl

-- ---- a window tells the memory to which a usable resource is bound

abbrev pub rests_at : ℕ → Place → Bool
rests_at gone (place.Memory m) = m == gone
rests_at gone (place.Image x) = false

rests_bound : (u : View) (gone n : ℕ) (b : Option Binding) (w : Window) → bound_window u n b ≡ Some w → rests_on gone b ≡ rests_at gone w.place
rests_bound u gone n None w e = absurd (cc)
rests_bound u gone n (Some b) w e = by (is_live u kind.Memory b.memory) e
  where
    by : (t : Bool) → cond t (Some (record { place = place.Memory b.memory; offset = b.offset; length = n })) None ≡ Some w → (b.memory == gone) ≡ rests_at gone w.place
    by true e = ap (λ (w : Window). rests_at gone w.place) (let same : record { place = place.Memory b.memory; offset = b.offset; length = n } ≡ w = cc in same)
    by false e = absurd (cc)

pub rests_window : (u : View) → LawfulObjects u → (gone x : ℕ) (w : Window) → window u x ≡ Some w → rests_on gone (u.bound x) ≡ rests_at gone w.place
rests_window u h gone x w e = by (u.live x) refl e
  where
    by_detail : (p : ℕ) (d : Detail) → u.live x ≡ Some (record { parent = p; detail = d }) → detail_window u x d ≡ Some w → rests_on gone (u.bound x) ≡ rests_at gone w.place
    by_detail p (a_buffer size usage) live e = rests_bound u gone size (u.bound x) w e
    by_detail p (an_image format width height usage None) live e = rests_bound u gone (image_size format width height) (u.bound x) w e
    by_detail p (an_image format width height usage (Some index)) live e =
        ap (rests_on gone) (h.unbound x (record { parent = p; detail = an_image format width height usage (Some index) }) live refl)
        ∙ ap (λ (w : Window). rests_at gone w.place) (let same : record { place = place.Image x; offset = 0; length = image_size format width height } ≡ w = cc in same)
    by_detail p _ live e = absurd (cc)

    by : (l : Option Object) → u.live x ≡ l → option_and_then (λ o. detail_window u x o.detail) l ≡ Some w → rests_on gone (u.bound x) ≡ rests_at gone w.place
    by None live e = absurd (cc)
    by (Some o) live e = by_detail o.parent o.detail live e
