-- What steps of several items leave as it was.
use Rattle.std.proofs.Common.{◌≡◌, ℕ, ◌==◌, true, List, [], ◌∷◌, map, refl, ap, ◌∙◌}
use Rattle.std.specs.Prelude.{fold}
use Rattle.std.specs.Option.{option_map_or}
use Rattle.gfx_types.specs.declared.names.Kind.TheVariants as kind
use Rattle.gfx_types.specs.declared.lists.Present.{Present}
use Rattle.gfx_model.specs.Steps.{kind_of, kind_number}
use Rattle.gfx_model.specs.Steps.Step.{taken, unsignals, signals, executed, gives_back}
use Rattle.gfx_model.specs.Questions.{passes}
use Rattle.gfx_model.specs.Views.{View, is_live, images_in, detail_images}
use Rattle.gfx_model.specs.After.{after}
use Rattle.gfx_laws.specs.Lawful.{has_signal}
use Rattle.std.specs.List.{AllByRecursion}
use Rattle.gfx_types.specs.declared.lists.Submit.{Submit}
use Rattle.gfx_model.proofs.Lists.{all_along}
use Rattle.gfx_tracker.specs.Taking.{HasSignal}
use Rattle.gfx_tracker.specs.Submitted.{HasSignals}

unsignal_live : (v : View) (id x : ℕ) → (after v (unsignals id)).live x ≡ v.live x
unfolding after
unsignal_live v id x = refl

pub unsignals_live : (v : View) (ids : List ℕ) (x : ℕ) → (fold after v (map unsignals ids)).live x ≡ v.live x
unsignals_live v [] x = refl
unsignals_live v (id ∷ ids) x = unsignals_live (after v (unsignals id)) ids x ∙ unsignal_live v id x

signal_live : (v : View) (id x : ℕ) → (after v (signals id)).live x ≡ v.live x
unfolding after
signal_live v id x = refl

pub signalled_live : (v : View) (ids : List ℕ) (x : ℕ) → (fold after v (map signals ids)).live x ≡ v.live x
signalled_live v [] x = refl
signalled_live v (id ∷ ids) x = signalled_live (after v (signals id)) ids x ∙ signal_live v id x

execute_live : (v : View) (cb x : ℕ) → (after v (executed cb)).live x ≡ v.live x
unfolding after
execute_live v cb x = refl

pub executed_live : (v : View) (cbs : List ℕ) (x : ℕ) → (fold after v (map executed cbs)).live x ≡ v.live x
executed_live v [] x = refl
executed_live v (cb ∷ cbs) x = executed_live (after v (executed cb)) cbs x ∙ execute_live v cb x

give_back_live : (v : View) (swapchain index x : ℕ) → (after v (gives_back swapchain index)).live x ≡ v.live x
unfolding after
give_back_live v swapchain index x = refl

pub gives_back_live : (v : View) (ps : List Present) (x : ℕ) → (fold after v (map (λ p. gives_back p.swapchain p.index) ps)).live x ≡ v.live x
gives_back_live v [] x = refl
gives_back_live v (p ∷ ps) x = gives_back_live (after v (gives_back p.swapchain p.index)) ps x ∙ give_back_live v p.swapchain p.index x

pub has_signal_along : (v w : View) (x : ℕ) → w.live x ≡ v.live x → HasSignal v x → HasSignal w x
has_signal_along v w x same has = ap (λ o. passes (λ o. has_signal o.detail) o) same ∙ has

pub all_signals_along : (v w : View) (xs : List ℕ) → ((x : ℕ) → w.live x ≡ v.live x) → AllByRecursion (HasSignal v) xs → AllByRecursion (HasSignal w) xs
all_signals_along v w xs same all = all_along (HasSignal v) (HasSignal w) (λ x. has_signal_along v w x (same x)) xs all

pub signals_along : (v w : View) (s : Submit) → ((x : ℕ) → w.live x ≡ v.live x) → HasSignals v s → HasSignals w s
signals_along v w s same has = record { waits = all_signals_along v w s.waits same has.waits; signals = all_signals_along v w s.signals same has.signals }

pub is_live_along : (v w : View) (x : ℕ) → w.live x ≡ v.live x → is_live v kind.Swapchain x ≡ true → is_live w kind.Swapchain x ≡ true
is_live_along v w x same has = ap (λ o. passes (λ o. kind_number (kind_of o.detail) == 12) o) same ∙ has

pub images_along : (v w : View) (x : ℕ) → w.live x ≡ v.live x → images_in w x ≡ images_in v x
images_along v w x same = ap (λ o. option_map_or (λ o. detail_images o.detail) o 0) same

unsignal_frame : (v : View) (id : ℕ) → (after v (unsignals id)).next_frame ≡ v.next_frame
unfolding after
unsignal_frame v id = refl

pub unsignals_frame : (v : View) (ids : List ℕ) → (fold after v (map unsignals ids)).next_frame ≡ v.next_frame
unsignals_frame v [] = refl
unsignals_frame v (id ∷ ids) = unsignals_frame (after v (unsignals id)) ids ∙ unsignal_frame v id

give_back_frame : (v : View) (swapchain index : ℕ) → (after v (gives_back swapchain index)).next_frame ≡ v.next_frame
unfolding after
give_back_frame v swapchain index = refl

pub gives_back_frame : (v : View) (ps : List Present) → (fold after v (map (λ p. gives_back p.swapchain p.index) ps)).next_frame ≡ v.next_frame
gives_back_frame v [] = refl
gives_back_frame v (p ∷ ps) = gives_back_frame (after v (gives_back p.swapchain p.index)) ps ∙ give_back_frame v p.swapchain p.index

taken_live : (v : View) (x : ℕ) → (after v taken).live x ≡ v.live x
unfolding after
taken_live v x = refl

taken_frame : (v : View) → (after v taken).next_frame ≡ v.next_frame
unfolding after
taken_frame v = refl

pub live_taken : (v w : View) (x : ℕ) → w ≡ after v taken → w.live x ≡ v.live x
live_taken v w x is = ap (λ (w : View). w.live x) is ∙ taken_live v x

pub frame_taken : (v w : View) → w ≡ after v taken → w.next_frame ≡ v.next_frame
frame_taken v w is = ap (λ (w : View). w.next_frame) is ∙ taken_frame v
