-- No event of the capture has a fault.
use Rattle.std.proofs.Common.{◌≡◌, ℕ, zero, suc, [], ◌∷◌, ◌+◌, ◌*◌, ◌-◌, ◌%◌, ◌≤◌, List, ◌++◌, length, refl, ap, sym, subst, ◌∙◌, arith}
use Rattle.std.specs.Prelude.{◌^◌, flat_map}
use Rattle.std.specs.List.{range_with_len}
use Rattle.std.proofs.lemmas.Bool.{le-leb, and_from}
use Rattle.std.proofs.lemmas.Nat.{mod_below}
use Rattle.std.proofs.lemmas.List.FromFn.{length-map-range_with_len}
use Rattle.gfx_model.specs.Events.{Event}
use Rattle.gfx_model.specs.History.{onto, is_valid}
use Rattle.gfx_model.specs.Views.{View}
use Rattle.gfx_laws.specs.Laws.{view_after, GoOn}
use Rattle.gfx_laws.proofs.Told.{valid_onto}
use Rattle.gfx_make.specs.Made.{setup, frame_byte, frame_bytes, frame_events, made}
use Rattle.gfx_make.specs.Laws.{MadeIsValid}
use Rattle.gfx_make.proofs.Begun.{ready, setup_valid}
use Rattle.gfx_make.proofs.OneFrame.{Fits, Goes, frame_goes, setup_leaves}

pub length_frame : (k : ℕ) → length (frame_bytes k) ≡ 40960
unfolding frame_bytes
length_frame k = length-map-range_with_len (frame_byte k) 0 40960

-- the number of the image of a frame, and where its bytes stand
abbrev pub image : ℕ → ℕ
image k = (k - 1) % 2

abbrev pub offset : ℕ → ℕ
offset k = (k - 1) % 30 * 40960

pub frame_fits : (k : ℕ) → k ≤ 1000 → Fits k (offset k) (frame_bytes k)
frame_fits k low =
    let long = length_frame k in
    let part = mod_below (k - 1) 30 (omega arith) in
    record {
      some = le-leb 1 (length (frame_bytes k)) (omega (arith, long));
      inside = and_from _ _ (le-leb 0 (offset k) (omega arith)) (le-leb (offset k + length (frame_bytes k)) 1228800 (omega (arith, long, part)));
      low = le-leb k (2 ^ 62) (omega (arith, low));
    }

pub frame_goes_on : (k six seven : ℕ) → k ≤ 1000 → Goes k six seven (image k) (offset k) (frame_bytes k)
frame_goes_on k six seven low = frame_goes k six seven (offset k) (frame_bytes k) (frame_fits k low) (image k) (mod_below (k - 1) 2 (omega arith))

-- ---- one after another

goes-append : (xs ys : List Event) (v : View) → GoOn v xs → GoOn (view_after v xs) ys → GoOn v (xs ++ ys)
goes-append [] ys v first second = second
goes-append (x ∷ xs) ys v first second = (first.0, goes-append xs ys _ first.1 second)

frames_go_on : (n k six seven : ℕ) → k + n ≤ 1001 → GoOn (ready k six seven) (flat_map frame_events (range_with_len k n))
unfolding frame_events
frames_go_on zero k six seven low = tt
frames_go_on (suc n) k six seven low =
    let f = frame_goes_on k six seven (omega (arith, low)) in
    goes-append (frame_events k) (flat_map frame_events (range_with_len (k + 1) n)) (ready k six seven) f.valid
    (subst (λ v. GoOn v (flat_map frame_events (range_with_len (k + 1) n))) (sym f.leaves) (frames_go_on n (k + 1) f.next_six f.next_seven (omega (arith, low))))

pub onto-append : (xs ys h : List Event) → onto (xs ++ ys) h ≡ onto ys (onto xs h)
onto-append [] ys h = refl
onto-append (x ∷ xs) ys h = onto-append xs ys (x ∷ h)

-- the history is the setup's, and then the frames'
pub made_onto : (n : ℕ) → onto (made n) [] ≡ onto (flat_map frame_events (range_with_len 1 n)) (onto setup [])
unfolding made
made_onto n = onto-append setup (flat_map frame_events (range_with_len 1 n)) []

pub made_is_valid : MadeIsValid
made_is_valid n low =
    let frames = flat_map frame_events (range_with_len 1 n) in
    ap is_valid (made_onto n)
    ∙ valid_onto frames (onto setup []) setup_valid (subst (λ v. GoOn v frames) (sym setup_leaves) (frames_go_on n 1 0 0 (omega (arith, low))))
