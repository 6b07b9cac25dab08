-- The checks of a command ask about its resources and its buffer's device alone: where these are the same, it passes again.
use Rattle.std.proofs.Common.{◌≡◌, ℕ, ◌+◌, ◌-◌, ◌*◌, ◌%◌, Bool, true, false, ◌∙◌, ap, List, [], ◌∷◌, map, flat_map, Option, cond, ◌==◌, ◌&&◌, nat_le, nat_lt}
use Rattle.std.specs.List.{AllByRecursion}
use Rattle.std.specs.Option.{option_map_or}
use Rattle.gfx_types.specs.declared.names.Fault.TheVariants.{NotLive, NotBound, OutOfRange, UsageMissing, FormatDiffers, BadValue, WrongParent}
use Rattle.gfx_types.specs.declared.names.Kind.TheVariants as kind
use Rattle.gfx_types.specs.declared.lists.Barrier.{Barrier}
use Rattle.gfx_model.specs.Events.{Event}
use Rattle.gfx_model.specs.Events.Event.{CmdPipelineBarrier, CmdFillBuffer, CmdUpdateBuffer, CmdCopyBuffer, CmdCopyImage, CmdCopyBufferToImage, CmdCopyImageToBuffer, CmdClearColorImage}
use Rattle.gfx_model.specs.Steps.{Object, Detail, resources_of, kind_of, kind_number}
use Rattle.gfx_model.specs.Questions.{passes, has_bit, texel_size}
use Rattle.gfx_model.specs.Views.{View, is_usable, device_of, detail_size, detail_usage, detail_format, detail_width, detail_height}
use Rattle.gfx_model.specs.Checks.{Check, broken, unless, is_among, row_texels}
use Rattle.gfx_model.specs.Checks.Check.{must, live, near, usable, may_use, begins_in, ends_in, same_texel, uint_format, texel_divides, area_in, rows_in}
use Rattle.gfx_model.specs.Table.{whole, res, barrier_value, buffer_region_in, image_region_in, mixed_region_value, mixed_region_in, value, is_positive}
use Rattle.gfx_model.proofs.Covered.{unless_none}
use Rattle.gfx_laws.specs.Lawful.{command_checks, Passes, CommandPasses, cb_of}
use Rattle.gfx_model.proofs.Lists.{all_append, all_map, all_flat_map, all_along}
use Rattle.gfx_laws.proofs.Lists.{all_before, all_zip}

-- x is the same object in both, of the same device, and usable in w if it is in v
pub record SameAt (v w : View) (x : ℕ) : Type 0 where
  pub live : w.live x ≡ v.live x
  pub device : device_of w x ≡ device_of v x
  pub usable : is_usable v x ≡ true → is_usable w x ≡ true

-- what a lasting check asks about is the same
abbrev pub Named : View → View → Check → Type 0
Named v w (must f b) = Unit {0}
Named v w (live k x) = SameAt v w x
Named v w (near x p) = (device_of w x ≡ device_of v x) × (device_of w p ≡ device_of v p)
Named v w (usable x) = SameAt v w x
Named v w (may_use x bit) = SameAt v w x
Named v w (begins_in x offset) = SameAt v w x
Named v w (ends_in x end) = SameAt v w x
Named v w (same_texel x y) = SameAt v w x × SameAt v w y
Named v w (uint_format x) = SameAt v w x
Named v w (texel_divides x offset) = SameAt v w x
Named v w (area_in x left top width height) = SameAt v w x
Named v w (rows_in buffer image offset row width height) = SameAt v w buffer × SameAt v w image
Named v w _ = ⊥

-- a number of a live object
abbrev pub of_live : (Detail → ℕ) → Option Object → ℕ
of_live f l = option_map_or (λ o. f o.detail) l 0

pub word_along : (v w : View) (c : Check) → Named v w c → Passes v c → Passes w c
unfolding broken
word_along v w (must f b) n e = e
word_along v w (near x p) n e = ap (λ d. unless (d == device_of w p) WrongParent) n.0 ∙ ap (λ d. unless (device_of v x == d) WrongParent) n.1 ∙ e
word_along v w (live k x) n e = ap (λ l. unless (passes (λ o. kind_number (kind_of o.detail) == kind_number k) l) NotLive) n.live ∙ e
word_along v w (usable x) n e = ap (λ b. unless b NotBound) (n.usable (unless_none _ _ e))
word_along v w (may_use x bit) n e = ap (λ l. unless (has_bit (of_live detail_usage l) bit) UsageMissing) n.live ∙ e
word_along v w (begins_in x offset) n e = ap (λ l. unless (nat_lt offset (of_live detail_size l)) OutOfRange) n.live ∙ e
word_along v w (ends_in x end) n e = ap (λ l. unless (nat_le end (of_live detail_size l)) OutOfRange) n.live ∙ e
word_along v w (same_texel x y) n e =
    ap (λ l. unless (texel_size (of_live detail_format l) == texel_size (of_live detail_format (w.live y))) FormatDiffers) (n.0).live
    ∙ ap (λ l. unless (texel_size (of_live detail_format (v.live x)) == texel_size (of_live detail_format l)) FormatDiffers) (n.1).live ∙ e
word_along v w (uint_format x) n e = ap (λ l. unless (is_among (of_live detail_format l) (13 ∷ 41 ∷ 98 ∷ [])) FormatDiffers) n.live ∙ e
word_along v w (texel_divides x offset) n e = ap (λ l. unless (offset % texel_size (of_live detail_format l) == 0) BadValue) n.live ∙ e
word_along v w (area_in x left top width height) n e =
    ap (λ l. unless (nat_le (left + width) (of_live detail_width l) && nat_le (top + height) (of_live detail_height l)) OutOfRange) n.live ∙ e
word_along v w (rows_in buffer image offset row width height) n e =
    ap (λ l. unless (nat_le (offset + ((height - 1) * row_texels row width + width) * texel_size (of_live detail_format l)) (of_live detail_size (w.live buffer))) OutOfRange) (n.1).live
    ∙ ap (λ l. unless (nat_le (offset + ((height - 1) * row_texels row width + width) * texel_size (of_live detail_format (v.live image))) (of_live detail_size l)) OutOfRange) (n.0).live ∙ e
word_along v w _ n e = absurd n

-- ---- what the checks of a command name

barriers_named : (v w : View) (cb : ℕ) → device_of w cb ≡ device_of v cb → (bs : List Barrier) → AllByRecursion (SameAt v w) (map (λ b. b.image) bs) →
    AllByRecursion (Named v w) (flat_map (λ b. res kind.Image cb b.image) bs)
barriers_named v w cb d [] a = tt
barriers_named v w cb d (b ∷ bs) a = (a.0, (((a.0).device, d), (a.0, barriers_named v w cb d bs a.1)))

span_named : (v w : View) (x offset size : ℕ) (t : Bool) → SameAt v w x → AllByRecursion (Named v w) (cond t [] (ends_in x (offset + size) ∷ []))
span_named v w x offset size true s = tt
span_named v w x offset size false s = (s, tt)

pub command_named : (v w : View) (c : Event) → device_of w (cb_of c) ≡ device_of v (cb_of c) → AllByRecursion (SameAt v w) (resources_of c) → AllByRecursion (Named v w) (command_checks c)
unfolding resources_of
command_named v w (CmdPipelineBarrier cb barriers) d a =
    (tt, (tt, all_append (Named v w) _ _ (barriers_named v w cb d barriers a) (all_map (Named v w) barrier_value (λ b. tt) barriers)))
command_named v w (CmdFillBuffer cb buffer offset size word) d a =
    let s = a.0 in (s, ((s.device, d), (s, (s, (tt, (s, span_named v w buffer offset size (size == whole) s))))))
command_named v w (CmdUpdateBuffer cb buffer offset bytes) d a =
    let s = a.0 in (s, ((s.device, d), (s, (s, (tt, (s, tt))))))
command_named v w (CmdCopyBuffer cb source target regions) d a =
    let s = a.0 in let t = a.1.0 in (
      s,
      (
        (s.device, d),
        (
          s,
          (
            t,
            (
              (t.device, d),
              (
                t,
                (
                  s,
                  (
                    t,
                    (
                      tt,
                      (
                        tt,
                        all_append (Named v w) _ _ (all_map (Named v w) (λ r. value (is_positive r.size)) (λ r. tt) regions)
                            (all_flat_map (Named v w) (buffer_region_in source target) (λ r. (s, (t, tt))) regions),
                      ),
                    ),
                  ),
                ),
              ),
            ),
          ),
        ),
      ),
    )
command_named v w (CmdCopyImage cb source source_layout target target_layout regions) d a =
    let s = a.0 in let t = a.1.0 in (
      s,
      (
        (s.device, d),
        (
          s,
          (
            t,
            (
              (t.device, d),
              (
                t,
                (
                  s,
                  (
                    t,
                    (
                      tt,
                      (
                        (s, t),
                        (
                          tt,
                          (
                            tt,
                            all_append (Named v w) _ _ (all_map (Named v w) (λ r. value (is_positive r.width && is_positive r.height)) (λ r. tt) regions)
                                (all_flat_map (Named v w) (image_region_in source target) (λ r. (s, (t, tt))) regions),
                          ),
                        ),
                      ),
                    ),
                  ),
                ),
              ),
            ),
          ),
        ),
      ),
    )
command_named v w (CmdCopyBufferToImage cb source target layout regions) d a =
    let s = a.0 in let t = a.1.0 in (
      s,
      (
        (s.device, d),
        (
          s,
          (
            t,
            (
              (t.device, d),
              (
                t,
                (
                  s,
                  (
                    t,
                    (
                      tt,
                      (
                        tt,
                        (
                          tt,
                          all_append (Named v w) _ _ (all_flat_map (Named v w) (mixed_region_value target) (λ r. (tt, (t, tt))) regions)
                              (all_flat_map (Named v w) (mixed_region_in source target) (λ r. (t, ((s, t), tt))) regions),
                        ),
                      ),
                    ),
                  ),
                ),
              ),
            ),
          ),
        ),
      ),
    )
command_named v w (CmdCopyImageToBuffer cb source layout target regions) d a =
    let s = a.0 in let t = a.1.0 in (
      s,
      (
        (s.device, d),
        (
          s,
          (
            t,
            (
              (t.device, d),
              (
                t,
                (
                  s,
                  (
                    t,
                    (
                      tt,
                      (
                        tt,
                        (
                          tt,
                          all_append (Named v w) _ _ (all_flat_map (Named v w) (mixed_region_value source) (λ r. (tt, (s, tt))) regions)
                              (all_flat_map (Named v w) (mixed_region_in target source) (λ r. (s, ((t, s), tt))) regions),
                        ),
                      ),
                    ),
                  ),
                ),
              ),
            ),
          ),
        ),
      ),
    )
command_named v w (CmdClearColorImage cb image layout c0 c1 c2 c3) d a =
    let s = a.0 in (s, ((s.device, d), (s, (s, (tt, (s, tt))))))
command_named v w _ d a = tt

-- ---- a command names usable resources

barriers_usable : (v : View) (cb : ℕ) (bs : List Barrier) → AllByRecursion (Passes v) (flat_map (λ b. res kind.Image cb b.image) bs) →
    AllByRecursion (λ x. is_usable v x ≡ true) (map (λ b. b.image) bs)
unfolding broken
barriers_usable v cb [] a = tt
barriers_usable v cb (b ∷ bs) a = (unless_none _ _ a.1.1.0, barriers_usable v cb bs a.1.1.1)

pub command_usable : (v : View) (c : Event) → CommandPasses v c → AllByRecursion (λ x. is_usable v x ≡ true) (resources_of c)
unfolding resources_of broken
command_usable v (CmdPipelineBarrier cb barriers) a = barriers_usable v cb barriers (all_before (Passes v) _ (map barrier_value barriers) a.1.1)
command_usable v (CmdFillBuffer cb buffer offset size word) a = (unless_none _ _ a.1.1.0, tt)
command_usable v (CmdUpdateBuffer cb buffer offset bytes) a = (unless_none _ _ a.1.1.0, tt)
command_usable v (CmdCopyBuffer cb source target regions) a = (unless_none _ _ a.1.1.0, (unless_none _ _ a.1.1.1.1.1.0, tt))
command_usable v (CmdCopyImage cb source source_layout target target_layout regions) a = (unless_none _ _ a.1.1.0, (unless_none _ _ a.1.1.1.1.1.0, tt))
command_usable v (CmdCopyBufferToImage cb source target layout regions) a = (unless_none _ _ a.1.1.0, (unless_none _ _ a.1.1.1.1.1.0, tt))
command_usable v (CmdCopyImageToBuffer cb source layout target regions) a = (unless_none _ _ a.1.1.0, (unless_none _ _ a.1.1.1.1.1.0, tt))
command_usable v (CmdClearColorImage cb image layout c0 c1 c2 c3) a = (unless_none _ _ a.1.1.0, tt)
command_usable v _ a = tt

-- a command passes where its resources stay, and its buffer's device
pub command_along : (v w : View) (c : Event) → device_of w (cb_of c) ≡ device_of v (cb_of c) → AllByRecursion (SameAt v w) (resources_of c) → CommandPasses v c → CommandPasses w c
command_along v w c d a e = all_zip (Named v w) (Passes v) (Passes w) (word_along v w) (command_checks c) (command_named v w c d a) e

-- and where all that was usable stays
pub command_stays : (v w : View) → ((x : ℕ) → is_usable v x ≡ true → SameAt v w x) → (c : Event) → device_of w (cb_of c) ≡ device_of v (cb_of c) → CommandPasses v c → CommandPasses w c
command_stays v w stays c d e = command_along v w c d (all_along (λ x. is_usable v x ≡ true) (SameAt v w) stays (resources_of c) (command_usable v c e)) e
