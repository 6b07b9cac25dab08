-- One view covers another, step by step.
use Rattle.std.proofs.Common.{◌≡◌, ℕ, Bool, true, false, refl, sym, ◌∙◌, ap, subst, List, [], ◌∷◌, ◌++◌, Option, Some, None, cond, is_some, IsSome, ◌==◌, ◌&&◌, ◌||◌, inl, inr}
use Rattle.std.specs.List.{AllByRecursion, list_any}
use Rattle.std.proofs.lemmas.Bool.{eqb-true, and_parts}
use Rattle.gfx_model.specs.Events.{Event}
use Rattle.gfx_model.specs.Steps.{Step, Change, Object, resources_of}
use Rattle.gfx_model.specs.Steps.Step.{taken, begins_section, ends_section, creates, ends, binds, begins, records, finishes, resets, resets_pool, executed, changes}
use Rattle.gfx_model.specs.Steps.Change.{set_layout}
use Rattle.gfx_model.specs.Questions.{State, Buffer, Binding, new_buffer, is_kept, passes, invalidated, is_once, is_in_pool}
use Rattle.gfx_model.specs.Views.{View, window, is_usable}
use Rattle.gfx_model.specs.Covers.{CoversView, CoversBuffer, KeptUsable, is_fetched}
use Rattle.gfx_model.specs.After.{after, is_alive, is_gone, is_lost, buffer_after_end}
use Rattle.gfx_model.proofs.Covered.{mixed, is_mixed_view}
use Rattle.gfx_laws.specs.Lawful.{base, IsLawful, LawfulObjects, LawfulLayouts, LawfulBuffers, IsCommandOf}
use Rattle.gfx_laws.proofs.Ready.{Ready}
use Rattle.gfx_model.proofs.Lists.{all_along}
use Rattle.gfx_laws.proofs.Cases.{by_test, some_of}
use Rattle.gfx_laws.proofs.LawfulObjects.{with_binding}
use Rattle.gfx_laws.proofs.LastingChecks.{command_usable}
use Rattle.gfx_laws.proofs.CoverWindows.{window_same, window_create, window_created, window_end, usable_before_end, rests_window, stay, gone_place}

-- a step that begins and ends no section
abbrev pub IsPlainStep : Step → Type 0
IsPlainStep (begins_section frame) = ⊥
IsPlainStep ends_section = ⊥
IsPlainStep _ = Unit {0}

-- kept buffers name usable resources alone
pub kept_usable : (v : View) → LawfulBuffers (base v) v.buffer → KeptUsable v
kept_usable v h cb k = all_along (IsCommandOf (base v) cb) (λ c. AllByRecursion (λ r. is_usable v r ≡ true) (resources_of c)) (λ c e. command_usable (base v) c e.1) (v.buffer cb).commands (h.commands cb k)

-- ---- objects and bindings

covers_used : (v w : View) (s : Step) → CoversView v w → (x : ℕ) → (after (mixed v w) s).used x ≡ true → (after v s).used x ≡ true
unfolding after mixed
covers_used v w (creates i parent detail) c x e = by (i == x) e
  where
    by : (t : Bool) → t || w.used x ≡ true → t || v.used x ≡ true
    by true e = refl
    by false e = c.used x e
covers_used v w _ c x e = c.used x e

some_along : (t : Bool) (n l k : Option Binding) → (IsSome l → IsSome k) → IsSome (cond t n l) → IsSome (cond t n k)
some_along true n l k f e = e
some_along false n l k f e = f e

covers_bound : (v w : View) (s : Step) → CoversView v w → (x : ℕ) → IsSome ((after (mixed v w) s).bound x) → IsSome ((after v s).bound x)
unfolding after mixed
covers_bound v w (creates i parent detail) c x e = some_along (i == x) None (w.bound x) (v.bound x) (c.bound x) e
covers_bound v w (ends gone) c x e = some_along (is_gone v gone x) None (w.bound x) (v.bound x) (c.bound x) e
covers_bound v w (binds r memory offset) c x e =
    some_along (r == x && is_alive v x) (Some (record { memory = memory; offset = offset })) (w.bound x) (v.bound x) (c.bound x) e
covers_bound v w _ c x e = c.bound x e

-- ---- windows

mixed_windows : (v w : View) → CoversView v w → (x : ℕ) → window (mixed v w) x ≡ window v x
mixed_windows v w c x = ap (λ u. window u x) (is_mixed_view v w c) ∙ c.windows x

covers_windows : (v w : View) (s : Step) → CoversView v w → LawfulObjects (base v) → LawfulObjects (base (mixed v w)) → Ready v s → Ready (mixed v w) s → (x : ℕ) →
    window (after (mixed v w) s) x ≡ window (after v s) x
unfolding after mixed
covers_windows v w (creates i parent detail) c h k ready also x =
    let r : Object = record { parent = parent; detail = detail } in
    let m = base (mixed v w) in
    by_test _ (i == x)
    (λ same. window_created m i r x same ∙ sym (window_created (base v) i r x same))
    (λ other. window_create m k i r also.unused x other ∙ mixed_windows v w c x ∙ sym (window_create (base v) h i r ready.unused x other))
covers_windows v w (ends gone) c h k ready also x =
    window_end (base (mixed v w)) gone x ∙ ap (λ o. cond (is_gone v gone x) None (stay (gone_place (base v) gone) o)) (mixed_windows v w c x) ∙ sym (window_end (base v) gone x)
covers_windows v w (binds r memory offset) c h k ready also x =
    let b : Binding = record { memory = memory; offset = offset } in
    by_test _ (r == x && is_alive v x)
    (λ same. window_same (with_binding (base v) r b) (with_binding (base (mixed v w)) r b) x refl
    (ap (λ t. cond t (Some b) (w.bound x)) same ∙ sym (ap (λ t. cond t (Some b) (v.bound x)) same)) (λ c bound. refl))
    (λ other. window_same (base (mixed v w)) (with_binding (base (mixed v w)) r b) x refl (ap (λ t. cond t (Some b) (w.bound x)) other) (λ c bound. refl)
    ∙ mixed_windows v w c x
    ∙ sym (window_same (base v) (with_binding (base v) r b) x refl (ap (λ t. cond t (Some b) (v.bound x)) other) (λ c bound. refl)))
covers_windows v w _ c h k ready also x = mixed_windows v w c x

-- ---- layouts

same_or : (t : Bool) (n a b : ℕ) → (t ≡ false → a ≡ b) → cond t n a ≡ cond t n b
same_or true n a b f = refl
same_or false n a b f = f refl

covers_layout : (v w : View) (s : Step) → CoversView v w → LawfulObjects (base v) → LawfulLayouts (base v) v.layout → LawfulLayouts (base (mixed v w)) w.layout →
    Ready v s → Ready (mixed v w) s → (x : ℕ) → is_usable (after v s) x ≡ true → (after (mixed v w) s).layout x ≡ (after v s).layout x
unfolding after mixed
covers_layout v w (creates i parent detail) c h l k ready also x u =
    same_or (i == x) 0 (w.layout x) (v.layout x)
    (λ other. c.layout x (ap is_some (sym (window_create (base v) h i (record { parent = parent; detail = detail }) ready.unused x other)) ∙ u))
covers_layout v w (ends gone) c h l k ready also x u = ap (λ y. cond (is_gone v gone x) 0 y) (c.layout x (usable_before_end (base v) gone x u))
covers_layout v w (binds r memory offset) c h l k ready also x u =
    let b : Binding = record { memory = memory; offset = offset } in
    let there = some_of (v.live r) ready.created in
    let own : is_fetched (there.0).detail ≡ false = ap (passes (λ o. is_fetched o.detail)) (sym there.1) ∙ ready.is_own in
    by_test _ (r == x && is_alive v x)
    (λ same. subst (λ y. w.layout y ≡ v.layout y) (eqb-true r x (and_parts _ _ same).0) (k.unbound r there.0 there.1 own also.unbound ∙ sym (l.unbound r there.0 there.1 own ready.unbound)))
    (λ other. c.layout x (ap is_some (sym (window_same (base v) (with_binding (base v) r b) x refl (ap (λ t. cond t (Some b) (v.bound x)) other) (λ c bound. refl))) ∙ u))
covers_layout v w (changes (set_layout i a)) c h l k ready also x u = ap (λ y. cond (i == x && is_alive v x) a y) (c.layout x u)
covers_layout v w (changes _) c h l k ready also x u = c.layout x u
covers_layout v w _ c h l k ready also x u = c.layout x u

-- ---- command buffers

-- a buffer is covered by another
abbrev pub Cov : Buffer → Buffer → Type 0
Cov b d = CoversBuffer b.state b d

cover_cond : (t : Bool) (b d b' d' : Buffer) → (t ≡ true → Cov b d) → (t ≡ false → Cov b' d') → Cov (cond t b b') (cond t d d')
cover_cond true b d b' d' f g = f refl
cover_cond false b d b' d' f g = g refl

-- what isn't kept doesn't become invalid
unkept_stays : (hit : Bool) (d : Buffer) → is_kept d.state ≡ false → invalidated hit d ≡ d
unkept_stays true d e = ap (λ t. cond t (record d { state = State.invalid }) d) e
unkept_stays false d e = refl

not_initial : (s : State) → s ≡ State.initial → is_kept s ≡ false
not_initial s e = ap is_kept e

not_invalid : (s : State) → s ≡ State.invalid → is_kept s ≡ false
not_invalid s e = ap is_kept e

covers_invalid : (s : State) (flags : ℕ) (commands : List Event) (d : Buffer) (hit also : Bool) →
    let b : Buffer = record { state = s; flags = flags; commands = commands } in
    Cov b d → (d ≡ b → is_kept s ≡ true → also ≡ hit) → Cov (invalidated hit b) (invalidated also d)
covers_invalid State.initial f cs d true also c same = ap (λ (d : Buffer). d.state) (unkept_stays also d (not_initial _ c)) ∙ c
covers_invalid State.initial f cs d false also c same = ap (λ (d : Buffer). d.state) (unkept_stays also d (not_initial _ c)) ∙ c
covers_invalid State.recording f cs d true also c same = inr (ap (λ t. (invalidated t d).state) (same c refl) ∙ ap (λ d. (invalidated true d).state) c)
covers_invalid State.recording f cs d false also c same = ap (λ t. invalidated t d) (same c refl) ∙ c
covers_invalid State.executable f cs d true also c same = inr (ap (λ t. (invalidated t d).state) (same c refl) ∙ ap (λ d. (invalidated true d).state) c)
covers_invalid State.executable f cs d false also c same = ap (λ t. invalidated t d) (same c refl) ∙ c
covers_invalid State.invalid f cs d true also (inl c) same = inl (ap (λ (d : Buffer). d.state) (unkept_stays also d (not_initial _ c)) ∙ c)
covers_invalid State.invalid f cs d true also (inr c) same = inr (ap (λ (d : Buffer). d.state) (unkept_stays also d (not_invalid _ c)) ∙ c)
covers_invalid State.invalid f cs d false also (inl c) same = inl (ap (λ (d : Buffer). d.state) (unkept_stays also d (not_initial _ c)) ∙ c)
covers_invalid State.invalid f cs d false also (inr c) same = inr (ap (λ (d : Buffer). d.state) (unkept_stays also d (not_invalid _ c)) ∙ c)

covers_record : (s : State) (flags : ℕ) (commands : List Event) (d : Buffer) (command : Event) →
    let b : Buffer = record { state = s; flags = flags; commands = commands } in
    Cov b d → Cov (record b { commands = commands ++ command ∷ [] }) (record d { commands = d.commands ++ command ∷ [] })
covers_record State.initial f cs d command c = c
covers_record State.recording f cs d command c = ap (λ (d : Buffer). record d { commands = d.commands ++ command ∷ [] }) c
covers_record State.executable f cs d command c = ap (λ (d : Buffer). record d { commands = d.commands ++ command ∷ [] }) c
covers_record State.invalid f cs d command c = c

-- what is recording is the same in both
recording_same : (s : State) (b d : Buffer) → CoversBuffer s b d → s ≡ State.recording → d ≡ b
recording_same State.recording b d c e = c
recording_same State.executable b d c e = c
recording_same State.initial b d c e = absurd (cc)
recording_same State.invalid b d c e = absurd (cc)

pub any_same : {X : Type 0} (f g : X → Bool) (xs : List X) → AllByRecursion (λ x. f x ≡ g x) xs → list_any f xs ≡ list_any g xs
any_same f g [] a = refl
any_same f g (x ∷ xs) a = ap (λ t. t || list_any f xs) a.0 ∙ ap (λ t. g x || t) (any_same f g xs a.1)

-- a usable resource is lost in one where it is lost in the other
lost_same : (v w : View) → CoversView v w → LawfulObjects (base v) → LawfulObjects (base (mixed v w)) → (gone x : ℕ) → is_usable v x ≡ true → is_lost (mixed v w) gone x ≡ is_lost v gone x
unfolding mixed
lost_same v w c h k gone x u =
    let there = some_of (window v x) u in
    ap (λ t. gone == x || is_gone v gone x || t)
    (rests_window (base (mixed v w)) k gone x there.0 (mixed_windows v w c x ∙ there.1) ∙ sym (rests_window (base v) h gone x there.0 there.1))

covers_buffers : (v w : View) (s : Step) → CoversView v w → LawfulObjects (base v) → LawfulObjects (base (mixed v w)) → KeptUsable v → Ready v s → (x : ℕ) →
    Cov ((after v s).buffer x) ((after (mixed v w) s).buffer x)
unfolding after mixed
covers_buffers v w (creates i parent detail) c h k usable ready x =
    cover_cond (i == x) new_buffer new_buffer (v.buffer x) (w.buffer x) (λ e. refl) (λ e. c.buffers x)
covers_buffers v w (ends gone) c h k usable ready x =
    cover_cond (is_gone v gone x) new_buffer new_buffer (buffer_after_end v gone (v.buffer x)) (buffer_after_end (mixed v w) gone (w.buffer x)) (λ e. refl)
    (λ e. covers_invalid (v.buffer x).state (v.buffer x).flags (v.buffer x).commands (w.buffer x) _ _ (c.buffers x)
    (λ same kept. ap (λ (d : Buffer). list_any (λ c. list_any (is_lost (mixed v w) gone) (resources_of c)) d.commands) same
    ∙ any_same (λ c. list_any (is_lost (mixed v w) gone) (resources_of c)) (λ c. list_any (is_lost v gone) (resources_of c)) (v.buffer x).commands
    (all_along (λ c. AllByRecursion (λ r. is_usable v r ≡ true) (resources_of c)) (λ e. list_any (is_lost (mixed v w) gone) (resources_of e) ≡ list_any (is_lost v gone) (resources_of e))
    (λ e all. any_same (is_lost (mixed v w) gone) (is_lost v gone) (resources_of e)
    (all_along (λ r. is_usable v r ≡ true) (λ r. is_lost (mixed v w) gone r ≡ is_lost v gone r) (lost_same v w c h k gone) (resources_of e) all))
    (v.buffer x).commands (usable x kept))))
covers_buffers v w (begins cb flags) c h k usable ready x =
    let new : Buffer = record { state = State.recording; flags = flags; commands = [] } in
    cover_cond (cb == x && is_some (v.live x)) new new (v.buffer x) (w.buffer x) (λ e. refl) (λ e. c.buffers x)
covers_buffers v w (records cb command) c h k usable ready x =
    cover_cond (cb == x && is_some (v.live x)) (record (v.buffer x) { commands = (v.buffer x).commands ++ command ∷ [] }) (record (w.buffer x) { commands = (w.buffer x).commands ++ command ∷ [] })
    (v.buffer x) (w.buffer x)
    (λ e. covers_record (v.buffer x).state (v.buffer x).flags (v.buffer x).commands (w.buffer x) command (c.buffers x)) (λ e. c.buffers x)
covers_buffers v w (finishes cb) c h k usable ready x =
    cover_cond (cb == x && is_some (v.live x)) (record (v.buffer x) { state = State.executable }) (record (w.buffer x) { state = State.executable }) (v.buffer x) (w.buffer x)
    (λ e. ap (λ (d : Buffer). record d { state = State.executable }) (recording_same _ _ _ (c.buffers x) (ap (λ y. (v.buffer y).state) (sym (eqb-true cb x (and_parts _ _ e).0)) ∙ ready)))
    (λ e. c.buffers x)
covers_buffers v w (resets cb) c h k usable ready x = cover_cond (cb == x) new_buffer new_buffer (v.buffer x) (w.buffer x) (λ e. refl) (λ e. c.buffers x)
covers_buffers v w (resets_pool pool) c h k usable ready x =
    cover_cond (passes (is_in_pool pool) (v.live x)) new_buffer new_buffer (v.buffer x) (w.buffer x) (λ e. refl) (λ e. c.buffers x)
covers_buffers v w (executed cb) c h k usable ready x =
    covers_invalid (v.buffer x).state (v.buffer x).flags (v.buffer x).commands (w.buffer x) _ _ (c.buffers x) (λ same kept. ap (λ d. cb == x && is_once d) same)
covers_buffers v w _ c h k usable ready x = c.buffers x

-- ---- a step

covers_section : (v : View) (s : Step) → IsPlainStep s → v.section ≡ None → (after v s).section ≡ None
unfolding after
covers_section v (begins_section frame) p e = absurd p
covers_section v ends_section p e = absurd p
covers_section v _ p e = e

covers_live : (v w : View) (s : Step) (x : ℕ) → (after (mixed v w) s).live x ≡ (after v s).live x
unfolding after mixed
covers_live v w taken x = refl
covers_live v w _ x = refl

covers_ids : (v w : View) (s : Step) → (after (mixed v w) s).ids ≡ (after v s).ids
unfolding after mixed
covers_ids v w taken = refl
covers_ids v w _ = refl

covers_mapped : (v w : View) (s : Step) (x : ℕ) → (after (mixed v w) s).mapped x ≡ (after v s).mapped x
unfolding after mixed
covers_mapped v w taken x = refl
covers_mapped v w _ x = refl

covers_signalled : (v w : View) (s : Step) (x : ℕ) → (after (mixed v w) s).signalled x ≡ (after v s).signalled x
unfolding after mixed
covers_signalled v w taken x = refl
covers_signalled v w _ x = refl

covers_acquired : (v w : View) (s : Step) (x index : ℕ) → (after (mixed v w) s).acquired x index ≡ (after v s).acquired x index
unfolding after mixed
covers_acquired v w taken x index = refl
covers_acquired v w _ x index = refl

covers_frame : (v w : View) (s : Step) → (after (mixed v w) s).next_frame ≡ (after v s).next_frame
unfolding after mixed
covers_frame v w taken = refl
covers_frame v w _ = refl

mixed_section : (v w : View) (s : Step) → (after (mixed v w) s).section ≡ (after v s).section
unfolding after mixed
mixed_section v w taken = refl
mixed_section v w _ = refl

layouts_of_mixed : (v w : View) → LawfulLayouts (base (mixed v w)) (mixed v w).layout → LawfulLayouts (base (mixed v w)) w.layout
unfolding mixed
layouts_of_mixed v w h = h

-- one view covers another after a step that is ready in both
pub covers_after : (v w : View) (es ds : List Change) (s : Step) → CoversView v w → IsLawful v es → IsLawful w ds → IsPlainStep s → Ready v s → Ready w s → CoversView (after v s) (after w s)
covers_after v w es ds s c h l p ready also =
    let same : mixed v w ≡ w = is_mixed_view v w c in
    let objects : LawfulObjects (base (mixed v w)) = subst (λ u. LawfulObjects (base u)) (sym same) l.objects in
    let layouts : LawfulLayouts (base (mixed v w)) (mixed v w).layout = subst (λ u. LawfulLayouts (base u) u.layout) (sym same) l.layouts in
    let ready_too : Ready (mixed v w) s = subst (λ u. Ready u s) (sym same) also in
    subst (λ u. CoversView (after v s) (after u s)) same (record {
      open_v = covers_section v s p c.open_v;
      open_w = mixed_section v w s ∙ covers_section v s p c.open_v;
      next_frame = covers_frame v w s;
      live = covers_live v w s;
      ids = covers_ids v w s;
      used = covers_used v w s c;
      bound = covers_bound v w s c;
      windows = covers_windows v w s c h.objects objects ready ready_too;
      mapped = covers_mapped v w s;
      layout = covers_layout v w s c h.objects h.layouts (layouts_of_mixed v w layouts) ready ready_too;
      signalled = covers_signalled v w s;
      acquired = covers_acquired v w s;
      buffers = covers_buffers v w s c h.objects objects (kept_usable v h.buffers) ready;
    })
