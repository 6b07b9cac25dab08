-- A section by the parts of a tracker, and for a history that the tracker stands for.
use Rattle.std.proofs.Common.{◌≡◌, ℕ, zero, suc, ◌==◌, ◌≤◌, Bool, true, false, List, Option, None, [], length, ap, sym, subst, ◌∙◌, arith}
use Rattle.std.specs.Prelude.{◌^◌}
use Rattle.std.proofs.Math.Logic.{∥∥₁_elim}
use Rattle.std.proofs.Props.{props}
use Rattle.std.proofs.lemmas.Bool.Decides.{nat_tests}
use Rattle.gfx_types.specs.declared.op.Place.{Place}
use Rattle.gfx_types.specs.declared.names.Kind.TheVariants as kind
use Rattle.gfx_model.specs.Events.{Event}
use Rattle.gfx_model.specs.Steps.{Change, Object, kind_of, kind_number}
use Rattle.gfx_model.specs.Spelling.{payload}
use Rattle.gfx_model.specs.Questions.{Binding, Range, Buffer, passes}
use Rattle.gfx_model.specs.Views.{View, is_live}
use Rattle.gfx_model.specs.History.{view, executed}
use Rattle.gfx_model.specs.Stands.{Stands}
use Rattle.gfx_model.specs.Section.{section, known}
use Rattle.gfx_feature_model.specs.Lean.{Keep, kept_section}
use Rattle.gfx_model.proofs.Lists.{all_along}
use Rattle.gfx_laws.specs.Lawful.{base, IsLawful, IsCommandOf, cb_of}
use Rattle.gfx_section_law.proofs.Sizes.{command_small}
use Rattle.gfx_tracker.specs.declared.tracker.Tracker.{Tracker}
use Rattle.gfx_tracker.specs.State.{state_answers}
use Rattle.gfx_tracker.specs.Tracker.{answers}
use Rattle.gfx_state.specs.Pools.{CommandsFit}
use Rattle.gfx_state.specs.Sections.{everything, kept_by}
use Rattle.gfx_state.specs.Stored.{HasPlaces, IsStored}
use Rattle.gfx_state.proofs.Kept.{NameTheirs, section_kept, all_kept}

-- ---- what a section reads of answers

-- what is kept of the section by these answers alone
abbrev kept_of : Keep → List Change → ℕ → (ℕ → Option Object) → List ℕ → (ℕ → Option Binding) → (ℕ → Option Range) → (ℕ → ℕ) → (ℕ → Buffer) → (ℕ → Bool) → (ℕ → ℕ → Bool) → List Event
kept_of k es n live ids bound mapped layout buffer signalled acquired = kept_by k (record {
  answers = record {
    live = live;
    ids = ids;
    used = λ x. false;
    bound = bound;
    mapped = mapped;
    buffer = buffer;
    signalled = signalled;
    acquired = acquired;
    layout = layout;
    next_frame = 0;
    is_empty = false;
    section = None;
  };
  es = es;
}) n

-- answers that are the same where a section reads them
pub record IsRead (v w : View) : Type 0 where
  pub live : v.live ≡ w.live
  pub ids : v.ids ≡ w.ids
  pub bound : v.bound ≡ w.bound
  pub mapped : v.mapped ≡ w.mapped
  pub layout : v.layout ≡ w.layout
  pub buffer : v.buffer ≡ w.buffer
  pub signalled : v.signalled ≡ w.signalled
  pub acquired : v.acquired ≡ w.acquired

pub kept_same : (k : Keep) (v w : View) (es : List Change) (n : ℕ) → IsRead v w → kept_by k (record { answers = v; es = es }) n ≡ kept_by k (record { answers = w; es = es }) n
kept_same k v w es n same =
    ap (λ x. kept_of k es n x v.ids v.bound v.mapped v.layout v.buffer v.signalled v.acquired) same.live
    ∙ ap (λ x. kept_of k es n w.live x v.bound v.mapped v.layout v.buffer v.signalled v.acquired) same.ids
    ∙ ap (λ x. kept_of k es n w.live w.ids x v.mapped v.layout v.buffer v.signalled v.acquired) same.bound
    ∙ ap (λ x. kept_of k es n w.live w.ids w.bound x v.layout v.buffer v.signalled v.acquired) same.mapped
    ∙ ap (λ x. kept_of k es n w.live w.ids w.bound w.mapped x v.buffer v.signalled v.acquired) same.layout
    ∙ ap (λ x. kept_of k es n w.live w.ids w.bound w.mapped w.layout x v.signalled v.acquired) same.buffer
    ∙ ap (λ x. kept_of k es n w.live w.ids w.bound w.mapped w.layout w.buffer x v.acquired) same.signalled
    ∙ ap (λ x. kept_of k es n w.live w.ids w.bound w.mapped w.layout w.buffer w.signalled x) same.acquired

-- ---- the same places

module _ (bytes : Place → Option (List ℕ)) (v w : View) (live : v.live ≡ w.live) (ids : v.ids ≡ w.ids) where
  pub places_along : HasPlaces v bytes → HasPlaces w bytes
  places_along places =
      subst (λ xs. HasPlaces (record w { live = w.live; ids = xs }) bytes) ids (subst (λ l. HasPlaces (record w { live = l; ids = v.ids }) bytes) live places)

  pub stored_along : (es : List Change) → IsStored v bytes es → IsStored w bytes es
  stored_along es stored =
      subst (λ xs. IsStored (record w { live = w.live; ids = xs }) bytes es) ids (subst (λ l. IsStored (record w { live = l; ids = v.ids }) bytes es) live stored)

-- ---- a history

pub stands_read : (v : View) (h : List Event) → Stands v h → IsRead v (view h)
stands_read v h stands = record {
  live = λ i x. (stands.live x) i;
  ids = stands.ids;
  bound = λ i x. (stands.bound x) i;
  mapped = λ i x. (stands.mapped x) i;
  layout = λ i x. (stands.layout x) i;
  buffer = λ i x. (stands.buffer x) i;
  signalled = λ i x. (stands.signalled x) i;
  acquired = λ i x k. (stands.acquired x k) i;
}

-- what is kept of the section by answers that stand for a history is the kept section of this history
pub kept_stands : (k : Keep) (v : View) (h : List Event) (n : ℕ) → NameTheirs v.buffer → Stands v h → kept_by k (record { answers = v; es = executed h }) n ≡ kept_section k h n
unfolding section kept_section
kept_stands k v h n theirs stands =
    kept_same k v (view h) (executed h) n (stands_read v h stands)
    ∙ sym (section_kept k (view h) (executed h) (subst NameTheirs (λ i x. (stands.buffer x) i) theirs) n)

-- where all is kept it is the section
pub all_stands : (v : View) (h : List Event) (n : ℕ) → NameTheirs v.buffer → Stands v h → kept_section everything h n ≡ section h n
unfolding section kept_section
all_stands v h n theirs stands = section_kept everything (view h) (executed h) (subst NameTheirs (λ i x. (stands.buffer x) i) theirs) n ∙ all_kept (known h) n

-- ---- the commands of a tracker

above_zero : (x : ℕ) → (suc x == 0) ≡ false
above_zero x = grind (arith, nat_tests)

not_zero : (v : View) → v.live 0 ≡ None → (x : ℕ) → is_live v kind.CommandBuffer x ≡ true → (x == 0) ≡ false
not_zero v none zero live =
    let dead : is_live v kind.CommandBuffer 0 ≡ false = ap (passes (λ o. kind_number (kind_of o.detail) == 9)) none in
    absurd (let e : true ≡ false = sym live ∙ dead in cc)
not_zero v none (suc x) live = above_zero x

lawful_fit : (v : View) (es : List Change) → IsLawful v es → CommandsFit v.buffer
lawful_fit v es lawful = λ cb kept.
    all_along (IsCommandOf (base v) cb) (λ c. length (payload 1 0 c) ≤ 2 ^ 27)
    (λ c o. command_small 1 (base v) c cb o.0 (not_zero v lawful.objects.zero cb (lawful.buffers.owner cb kept)) o.1)
    (v.buffer cb).commands (lawful.buffers.commands cb kept)

pub commands_fit : (t : Tracker) → CommandsFit (answers t).buffer
unfolding answers
commands_fit t = ∥∥₁_elim t.lawful (hlevel props) (lawful_fit (state_answers t.state) [])

lawful_theirs : (v : View) (es : List Change) → IsLawful v es → NameTheirs v.buffer
lawful_theirs v es lawful = λ cb kept. (
  not_zero v lawful.objects.zero cb (lawful.buffers.owner cb kept),
  all_along (IsCommandOf (base v) cb) (λ c. cb_of c ≡ cb) (λ c o. o.0) (v.buffer cb).commands (lawful.buffers.commands cb kept),
)

pub commands_theirs : (t : Tracker) → NameTheirs (answers t).buffer
unfolding answers
commands_theirs t = ∥∥₁_elim t.lawful (hlevel props) (lawful_theirs (state_answers t.state) [])
