use Rattle.std.proofs.Common.{◌≡◌, ℕ, ◌<◌, ◌≤◌, ◌==◌, ◌&&◌, Bool, true, false, if◌then◌else◌, refl, ap, sym, ◌∙◌, arith}
use Rattle.std.specs.FinMap as map
use Rattle.std.proofs.lemmas.Bool.Decides.{nat_tests}
use Rattle.gfx_table.specs.Groups.{is_member, room_in}
use Rattle.gfx_model.specs.Questions.{is_owned, passes}
use Rattle.gfx_objects.specs.Inside.{kept_of}
use Rattle.gfx_objects.specs.Objects.{answers, owns, was_used}
use Rattle.gfx_objects.proofs.Asked.{owned_answered}
use Rattle.gfx_objects.proofs.Index.{len_removed}
use Rattle.gfx_objects.proofs.Owned.{owned_anew, last_listed, none_listed, owned_row, not_owned_row, one_gone, all_ended, owned_first, owned_once, owns_nothing}
use Rattle.gfx_objects.proofs.Steps.{ended}
use Rattle.gfx_objects.proofs.objects.Objects.remove.Goals as goal

pub owned-smaller : goal.owned-smaller
owned-smaller c =
    let last = sym c.last.ensures.value ∙ sym c.copied.ensures ∙ c.in-Some.is in
    let row = owned_row c.owned.self c.args.id c.in-Some.child (sym (c.owned-in-owned.ensures.all c.in-Some.child) ∙ last_listed c.owned-in-owned.result.now c.in-Some.child last) in
    let less = len_removed c.owned.self.rows c.in-Some.child row.0 row.1 in
    let left = ap map.len c.remove_row.ensures.rows in
    let is : map.len c.remove_row.new.self.rows < map.len c.owned.self.rows = omega (arith, less, left) in
    is

pub owned-preserved : goal.owned-preserved
owned-preserved c =
    let last = sym c.last.ensures.value ∙ sym c.copied.ensures ∙ c.in-Some.is in
    let row = owned_row c.owned.self c.args.id c.in-Some.child (sym (c.owned-in-owned.ensures.all c.in-Some.child) ∙ last_listed c.owned-in-owned.result.now c.in-Some.child last) in
    record {
      rows = one_gone c.args.id c.in-Some.child c.args.self.now.rows c.owned.self.rows c.remove_row.new.self.rows row.0 row.1 row.2 c.remove_row.ensures.rows c.owned.invariant.rows;
      used = c.remove_row.ensures.used ∙ c.owned.invariant.used;
      spare = c.remove_row.ensures.spare ∙ c.owned.invariant.spare;
      rooms = λ x apart.
          let before = c.owned.invariant.rooms x apart in
          let room = c.remove_row.ensures.others x (owned_once c.owned.self c.args.id x c.in-Some.child apart row.0 row.1 row.2) in
          omega (arith, before, room);
    }

-- a set that has no members is as it was once it is closed
closed : (id : ℕ) (old new : ℕ → ℕ → Bool) → new ≡ (λ g x. if id == g then false else old g x) → ((x : ℕ) → old id x ≡ false) → new ≡ old
closed id old new is none = λ i g x. (each g x) i
  where
    each : (g x : ℕ) → new g x ≡ old g x
    each g x =
        let now = ap (λ f. f g x) is in
        let nothing = none x in
        let here : id ≡ g → old id x ≡ old g x = ap (λ g. old g x) in
        grind (arith, nat_tests, now, nothing, here)

pub invariant_of-self : goal.invariant_of-self
invariant_of-self c =
    let s = c.self.inside in
    let last = sym c.last.ensures.value ∙ sym c.copied.ensures ∙ c.in_default.is in
    let none = λ (x : ℕ).
    c.self.invariant.grouped.by_owner c.args.id x ∙ owned_answered (kept_of s) c.args.id x
    ∙ ap (λ k. passes (λ o. is_owned o.detail && c.args.id == o.parent) ((answers k).live x)) c.self.view_is
    ∙ sym (c.owned-in-owned.ensures.all x) ∙ none_listed c.owned-in-owned.result.now last x in
    owned_anew s c.close.new.self (closed c.args.id (is_member s.owned.sets.map) (is_member c.close.new.self.sets.map) c.close.ensures.members none) c.self.invariant

pub returns-clause-step : goal.returns-clause-step
returns-clause-step c =
    let last = sym c.last.ensures.value ∙ sym c.copied.ensures ∙ c.in_default.is in
    ended c.args.self.now c.remove_row-2.new.self c.args.id
    (all_ended c.args.id c.args.self.now.rows c.owned.self.rows c.remove_row-2.new.self.rows c.owned.invariant.rows
    (λ x o some. not_owned_row c.owned.self c.args.id x o (sym (c.owned-in-owned.ensures.all x) ∙ none_listed c.owned-in-owned.result.now last x) some)
    (c.remove_row-2.ensures.rows ∙ ap (λ k. map.remove k.rows c.args.id) c.self.view_is))
    (c.remove_row-2.ensures.used ∙ ap was_used c.self.view_is ∙ c.owned.invariant.used)

pub returns-clause-left : goal.returns-clause-left
returns-clause-left c x y owned = cases (c.args.id == x) refl
  where
    cases : (t : Bool) → (c.args.id == x) ≡ t → room_in c.args.self.now.owned x ≤ room_in c.remove_row-2.new.self.owned x
    cases true here =
        let last = sym c.last.ensures.value ∙ sym c.copied.ensures ∙ c.in_default.is in
        let same : c.args.id ≡ x = grind (arith, nat_tests, here) in
        let none = owns_nothing c.owned.self c.remove_row-2.new.self c.args.id y (c.remove_row-2.ensures.rows ∙ ap (λ k. map.remove k.rows c.args.id) c.self.view_is)
        (sym (c.owned-in-owned.ensures.all y) ∙ none_listed c.owned-in-owned.result.now last y) in
        let owner : owns (answers c.remove_row-2.new.self) c.args.id y ≡ true = ap (λ x. owns (answers c.remove_row-2.new.self) x y) same ∙ owned in
        absurd (grind (arith, none, owner))
    cases false apart =
        let before = c.owned.invariant.rooms x apart in
        let inside = ap (λ k. room_in k.owned x) c.self.view_is in
        let closed = c.close.ensures.others x apart in
        let room = c.remove_row-2.ensures.left x y owned in
        omega (arith, before, inside, closed, room)

pub returns-clause-others : goal.returns-clause-others
unfolding answers
returns-clause-others c x apart free =
    let before = c.owned.invariant.rooms x apart in
    let inside = ap (λ k. room_in k.owned x) c.self.view_is in
    let closed = c.close.ensures.others x apart in
    let still = owned_first c.args.id x c.args.id c.args.self.now c.owned.self c.owned.invariant.rows free in
    let room = c.remove_row-2.ensures.others x (ap (λ m. owns (answers m) x c.args.id) c.self.view_is ∙ still) in
    omega (arith, before, inside, closed, room)
