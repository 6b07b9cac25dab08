-- The commands after one more is added, and the bytes of them all.
use Rattle.std.proofs.Common.{◌≡◌, ℕ, ◌+◌, ◌≤◌, Bool, List, [], ◌∷◌, ◌++◌, length, Option, Bor, Some, None, refl, ap, sym, ◌∙◌, subst, arith, append_assoc}
use Rattle.std.specs.Prelude.{flat_map, sum_by, slice_get, slice_range, option_map, zero, suc}
use Rattle.std.specs.List.{AllByRecursion}
use Rattle.std.specs.Ordering.{nat_cmp}
use Rattle.std.specs.FinMap.{FinMap}
use Rattle.std.specs.Option.{option_copied}
use Rattle.std.specs.Slice.{IsItemAt}
use Rattle.std.proofs.lemmas.Option.{slice_get_past, slice_get_read}
use Rattle.std.proofs.lemmas.List.Sums.{sum_by-cons}
use Rattle.gfx_model.specs.Events.{Event}
use Rattle.gfx_model.specs.Spelling.{spelling}
use Rattle.gfx_model.specs.Steps.{resources_of}
use Rattle.gfx_model.specs.Checks.{Layouts, layouts_of}
use Rattle.gfx_commands.specs.declared.commands.Command.{Command}
use Rattle.gfx_commands.specs.declared.uses.Use.{Use}
use Rattle.gfx_commands.specs.declared.commands.Commands.TheInside.{Inside}
use Rattle.gfx_commands.specs.Recorded.{event_with, AreFields}
use Rattle.gfx_commands.specs.Uses.{IsIndex}
use Rattle.gfx_commands.specs.Commands.{Spelled, IsSpelled, IsCut, cut, events_in, bytes_of, start_at}
use Rattle.gfx_commands.specs.Inside.{IsKept, spelled_in}
use Rattle.gfx_commands.proofs.Cuts.{cut_at, cut_none, cut_within, cuts_more, cut_more, bytes_cut}

-- ---- lists with one more at the end

all_more : {X : Type 0} (P : X → Type 0) (xs : List X) (x : X) → AllByRecursion P xs → P x → AllByRecursion P (xs ++ x ∷ [])
all_more P [] x h p = (p, tt)
all_more P (y ∷ ys) x h p = (h.0, all_more P ys x h.1 p)

events-more : (ss : List Spelled) (s : Spelled) → events_in (ss ++ s ∷ []) ≡ events_in ss ++ event_with s.call_id s.params ∷ []
events-more [] s = refl
events-more (q ∷ ss) s = ap (λ es. event_with q.call_id q.params ∷ es) (events-more ss s)

pub flat_map-more : {X Y : Type 0} (f : X → List Y) (xs : List X) (x : X) → flat_map f (xs ++ x ∷ []) ≡ flat_map f xs ++ f x
flat_map-more f [] x = right (f x)
  where
    right : {Y : Type 0} (ys : List Y) → ys ++ [] ≡ ys
    right [] = refl
    right (y ∷ ys) = ap (λ l. y ∷ l) (right ys)
flat_map-more f (y ∷ ys) x = ap (λ l. f y ++ l) (flat_map-more f ys x) ∙ sym (append_assoc (f y) (flat_map f ys) (f x))

-- ---- one command of all

-- what is at a place
pub item_at : {X : Type 0} (xs : List X) (i : ℕ) (o : Option (Bor X)) → IsItemAt xs i o → slice_get xs i ≡ option_copied o
item_at xs i None is = slice_get_past xs i is.3
item_at xs i (Some x) is = slice_get_read xs (length xs) i x.now refl is.3.0 is.1

pub all_at : {X : Type 0} (P : X → Type 0) (xs : List X) (k : ℕ) (x : X) → AllByRecursion P xs → slice_get xs k ≡ Some x → P x
all_at P [] k x all is = cc
all_at P (y ∷ xs) zero x all is = let same : y ≡ x = cc in subst P same all.0
all_at P (y ∷ xs) (suc k) x all is = all_at P xs k x all.1 is

pub event_at : (ss : List Spelled) (k : ℕ) → option_map (λ (s : Spelled). event_with s.call_id s.params) (slice_get ss k) ≡ slice_get (events_in ss) k
event_at [] k = refl
event_at (s ∷ ss) zero = refl
event_at (s ∷ ss) (suc k) = event_at ss k

pub length-events : (ss : List Spelled) → length (events_in ss) ≡ length ss
length-events [] = refl
length-events (s ∷ ss) = ap suc (length-events ss)

module _ (c : Inside) (kept : IsKept c) (k : ℕ) (one : Command) (there : slice_get c.commands.items k ≡ Some one) where
  abbrev params : List ℕ
  params = slice_range c.fields.items (start_at 0 c.commands.items k) one.end

  pub within : (start_at 0 c.commands.items k ≤ one.end) × (one.end ≤ length c.fields.items)
  within = cut_within 0 c.commands.items (length c.fields.items) k one kept.cuts there

  pub event_there : slice_get (events_in (spelled_in c)) k ≡ Some (event_with one.call_id params)
  event_there = sym (event_at (spelled_in c) k) ∙ ap (option_map (λ (s : Spelled). event_with s.call_id s.params)) (cut_at c.fields.items 0 c.commands.items k one there)

  pub fields_there : AreFields one.call_id params
  fields_there = all_at IsSpelled (spelled_in c) k _ kept.each (cut_at c.fields.items 0 c.commands.items k one there)

pub no_event : (c : Inside) (k : ℕ) → slice_get c.commands.items k ≡ None → slice_get (events_in (spelled_in c)) k ≡ None
no_event c k none = sym (event_at (spelled_in c) k) ∙ ap (option_map (λ (s : Spelled). event_with s.call_id s.params)) (cut_none c.fields.items 0 c.commands.items k none)

-- ---- the bytes

sum_by-more : {X : Type 0} (f : X → ℕ) (xs : List X) (x : X) → sum_by f (xs ++ x ∷ []) ≡ sum_by f xs + f x
sum_by-more f [] x = let one = sum_by-cons f x [] in omega (arith, one)
sum_by-more f (y ∷ ys) x =
    let rest = sum_by-more f ys x in
    let a = sum_by-cons f y (ys ++ x ∷ []) in
    let b = sum_by-cons f y ys in
    omega (arith, rest, a, b)

pub bytes_of-more : (es : List Event) (e : Event) → bytes_of (es ++ e ∷ []) ≡ bytes_of es + length (spelling 1 e)
bytes_of-more es e = sum_by-more (λ e. length (spelling 1 e)) es e

bytes_each : (ss : List Spelled) → AllByRecursion IsSpelled ss → sum_by (λ (s : Spelled). length s.params) ss ≡ bytes_of (events_in ss)
bytes_each [] h = refl
bytes_each (s ∷ ss) h =
    let rest = bytes_each ss h.1 in
    let a = sum_by-cons (λ (s : Spelled). length s.params) s ss in
    let b = sum_by-cons (λ e. length (spelling 1 e)) (event_with s.call_id s.params) (events_in ss) in
    let here = ap length h.0.spelled in
    omega (arith, rest, a, b, here)

pub bytes_kept : (c : Inside) → IsKept c → length c.fields.items ≡ bytes_of (events_in (spelled_in c))
bytes_kept c kept =
    let all = bytes_cut 0 c.fields.items c.commands.items kept.cuts in
    let each = bytes_each (spelled_in c) kept.each in
    omega (arith, all, each)

-- ---- the index

pub index_same : (uses now : FinMap nat_cmp Use) (agrees agree : Bool) (named : List ℕ) (asks : List Layouts) → now ≡ uses → agree ≡ agrees
    → IsIndex uses agrees named asks → IsIndex now agree named asks
index_same uses now agrees agree named asks same flag index =
    let P = λ (m : FinMap nat_cmp Use). IsIndex m agree named asks in
    let Q = λ (a : Bool). IsIndex uses a named asks in
    subst P (sym same) (subst Q (sym flag) index)

-- ---- one more

module _ (c n : Inside) (k : Command) (more : List ℕ) (e : Event) (kept : IsKept c) (commands : n.commands.items ≡ c.commands.items ++ k ∷ []) (fields : n.fields.items ≡ c.fields.items ++ more)
    (end : k.end ≡ length n.fields.items) (event : event_with k.call_id more ≡ e) where
  abbrev new : Spelled
  new = record { call_id = k.call_id; params = more }

  behind : k.end ≡ length (c.fields.items ++ more)
  behind = end ∙ ap length fields

  spelled_more : spelled_in n ≡ spelled_in c ++ new ∷ []
  spelled_more =
      ap (λ xs. cut 0 xs n.commands.items) fields ∙ ap (cut 0 (c.fields.items ++ more)) commands
      ∙ cut_more c.fields.items more k behind 0 c.commands.items kept.cuts

  pub events_added : events_in (spelled_in n) ≡ events_in (spelled_in c) ++ e ∷ []
  events_added = ap events_in spelled_more ∙ events-more (spelled_in c) new ∙ ap (λ e. events_in (spelled_in c) ++ e ∷ []) event

  pub kept_added : AreFields k.call_id more
      → IsIndex n.uses.table.map n.uses.agrees (flat_map resources_of (events_in (spelled_in c)) ++ resources_of e) (flat_map layouts_of (events_in (spelled_in c)) ++ layouts_of e)
      → IsKept n
  kept_added spelled index =
      let Each = λ (ss : List Spelled). AllByRecursion IsSpelled ss in
      let Cut = λ (cs : List Command). IsCut 0 cs (length n.fields.items) in
      let Count = λ (xs : List ℕ). IsCut 0 (c.commands.items ++ k ∷ []) (length xs) in
      let Named = λ (l : List ℕ). IsIndex n.uses.table.map n.uses.agrees l (flat_map layouts_of (events_in (spelled_in n))) in
      let Asks = λ (l : List Layouts). IsIndex n.uses.table.map n.uses.agrees (flat_map resources_of (events_in (spelled_in c)) ++ resources_of e) l in
      let named = ap (flat_map resources_of) events_added ∙ flat_map-more resources_of (events_in (spelled_in c)) e in
      let asks = ap (flat_map layouts_of) events_added ∙ flat_map-more layouts_of (events_in (spelled_in c)) e in
      record {
        cuts = subst Cut (sym commands) (subst Count (sym fields) (cuts_more c.fields.items more k behind 0 c.commands.items kept.cuts));
        each = subst Each (sym spelled_more) (all_more IsSpelled (spelled_in c) new kept.each spelled);
        index = subst Named (sym named) (subst Asks (sym asks) index);
      }
