-- A worker on its way: what it puts one after another, and where it stops.
use Rattle.std.proofs.Common.{◌≡◌, ℕ, zero, suc, ◌+◌, ◌<◌, List, [], ◌∷◌, ◌++◌, length, take, Some, slice_get, sym, refl, ap, ◌∙◌, subst, arith, append_assoc, append-nil, length-append}
use Rattle.std.proofs.lemmas.List.{map-append, take-append-le}
use Rattle.std.proofs.lemmas.List.Concat.{flat_map-append}
use mathlib.Core.List.{IsPrefix}
use Rattle.atomic_table.specs.Seated.{TableId}
use Rattle.gfx_model.specs.Events.{Event}
use Rattle.gfx_script_model.specs.Runs.{Entry}
use Rattle.gfx_seats.specs.declared.hand.Hand.{Hand}
use Rattle.gfx_seats.specs.declared.stage.Stage.TheVariants.{Idle}
use Rattle.gfx_seats.specs.Entries.{times, AreAmong}
use Rattle.gfx_seats.proofs.Totals.{times-append}
use Rattle.gfx_capture.specs.declared.answer.AppendFault.{AppendFault}
use Rattle.gfx_capture.specs.declared.answer.AppendFault.TheVariants as append
use Rattle.gfx_capture.specs.Entry.{entry, entries_under, event_ids, named_ids}
use Rattle.gfx_capture.specs.Pass.{Keeps}
use Rattle.gfx_capture.proofs.Places.{keeps_all}
use Rattle.gfx_recorder.specs.declared.worker.Worker.{Worker}
use Rattle.gfx_recorder.specs.Work.{hand_of, IsReady, Puts, Stops, Why}

-- ---- lists

pub take-past : {A : Type 0} (a b : List A) (n : ℕ) → take (length a + n) (a ++ b) ≡ a ++ take n b
take-past [] b n = let e : 0 + n ≡ n = omega arith in ap (λ k. take k b) e
take-past (x ∷ a) b n = let e : suc (length a) + n ≡ suc (length a + n) = omega arith in ap (λ k. take k (x ∷ (a ++ b))) e ∙ ap (λ l. x ∷ l) (take-past a b n)

pub get-past : {A : Type 0} (a b : List A) (n : ℕ) → slice_get (a ++ b) (length a + n) ≡ slice_get b n
get-past [] b n = let e : 0 + n ≡ n = omega arith in ap (slice_get b) e
get-past (x ∷ a) b n = let e : suc (length a) + n ≡ suc (length a + n) = omega arith in ap (slice_get (x ∷ (a ++ b))) e ∙ get-past a b n

pub get-longer : {A : Type 0} (a b : List A) (n : ℕ) (x : A) → slice_get a n ≡ Some x → slice_get (a ++ b) n ≡ Some x
get-longer [] b n x at = absurd (none n at)
  where
    none : (n : ℕ) → slice_get [] n ≡ Some x → ⊥
    none zero at = cc
    none (suc n) at = cc
get-longer (y ∷ a) b zero x at = at
get-longer (y ∷ a) b (suc n) x at = get-longer a b n x at

pub under-append : (t : ℕ) (a b : List Event) → entries_under t (a ++ b) ≡ entries_under t a ++ entries_under t b
under-append t a b = map-append (entry t) a b

pub ids-append : (a b : List Event) → named_ids (a ++ b) ≡ named_ids a ++ named_ids b
ids-append a b = flat_map-append event_ids a b

-- ---- passes

pub prefix-through : {A : Type 0} (a b c : List A) → IsPrefix a b → IsPrefix b c → IsPrefix a c
prefix-through a b c p q = (p.0 ++ q.0, sym (append_assoc a p.0 q.0) ∙ (ap (λ l. l ++ q.0) p.1 ∙ q.1))

pub keeps-through : (h h₁ h₂ : Hand Entry) → Keeps h h₁ → Keeps h₁ h₂ → Keeps h h₂
keeps-through h h₁ h₂ a b = record {
  thread = b.thread ∙ a.thread;
  kind = b.kind ∙ a.kind;
  drawn = b.drawn ∙ a.drawn;
  stage = b.stage;
  before = prefix-through h.seen h₁.seen h₂.seen a.before b.before;
  known = let x = a.known in let y = b.known in omega arith;
}

-- what is made after what was made
pub mine-through : (h h₁ : Hand Entry) (mine : List Entry) (a b : List Event) → h₁.thread ≡ h.thread → h₁.mine ≡ h.mine ++ entries_under h.thread a
    → mine ≡ h₁.mine ++ entries_under h₁.thread b → mine ≡ h.mine ++ entries_under h.thread (a ++ b)
mine-through h h₁ mine a b thread first then =
    then ∙ ((λ i. first i ++ entries_under (thread i) b)
    ∙ (append_assoc h.mine (entries_under h.thread a) (entries_under h.thread b) ∙ ap (λ l. h.mine ++ l) (sym (under-append h.thread a b))))

-- ---- putting

-- nothing was put
pub puts-none : (w : Worker) → (hand_of w).stage ≡ Idle → Puts w [] w
puts-none w idle = record {
  desk_is = refl;
  keeps = keeps_all (hand_of w) idle;
  minor = refl;
  made = [];
  mine = sym (append-nil (hand_of w).mine);
  all = sym (append-nil w.buffer.events);
  done = let e : w.done ≡ w.done + 0 = omega arith in e;
}

module _ (w w₁ w₂ : Worker) (first second : List Event) (a : Puts w first w₁) where
  -- what is still held, and what comes, is what was held and all that comes, but for what was made
  whole : w.buffer.events ++ (first ++ second) ≡ a.made ++ (w₁.buffer.events ++ second)
  whole =
      sym (append_assoc w.buffer.events first second)
      ∙ (ap (λ l. l ++ second) (sym a.all) ∙ append_assoc a.made w₁.buffer.events second)

  pub puts-more : Puts w₁ second w₂ → Puts w (first ++ second) w₂
  puts-more b = record {
    desk_is = b.desk_is ∙ a.desk_is;
    keeps = keeps-through (hand_of w) (hand_of w₁) (hand_of w₂) a.keeps b.keeps;
    minor = b.minor ∙ a.minor;
    made = a.made ++ b.made;
    mine = mine-through (hand_of w) (hand_of w₁) (hand_of w₂).mine a.made b.made a.keeps.thread a.mine b.mine;
    all = append_assoc a.made b.made w₂.buffer.events ∙ (ap (λ l. a.made ++ l) b.all ∙ sym whole);
    done = let x = a.done in let y = b.done in let z = length-append a.made b.made in omega arith;
  }

  why-moves : (place place' : ℕ) (events events' : List Event) → slice_get events' place' ≡ slice_get events place → (fault : AppendFault) (h : Hand Entry) → Why events place fault h → Why events' place' fault h
  why-moves place place' events events' same (append.Refused f at done) h (at_is, (event, is, faulty)) = (at_is, (event, same ∙ is, faulty))
  why-moves place place' events events' same (append.LogFull l wanted done) h (event, is, full) = (event, same ∙ is, full)
  why-moves place place' events events' same (append.WantMemory done) h y = tt

  pub stops-later : (fault : AppendFault) → Stops w₁ second fault w₂ → Stops w (first ++ second) fault w₂
  stops-later fault b = record {
    desk_is = b.desk_is ∙ a.desk_is;
    keeps = keeps-through (hand_of w) (hand_of w₁) (hand_of w₂) a.keeps b.keeps;
    minor = b.minor ∙ a.minor;
    count = length a.made + b.count;
    within = let x = ap length whole in let y = length-append a.made (w₁.buffer.events ++ second) in let z = b.within in omega arith;
    mine = mine-through (hand_of w) (hand_of w₁) (hand_of w₂).mine a.made (take b.count (w₁.buffer.events ++ second)) a.keeps.thread a.mine b.mine
        ∙ ap (λ l. (hand_of w).mine ++ entries_under (hand_of w).thread l)
        (sym (take-past a.made (w₁.buffer.events ++ second) b.count) ∙ ap (take (length a.made + b.count)) (sym whole));
    done = let x = a.done in let y = b.done in omega arith;
    why = why-moves b.count (length a.made + b.count) (w₁.buffer.events ++ second) (w.buffer.events ++ (first ++ second))
        (ap (λ l. slice_get l (length a.made + b.count)) whole ∙ get-past a.made (w₁.buffer.events ++ second) b.count) fault (hand_of w₂) b.why;
  }

-- a worker that stopped on its way through some events stopped on its way through more
pub stops-wider : (w w' : Worker) (first second : List Event) (fault : AppendFault) → Stops w first fault w' → Stops w (first ++ second) fault w'
stops-wider w w' first second fault b =
    let longer : w.buffer.events ++ (first ++ second) ≡ (w.buffer.events ++ first) ++ second = sym (append_assoc w.buffer.events first second) in record {
      desk_is = b.desk_is;
      keeps = b.keeps;
      minor = b.minor;
      count = b.count;
      within = let x = ap length longer in let y = length-append (w.buffer.events ++ first) second in let z = b.within in omega arith;
      mine = b.mine ∙ ap (λ l. (hand_of w).mine ++ entries_under (hand_of w).thread l)
          (sym (take-append-le b.count (w.buffer.events ++ first) second b.within) ∙ ap (take b.count) (sym longer));
      done = b.done;
      why = subst (λ l. Why l b.count fault (hand_of w')) (sym longer) (wider fault b.why);
    }
  where
    wider : (fault : AppendFault) → Why (w.buffer.events ++ first) b.count fault (hand_of w') → Why ((w.buffer.events ++ first) ++ second) b.count fault (hand_of w')
    wider (append.Refused f at done) (at_is, (event, is, faulty)) = (at_is, (event, get-longer (w.buffer.events ++ first) second b.count event is, faulty))
    wider (append.LogFull l wanted done) (event, is, full) = (event, get-longer (w.buffer.events ++ first) second b.count event is, full)
    wider (append.WantMemory done) y = tt

-- how much a worker made and holds
pub held-count : (w w' : Worker) (events : List Event) → Puts w events w' → w'.done + length w'.buffer.events ≡ w.done + (length w.buffer.events + length events)
held-count w w' events p =
    let a = p.done in let b = ap length p.all in let c = length-append p.made w'.buffer.events in let e = length-append w.buffer.events events in omega arith

-- a worker that is ready stays so, where its pass drew the ids of what it puts
pub ready-on : (desk : TableId) (w w' : Worker) (events : List Event) → IsReady desk w → AreAmong (named_ids events) (hand_of w).drawn → Puts w events w' → IsReady desk w'
ready-on desk w w' events r drew p = record {
  desk_is = p.desk_is ∙ r.desk_is;
  idle = p.keeps.stage;
  minor = p.minor ∙ (r.minor ∙ sym p.keeps.kind);
  drew = λ x pos. subst (λ l. 0 < times x l) (sym p.keeps.drawn) (by x pos);
}
  where
    by : (x : ℕ) → 0 < times x (named_ids w'.buffer.events) → 0 < times x (hand_of w).drawn
    by x pos =
        let a : times x (named_ids (p.made ++ w'.buffer.events)) ≡ times x (named_ids p.made) + times x (named_ids w'.buffer.events) = ap (times x) (ids-append p.made w'.buffer.events) ∙ times-append x (named_ids p.made) (named_ids w'.buffer.events) in
        let b : times x (named_ids (w.buffer.events ++ events)) ≡ times x (named_ids w.buffer.events) + times x (named_ids events) = ap (times x) (ids-append w.buffer.events events) ∙ times-append x (named_ids w.buffer.events) (named_ids events) in
        let c : times x (named_ids (p.made ++ w'.buffer.events)) ≡ times x (named_ids (w.buffer.events ++ events)) = ap (λ l. times x (named_ids l)) p.all in
        pick (times x (named_ids w.buffer.events)) refl (omega arith)
      where
        pick : (k : ℕ) → times x (named_ids w.buffer.events) ≡ k → 0 < times x (named_ids w.buffer.events) + times x (named_ids events) → 0 < times x (hand_of w).drawn
        pick zero none some = drew x (omega arith)
        pick (suc k) is some = r.drew x (omega arith)
