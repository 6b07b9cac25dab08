-- Notes: making one, taking it in, and learning from it. Seats: making one of a thread, and taking one in.
use Rattle.std.proofs.Common.{◌≡◌, ℕ, zero, suc, ◌+◌, ◌<◌, ◌≤◌, ◌==◌, Bool, true, false, max, List, [], ◌∷◌, ◌++◌, length, get_or, set, sym, refl, ap, ◌∙◌, subst, arith, length-append, append-nil, Option}
use Rattle.std.specs.Prelude.{nat_lt}
use Rattle.std.proofs.lemmas.Bool.{ltb-true, ltb-false}
use Rattle.std.proofs.lemmas.List.{nil_from_length}
use mathlib.Core.Option.{none, some, some-injective}
use lib.ListN.{get_elem?}
use Rattle.atomic_table.specs.Table.{State, Me, step, keeps, stepped, Allows, Splits, Joins}
use Rattle.atomic_table.proofs.Lists.{set_here, set_else, set_again}
use Rattle.gfx_seats.specs.declared.hand.Hand.{Hand}
use Rattle.gfx_seats.specs.declared.note.Note.{Note}
use Rattle.gfx_seats.specs.declared.view.View.{View}
use mathlib.Core.List.{IsPrefix}
use Rattle.gfx_seats.specs.Entries.{total, entries_of}
use Rattle.gfx_seats.specs.Stage.{seat_count, turn_count}
use Rattle.gfx_seats.specs.Hand.{after_meeting, nobody, pick, longer, with_seen, note_of, drawn_times, drawn_in, thread_times, seats_in, ticket_times, tickets_in, turns_in}
use Rattle.gfx_seats.specs.View.{spent_view, note_view, noted, gathered, first_hand, later_hands, staying, parting, over, overall}
use Rattle.gfx_seats.specs.Rule.{Once, when, Each, HandFits, NoteFits, ViewFits, SlotFits, IsKept}
use Rattle.gfx_seats.specs.Steps.{Learnt, with_me, learnt}
use Rattle.gfx_seats.proofs.Totals.{total-set, total-append, each-set, each-nil, each-snoc, each-append, each-cons}
use Rattle.gfx_seats.proofs.Entries.{entries_of-append}
use Rattle.gfx_seats.proofs.Hands.{alone}
use Rattle.gfx_seats.proofs.Own.{in_range, quiet_state}

module _ {E : Type 0} where
  -- of two prefixes of one list, the shorter is a prefix of the longer
  pub shorter-prefix : (xs ys zs : List E) → IsPrefix xs zs → IsPrefix ys zs → length xs ≤ length ys → IsPrefix xs ys
  shorter-prefix [] ys zs p q h = (ys, refl)
  shorter-prefix (x ∷ xs) [] zs p q h = absurd (omega arith)
  shorter-prefix (x ∷ xs) (y ∷ ys) zs p q h =
      let e : x ∷ (xs ++ p.0) ≡ y ∷ (ys ++ q.0) = p.1 ∙ sym q.1 in let head : x ≡ y = cc in let tail : xs ++ p.0 ≡ ys ++ q.0 = cc in
      let r = shorter-prefix xs ys (xs ++ p.0) (p.0, refl) (q.0, sym tail) (omega arith) in (r.0, (λ i. head i ∷ r.1 i))

  pub prefix-refl : (xs : List E) → IsPrefix xs xs
  prefix-refl xs = ([], append-nil xs)

  -- what the longer of two prefixes is
  pub record Longer (xs ys zs ls : List E) : Type 0 where
    pub left : IsPrefix xs ls
    pub right : IsPrefix ys ls
    pub whole : IsPrefix ls zs
    pub bound : (m : ℕ) → length xs ≤ m → length ys ≤ m → length ls ≤ m
    pub stays : length ys ≤ length xs → ls ≡ xs

  pub longer-is : (xs ys zs : List E) → IsPrefix xs zs → IsPrefix ys zs → Longer xs ys zs (longer xs ys)
  longer-is xs ys zs p q = go (nat_lt (length xs) (length ys)) (ltb-true (length xs) (length ys)) (ltb-false (length xs) (length ys))
    where
      go : (b : Bool) → (b ≡ true → length xs < length ys) → (b ≡ false → length ys ≤ length xs) → Longer xs ys zs (pick b xs ys)
      go true t f = let less = t refl in record { left = shorter-prefix xs ys zs p q (omega arith); right = prefix-refl ys; whole = q; bound = λ m a b. b; stays = λ a. absurd (omega arith) }
      go false t f = let less = f refl in record { left = prefix-refl xs; right = shorter-prefix ys xs zs q p less; whole = p; bound = λ m a b. a; stays = λ _. refl }

  -- of a history and one that begins with it the second is the longer
  pub longer-prefix : (xs ys : List E) → IsPrefix xs ys → longer xs ys ≡ ys
  longer-prefix xs ys p = go (nat_lt (length xs) (length ys)) (ltb-false (length xs) (length ys))
    where
      go : (b : Bool) → (b ≡ false → length ys ≤ length xs) → pick b xs ys ≡ ys
      go true f = refl
      go false f = let less = f refl in let sum = length-append xs p.0 in let long = ap length p.1 in let none : p.0 ≡ [] = nil_from_length p.0 (omega arith) in
          sym (append-nil xs) ∙ (ap (λ (z : List E). xs ++ z) (sym none) ∙ p.1)

module _ {E : Type 0} (thread_of : E → ℕ) where
  -- what is the same at both ends is the same in between
  pub between : (t : ℕ) (a b c m : List E) → IsPrefix a b → IsPrefix b c → entries_of thread_of t a ≡ m → entries_of thread_of t c ≡ m → entries_of thread_of t b ≡ m
  between t a b c m p q ea ec = let of = entries_of thread_of t in
      let eb : of b ≡ of a ++ of p.0 = ap of (sym p.1) ∙ entries_of-append thread_of t a p.0 in let ed : of c ≡ of b ++ of q.0 = ap of (sym q.1) ∙ entries_of-append thread_of t b q.0 in
      let la : length (of a) ≡ length m = ap length ea in let lc : length (of c) ≡ length m = ap length ec in let lb : length (of b) ≡ length (of a ++ of p.0) = ap length eb in let ld : length (of c) ≡ length (of b ++ of q.0) = ap length ed in
      let ab = length-append (of a) (of p.0) in let bd = length-append (of b) (of q.0) in
      let none : of p.0 ≡ [] = nil_from_length (of p.0) (omega arith) in eb ∙ ((λ i. of a ++ none i) ∙ (append-nil (of a) ∙ ea))

module _ {V E : Type 0} (entries : V → List E) (thread_of : E → ℕ) (ids_of : E → List ℕ) (kind_of : V → ℕ) (seats kind : ℕ) where
  abbrev St : Type 0
  St = State (Option V) (View E)

  abbrev Rule : St → Type 0
  Rule = IsKept entries thread_of ids_of kind_of seats kind

  abbrev Ok : List E → View E → Type 0
  Ok log = ViewFits thread_of ids_of log kind

  -- the hands are shared out among the views in another way
  pub regroup : (s : St) (k : Rule s) (views' : List (View E)) → ((f : Hand E → ℕ) → f nobody ≡ 0 → overall f views' ≡ overall f s.views) → Each (Ok k.log) views' → Rule record { words = s.words; homes = s.homes; views = views' }
  regroup s k views' same each' = let ht = same turns_in refl in record {
    next = k.next;
    issued = k.issued;
    served = k.served;
    log = k.log;
    words = k.words;
    few_seats = k.few_seats;
    ids = λ x. subst (Once 1 k.next x) (sym (same (drawn_times x) refl)) (k.ids x);
    id_count = let a = same drawn_in refl in let b = k.id_count in omega arith;
    threads = λ x. subst (Once 0 seats x) (sym (same (thread_times x) refl)) (k.threads x);
    seat_total = same seats_in refl ∙ k.seat_total;
    tickets = λ x. subst (λ (z : ℕ × ℕ). Once k.served k.issued x (z.0 + when (k.served == x) z.1)) (λ i. (sym (same (ticket_times x) refl) i, sym ht i)) (k.tickets x);
    ticket_count = let a = same tickets_in refl in let b = k.ticket_count in omega arith;
    slot = subst (SlotFits entries thread_of ids_of kind_of seats kind k.log s.homes) (sym ht) k.slot;
    foreign = k.foreign;
    each = each';
  }

  nobody_ok : (log : List E) → HandFits thread_of ids_of log kind nobody
  nobody_ok log = record { few = omega arith; here = λ e. absurd (omega arith) }

  pub jots : (id : ℕ) (v : View E) → seat_count v.hand.stage ≡ 1 → Splits Rule id v v (note_view v.hand)
  jots id v there s k at = let ok = k.each id v at in let h = ok.hand.here there in
      regroup s k (set s.views id v ++ note_view v.hand ∷ [])
      (λ f z. let a = total-append (over f) (set s.views id v) (note_view v.hand ∷ []) in let b = ap (overall f) (set_again s.views id v at) in omega arith)
      (each-snoc (Ok k.log) (set s.views id v) (note_view v.hand) (subst (Each (Ok k.log)) (sym (set_again s.views id v at)) k.each) record {
        hand = nobody_ok k.log;
        others = each-nil (HandFits thread_of ids_of k.log kind);
        notes = λ j n e. subst (NoteFits thread_of ids_of k.log kind) (one (note_of v.hand) n j e) record { kind_is = h.kind_is; seen = h.seen; low = h.low; high = h.high };
      })
    where
      one : (a n : Note E) (j : ℕ) → get_elem? (a ∷ []) j ≡ some n → a ≡ n
      one a n zero e = some-injective a n e
      one a n (suc j) e = absurd (mathlib.Core.Option.some-ne-none n (sym e))

  pub deals : (id : ℕ) (v : View E) (h : Hand E) (hs : List (Hand E)) → v.others ≡ h ∷ hs → Splits Rule id v (staying v) (parting v)
  deals id v h hs is s k at = let ok = k.each id v at in let all_ok : Each (HandFits thread_of ids_of k.log kind) (h ∷ hs) = subst (Each (HandFits thread_of ids_of k.log kind)) is ok.others in
      let l : staying v ≡ record v { others = hs } = ap (λ (z : List (Hand E)). let w : View E = record v { others = later_hands z } in w) is in
      let r : parting v ≡ record { hand = h; others = []; notes = [] } = ap (λ (z : List (Hand E)). let w : View E = record { hand = first_hand z; others = []; notes = [] } in w) is in
      subst (λ (z : View E × View E). Rule record { words = s.words; homes = s.homes; views = set s.views id z.0 ++ z.1 ∷ [] }) (λ i. (sym l i, sym r i))
      (let w : View E = record v { others = hs } in let u : View E = record { hand = h; others = []; notes = [] } in
      regroup s k (set s.views id w ++ u ∷ [])
      (λ f z. let a = total-append (over f) (set s.views id w) (u ∷ []) in let b = total-set (over f) s.views id v w at in let c : total f v.others ≡ f h + total f hs = ap (total f) is in omega arith)
      (each-snoc (Ok k.log) (set s.views id w) u
      (each-set (Ok k.log) s.views id w record { hand = ok.hand; others = λ j x e. all_ok (suc j) x e; notes = ok.notes } (λ j x _ e. k.each j x e))
      record { hand = all_ok 0 h refl; others = each-nil (HandFits thread_of ids_of k.log kind); notes = each-nil (NoteFits thread_of ids_of k.log kind) }))

  -- two views become one, with the hands of both
  joined : (s : St) (k : Rule s) (id other : ℕ) (v w both : View E) → get_elem? s.views id ≡ some v → ¬ (other ≡ id) → get_elem? (set s.views id both) other ≡ some w
      → ((f : Hand E → ℕ) → f nobody ≡ 0 → over f both ≡ over f v + over f w) → Ok k.log both
      → Rule record { words = s.words; homes = s.homes; views = set (set s.views id both) other spent_view }
  joined s k id other v w both at apart_from at' sum ok = regroup s k (set (set s.views id both) other spent_view)
      (λ f z. let a = total-set (over f) s.views id v both at in let b = total-set (over f) (set s.views id both) other w spent_view at' in let c = sum f z in omega arith)
      (each-set (Ok k.log) (set s.views id both) other spent_view record { hand = nobody_ok k.log; others = each-nil (HandFits thread_of ids_of k.log kind); notes = each-nil (NoteFits thread_of ids_of k.log kind) }
      (λ j x _ e. each-set (Ok k.log) s.views id both ok (λ i y _ q. k.each i y q) j x e))

  pub takes_note : (id other : ℕ) (v w : View E) (h : Hand E) → w ≡ note_view h → Joins Rule id v other w (noted v w) spent_view
  takes_note id other v w h is s k at apart_from at' = let ok = k.each id v at in let ok' = k.each other w (sym (set_else s.views id other (noted v w) apart_from) ∙ at') in
      joined s k id other v w (noted v w) at apart_from at'
      (λ f z. let a : over f w ≡ over f (note_view h) = ap (over f) is in omega arith)
      record { hand = ok.hand; others = ok.others; notes = each-append (NoteFits thread_of ids_of k.log kind) v.notes w.notes ok.notes ok'.notes }

  pub gathers : (id other : ℕ) (v w : View E) → Joins Rule id v other w (gathered v w) spent_view
  gathers id other v w s k at apart_from at' = let ok = k.each id v at in let ok' = k.each other w (sym (set_else s.views id other (gathered v w) apart_from) ∙ at') in
      let H = HandFits thread_of ids_of k.log kind in
      joined s k id other v w (gathered v w) at apart_from at'
      (λ f z. let a = total-append f w.others (v.hand ∷ v.others) in omega arith)
      record {
        hand = ok'.hand;
        others = each-append H w.others (v.hand ∷ v.others) ok'.others (each-cons H v.hand v.others ok.hand ok.others);
        notes = each-append (NoteFits thread_of ids_of k.log kind) v.notes w.notes ok.notes ok'.notes;
      }

  same_note : (a b : Note E) (l : List (Note E)) → l ≡ a ∷ [] → l ≡ b ∷ [] → a ≡ b
  same_note a b l p q = cc

  pub learns : (slots id : ℕ) (me : Me (Option V) (View E)) (n : Note E) → me.0.others ≡ [] → seat_count me.0.hand.stage ≡ 1 → me.0.notes ≡ n ∷ []
      → Allows Rule slots id me 0 (λ x. x) (learnt entries thread_of ids_of kind_of (step slots 0 0 0 none) me)
  learns slots id me n bare there one s k _ at small = let ok = k.each id me.0 at in let h = ok.hand.here there in
      let note = ok.notes 0 n (ap (λ (l : List (Note E)). get_elem? l 0) one) in let l = longer-is me.0.hand.seen n.seen k.log h.seen note.seen in
      let w : View E = record me.0 { hand = with_seen me.0.hand n.seen n.known; notes = [] } in
      let low = h.low in let high = h.high in let low' = note.low in let high' = note.high in
      let whole : turn_count me.0.hand.stage ≡ 1 → longer me.0.hand.seen n.seen ≡ me.0.hand.seen = (λ turn. let e = ap length (h.turn turn) in l.stays (omega arith)) in
      let own : entries_of thread_of me.0.hand.thread (longer me.0.hand.seen n.seen) ≡ me.0.hand.mine =
      between thread_of me.0.hand.thread me.0.hand.seen (longer me.0.hand.seen n.seen) k.log me.0.hand.mine l.left l.whole h.all_seen h.mine in
      let kept = quiet_state entries thread_of ids_of kind_of seats kind s k id 0 me.0 w at (λ x. refl) refl (λ x. refl) refl (λ x. refl) refl refl
      (each-set (Ok k.log) s.views id w record {
        hand = record {
          few = ok.hand.few;
          here = λ _. record {
            kind_is = h.kind_is;
            seen = l.whole;
            low = l.bound (max me.0.hand.known n.known) (omega arith) (omega arith);
            high = omega arith;
            mine = h.mine;
            all_seen = own;
            drew = h.drew;
            turn = λ turn. whole turn ∙ h.turn turn;
          };
        };
        others = ok.others;
        notes = each-nil (NoteFits thread_of ids_of k.log kind);
      } (λ j v _ e. k.each j v e)) in
      let told : Learnt entries thread_of ids_of kind_of me n (w, me.1) = record {
        now = refl;
        before = l.left;
        told = l.right;
        knows = l.bound (max me.0.hand.known n.known) (omega arith) (omega arith);
        turn = whole;
        own = own;
        alone = alone entries thread_of ids_of kind_of seats kind (stepped s 0 (get_or s.words 0 0) id me.1 w keeps) kept id w (set_here s.views id w (in_range s.views id me.0 at)) bare there;
      } in
      (w, keeps, tt, kept, (λ n' one'. subst (λ (z : Note E). Learnt entries thread_of ids_of kind_of me z (w, me.1)) (same_note n n' me.0.notes one one') told))

module _ {V E : Type 0} (entries : V → List E) (thread_of : E → ℕ) (ids_of : E → List ℕ) (kind_of : V → ℕ) where
  -- a token after it took in a note
  pub noted-is : (me m : Me (Option V) (View E)) (w : View E) (h : Hand E) → m ≡ (noted me.0 w, me.1) → w ≡ note_view h → me.0.notes ≡ [] → m ≡ (record me.0 { notes = note_of h ∷ [] }, me.1)
  noted-is me m w h p q r = p ∙ (ap (λ (z : View E). let u : Me (Option V) (View E) = (noted me.0 z, me.1) in u) q ∙ ap (λ (l : List (Note E)). let u : Me (Option V) (View E) = (record me.0 { notes = l ++ note_of h ∷ [] }, me.1) in u) r)

  -- what the note tells, it tells of the token before
  pub learnt-of : (me m m' : Me (Option V) (View E)) (h : Hand E) → m ≡ (record me.0 { notes = note_of h ∷ [] }, me.1) → ((n : Note E) → m.0.notes ≡ n ∷ [] → Learnt entries thread_of ids_of kind_of m n m')
      → Learnt entries thread_of ids_of kind_of (record me.0 { notes = note_of h ∷ [] }, me.1) (note_of h) m'
  learnt-of me m m' h is told = subst (λ (z : Me (Option V) (View E)). Learnt entries thread_of ids_of kind_of z (note_of h) m') is (told (note_of h) (ap (λ (z : Me (Option V) (View E)). z.0.notes) is))

  -- it has nothing else to tell
  pub learnt-is : (me m' : Me (Option V) (View E)) (h : Hand E) → me.0.notes ≡ [] → Learnt entries thread_of ids_of kind_of (record me.0 { notes = note_of h ∷ [] }, me.1) (note_of h) m'
      → m' ≡ with_me me (with_seen me.0.hand h.seen h.known)
  learnt-is me m' h none_before told = told.now ∙ ap (λ (l : List (Note E)). let u : Me (Option V) (View E) = (record me.0 { hand = with_seen me.0.hand h.seen h.known; notes = l }, me.1) in u) (sym none_before)

module _ {V E : Type 0} where
  -- one token told the other, and was then told by it
  pub both-met : (a b a₁ b₁ a₂ b₂ : Me (Option V) (View E)) → b₁ ≡ with_me b (with_seen b.0.hand a.0.hand.seen a.0.hand.known) → a₁ ≡ a → a₂ ≡ with_me a₁ (with_seen a₁.0.hand b₁.0.hand.seen b₁.0.hand.known) → b₂ ≡ b₁
      → IsPrefix a.0.hand.seen b₁.0.hand.seen → b₂.0.hand ≡ after_meeting b.0.hand a.0.hand a₂.0.hand.seen
  both-met a b a₁ b₁ a₂ b₂ first same second same' p =
      let seen : longer b.0.hand.seen a.0.hand.seen ≡ a₂.0.hand.seen =
      sym (ap (λ (m : Me (Option V) (View E)). m.0.hand.seen) first) ∙ (sym (longer-prefix a.0.hand.seen b₁.0.hand.seen p)
      ∙ (ap (λ (m : Me (Option V) (View E)). longer m.0.hand.seen b₁.0.hand.seen) (sym same) ∙ sym (ap (λ (m : Me (Option V) (View E)). m.0.hand.seen) second))) in
      ap (λ (m : Me (Option V) (View E)). m.0.hand) (same' ∙ first) ∙ (λ i. after_meeting b.0.hand a.0.hand (seen i))
