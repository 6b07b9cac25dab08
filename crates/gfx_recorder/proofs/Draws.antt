-- Drawing the ids of the names of a phase, part by part.
use Rattle.std.proofs.Common.{◌≡◌, ◌≢◌, ℕ, ◌+◌, ◌<◌, ◌≤◌, ◌==◌, List, [], ◌∷◌, ◌++◌, map, length, get_or, take, drop, sym, refl, ap, ◌∙◌, subst, arith, append_assoc, append-nil, length-append}
use Rattle.std.proofs.lemmas.Bool.{cond_both}
use Rattle.std.proofs.lemmas.List.{take_more, take-append-drop, drop_more, length-map, map-append, map_more}
use mathlib.Core.Logic.{dite}
use native.Mathlib.Decide.{ℕ_discrete}
use Rattle.gfx_script_model.specs.Ids.{defines_of}
use Rattle.gfx_script_model.specs.Runs.{Entry, lines_in}
use Rattle.gfx_script.specs.declared.line.Line.{Line as ScriptLine}
use Rattle.gfx_script.specs.Line.{line_of, event_of_line}
use Rattle.gfx_script_model.specs.Scripts.{Part}
use Rattle.gfx_seats.specs.declared.hand.Hand.{Hand}
use Rattle.gfx_seats.specs.Entries.{times}
use Rattle.gfx_seats.specs.Hand.{with_id}
use Rattle.gfx_seats.specs.Seat.{desk_of}
use Rattle.gfx_seats.proofs.Totals.{times-append, is-same, is-other}
use Rattle.gfx_run_law.specs.Pieces.{AreApart}
use Rattle.gfx_run_law.proofs.Pieces.{no-part}
use Rattle.gfx_script_law.specs.Playable.{AreNumbered, names_of, numbers_from, phase_lines}
use Rattle.gfx_script_law.proofs.Numbers.{names-count, parts-append, numbered-parts, numbered-names, ids-there}
use Rattle.gfx_recorder.specs.declared.worker.Worker.{Worker}
use Rattle.gfx_recorder.specs.Drawn.{DrewOnce, with_ids, Drew, OneDrew, DrewAt, AllDrew}
use Rattle.gfx_recorder.specs.Ids.{id_in}
use Rattle.gfx_recorder.specs.Work.{hand_of}
use Rattle.gfx_recorder.proofs.Threads.{lines-new, lines-old, apart-at}

-- ---- one pass

ids-more : (h : Hand Entry) (a b : List ℕ) → with_ids (with_ids h a) b ≡ with_ids h (a ++ b)
ids-more h a b = ap (λ (l : List ℕ). let z : Hand Entry = record h { drawn = l } in z) (append_assoc h.drawn a b)

pub drew-both : (j k : ℕ) (h h₁ h₂ : Hand Entry) (table table₁ table₂ : List ℕ) → Drew j h table h₁ table₁ → Drew k h₁ table₁ h₂ table₂ → Drew (j + k) h table h₂ table₂
drew-both j k h h₁ h₂ table table₁ table₂ a b = record {
  ids = a.ids ++ b.ids;
  count_is = let x = length-append a.ids b.ids in let y = a.count_is in let z = b.count_is in omega arith;
  table_is = b.table_is ∙ (ap (λ l. l ++ b.ids) a.table_is ∙ append_assoc table a.ids b.ids);
  hand_is = b.hand_is ∙ (ap (λ (z : Hand Entry). with_ids z b.ids) a.hand_is ∙ ids-more h a.ids b.ids);
  once = λ o. b.once (a.once o);
}

drew-one : (h h' : Hand Entry) (table : List ℕ) (id : ℕ) → h' ≡ with_id h id → times id h.drawn ≡ 0 → Drew 1 h table h' (table ++ id ∷ [])
drew-one h h' table id is new = record {
  ids = id ∷ [];
  count_is = refl;
  table_is = refl;
  hand_is = is;
  once = λ o x. subst (λ l. times x l ≤ 1) (sym (ap (λ z. z.drawn) is)) (let a = times-append x h.drawn (id ∷ []) in let b = o x in dite (ℕ_discrete id x)
      (λ e. let u = is-same x id e in let v : times x h.drawn ≡ 0 = ap (λ k. times k h.drawn) (sym e) ∙ new in omega arith)
      (λ e. let u = is-other x id e in omega arith));
}

-- one id more
pub drew-more : (k : ℕ) (h h₁ h₂ : Hand Entry) (table table₁ : List ℕ) (id : ℕ) → Drew k h table h₁ table₁ → h₂ ≡ with_id h₁ id → times id h₁.drawn ≡ 0 → Drew (k + 1) h table h₂ (table₁ ++ id ∷ [])
drew-more k h h₁ h₂ table table₁ id a is new = drew-both k 1 h h₁ h₂ table table₁ (table₁ ++ id ∷ []) a (drew-one h₁ h₂ table₁ id is new)

pub drew-count : (k : ℕ) (h h' : Hand Entry) (table table' : List ℕ) → Drew k h table h' table' → length h'.drawn ≡ length h.drawn + k
drew-count k h h' table table' a = let b : length h'.drawn ≡ length (h.drawn ++ a.ids) = ap (λ z. length z.drawn) a.hand_is in let c = length-append h.drawn a.ids in let e = a.count_is in omega arith

-- the names of one line more
pub names-next : (lines : List ScriptLine) (i : ℕ) (l : ScriptLine) → i < length lines → l ≡ get_or lines i l → length (names_of (map line_of (take (i + 1) lines))) ≡ length (names_of (map line_of (take i lines))) + length l.defines
names-next lines i l less is =
    let next : map line_of (take (i + 1) lines) ≡ map line_of (take i lines) ++ line_of l ∷ [] = map_more line_of lines i l less ∙ ap (λ (z : ScriptLine). map line_of (take i lines) ++ line_of z ∷ []) (sym is) in
    ap (λ ls. length (names_of ls)) next
    ∙ (names-count (map line_of (take i lines)) (line_of l ∷ [])
    ∙ ap (λ (ns : List ℕ). length (names_of (map line_of (take i lines))) + length ns) (append-nil (defines_of 2 (event_of_line l)) ∙ sym l.defined))

pub names-first : (lines : List ScriptLine) (i : ℕ) → length (names_of (map line_of (take i lines))) ≤ length (names_of (map line_of lines))
names-first lines i =
    let cut : map line_of lines ≡ map line_of (take i lines) ++ map line_of (drop i lines) = ap (map line_of) (sym (take-append-drop i lines)) ∙ map-append line_of (take i lines) (drop i lines) in
    let a : length (names_of (map line_of lines)) ≡ length (names_of (map line_of (take i lines))) + length (names_of (map line_of (drop i lines))) = ap (λ ls. length (names_of ls)) cut ∙ names-count (map line_of (take i lines)) (map line_of (drop i lines)) in omega arith

-- ---- all passes

-- the lines of a thread define no more names than all lines do
names-within : (t : ℕ) (ps : List Part) → length (names_of (lines_in t ps)) ≤ length (names_of (phase_lines ps))
names-within t [] = omega arith
names-within t (p ∷ ps) =
    let c = names-count p.lines (phase_lines ps) in let r = names-within t ps in
    cond_both (p.thread == t) p.lines (lines_in t ps) (λ ls. length (names_of ls) ≤ length (names_of (phase_lines (p ∷ ps)))) (λ _. omega arith) (λ _. omega arith)

-- a pass drew no more ids than the table got
pub few-drawn : (parts : List Part) (ws ws' : List Worker) (table table' : List ℕ) (a : AllDrew parts ws table ws' table') (i : ℕ) (d : Worker) → i < length ws
    → length (hand_of (get_or ws i d)).drawn < length table → length (hand_of (get_or ws' i d)).drawn < length table'
few-drawn parts ws ws' table table' a i d less few =
    let here = a.at i d less in
    let b : length (hand_of (get_or ws' i d)).drawn ≡ length ((hand_of (get_or ws i d)).drawn ++ here.ids) = ap (λ z. length z.drawn) here.hand_is in
    let c = length-append (hand_of (get_or ws i d)).drawn here.ids in
    let e : length here.ids ≡ length (names_of (lines_in i parts)) = ap length (sym (here.ids_are [])) ∙ length-map (names_of (lines_in i parts)) (id_in (table' ++ [])) in
    let f = names-within i parts in let g = a.count in let h : length table' ≡ length (table ++ a.ids) = ap length a.table_is in let j = length-append table a.ids in omega arith

module _ (parts : List Part) (ws : List Worker) (table : List ℕ) (apart : AreApart parts) (numbered : AreNumbered (length table) (phase_lines parts)) (k : ℕ) (d : Part) (less : k < length parts)
    (ws₁ : List Worker) (table₁ : List ℕ) (a : AllDrew (take k parts) ws table ws₁ table₁) where
  abbrev p : Part
  p = get_or parts k d

  cut : parts ≡ take k parts ++ (p ∷ drop (k + 1) parts)
  cut = sym (take-append-drop k parts) ∙ ap (λ l. take k parts ++ l) (drop_more parts k d less)

  lines-cut : phase_lines parts ≡ phase_lines (take k parts) ++ (p.lines ++ phase_lines (drop (k + 1) parts))
  lines-cut = ap phase_lines cut ∙ parts-append (take k parts) (p ∷ drop (k + 1) parts)

  -- the names of the next part are there, too
  pub names-fit : length (names_of (phase_lines (take k parts))) + length (names_of p.lines) ≤ length (names_of (phase_lines parts))
  names-fit =
      let x : length (names_of (phase_lines parts)) ≡ length (names_of (phase_lines (take k parts))) + length (names_of (p.lines ++ phase_lines (drop (k + 1) parts))) =
      ap (λ l. length (names_of l)) lines-cut ∙ names-count (phase_lines (take k parts)) (p.lines ++ phase_lines (drop (k + 1) parts)) in
      let y = names-count p.lines (phase_lines (drop (k + 1) parts)) in omega arith

  pub table-long : length table₁ ≡ length table + length (names_of (phase_lines (take k parts)))
  table-long = ap length a.table_is ∙ (length-append table a.ids ∙ ap (λ n. length table + n) a.count)

  part-names : names_of p.lines ≡ numbers_from (length table₁) (length (names_of p.lines))
  part-names =
      let first = numbered-parts (length table) (phase_lines (take k parts)) (p.lines ++ phase_lines (drop (k + 1) parts)) (subst (AreNumbered (length table)) lines-cut numbered) in
      let here = numbered-parts (length table + length (names_of (phase_lines (take k parts)))) p.lines (phase_lines (drop (k + 1) parts)) first.1 in
      numbered-names (length table₁) p.lines (subst (λ n. AreNumbered n p.lines) (sym table-long) here.0)

  module _ (ws₂ : List Worker) (table₂ : List ℕ) (one : OneDrew p.thread (length (names_of p.lines)) ws₁ table₁ ws₂ table₂) (d₀ : Worker) where
    here : Drew (length (names_of p.lines)) (hand_of (get_or ws₁ p.thread d₀)) table₁ (hand_of (get_or ws₂ p.thread d₀)) table₂
    here = one.drew d₀

    -- the worker of the part
    at-part : (e : Worker) → p.thread < length ws → DrewAt p.thread (take k parts ++ p ∷ []) table₂ (get_or ws p.thread e) (get_or ws₂ p.thread e)
    at-part e there =
        let b = a.at p.thread e there in
        let own = one.drew e in
        let none : lines_in p.thread (take k parts) ≡ [] = no-part p.thread (take k parts) (apart-at parts k d less apart) in
        let nothing : b.ids ≡ [] = sym (b.ids_are []) ∙ ap (λ ls. map (id_in (table₁ ++ [])) (names_of ls)) none in
        let lines : lines_in p.thread (take k parts ++ p ∷ []) ≡ p.lines = lines-new (take k parts) p (apart-at parts k d less apart) in record {
          desk_is = one.desk_is e ∙ b.desk_is;
          buffer = one.buffer e ∙ b.buffer;
          ids = b.ids ++ own.ids;
          hand_is = own.hand_is ∙ (ap (λ (z : Hand Entry). with_ids z own.ids) b.hand_is ∙ ids-more (hand_of (get_or ws p.thread e)) b.ids own.ids);
          once = λ o. own.once (b.once o);
          ids_are = λ more.
              ap (λ ls. map (id_in (table₂ ++ more)) (names_of ls)) lines
              ∙ (ap (map (id_in (table₂ ++ more))) (part-names ∙ ap (numbers_from (length table₁)) (sym own.count_is))
              ∙ (ap (λ t. map (id_in (t ++ more)) (numbers_from (length table₁) (length own.ids))) own.table_is
              ∙ (ids-there table₁ own.ids more ∙ ap (λ l. l ++ own.ids) (sym nothing))));
        }

    -- another worker
    at-other : (i : ℕ) (e : Worker) → i < length ws → i ≢ p.thread → DrewAt i (take k parts ++ p ∷ []) table₂ (get_or ws i e) (get_or ws₂ i e)
    at-other i e there other =
        let b = a.at i e there in
        let same = one.others i e other in record {
          desk_is = ap (λ w. desk_of w.pass) same ∙ b.desk_is;
          buffer = ap (λ w. w.buffer) same ∙ b.buffer;
          ids = b.ids;
          hand_is = ap hand_of same ∙ b.hand_is;
          once = λ o. subst (λ w. DrewOnce (hand_of w)) (sym same) (b.once o);
          ids_are = λ more.
              ap (λ ls. map (id_in (table₂ ++ more)) (names_of ls)) (lines-old (take k parts) p i (λ q. other (sym q)))
              ∙ (ap (λ t. map (id_in t) (names_of (lines_in i (take k parts)))) (ap (λ t. t ++ more) here.table_is ∙ append_assoc table₁ here.ids more) ∙ b.ids_are (here.ids ++ more));
        }

    pub all-more : AllDrew (take (k + 1) parts) ws table ws₂ table₂
    all-more = subst (λ ps. AllDrew ps ws table ws₂ table₂) (sym (take_more parts k d less)) record {
      len = one.len ∙ a.len;
      ids = a.ids ++ here.ids;
      table_is = here.table_is ∙ (ap (λ t. t ++ here.ids) a.table_is ∙ append_assoc table a.ids here.ids);
      count =
          let x = length-append a.ids here.ids in let y = a.count in let z = here.count_is in
          let single : phase_lines (p ∷ []) ≡ p.lines = append-nil p.lines in
          let u : length (names_of (phase_lines (take k parts ++ p ∷ []))) ≡ length (names_of (phase_lines (take k parts))) + length (names_of p.lines) =
          ap (λ l. length (names_of l)) (parts-append (take k parts) (p ∷ [])) ∙ (names-count (phase_lines (take k parts)) (phase_lines (p ∷ [])) ∙ ap (λ l. length (names_of (phase_lines (take k parts))) + length (names_of l)) single) in omega arith;
      at = λ i e there. dite (ℕ_discrete p.thread i)
          (λ same. subst (λ j. DrewAt j (take k parts ++ p ∷ []) table₂ (get_or ws j e) (get_or ws₂ j e)) same (at-part e (subst (λ j. j < length ws) (sym same) there)))
          (λ differ. at-other i e there (λ q. differ (sym q)));
    }
