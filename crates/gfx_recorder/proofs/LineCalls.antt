-- The calls of lines, line by line, and what a worker needs for the next one.
use Rattle.std.proofs.Common.{◌≡◌, ◌∙◌, ℕ, ◌+◌, ◌<◌, [], ◌∷◌, ◌++◌, List, map, length, get_or, take, drop, sym, ap, subst, arith, append_assoc, append-nil}
use Rattle.std.specs.List.{AllByRecursion}
use Rattle.std.proofs.lemmas.List.{map-append, length-map, take_more, take-append-drop, drop_more, length-take-le}
use Rattle.atomic_table.specs.Seated.{TableId}
use Rattle.gfx_model.specs.Events.{Event}
use Rattle.gfx_script_model.specs.Ids.{map_ids}
use Rattle.gfx_script_model.specs.Runs.{calls_of}
use Rattle.gfx_script.specs.declared.line.Line.{Line}
use Rattle.gfx_script.specs.Line.{line_of, event_of_line}
use Rattle.gfx_script.specs.Puts.{HasIds}
use Rattle.gfx_script.proofs.Renaming.{renamed}
use Rattle.gfx_seats.specs.Entries.{times, AreAmong}
use Rattle.gfx_seats.proofs.Totals.{times-append}
use Rattle.gfx_text_grammar.proofs.Lists.{all_parts}
use Rattle.gfx_capture.specs.declared.answer.AppendFault.{AppendFault}
use Rattle.gfx_capture.specs.Entry.{event_ids, named_ids}
use Rattle.gfx_capture.specs.ThreadBuffer.{CanBePut}
use Rattle.gfx_recorder.specs.declared.worker.Worker.{Worker}
use Rattle.gfx_recorder.specs.Ids.{id_in, call_in, calls_in}
use Rattle.gfx_recorder.specs.Work.{hand_of, IsReady, Puts, Stops, CanRun}
use Rattle.gfx_recorder.proofs.Going.{ids-append, held-count, ready-on, puts-more, stops-later, stops-wider}

-- the effect of a line with the ids of a table is its call
pub line-call : (table : List ℕ) (line : Line) (event : Event) (used defined : List ℕ) → HasIds (event_of_line line) used defined event
    → used ≡ map (id_in table) line.uses → defined ≡ map (id_in table) line.defines → event ≡ call_in table line
line-call table line event used defined h u d =
    renamed (id_in table) (event_of_line line) event used defined h (u ∙ ap (map (id_in table)) line.used) (d ∙ ap (map (id_in table)) line.defined)

-- before the first line
pub can-begin : (table : List ℕ) (lines : List Line) (desk : TableId) (w : Worker) → CanRun desk (id_in table) (map line_of lines) w → IsReady desk w
can-begin table lines desk w can = record { desk_is = can.desk_is; idle = can.idle; minor = can.minor; drew = λ x pos. absurd (none x (subst (λ l. 0 < times x (named_ids l)) can.empty pos)) }
  where
    none : (x : ℕ) → 0 < times x (named_ids []) → ⊥
    none x pos = omega arith

module _ (table : List ℕ) where
  calls-append : (a b : List Line) → calls_in table (a ++ b) ≡ calls_in table a ++ calls_in table b
  calls-append a b = ap (calls_of (id_in table)) (map-append line_of a b) ∙ map-append (λ l. map_ids (id_in table) l.event) (map line_of a) (map line_of b)

  pub calls-long : (ls : List Line) → length (calls_in table ls) ≡ length ls
  calls-long ls = length-map (map line_of ls) (λ l. map_ids (id_in table) l.event) ∙ length-map ls line_of

  module _ (lines : List Line) (i : ℕ) (line : Line) (less : i < length lines) (is : line ≡ get_or lines i line) where
    -- one line more, one call more
    pub calls-next : calls_in table (take (i + 1) lines) ≡ calls_in table (take i lines) ++ call_in table line ∷ []
    calls-next = ap (calls_in table) (take_more lines i line less ∙ ap (λ l. take i lines ++ l ∷ []) (sym is)) ∙ calls-append (take i lines) (line ∷ [])

    -- the others follow
    pub calls-cut : calls_in table lines ≡ calls_in table (take i lines) ++ (call_in table line ∷ calls_in table (drop (i + 1) lines))
    calls-cut =
        ap (calls_in table) (sym (take-append-drop i lines) ∙ ap (λ l. take i lines ++ l) (drop_more lines i line less ∙ ap (λ l. l ∷ drop (i + 1) lines) (sym is)))
        ∙ calls-append (take i lines) (line ∷ drop (i + 1) lines)

    module _ (desk : TableId) (w w₁ : Worker) (can : CanRun desk (id_in table) (map line_of lines) w) (p : Puts w (calls_in table (take i lines)) w₁) where
      -- how often the calls so far and this one create an id
      counted : (x : ℕ) → times x (named_ids (calls_in table lines)) ≡ times x (named_ids (calls_in table (take i lines))) + (times x (event_ids (call_in table line)) + times x (named_ids (calls_in table (drop (i + 1) lines))))
      counted x =
          ap (λ l. times x (named_ids l)) calls-cut
          ∙ (ap (times x) (ids-append (calls_in table (take i lines)) (call_in table line ∷ calls_in table (drop (i + 1) lines)))
          ∙ (times-append x (named_ids (calls_in table (take i lines))) (event_ids (call_in table line) ++ named_ids (calls_in table (drop (i + 1) lines)))
          ∙ ap (λ k. times x (named_ids (calls_in table (take i lines))) + k) (times-append x (event_ids (call_in table line)) (named_ids (calls_in table (drop (i + 1) lines))))))

      pub line-drew : AreAmong (event_ids (call_in table line)) (hand_of w₁).drawn
      line-drew x pos = subst (λ l. 0 < times x l) (sym p.keeps.drawn) (can.drew x (let a = counted x in omega arith))

      pub line-ready : IsReady desk w₁
      line-ready = ready-on desk w w₁ (calls_in table (take i lines)) (can-begin table lines desk w can) (λ x pos. can.drew x (let a = counted x in omega arith)) p

      pub line-block : CanBePut (hand_of w₁).kind (call_in table line)
      line-block =
          let parts = all_parts (CanBePut (hand_of w).kind) (calls_in table (take i lines)) (call_in table line ∷ calls_in table (drop (i + 1) lines)) (subst (AllByRecursion (CanBePut (hand_of w).kind)) calls-cut can.blocks) in
          subst (λ k. CanBePut k (call_in table line)) (sym p.keeps.kind) parts.1.0

      pub line-count : w.done ≡ 0 → w₁.done + length w₁.buffer.events ≡ i
      line-count start =
          let a = held-count w w₁ (calls_in table (take i lines)) p in let b = calls-long (take i lines) in let c = length-take-le i lines (omega arith) in
          let e : length w.buffer.events ≡ 0 = ap length can.empty in omega arith

-- behind the last one
pub all-ready : (table : List ℕ) (lines : List Line) (desk : TableId) (w w₁ : Worker) → CanRun desk (id_in table) (map line_of lines) w → Puts w (calls_in table lines) w₁ → IsReady desk w₁
all-ready table lines desk w w₁ can p = ready-on desk w w₁ (calls_in table lines) (can-begin table lines desk w can) can.drew p

pub all-count : (table : List ℕ) (lines : List Line) (desk : TableId) (w w₁ : Worker) → CanRun desk (id_in table) (map line_of lines) w → Puts w (calls_in table lines) w₁ → w.done ≡ 0 → w₁.done + length w₁.buffer.events ≡ length lines
all-count table lines desk w w₁ can p start =
    let a = held-count w w₁ (calls_in table lines) p in let b = calls-long table lines in let e : length w.buffer.events ≡ 0 = ap length can.empty in omega arith

module _ (table : List ℕ) (lines : List Line) (i : ℕ) (line : Line) (less : i < length lines) (is : line ≡ get_or lines i line) (w w₁ w₂ : Worker) (p : Puts w (calls_in table (take i lines)) w₁) where
  -- one line more was put
  pub through-line : Puts w₁ (call_in table line ∷ []) w₂ → Puts w (calls_in table (take (i + 1) lines)) w₂
  through-line q = subst (λ l. Puts w l w₂) (sym (calls-next table lines i line less is)) (puts-more w w₁ w₂ (calls_in table (take i lines)) (call_in table line ∷ []) p q)

  -- the worker stopped at it
  pub stopped-line : (fault : AppendFault) → Stops w₁ (call_in table line ∷ []) fault w₂ → Stops w (calls_in table lines) fault w₂
  stopped-line fault s =
      subst (λ l. Stops w l fault w₂) (append_assoc (calls_in table (take i lines)) (call_in table line ∷ []) (calls_in table (drop (i + 1) lines)) ∙ sym (calls-cut table lines i line less is))
      (stops-wider w w₂ (calls_in table (take i lines) ++ call_in table line ∷ []) (calls_in table (drop (i + 1) lines)) fault (stops-later w w₁ w₂ (calls_in table (take i lines)) (call_in table line ∷ []) p fault s))

-- appending what is left puts nothing more
pub last-puts : (w w₁ w₂ : Worker) (events : List Event) → Puts w events w₁ → Puts w₁ [] w₂ → Puts w events w₂
last-puts w w₁ w₂ events p q = subst (λ l. Puts w l w₂) (append-nil events) (puts-more w w₁ w₂ events [] p q)

pub last-stops : (w w₁ w₂ : Worker) (events : List Event) → Puts w events w₁ → (fault : AppendFault) → Stops w₁ [] fault w₂ → Stops w events fault w₂
last-stops w w₁ w₂ events p fault s = subst (λ l. Stops w l fault w₂) (append-nil events) (stops-later w w₁ w₂ events [] p fault s)
