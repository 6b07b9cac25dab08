-- A worker that ran its lines.
use Rattle.std.proofs.Common.{◌≡◌, ℕ, zero, suc, List, [], ◌∷◌, ◌++◌, length, take, Some, slice_get, sym, refl, ap, ◌∙◌, subst, arith, append-nil}
use Rattle.std.specs.Prelude.{Result, Ok, Err, OnOk, IfErr}
use Rattle.std.proofs.lemmas.List.{length-map, take_all, take-map}
use Rattle.gfx_model.specs.Events.{Event}
use Rattle.gfx_script_model.specs.Ids.{map_ids}
use Rattle.gfx_script_model.specs.Runs.{calls_of}
use Rattle.gfx_script_model.specs.Scripts.{Line}
use Rattle.gfx_capture.specs.declared.answer.AppendFault.{AppendFault}
use Rattle.gfx_capture.specs.declared.answer.AppendFault.TheVariants as append
use Rattle.gfx_capture.specs.Append.{IsFaulty, IsFull}
use Rattle.gfx_capture.specs.Entry.{entries_under}
use Rattle.gfx_capture.specs.ThreadBuffer.{Buffered}
use Rattle.gfx_recorder.specs.declared.end.End.{End}
use Rattle.gfx_recorder.specs.declared.end.End.TheVariants.{All}
use Rattle.gfx_recorder.specs.declared.worker.Worker.{Worker}
use Rattle.gfx_recorder.specs.Ends.{end_by, end_of, number_at, EndsAt}
use Rattle.gfx_recorder.specs.Work.{hand_of, Puts, Stops, Why, Ran}

module _ (ids : ℕ → ℕ) where
  long : (lines : List Line) → length (calls_of ids lines) ≡ length lines
  long lines = length-map lines (λ (l : Line). map_ids ids l.event)

  firsts : (n : ℕ) (lines : List Line) → take n (calls_of ids lines) ≡ calls_of ids (take n lines)
  firsts n lines = take-map (λ l. map_ids ids l.event) n lines

  -- the call at a place is that of the line there
  line-at : (lines : List Line) (place : ℕ) (event : Event) → slice_get (calls_of ids lines) place ≡ Some event
      → (line : Line) × (slice_get lines place ≡ Some line) × (event ≡ map_ids ids line.event) × (number_at lines place ≡ line.number)
  line-at [] zero event at = absurd cc
  line-at [] (suc place) event at = absurd cc
  line-at (l ∷ lines) zero event at = let is : Some (map_ids ids l.event) ≡ Some event = at in let same : event ≡ map_ids ids l.event = cc in (l, refl, same, refl)
  line-at (l ∷ lines) (suc place) event at = line-at lines place event at

module _ (ids : ℕ → ℕ) (lines : List Line) (w w₁ : Worker) (buffer : Buffered) (end : End) (empty : w.buffer.events ≡ []) (cleared : buffer.events ≡ []) where
  held-first : (events : List Event) → w.buffer.events ++ events ≡ events
  held-first events = ap (λ l. l ++ events) empty

  -- all lines were put, and none is held
  pub ran-all : Puts (record w { done = 0 }) (calls_of ids lines) w₁ → w₁.buffer.events ≡ [] → buffer.minor ≡ w₁.buffer.minor → end ≡ All → Ran ids lines w (record w₁ { buffer = buffer; end = end })
  ran-all p none minor all =
      let made : p.made ≡ calls_of ids lines = sym (append-nil p.made) ∙ (ap (λ l. p.made ++ l) (sym none) ∙ (p.all ∙ held-first (calls_of ids lines))) in
      let done : w₁.done ≡ length lines = (let a = p.done in let b : length p.made ≡ length lines = ap length made ∙ long ids lines in omega arith) in record {
        desk_is = p.desk_is;
        keeps = p.keeps;
        minor = minor ∙ p.minor;
        empty = cleared;
        within = omega arith;
        mine = p.mine ∙ ap (λ l. (hand_of w).mine ++ entries_under (hand_of w).thread l) (made ∙ ap (calls_of ids) (sym (take_all w₁.done lines (omega arith))));
        why = subst (λ e. EndsAt ids lines w₁.done e (hand_of w₁)) (sym all) done;
      }

  -- a line was not accepted
  pub ran-stopped : (fault : AppendFault) → Stops (record w { done = 0 }) (calls_of ids lines) fault w₁ → buffer.minor ≡ w₁.buffer.minor → end ≡ end_of (number_at lines w₁.done) fault
      → Ran ids lines w (record w₁ { buffer = buffer; end = end })
  ran-stopped fault s minor is =
      let count : w₁.done ≡ s.count = (let a = s.done in omega arith) in
      let events : w.buffer.events ++ calls_of ids lines ≡ calls_of ids lines = held-first (calls_of ids lines) in record {
        desk_is = s.desk_is;
        keeps = s.keeps;
        minor = minor ∙ s.minor;
        empty = cleared;
        within = let a = s.within in let b = ap length events in let c = long ids lines in omega arith;
        mine = s.mine ∙ ap (λ l. (hand_of w).mine ++ entries_under (hand_of w).thread l) (ap (take s.count) events ∙ (firsts ids s.count lines ∙ ap (λ n. calls_of ids (take n lines)) (sym count)));
        why = subst (λ e. EndsAt ids lines w₁.done e (hand_of w₁)) (sym is)
            (ended fault (subst (λ (z : List Event × ℕ). Why z.0 z.1 fault (hand_of w₁)) (λ i. (events i, sym count i)) s.why));
      }
    where
      ended : (f : AppendFault) → Why (calls_of ids lines) w₁.done f (hand_of w₁) → EndsAt ids lines w₁.done (end_of (number_at lines w₁.done) f) (hand_of w₁)
      ended (append.Refused f at done) (at_is, (event, there, faulty)) =
          let l = line-at ids lines w₁.done event there in
          (l.0, l.1, (l.3, at_is, subst (λ e. IsFaulty (hand_of w₁).kind (hand_of w₁).thread (hand_of w₁).seen e f) l.2 faulty))
      ended (append.LogFull long wanted done) (event, there, full) =
          let l = line-at ids lines w₁.done event there in
          (l.0, l.1, subst (λ e. IsFull (hand_of w₁).kind (hand_of w₁).thread (hand_of w₁).seen e long wanted) l.2 full)
      ended (append.WantMemory done) y = tt

  -- by the answer
  pub ran-by : (answer : Result (Unit {0}) AppendFault) → OnOk answer (Puts (record w { done = 0 }) (calls_of ids lines) w₁) → OnOk answer (w₁.buffer.events ≡ [])
      → IfErr answer (λ fault. Stops (record w { done = 0 }) (calls_of ids lines) fault w₁) → buffer.minor ≡ w₁.buffer.minor → end ≡ end_by (number_at lines w₁.done) answer
      → Ran ids lines w (record w₁ { buffer = buffer; end = end })
  ran-by (Ok u) puts none stops minor is = ran-all puts none minor is
  ran-by (Err fault) puts none stops minor is = ran-stopped fault stops minor is
