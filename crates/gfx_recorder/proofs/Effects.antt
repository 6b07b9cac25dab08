-- One call put by a worker, with what it appends before and after.
use Rattle.std.proofs.Common.{◌≡◌, ◌<◌, [], ◌∷◌, ◌++◌, Result, Ok, Err, subst, append-nil}
use Rattle.std.specs.Prelude.{OnOk, IfErr}
use Rattle.atomic_table.specs.Seated.{TableId}
use Rattle.gfx_model.specs.Events.{Event}
use Rattle.gfx_seats.specs.Entries.{times, AreAmong}
use Rattle.gfx_capture.specs.declared.answer.AppendFault.{AppendFault}
use Rattle.gfx_capture.specs.Entry.{event_ids}
use Rattle.gfx_recorder.specs.declared.worker.Worker.{Worker}
use Rattle.gfx_recorder.specs.Work.{hand_of, IsReady, Puts, Stops}
use Rattle.gfx_recorder.proofs.Batches.{holds}
use Rattle.gfx_recorder.proofs.Going.{puts-more, stops-later, stops-wider, ready-on}

-- ---- results

pub on_ok_more : {A E : Type 0} (r : Result A E) (P Q : Type 0) → (P → Q) → OnOk r P → OnOk r Q
on_ok_more (Ok a) P Q more h = more h
on_ok_more (Err e) P Q more h = h

pub if_err_more : {A E : Type 0} (r : Result A E) (P Q : E → Type 0) → ((e : E) → P e → Q e) → IfErr r P → IfErr r Q
if_err_more (Ok a) P Q more h = h
if_err_more (Err e) P Q more h = more e h

-- ---- what is held was appended first

module _ (w w₁ : Worker) (event : Event) where
  -- that failed
  pub stops-first : (fault : AppendFault) → Stops w [] fault w₁ → Stops w (event ∷ []) fault w₁
  stops-first fault s = stops-wider w w₁ [] (event ∷ []) fault s

-- ---- then the call was put

module _ (w w₁ w₂ : Worker) (event : Event) (first : Puts w [] w₁) (same : w₂.pass ≡ w₁.pass) (minor : w₂.buffer.minor ≡ w₁.buffer.minor) (more : w₂.buffer.events ≡ w₁.buffer.events ++ event ∷ []) (done : w₂.done ≡ w₁.done) where
  held : Puts w₁ (event ∷ []) w₂
  held = holds w₁ w₂ same first.keeps.stage done event minor more

  pub puts-both : Puts w (event ∷ []) w₂
  puts-both = puts-more w w₁ w₂ [] (event ∷ []) first held

  pub ready-both : (desk : TableId) → IsReady desk w → AreAmong (event_ids event) (hand_of w).drawn → IsReady desk w₂
  ready-both desk r drew = ready-on desk w w₂ (event ∷ []) r
      (λ x pos. drew x (subst (λ l. 0 < times x l) (append-nil (event_ids event)) pos)) puts-both

pub ready-put : (desk : TableId) (w w₁ w₂ : Worker) (event : Event) → IsReady desk w → Puts w [] w₁ → AreAmong (event_ids event) (hand_of w).drawn
    → w₂.pass ≡ w₁.pass → w₂.buffer.minor ≡ w₁.buffer.minor → w₂.buffer.events ≡ w₁.buffer.events ++ event ∷ [] → w₂.done ≡ w₁.done → IsReady desk w₂
ready-put desk w w₁ w₂ event r first drew same minor more done = ready-both w w₁ w₂ event first same minor more done desk r drew

-- and last what was held was appended
pub puts-through : (w w₁ w₂ w₃ : Worker) (event : Event) → Puts w [] w₁ → w₂.pass ≡ w₁.pass → w₂.buffer.minor ≡ w₁.buffer.minor → w₂.buffer.events ≡ w₁.buffer.events ++ event ∷ [] → w₂.done ≡ w₁.done
    → Puts w₂ [] w₃ → Puts w (event ∷ []) w₃
puts-through w w₁ w₂ w₃ event first same minor more done last =
    puts-more w w₂ w₃ (event ∷ []) [] (puts-both w w₁ w₂ event first same minor more done) last

pub stops-through : (w w₁ w₂ w₃ : Worker) (event : Event) → Puts w [] w₁ → w₂.pass ≡ w₁.pass → w₂.buffer.minor ≡ w₁.buffer.minor → w₂.buffer.events ≡ w₁.buffer.events ++ event ∷ [] → w₂.done ≡ w₁.done
    → (fault : AppendFault) → Stops w₂ [] fault w₃ → Stops w (event ∷ []) fault w₃
stops-through w w₁ w₂ w₃ event first same minor more done fault last =
    stops-later w w₂ w₃ (event ∷ []) [] (puts-both w w₁ w₂ event first same minor more done) fault last
