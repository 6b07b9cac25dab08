-- What appending a batch and putting one call do to a worker.
use Rattle.std.proofs.Common.{◌≡◌, ◌+◌, [], ◌∷◌, ◌++◌, sym, ap, ◌∙◌, subst, arith, append-nil}
use Rattle.gfx_model.specs.Events.{Event}
use Rattle.gfx_seats.specs.declared.stage.Stage.TheVariants.{Idle}
use Rattle.gfx_seats.specs.Seat.{hand, desk_of}
use Rattle.gfx_capture.specs.Pass.{Keeps}
use Rattle.gfx_capture.proofs.Places.{keeps_all}
use Rattle.gfx_recorder.specs.declared.worker.Worker.{Worker}
use Rattle.gfx_recorder.specs.Work.{hand_of, Puts}

module _ (w w' : Worker) (same : w'.pass ≡ w.pass) (idle : (hand_of w).stage ≡ Idle) (done : w'.done ≡ w.done) where
  still-at : desk_of w'.pass ≡ desk_of w.pass
  still-at = ap (λ p. desk_of p) same

  keeps-same : Keeps (hand_of w) (hand_of w')
  keeps-same = subst (λ p. Keeps (hand w.pass) (hand p)) (sym same) (keeps_all (hand_of w) idle)

  -- one call more is held
  pub holds : (event : Event) → w'.buffer.minor ≡ w.buffer.minor → w'.buffer.events ≡ w.buffer.events ++ event ∷ [] → Puts w (event ∷ []) w'
  holds event minor more = record {
    desk_is = still-at;
    keeps = keeps-same;
    minor = minor;
    made = [];
    mine = ap (λ p. (hand p).mine) same ∙ sym (append-nil (hand_of w).mine);
    all = more;
    done = let e : w'.done ≡ w.done + 0 = omega arith in e;
  }
