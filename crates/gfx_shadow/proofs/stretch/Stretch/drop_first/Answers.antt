use Rattle.std.proofs.Common.{◌-◌, ◌+◌, ◌≡◌, refl, ap, ◌∙◌, sym, arith, slice_range}
use Rattle.gfx_shadow.specs.Overlay.{without}
use Rattle.gfx_shadow.specs.Stretch.{stretch_byte}
use Rattle.gfx_shadow.proofs.StretchBytes.{first_run, bytes_cut, run_length, run_same}
use Rattle.gfx_shadow.proofs.stretch.Stretch.drop_first.Goals as goal

pub returns-clause-dropped : goal.returns-clause-dropped
returns-clause-dropped c =
    let s = c.args.self.now in let run = c.run_end-self.ensures in let end = c.run_end-self.result in
    let some = run.some in
    let e : end ≡ s.start + (end - s.start) = omega (arith, some) in
    record {
      at = s.start;
      bytes = slice_range s.bytes.items (s.start - s.base) (end - s.base);
      first = first_run s end _ run.some run.inside run.window run.ends (run_length s end run.some run.inside) (run_same s end run.some run.inside);
      left = bytes_cut s _ (end - s.start) refl refl refl e run.inside
          ∙ ap (λ n. without s.start n (stretch_byte s)) (sym (run_length s end run.some run.inside));
    }
