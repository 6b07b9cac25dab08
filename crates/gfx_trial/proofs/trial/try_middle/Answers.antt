use Rattle.std.proofs.Common.{ap, sym, subst, ◌∙◌}
use Rattle.gfx_digest.specs.declared.digest.Digested.{Digested}
use Rattle.gfx_trial.specs.declared.trial.Trial.{Trial}
use Rattle.gfx_trial.specs.Files.{HasFrames}
use Rattle.gfx_trial.specs.Text.{middle, middle_digested, middle_first, middle_last, trial_of}
use Rattle.gfx_trial.proofs.Thirds.{made_in}
use Rattle.gfx_trial.proofs.trial.try_middle.Goals as goal

pub digest_of-requires-clause-there : goal.digest_of-requires-clause-there
digest_of-requires-clause-there c = (middle c.args.frames, made_in c.args.frames _ c.requires (c.as_slice.ensures.value ∙ c.in_ok-file.ensures))

pub cut_out-requires-clause-there : goal.cut_out-requires-clause-there
cut_out-requires-clause-there c = (middle c.args.frames, made_in c.args.frames _ c.requires (c.as_slice-2.ensures.value ∙ c.in_ok-file.ensures))

pub digest_of-requires-2-clause-there : goal.digest_of-requires-2-clause-there
digest_of-requires-2-clause-there c =
    let n = c.args.frames in (
      middle n,
      subst (λ b. HasFrames (middle_first n) (middle_last n) b (middle n)) (sym c.as_slice-3.ensures.value)
          (c.in_ok-cut_file.ensures (middle n) (made_in n _ c.requires (c.as_slice-2.ensures.value ∙ c.in_ok-file.ensures))),
    )

pub returns : goal.returns
unfolding middle_digested
returns c =
    let n = c.args.frames in
    let t : Trial = trial_of n in
    let whole = c.in_ok-whole.ensures (middle n) (made_in n _ c.requires (c.as_slice.ensures.value ∙ c.in_ok-file.ensures)) in
    let cut =
    c.in_ok-cut.ensures (middle n) (subst (λ b. HasFrames (middle_first n) (middle_last n) b (middle n)) (sym c.as_slice-3.ensures.value)
    (c.in_ok-cut_file.ensures (middle n) (made_in n _ c.requires (c.as_slice-2.ensures.value ∙ c.in_ok-file.ensures)))) in
    ap (λ (d : Digested). record t { whole = d; cut = c.in_ok-cut.cut }) whole ∙ ap (λ (d : Digested). record t { cut = d }) cut
