-- Examples of printed lines, of listings and of files in version 2.
use Rattle.gfx_model.proofs.ExampleCaptures.{after, all, both, f1, file3, wholes, z2}
use Rattle.gfx_model.specs.Blocks.End.{bad, clean}
use Rattle.gfx_model.specs.Events.Event.{ResetFences}
use Rattle.gfx_model.specs.Frames.{frames}
use Rattle.gfx_model.specs.History.{onto}
use Rattle.gfx_model.specs.Meaning.{judge}
use Rattle.gfx_model.specs.Spelling.{encoding}
use Rattle.gfx_model.specs.Text.{bad_line, counts_text, frames_text, line}
use Rattle.gfx_types.specs.declared.names.Fault.TheVariants.{BadValue, Truncated}
use Rattle.std.specs.Prelude.{[], codes, false, length, map, refl, sum, true, ◌++◌, ◌+◌, ◌∷◌, ◌≡◌}

ex_info : counts_text 1 file3 ≡ line (codes "version 1000.1") ++ line (codes "blocks 30") ++ line (codes "calls 29") ++ line (codes "frames 3")
unfolding all
ex_info = refl

ex_text : frames_text 1 (λ bytes. 171 ∷ []) true (frames (after 22)) ≡ line (codes "frame 1 3x1 R8_UINT ab") ++ line (codes "616263") ++ line (codes "frames 1")
unfolding all
ex_text = refl

ex_bad_line : bad_line Truncated 30 1523 ≡ line (codes "bad block 30 at 1523: 5 Truncated")
unfolding all
ex_bad_line = refl

ex_z2_bytes : 16 + sum (map (λ e. length (encoding 2 0 e)) (z2 both)) ≡ 1028
unfolding all
ex_z2_bytes = refl

ex_z2_text : frames_text 2 (λ bytes. 171 ∷ []) false (frames (onto (z2 both) [])) ≡ line (codes "frame 1.1 1x1 R8_UINT ab") ++ line (codes "frame 1.2 1x1 R8_UINT ab") ++ line (codes "frames 1")
unfolding all
ex_z2_text = refl

ex_judged : (judge [] file3 clean).end ≡ clean
unfolding all
ex_judged = refl

ex_bad_fence : (judge [] (wholes 1 1 16 (f1 ++ ResetFences 3 [] ∷ f1)) clean).end ≡ bad BadValue 23 1131
unfolding all
ex_bad_fence = refl

-- what is counted of two swapchains that one present shows
ex_z2_info : counts_text 2 (wholes 2 1 16 (z2 both)) ≡ line (codes "version 1000.2") ++ line (codes "blocks 20") ++ line (codes "calls 20") ++ line (codes "frames 1")
unfolding all
ex_z2_info = refl

-- one present in version 2
ex_v2_text : frames_text 2 (λ bytes. 171 ∷ []) false (frames (after 22)) ≡ line (codes "frame 1.1 3x1 R8_UINT ab") ++ line (codes "frames 1")
unfolding all
ex_v2_text = refl
