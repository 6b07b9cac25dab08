use Rattle.std.proofs.Common.{List, ℕ, subst}
use Rattle.gfx_model.specs.Blocks.End.{clean}
use Rattle.gfx_model.specs.Frames.{frames}
use Rattle.gfx_model.specs.Meaning.{Means}
use Rattle.gfx_script_model.specs.Runs.{history}
use Rattle.gfx_recording.specs.Writing.{Cuts}
use Rattle.gfx_recording.proofs.writing.write_cut.Goals as goal

pub cut_file-requires-clause-means : goal.cut_file-requires-clause-means
cut_file-requires-clause-means g c = (_, c.bytes.ensures.file)

pub returns-clause-means : goal.returns-clause-means
returns-clause-means g c = subst (λ (b : List ℕ). Means b (frames (history c.args.log.now.entries)) clean) c.bytes.ensures.bytes c.bytes.ensures.file

pub returns-clause-cuts : goal.returns-clause-cuts
returns-clause-cuts g c =
    subst (λ (b : List ℕ). Cuts c.args.first c.args.last (g.K.Sink.taken c.args.sink.now) (g.K.Sink.taken c.cut_file.new.sink) b c.cut_file.result) c.bytes.ensures.bytes c.cut_file.ensures.cuts
