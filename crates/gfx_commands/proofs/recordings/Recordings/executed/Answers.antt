use Rattle.std.proofs.Common.{◌≡◌, ◌==◌, ℕ, true, Some, None, ap, sym, subst, ◌∙◌, if◌then◌else◌}
use Rattle.std.specs.FinMap as map
use Rattle.gfx_model.specs.Questions.{Buffer, is_once, invalidated}
use Rattle.gfx_commands.specs.Recordings.{buffers}
use Rattle.gfx_commands.proofs.Buffers.{found, is_executed, stays_executable}
use Rattle.gfx_commands.proofs.recordings.Recordings.executed.Goals as goal

pub returns-in_default : goal.returns-in_default
returns-in_default c =
    let at = found c.args.self.now c.args.cb None (ap (λ m. map.get m c.args.cb) (sym c.self.view_is) ∙ sym c.in_default.ensures) in
    stays_executable (buffers c.args.self.now) c.args.cb (ap is_once at)

pub returns-then-is_once : goal.returns-then-is_once
returns-then-is_once c =
    let at = found c.args.self.now c.args.cb (Some c.in-Some.row.now) (ap (λ m. map.get m c.args.cb) (sym c.self.view_is) ∙ sym c.in-Some.ensures) in
    is_executed (buffers c.args.self.now) c.args.cb (buffers c.invalidate.new.self.map)
    (subst (λ (b : ℕ → Buffer). buffers c.invalidate.new.self.map ≡ (λ x. if c.args.cb == x then invalidated true (b x) else b x)) (ap buffers c.self.view_is) c.invalidate.ensures) (ap is_once at ∙ sym c.is_once.ensures ∙ c.if-is_once.true)

pub returns-else-is_once : goal.returns-else-is_once
returns-else-is_once c =
    let at = found c.args.self.now c.args.cb (Some c.in-Some.row.now) (ap (λ m. map.get m c.args.cb) (sym c.self.view_is) ∙ sym c.in-Some.ensures) in
    stays_executable (buffers c.args.self.now) c.args.cb (ap is_once at ∙ sym c.is_once.ensures ∙ c.if-is_once.false)
