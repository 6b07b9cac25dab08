use Rattle.std.proofs.Common.{◌≡◌, take}
use Rattle.gfx_model.specs.Questions.{invalidated}
use Rattle.gfx_model.specs.Checks.{is_among}
use Rattle.gfx_commands.specs.Recordings.{buffers}
use Rattle.gfx_commands.proofs.rows.Rows.invalidate_users.Given as goal

-- the users so far are invalid, and no others
abbrev pub invariant-users : goal.invariant-users
invariant-users l = buffers l.self.map ≡ (λ x. invalidated (is_among x (take l.cb-index l.cb-items)) (buffers l.fn.self.map x))
