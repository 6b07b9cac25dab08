-- How long blocks are.
use Rattle.std.proofs.Common.{◌≡◌, ℕ, ◌+◌, ◌≤◌, List, [], ◌∷◌, length, arith, length-append}
use Rattle.gfx_model.specs.Events.{Event}
use Rattle.gfx_model.specs.Spelling.{encoding, payload}
use Rattle.gfx_script_model.specs.Runs.{Entry, log_bytes}

pub encoding-length : (m t : ℕ) (e : Event) → length (encoding m t e) ≡ 12 + length (payload m t e)
unfolding encoding
encoding-length m t e = omega arith

-- no block has fewer than twelve bytes
pub few_blocks : (m : ℕ) (log : List Entry) → length log ≤ length (log_bytes m log)
few_blocks m [] = omega arith
few_blocks m (e ∷ es) = omega (arith, few_blocks m es, length-append (encoding m e.thread e.event) (log_bytes m es), encoding-length m e.thread e.event)
