-- What is seen of a source or a sink.
use Rattle.std.specs.Prelude.{ℕ, List}
use Rattle.std.specs.declared.option.Option.{Option}
use Rattle.gfx_io.specs.Causes.{Rose}

-- a source or a sink before a call and after it: itself, the bytes that it has left or that it took, and how often it failed
pub record Seen (T : Type 0) : Type 0 where
  pub before : T
  pub now : T
  pub bytes_before : Option (List ℕ)
  pub bytes_now : Option (List ℕ)
  pub faults_before : ℕ
  pub faults_now : ℕ

-- where its bytes and its failures are told so at any time
abbrev pub seen : {T : Type 0} → T → T → (T → Option (List ℕ)) → (T → ℕ) → Seen T
seen before now bytes faults =
    record { before = before; now = now; bytes_before = bytes before; bytes_now = bytes now; faults_before = faults before; faults_now = faults now }

-- it failed during the call
abbrev pub Failed : {T : Type 0} → Seen T → Type 0
Failed seen = Rose seen.faults_before seen.faults_now
