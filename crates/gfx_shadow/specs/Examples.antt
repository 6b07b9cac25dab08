-- Held writes, their fills and gathered lines, worked out.
use Rattle.std.specs.Prelude.{◌≡◌, ℕ, [], ◌∷◌, refl}
use Rattle.gfx_script_model.specs.Scripts.{Line}
use Rattle.gfx_model.specs.Events.{Event}
use Rattle.gfx_model.specs.Events.Event.{UnmapMemory, QueueSubmit, FillMemory, DeviceWaitIdle}
use Rattle.gfx_shadow.specs.Writes.{write_of, fills, held_byte, runs, firsts, reach}
use Rattle.gfx_shadow.specs.Gathered.{gathered, gathered_after}

-- the line with this number
abbrev line : ℕ → Event → Line
line number event = record { number = number; event = event }

-- the second write covers a byte of the first, the third is written apart
overlapping : fills (write_of 7 0 (97 ∷ 97 ∷ []) ∷ write_of 7 1 (98 ∷ 99 ∷ []) ∷ write_of 7 8 (122 ∷ []) ∷ []) ≡ write_of 7 0 (97 ∷ 98 ∷ 99 ∷ []) ∷ write_of 7 8 (122 ∷ []) ∷ []
unfolding fills held_byte runs firsts reach
overlapping = refl

-- writes in falling order that touch are one run; the memory that was written first is first
falling : fills (write_of 9 2 (5 ∷ []) ∷ write_of 7 0 (1 ∷ []) ∷ write_of 9 1 (4 ∷ []) ∷ write_of 9 0 (3 ∷ []) ∷ []) ≡ write_of 9 0 (3 ∷ 4 ∷ 5 ∷ []) ∷ write_of 7 0 (1 ∷ []) ∷ []
unfolding fills held_byte runs firsts reach
falling = refl

-- a run around a multiple of 65,536 is cut there
cut : runs (held_byte (write_of 7 65535 (1 ∷ 2 ∷ []) ∷ []) 7) 65534 4 ≡ record { offset = 65535; bytes = 1 ∷ [] } ∷ record { offset = 65536; bytes = 2 ∷ [] } ∷ []
unfolding held_byte runs
cut = refl

-- three writes are two fills with the number of the submit behind them
before_submit : gathered (line 12 (FillMemory 7 0 (97 ∷ 97 ∷ [])) ∷ line 13 (FillMemory 7 1 (98 ∷ 99 ∷ [])) ∷ line 14 (FillMemory 7 8 (122 ∷ [])) ∷ line 15 (QueueSubmit 3 [] 0) ∷ [])
    ≡ line 15 (FillMemory 7 0 (97 ∷ 98 ∷ 99 ∷ [])) ∷ line 15 (FillMemory 7 8 (122 ∷ [])) ∷ line 15 (QueueSubmit 3 [] 0) ∷ []
unfolding fills held_byte runs firsts reach gathered_after
before_submit = refl

-- a write after the unmap is with the number of the last line, and other lines stay
at_end : gathered (line 12 (UnmapMemory 2 7) ∷ line 13 (FillMemory 7 0 (97 ∷ [])) ∷ line 24 (DeviceWaitIdle 2) ∷ []) ≡ line 12 (UnmapMemory 2 7) ∷ line 24 (DeviceWaitIdle 2) ∷ line 24 (FillMemory 7 0 (97 ∷ [])) ∷ []
unfolding fills held_byte runs firsts reach gathered_after
at_end = refl

-- what may not be held stands as itself: no byte, or an end above 2^28
as_itself : gathered (line 1 (FillMemory 7 0 []) ∷ line 2 (FillMemory 7 268435455 (1 ∷ 2 ∷ [])) ∷ []) ≡ line 1 (FillMemory 7 0 []) ∷ line 2 (FillMemory 7 268435455 (1 ∷ 2 ∷ [])) ∷ []
unfolding fills held_byte runs firsts reach gathered_after
as_itself = refl
