-- The numbers of answers in C.
use Rattle.std.specs.Prelude.{ℕ, Result, Ok, Err}
use Rattle.gfx_types.specs.Names.{fault_number}
use Rattle.gfx_capture.specs.declared.answer.Receipt.{Receipt}
use Rattle.gfx_capture.specs.declared.answer.AppendFault.{AppendFault}
use Rattle.gfx_capture.specs.declared.answer.AppendFault.TheVariants as append
use Rattle.gfx_log_c.specs.declared.answer.Answer.{Answer}
use Rattle.gfx_log_c.specs.declared.answer.Answer.TheVariants as answer

-- the number of an answer
abbrev pub code_of : Answer → ℕ
code_of answer.Accepted = 0
code_of answer.BadFields = 8
code_of (answer.Refused f) = fault_number f
code_of answer.Full = 29
code_of answer.WantMemory = 30

-- what a log answers to one effect
abbrev pub answer_of : Result Receipt AppendFault → Answer
answer_of (Ok r) = answer.Accepted
answer_of (Err (append.Refused f at done)) = answer.Refused f
answer_of (Err (append.LogFull l wanted done)) = answer.Full
answer_of (Err (append.WantMemory done)) = answer.WantMemory
