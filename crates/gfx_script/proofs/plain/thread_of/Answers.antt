use Rattle.std.proofs.Common.{◌≡◌, ℕ, ◌≤◌, ◌<◌, List, [], ◌∷◌, length, get_or, None, sym, ◌∙◌, arith}
use Rattle.gfx_text_grammar.specs.Words.{number_in}
use Rattle.gfx_script.specs.Plain.{one_digit, two_digits}
use Rattle.gfx_script.proofs.Threads.{number-one, number-two, number-many, number-none}
use Rattle.gfx_script.proofs.plain.thread_of.Goals as goal

one : (word : List ℕ) → 1 ≤ length word → length word < 2 → number_in 64 word ≡ one_digit (get_or word 0 0)
one [] low high = absurd (omega arith)
one (a ∷ []) low high = number-one a
one (a ∷ b ∷ ds) low high = absurd (omega arith)

two : (word : List ℕ) → 2 ≤ length word → length word < 3 → number_in 64 word ≡ two_digits (get_or word 0 0) (get_or word 1 0)
two [] low high = absurd (omega arith)
two (a ∷ []) low high = absurd (omega arith)
two (a ∷ b ∷ []) low high = number-two a b
two (a ∷ b ∷ d ∷ ds) low high = absurd (omega arith)

none : (word : List ℕ) → length word < 1 → number_in 64 word ≡ None
none [] high = number-none
none (a ∷ ds) high = absurd (omega arith)

many : (word : List ℕ) → 3 ≤ length word → number_in 64 word ≡ None
many [] low = absurd (omega arith)
many (a ∷ []) low = absurd (omega arith)
many (a ∷ b ∷ []) low = absurd (omega arith)
many (a ∷ b ∷ d ∷ ds) low = number-many a b d ds

pub returns-in-len1 : goal.returns-in-len1
returns-in-len1 c = c.of_one_digit.ensures ∙ sym (one c.args.word.now (omega (arith, c.in-len1.len_at_least)) (omega (arith, c.in-len1.len_below)))

pub returns-in-len2 : goal.returns-in-len2
returns-in-len2 c = c.of_two_digits.ensures ∙ sym (two c.args.word.now (omega (arith, c.in-len2.len_at_least)) (omega (arith, c.in-len2.len_below)))

pub returns-in_default : goal.returns-in_default
returns-in_default c = sym (none c.args.word.now (omega (arith, c.in_default.len_below)))

pub returns-in_default-2 : goal.returns-in_default-2
returns-in_default-2 c = sym (many c.args.word.now (omega (arith, c.in_default.len_at_least)))
