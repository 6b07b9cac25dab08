-- Words name at most one command.
use Rattle.std.proofs.Common.{◌≡◌, ℕ, ◌+◌, ◌==◌, Bool, true, false, List, [], length, get_or, Option, Some, None, refl, sym, ap, ◌∙◌, arith}
use Rattle.std.specs.Prelude.{IfSome}
use Rattle.std.specs.List.{before_first, after_first}
use Rattle.std.proofs.lemmas.Fmt.{decimal_injective}
use Rattle.gfx_words.specs.declared.range.FrameRange.{FrameRange}
use Rattle.gfx_words.specs.declared.command.Command.{Command}
use Rattle.gfx_words.specs.declared.command.Command.TheVariants.{Info, Replay, Trim, Lean, Upgrade, List as Lists, Unlist as Unlists, Make, Help, Version}
use Rattle.gfx_words.specs.Words.{range_text, FitsRange}
use Rattle.gfx_words.specs.declared.recording.Recording.{Recording}
use Rattle.gfx_words.specs.Commands.{frames_words, recording_words, words_of, Fits, FitsFrames}
use Rattle.gfx_words.proofs.Ranges.{range_cut}

one_range : (r s : FrameRange) → FitsRange r → FitsRange s → range_text r ≡ range_text s → s ≡ r
one_range r s of_r of_s is =
    let in_r = range_cut r of_r in
    let in_s = range_cut s of_s in
    let first : s.first ≡ r.first = decimal_injective s.first r.first of_s.first of_r.first (sym in_s.front_is ∙ ap (before_first (λ b. b == 45)) (sym is) ∙ in_r.front_is) in
    let last : s.last ≡ r.last = decimal_injective s.last r.last of_s.last of_r.last (sym in_s.back_is ∙ ap (after_first (λ b. b == 45)) (sym is) ∙ in_r.back_is) in
    ap (λ n. record { first = n; last = s.last }) first ∙ ap (λ n. record { first = r.first; last = n }) last

-- the third letter of the first word
abbrev letter : List (List ℕ) → ℕ
letter words = get_or (get_or words 0 []) 2 0

-- the word behind the first ones
abbrev word_at : ℕ → List (List ℕ) → List ℕ
word_at k words = get_or words k []

one_replay : (p q : Bool) (r s : Option FrameRange) → Fits (Replay p r) → Fits (Replay q s) → words_of (Replay p r) ≡ words_of (Replay q s) → Replay q s ≡ Replay p r
one_replay false false None None of_r of_s is = refl
one_replay false true None None of_r of_s is = absurd (let n = ap length is in omega (arith, n))
one_replay true false None None of_r of_s is = absurd (let n = ap length is in omega (arith, n))
one_replay true true None None of_r of_s is = refl
one_replay false false (Some r) None of_r of_s is = absurd (let n = ap length is in omega (arith, n))
one_replay false true (Some r) None of_r of_s is = absurd (let n = ap length is in omega (arith, n))
one_replay true false (Some r) None of_r of_s is = absurd (let n = ap length is in omega (arith, n))
one_replay true true (Some r) None of_r of_s is = absurd (let n = ap length is in omega (arith, n))
one_replay false false None (Some s) of_r of_s is = absurd (let n = ap length is in omega (arith, n))
one_replay false true None (Some s) of_r of_s is = absurd (let n = ap length is in omega (arith, n))
one_replay true false None (Some s) of_r of_s is = absurd (let n = ap length is in omega (arith, n))
one_replay true true None (Some s) of_r of_s is = absurd (let n = ap length is in omega (arith, n))
one_replay false false (Some r) (Some s) of_r of_s is = ap (λ x. Replay false (Some x)) (one_range r s of_r of_s (ap (word_at 2) is))
one_replay false true (Some r) (Some s) of_r of_s is = absurd (let n = ap length is in omega (arith, n))
one_replay true false (Some r) (Some s) of_r of_s is = absurd (let n = ap length is in omega (arith, n))
one_replay true true (Some r) (Some s) of_r of_s is = ap (λ x. Replay true (Some x)) (one_range r s of_r of_s (ap (word_at 3) is))

-- words that are those of two commands
pub one_command : (c other : Command) → Fits c → Fits other → words_of c ≡ words_of other → other ≡ c
one_command Info Info of_c of_other is = refl
one_command (Replay p r) (Replay q s) of_c of_other is = one_replay p q r s of_c of_other is
one_command (Trim r) (Trim s) of_c of_other is = ap Trim (one_range r s of_c of_other (ap (word_at 1) is))
one_command (Lean r) (Lean s) of_c of_other is = ap Lean (one_range r s of_c of_other (ap (word_at 1) is))
one_command (Make n) (Make m) of_c of_other is = ap Make (decimal_injective m n (omega (arith, of_other.1)) (omega (arith, of_c.1)) (sym (ap (word_at 1) is)))
one_command Upgrade Upgrade of_c of_other is = refl
one_command Lists Lists of_c of_other is = refl
one_command Unlists Unlists of_c of_other is = refl
one_command Help Help of_c of_other is = refl
one_command Version Version of_c of_other is = refl
one_command c other of_c of_other is = absurd (let n = ap letter is in omega (arith, n))

-- the command that words are found to name is the only one
pub only_one : (words : List (List ℕ)) (found : Option Command) → IfSome found (λ c. (words ≡ words_of c) × Fits c)
    → IfSome found (λ c. (other : Command) → Fits other → words ≡ words_of other → other ≡ c)
only_one words None some = tt
only_one words (Some c) some = λ other fits is. one_command c other some.1 fits (sym some.0 ∙ is)

abbrev recording_of : Bool → Option FrameRange → Recording
recording_of gathers frames = record { gathers = gathers; frames = frames }

-- two recordings of frames, each with its writes gathered or not
abbrev IsOneRecording : Bool → Bool → Option FrameRange → Option FrameRange → Type 0
IsOneRecording p q r s = FitsFrames r → FitsFrames s → recording_words (recording_of p r) ≡ recording_words (recording_of q s)
    → recording_of q s ≡ recording_of p r

-- the words that ask for a range are none or two
two_words : (r : Option FrameRange) → (k : ℕ) × (length (frames_words r) ≡ k + k)
two_words None = (0, refl)
two_words (Some r) = (1, refl)

one_recording : (p q : Bool) (r s : Option FrameRange) → IsOneRecording p q r s
one_recording false false None None of_r of_s is = refl
one_recording true true None None of_r of_s is = refl
one_recording false false (Some r) (Some s) of_r of_s is = ap (λ x. recording_of false (Some x)) (one_range r s of_r of_s (ap (word_at 2) is))
one_recording true true (Some r) (Some s) of_r of_s is = ap (λ x. recording_of true (Some x)) (one_range r s of_r of_s (ap (word_at 3) is))
one_recording false true r s of_r of_s is = absurd (let (k, a) = two_words r in let (j, b) = two_words s in let n = ap length is in omega (arith, a, b, n))
one_recording true false r s of_r of_s is = absurd (let (k, a) = two_words r in let (j, b) = two_words s in let n = ap length is in omega (arith, a, b, n))
one_recording p q r s of_r of_s is = absurd (let n = ap length is in omega (arith, n))

-- the recording that words are found to name is the only one
pub only_recording : (words : List (List ℕ)) (found : Option Recording) → IfSome found (λ r. (words ≡ recording_words r) × FitsFrames r.frames)
    → IfSome found (λ r. (other : Recording) → FitsFrames other.frames → words ≡ recording_words other → other ≡ r)
only_recording words None some = tt
only_recording words (Some r) some = λ other fits is. one_recording r.gathers other.gathers r.frames other.frames some.1 fits (sym some.0 ∙ is)
