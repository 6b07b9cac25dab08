-- What a text parses to is playable.
use Rattle.std.proofs.Common.{◌≡◌, ◌⊎◌, inl, inr, ℕ, ◌+◌, ◌≤◌, ◌^◌, ◌==◌, min, Bool, true, false, not, cond, List, [], ◌∷◌, map, length, Option, Some, None, sym, refl, ap, ◌∙◌, subst, arith, append-nil, length-append}
use Rattle.std.specs.Prelude.{◌||◌, ◌&&◌, nat_lt, nat_le}
use Rattle.std.specs.List.{AllByRecursion, list_all, list_any, onto_first}
use Rattle.std.proofs.lemmas.Bool.{or_parts, ltb-false}
use Rattle.std.proofs.lemmas.List.{length-map}
use Rattle.gfx_model.specs.Limits.{max_line, max_lines, max_script, max_phases}
use Rattle.gfx_model.specs.Events.{Event}
use Rattle.gfx_script_model.specs.Ids.{uses_of, defines_of, map_ids}
use Rattle.gfx_script_model.specs.Names.{name_of}
use Rattle.gfx_script_model.specs.Scripts.{Kind, Line, Part, Defined, Reading, reads, refuses, parses, fails, may_use, is_known, repeats, without_0, define, renumber, has_thread, begin_thread, add_line, add_statement, outcome_of, is_printable, is_phase, early_fault, IsLateOutcome, IsOutcome, part_in_order, phase_in_order, in_order, through_line, ParsesFrom, at_first, too_many, bad_byte, line_too_long, structure, name_unknown, name_taken, bad_line}
use Rattle.gfx_script_model.specs.Statements.{Form, IsForm, IsStatement, lines_of, tokens_of, is_empty}
use Rattle.gfx_script_model.specs.Statements.Form.{skips, sets_version, begins_phase, begins_thread, states}
use Rattle.gfx_run_law.specs.Pieces.{AreApart}
use Rattle.gfx_script_law.specs.Playable.{HasBlocks, AreNumbered, IsPlayable, ParsedIsPlayable, names_of}
use Rattle.gfx_script_law.proofs.Numbers.{names-count}
use Rattle.gfx_script_law.proofs.Orders.{so-far, phase-begins, thread-begins, line-added, numbered-push, all-push, turned-apart, all-turned}
use Rattle.gfx_script_law.proofs.Sizes.{texts}
use Rattle.gfx_script_law.proofs.Statements.{token-texts, few-names, has-blocks, is-numbered, defined-count}

abbrev Low : Part → Type 0
Low p = p.thread ≤ 63

-- what was read so far, with the newest first, is playable
record Plays (m : ℕ) (phases : List (List Part)) (names : ℕ) : Type 0 where
  version : (m ≡ 1) ⊎ (m ≡ 2)
  apart : AllByRecursion AreApart phases
  threads : AllByRecursion (AllByRecursion Low) phases
  numbered : AreNumbered 1 (so-far phases)
  count : names ≡ length (names_of (so-far phases))
  blocks : AllByRecursion (HasBlocks m) (so-far phases)

abbrev PlaysIn : Reading → Type 0
PlaysIn r = Plays r.minor r.phases (length r.names)

-- ---- one line

-- other phases with the same lines
same-lines : (m : ℕ) (phases phases' : List (List Part)) (names : ℕ) → Plays m phases names → so-far phases' ≡ so-far phases → AllByRecursion AreApart phases' → AllByRecursion (AllByRecursion Low) phases' → Plays m phases' names
same-lines m phases phases' names p same apart threads = record {
  version = p.version;
  apart = apart;
  threads = threads;
  numbered = subst (AreNumbered 1) (sym same) p.numbered;
  count = p.count ∙ ap (λ ls. length (names_of ls)) (sym same);
  blocks = subst (AllByRecursion (HasBlocks m)) (sym same) p.blocks;
}

-- no phase, in either version
empty-plays : (m : ℕ) → (m ≡ 1) ⊎ (m ≡ 2) → Plays m [] 0
empty-plays m version = record { version = version; apart = tt; threads = tt; numbered = tt; count = refl; blocks = tt }

is-read : (r next : Reading) → reads r ≡ reads next → r ≡ next
is-read r next e = cc

refused-no : (kind : Kind) (next : Reading) → refuses kind ≡ reads next → ⊥
refused-no kind next e = cc

module _ (through before : ℕ) (line : List ℕ) (short : length line ≤ 2 ^ 20) where
  -- what is told of what a line gives
  abbrev Goes : Reading → Reading → Type 0
  Goes r next = PlaysIn next × (length next.names ≤ length r.names + length line)

  stays : (r : Reading) → PlaysIn r → Goes r r
  stays r p = (p, omega arith)

  thread-goes : (n : ℕ) (r next : Reading) (phases : List (List Part)) → r.phases ≡ phases → n ≤ 63 → PlaysIn r → begin_thread n r phases ≡ reads next → Goes r next
  thread-goes n r next [] is few p e = absurd (refused-no structure next e)
  thread-goes n r next (parts ∷ phases) is few p e = by (has_thread n parts) refl e
    where
      here : Plays r.minor (parts ∷ phases) (length r.names)
      here = subst (λ z. Plays r.minor z (length r.names)) is p

      by : (b : Bool) → has_thread n parts ≡ b → cond b (refuses structure) (reads (record r { phases = (record { thread = n; lines = [] } ∷ parts) ∷ phases })) ≡ reads next → Goes r next
      by true there e = absurd (refused-no structure next e)
      by false free e = subst (Goes r) (is-read (record r { phases = (record { thread = n; lines = [] } ∷ parts) ∷ phases }) next e) (
        same-lines r.minor (parts ∷ phases) ((record { thread = n; lines = [] } ∷ parts) ∷ phases) (length r.names) here (thread-begins n parts phases)
            ((free, here.apart.0), here.apart.1) ((few, here.threads.0), here.threads.1),
        omega arith,
      )

  module _ (number : ℕ) (e : Event) (r : Reading) (part : Part) (parts : List Part) (phases : List (List Part)) (s : IsStatement r.minor (tokens_of line) e) where
    abbrev defined : List Defined
    defined = define (length phases + 1) part.thread r.names (map name_of (defines_of r.minor e))

    abbrev added : Line
    added = record { number = number; event = map_ids (renumber defined) e }

    abbrev result : Reading
    result = record { minor = r.minor; phases = (record part { lines = added ∷ part.lines } ∷ parts) ∷ phases; names = defined }

    abbrev Known : Bool → Type 0
    Known a = list_all (is_known r.names (may_use (length phases + 1) part.thread)) (map name_of (without_0 (uses_of r.minor e))) ≡ a

    abbrev Taken : Bool → Type 0
    Taken b = (list_any (is_known r.names (λ d. true)) (map name_of (defines_of r.minor e)) || repeats (map name_of (defines_of r.minor e))) ≡ b

    tokens-short : texts (tokens_of line) ≤ 2 ^ 20
    tokens-short = let a = token-texts line in omega arith

    names-now : length defined ≡ length r.names + length (defines_of r.minor e)
    names-now =
        length-append r.names (map (λ t. record { name = t; phase = length phases + 1; thread = part.thread }) (map name_of (defines_of r.minor e)))
        ∙ ap (λ k. length r.names + k) (length-map (map name_of (defines_of r.minor e)) (λ t. let d : Defined = record { name = t; phase = length phases + 1; thread = part.thread } in d) ∙ length-map (defines_of r.minor e) name_of)

    result-plays : Plays r.minor ((part ∷ parts) ∷ phases) (length r.names) → Known true → Taken false → PlaysIn result
    result-plays here known new =
        let same = line-added added part parts phases in
        let one = is-numbered r.minor (tokens_of line) e s (length phases + 1) part.thread r.names number known new in
        let next-is : 1 + length r.names ≡ 1 + length (names_of (so-far ((part ∷ parts) ∷ phases))) = ap (λ k. 1 + k) here.count in
        let single : length (names_of (added ∷ [])) ≡ length (defines_of r.minor e) = ap length (append-nil (defines_of 2 added.event)) ∙ defined-count r.minor (tokens_of line) e s (length phases + 1) part.thread r.names number in
        record {
          version = here.version;
          apart = (here.apart.0, here.apart.1);
          threads = (here.threads.0, here.threads.1);
          numbered = subst (AreNumbered 1) (sym same) (numbered-push 1 (so-far ((part ∷ parts) ∷ phases)) added here.numbered (subst (λ k. AreNumbered k (added ∷ [])) next-is one));
          count = names-now ∙ ((λ i. here.count i + sym single i) ∙ sym (ap (λ ls. length (names_of ls)) same ∙ names-count (so-far ((part ∷ parts) ∷ phases)) (added ∷ [])));
          blocks = subst (AllByRecursion (HasBlocks r.minor)) (sym same) (all-push (HasBlocks r.minor) (so-far ((part ∷ parts) ∷ phases)) added here.blocks (has-blocks r.minor (tokens_of line) e s number (renumber defined) tokens-short));
        }

    line-by : (next : Reading) → Plays r.minor ((part ∷ parts) ∷ phases) (length r.names) → (a : Bool) → Known a → (b : Bool) → Taken b
        → cond (not a) (refuses name_unknown) (cond b (refuses name_taken) (reads result)) ≡ reads next → Goes r next
    line-by next here false unknown b taken given = absurd (refused-no name_unknown next given)
    line-by next here true known true taken given = absurd (refused-no name_taken next given)
    line-by next here true known false new given = subst (Goes r) (is-read result next given)
        (result-plays here known new, (let a = names-now in let b = few-names r.minor (tokens_of line) e s in let c = token-texts line in omega arith))

  line-goes : (number : ℕ) (e : Event) (r next : Reading) (part : Part) (parts : List Part) (phases : List (List Part)) → r.phases ≡ (part ∷ parts) ∷ phases
      → IsStatement r.minor (tokens_of line) e → PlaysIn r → add_line number e r part parts phases ≡ reads next → Goes r next
  line-goes number e r next part parts phases is s p given =
      line-by number e r part parts phases s next (subst (λ z. Plays r.minor z (length r.names)) is p)
      (list_all (is_known r.names (may_use (length phases + 1) part.thread)) (map name_of (without_0 (uses_of r.minor e)))) refl
      (list_any (is_known r.names (λ d. true)) (map name_of (defines_of r.minor e)) || repeats (map name_of (defines_of r.minor e))) refl given

  statement-goes : (number : ℕ) (e : Event) (r next : Reading) (phases : List (List Part)) → r.phases ≡ phases → IsStatement r.minor (tokens_of line) e → PlaysIn r → add_statement number e r phases ≡ reads next → Goes r next
  statement-goes number e r next [] is s p given = absurd (refused-no structure next given)
  statement-goes number e r next ([] ∷ phases) is s p given = absurd (refused-no structure next given)
  statement-goes number e r next ((part ∷ parts) ∷ phases) is s p given = line-goes number e r next part parts phases is s p given

  form-goes : (number : ℕ) (r next : Reading) (f : Form) → IsForm r.minor (tokens_of line) f → PlaysIn r → outcome_of number r f ≡ reads next → Goes r next
  form-goes number r next skips is p given = subst (Goes r) (is-read r next given) (stays r p)
  form-goes number r next sets_version is p given = by (r.minor == 1) (r.phases) refl given
    where
      by : (b : Bool) (phases : List (List Part)) → r.phases ≡ phases → cond (b && is_empty phases) (reads (record r { minor = 2 })) (refuses structure) ≡ reads next → Goes r next
      by false phases none e = absurd (refused-no structure next e)
      by true (q ∷ qs) none e = absurd (refused-no structure next e)
      by true [] none e =
          let zero-names : length r.names ≡ 0 = (subst (λ z. Plays r.minor z (length r.names)) none p).count in
          subst (Goes r) (is-read (record r { minor = 2 }) next e) (subst (λ (z : List (List Part) × ℕ). Plays 2 z.0 z.1) (λ i. (sym none i, sym zero-names i)) (empty-plays 2 (inr refl)), omega arith)
  form-goes number r next begins_phase is p given =
      subst (Goes r) (is-read (record r { phases = [] ∷ r.phases }) next given)
      (same-lines r.minor r.phases ([] ∷ r.phases) (length r.names) p (phase-begins r.phases) (tt, p.apart) (tt, p.threads), omega arith)
  form-goes number r next (begins_thread n) is p given = thread-goes n r next r.phases refl is.0 p given
  form-goes number r next (states e) is p given = statement-goes number e r next r.phases refl is p given

-- ---- the limits

-- a line without an early fault is short, and so is the text through it
no-early : (number through : ℕ) (r : Reading) (line : List ℕ) → early_fault number through r line ≡ None → (length line ≤ 2 ^ 20) × (through ≤ 2 ^ 30)
no-early number through r line h =
    by (list_all is_printable line) (nat_lt max_line (length line)) refl (nat_lt max_lines number || nat_lt max_script through || is_phase (tokens_of line) && nat_le max_phases (length r.phases)) refl h
  where
    by : (a b : Bool) → nat_lt max_line (length line) ≡ b → (c : Bool) → (nat_lt max_lines number || nat_lt max_script through || is_phase (tokens_of line) && nat_le max_phases (length r.phases)) ≡ c
        → cond (not a) (Some bad_byte) (cond b (Some line_too_long) (cond c (Some too_many) None)) ≡ None → (length line ≤ 2 ^ 20) × (through ≤ 2 ^ 30)
    by false b eb c ec h = absurd cc
    by true true eb c ec h = absurd cc
    by true false eb true ec h = absurd cc
    by true false eb false ec h =
        let both = or_parts (nat_lt max_lines number || nat_lt max_script through) (is_phase (tokens_of line) && nat_le max_phases (length r.phases)) ec in
        let limits = or_parts (nat_lt max_lines number) (nat_lt max_script through) both.0 in
        (ltb-false max_line (length line) eb, ltb-false max_script through limits.1)

-- what a line gives
line-gives : (number through : ℕ) (r next : Reading) (line : List ℕ) → IsOutcome number through r line (reads next) → PlaysIn r
    → PlaysIn next × (length next.names ≤ length r.names + length line) × (through ≤ 2 ^ 30)
line-gives number through r next line h p = by (early_fault number through r line) refl h
  where
    by : (o : Option Kind) → early_fault number through r line ≡ o → IsLateOutcome number r line o (reads next) → PlaysIn next × (length next.names ≤ length r.names + length line) × (through ≤ 2 ^ 30)
    by (Some kind) is h = absurd (refused-no kind next (sym h))
    by None is (inl (f, form, given)) =
        let early = no-early number through r line is in
        let g = form-goes through 0 line early.0 number r next f form p (sym given) in (g.0, g.1, early.1)
    by None is (inr (none, given)) = absurd (refused-no bad_line next (sym given))

-- ---- a text

-- the bytes of lines, with a line feed each
line-bytes : List (List ℕ) → ℕ
line-bytes [] = 0
line-bytes (l ∷ ls) = length l + 1 + line-bytes ls

text-bytes : (text : List ℕ) → line-bytes (lines_of text) ≤ length text + 1
unfolding line-bytes
text-bytes [] = omega arith
text-bytes (c ∷ cs) = by (c == 10) (text-bytes cs)
  where
    onto : (ls : List (List ℕ)) → line-bytes ls ≤ length cs + 1 → line-bytes (onto_first c ls) ≤ length (c ∷ cs) + 1
    onto [] r = omega arith
    onto (l ∷ ls) r = omega arith

    by : (b : Bool) → line-bytes (lines_of cs) ≤ length cs + 1 → line-bytes (cond b ([] ∷ lines_of cs) (onto_first c (lines_of cs))) ≤ length (c ∷ cs) + 1
    by true r = omega arith
    by false r = onto (lines_of cs) r

parsed-is : (m m' : ℕ) (phases phases' : List (List Part)) → parses m phases ≡ parses m' phases' → (m ≡ m') × (phases ≡ phases')
parsed-is m m' phases phases' e = (cc, cc)

ends-playable : (r : Reading) → PlaysIn r → length r.names ≤ 2 ^ 30 → IsPlayable r.minor (in_order r.phases)
ends-playable r p few = record {
  version = p.version;
  apart = all-turned AreApart AreApart phase_in_order turned-apart r.phases p.apart;
  threads = all-turned (AllByRecursion Low) (AllByRecursion Low) phase_in_order (all-turned Low Low part_in_order (λ q low. low)) r.phases p.threads;
  numbered = p.numbered;
  few = let a = p.count in omega arith;
  blocks = p.blocks;
}

goes-on : (total number before : ℕ) (r : Reading) (lines : List (List ℕ)) (m : ℕ) (phases : List (List Part)) → ParsesFrom total number before r lines (parses m phases)
    → PlaysIn r → length r.names ≤ before → before ≤ 2 ^ 30 → before + line-bytes lines ≤ total + 1 → IsPlayable m phases
unfolding line-bytes
goes-on total number before r [] m phases h p few small fits =
    let is = parsed-is m r.minor phases (in_order r.phases) h in
    subst (λ (z : ℕ × List (List Part)). IsPlayable z.0 z.1) (λ i. (sym is.0 i, sym is.1 i)) (ends-playable r p (omega arith))
goes-on total number before r (l ∷ ls) m phases (reads next, given, rest) p few small fits =
    let through = through_line total before l in
    let g = line-gives number through r next l given p in
    let enough : length next.names ≤ min total (before + length l + 1) = (let a = g.1 in omega arith) in
    let left : min total (before + length l + 1) + line-bytes ls ≤ total + 1 = omega arith in
    goes-on total (number + 1) through next ls m phases rest g.0 enough g.2 left
goes-on total number before r (l ∷ ls) m phases (refuses kind, given, rest) p few small fits = let no : parses m phases ≡ fails number kind = rest in absurd cc

pub parsed_is_playable : ParsedIsPlayable
parsed_is_playable text m phases h =
    goes-on (length text) 1 0 at_first (lines_of text) m phases h (empty-plays 1 (inl refl)) (omega arith) (omega arith) (let a = text-bytes text in omega arith)
