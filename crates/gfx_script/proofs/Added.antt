-- A statement added to what has been read.
use Rattle.std.proofs.Common.{◌≡◌, ℕ, suc, ◌+◌, true, false, List, [], ◌∷◌, ◌++◌, map, reverse, length, Option, Some, None, Result, Ok, Err, refl, sym, ap, subst, ◌∙◌, arith}
use Rattle.std.specs.Result.{IsErrAnd}
use Rattle.std.proofs.lemmas.List.{map-append}
use Rattle.std.proofs.lemmas.Result.{err_from_is_err_and}
use Rattle.gfx_model.specs.Events.{Event}
use Rattle.gfx_script_model.specs.Ids.{map_ids}
use Rattle.gfx_script_model.specs.Statements.Form.{states}
use Rattle.gfx_script_model.specs.Scripts as script
use Rattle.gfx_script_model.specs.Scripts.{Outcome, reads, refuses, bad_line, structure, add_statement, in_order, phase_in_order, renumber}
use Rattle.gfx_grammar.specs.Reading.{◌>>=◌}
use Rattle.gfx_text_grammar.specs.Parsing.{form_outcome}
use Rattle.gfx_text_grammar.specs.StatementReading.{apart_of, read_statement}
use Rattle.gfx_text_grammar.specs.Styles.{named}
use Rattle.gfx_text_grammar.proofs.StatementLaws.{statement_takes}
use Rattle.gfx_script.specs.Answers.{IsRefusal, GivesOutcome}
use Rattle.gfx_script.specs.Line.{line_of, part_of, phases_of}
use Rattle.gfx_script.specs.Resolved.{number_for, made_texts, statement_by, seen_by}
use Rattle.gfx_script.specs.Staged.{is_staged, is_in_thread, thread_of_stage}
use Rattle.gfx_script.specs.State.{IsAt, open_phase, reading_of, stated_form}
use Rattle.gfx_script.specs.Stated.{Stated, name_fault, names_after, NumbersLine}
use Rattle.gfx_text.specs.Renumbered.{renumbered}
use Rattle.gfx_script.specs.declared.line.Line.{Line}
use Rattle.gfx_script.specs.declared.line_fault.LineFault.{LineFault}
use Rattle.gfx_script.specs.declared.line_fault.LineFault.TheVariants.{Refused, WantMemory}
use Rattle.gfx_script.specs.declared.numbering.Place.{Place}
use Rattle.gfx_script.specs.declared.reading.Stage.{Stage}
use Rattle.gfx_script.specs.declared.reading.Stage.TheVariants.{NoPhase, InPhase, InThread}
use Rattle.gfx_script.specs.declared.reading.Reading.{Reading}
use Rattle.gfx_script.proofs.AddedLine.{outcome_by, with_line, added}
use Rattle.gfx_script.proofs.Order.{phases_pushed, parts_pushed}
use Rattle.gfx_script.proofs.Standing.{none, first_part}
use Rattle.gfx_script.proofs.Stating.{statement_numbered, made_names}
use Rattle.gfx_script.proofs.Turned.{line_pushed}

-- ---- what is read of the tokens

bind_none : (o : Option Event) (g : Event → Event) → (o >>= λ e. Some (g e)) ≡ None → o ≡ None
bind_none None g h = refl
bind_none (Some e) g h = absurd cc

-- nothing that is read is no statement
pub nothing_stated : (f : ℕ → ℕ) (number : ℕ) (r : script.Reading) (tokens : List (List ℕ)) → statement_by (renumbered f named) r.minor tokens ≡ None
    → form_outcome number r (stated_form r.minor tokens) ≡ refuses bad_line
nothing_stated f number r tokens h =
    ap (λ o. form_outcome number r (o >>= λ e. Some (states e))) (bind_none (read_statement r.minor tokens) (map_ids f) (sym (statement_numbered f r.minor tokens) ∙ h))

-- the event of what is read
pub record IsRead (f : ℕ → ℕ) (m : ℕ) (tokens : List (List ℕ)) (seen : Event) : Type 0 where
  pub event : Event
  pub read : read_statement m tokens ≡ Some event
  pub same : seen ≡ map_ids f event

bind_some : (o : Option Event) (f : ℕ → ℕ) (m : ℕ) (tokens : List (List ℕ)) (seen : Event) → read_statement m tokens ≡ o → (o >>= λ e. Some (map_ids f e)) ≡ Some seen → IsRead f m tokens seen
bind_some None f m tokens seen e h = absurd cc
bind_some (Some event) f m tokens seen e h = record { event = event; read = e; same = let same : map_ids f event ≡ seen = cc in sym same }

pub what_is_read : (f : ℕ → ℕ) (m : ℕ) (tokens : List (List ℕ)) (seen : Event) → statement_by (renumbered f named) m tokens ≡ Some seen → IsRead f m tokens seen
what_is_read f m tokens seen h = bind_some (read_statement m tokens) f m tokens seen refl (sym (statement_numbered f m tokens) ∙ h)

-- it is a statement, with what it defines
pub is_stated : (at : Place) (names : List script.Defined) (tokens texts : List (List ℕ)) (seen : Event) (r : IsRead (number_for at.phase at.thread names) at.minor tokens seen)
    → texts ≡ made_texts (apart_of tokens).0 → Stated at names texts seen r.event
is_stated at names tokens texts seen r made =
    let s = statement_takes at.minor tokens r.event r.read in
    record { written = s.written; fits = s.fits; version = s.version; defined = made ∙ made_names at.minor tokens r.event s; numbered = r.same }

-- and what it gives
pub stated_gives : (f : ℕ → ℕ) (number : ℕ) (r : script.Reading) (tokens : List (List ℕ)) (seen : Event) (h : IsRead f r.minor tokens seen)
    → form_outcome number r (stated_form r.minor tokens) ≡ add_statement number h.event r r.phases
stated_gives f number r tokens seen h = ap (λ o. form_outcome number r (o >>= λ e. Some (states e))) h.read

-- the thread that is read
in_thread_is : (stage : Stage) → is_in_thread stage ≡ true → stage ≡ InThread (thread_of_stage stage)
in_thread_is NoPhase h = absurd cc
in_thread_is InPhase h = absurd cc
in_thread_is (InThread n) h = refl

-- ---- where it stands

-- under no thread
pub under_none : (number : ℕ) (e : Event) (r : Reading) → is_in_thread r.stage ≡ false → is_staged r.stage r.phases.items r.parts.items r.lines.items ≡ true
    → add_statement number e (reading_of r) (reading_of r).phases ≡ refuses structure
under_none number e r outside staged = by r.stage outside staged
  where
    by : (stage : Stage) → is_in_thread stage ≡ false → is_staged stage r.phases.items r.parts.items r.lines.items ≡ true
        → add_statement number e (reading_of r) (in_order (phases_of r.phases.items ++ open_phase stage r.parts.items r.lines.items)) ≡ refuses structure
    by NoPhase outside staged =
        ap (λ z. add_statement number e (reading_of r) (in_order (phases_of z ++ []))) (none r.phases.items (first_part _ _ (first_part _ _ staged)))
    by InPhase outside staged =
        ap (λ z. add_statement number e (reading_of r) (in_order (phases_of r.phases.items ++ (map part_of z ++ []) ∷ []))) (none r.parts.items (first_part _ _ staged))
        ∙ ap (add_statement number e (reading_of r)) (phases_pushed (phases_of r.phases.items) [])
    by (InThread n) outside staged = absurd cc

-- ---- the line

-- the phases where a thread is read
in_thread : (phases : List (List script.Part)) (parts : List script.Part) (thread : ℕ) (lines : List script.Line)
    → in_order (phases ++ (parts ++ record { thread = thread; lines = lines } ∷ []) ∷ []) ≡ (record { thread = thread; lines = reverse lines } ∷ phase_in_order parts) ∷ in_order phases
in_thread phases parts thread lines =
    phases_pushed phases (parts ++ record { thread = thread; lines = lines } ∷ [])
    ∙ ap (λ (z : List script.Part). z ∷ in_order phases) (parts_pushed parts (record { thread = thread; lines = lines }))

module _ (at : Place) (e : Event) (r : Reading) (stage : r.stage ≡ InThread at.thread) (minor : at.minor ≡ r.minor) (phase : at.phase ≡ length (reading_of r).phases) where
  abbrev here : script.Part
  here = record { thread = at.thread; lines = reverse (map line_of r.lines.items) }

  abbrev beside : List script.Part
  beside = phase_in_order (map part_of r.parts.items)

  abbrev before : List (List script.Part)
  before = in_order (phases_of r.phases.items)

  phases_are : (reading_of r).phases ≡ (here ∷ beside) ∷ before
  phases_are =
      (λ i. in_order (phases_of r.phases.items ++ open_phase (stage i) r.parts.items r.lines.items))
      ∙ in_thread (phases_of r.phases.items) (map part_of r.parts.items) at.thread (map line_of r.lines.items)

  gives : add_statement at.number e (reading_of r) (reading_of r).phases ≡ outcome_by (name_fault at r.names e) (with_line at e (reading_of r) here beside before)
  gives =
      ap (add_statement at.number e (reading_of r)) phases_are
      ∙ added at e (reading_of r) here beside before minor
      (let more : length (reading_of r).phases ≡ length before + 1 = ap length phases_are ∙ (let e : suc (length before) ≡ length before + 1 = omega arith in e) in phase ∙ more) refl

  -- a line whose names have a fault is refused
  pub line_refused : (result : Result Line LineFault) (after : List script.Defined) (fault : LineFault) → result ≡ Err fault → NumbersLine at r.names e result after
      → IsRefusal (add_statement at.number e (reading_of r) (reading_of r).phases) fault
  line_refused result after (Refused kind) is h =
      gives ∙ ap (λ o. outcome_by o (with_line at e (reading_of r) here beside before)) (subst (λ z. NumbersLine at r.names e z after) is h)
  line_refused result after WantMemory is h = tt

  -- another line is added
  pub line_added : (line : Line) (names : List script.Defined) (lines : List Line) → NumbersLine at r.names e (Ok line) names → lines ≡ r.lines.items ++ line ∷ []
      → add_statement at.number e (reading_of r) (reading_of r).phases
      ≡ reads (record { minor = r.minor; phases = in_order (phases_of r.phases.items ++ open_phase r.stage r.parts.items lines); names = names })
  line_added line names lines h more =
      let new : script.Line = record { number = at.number; event = map_ids (renumber (names_after at r.names e)) e } in
      gives ∙ ap (λ o. outcome_by o (with_line at e (reading_of r) here beside before)) h.0
      ∙ (λ i. reads (record {
        minor = r.minor;
        phases = sym (line_pushed (phases_of r.phases.items) (map part_of r.parts.items) at.thread (map line_of r.lines.items) new) i;
        names = names_after at r.names e;
      }))
      ∙ (λ i. reads (record {
        minor = r.minor;
        phases = in_order (phases_of r.phases.items ++ (map part_of r.parts.items ++ record { thread = at.thread; lines = map line_of r.lines.items ++ sym h.2 i ∷ [] } ∷ []) ∷ []);
        names = sym h.1 i;
      }))
      ∙ (λ i. reads (record {
        minor = r.minor;
        phases = in_order (phases_of r.phases.items ++ (map part_of r.parts.items ++ record { thread = at.thread; lines = sym (ap (map line_of) more ∙ map-append line_of r.lines.items (line ∷ [])) i } ∷ []) ∷ []);
        names = names;
      }))
      ∙ (λ i. reads (record {
        minor = r.minor;
        phases = in_order (phases_of r.phases.items ++ open_phase (sym stage i) r.parts.items lines);
        names = names;
      }))

-- ---- what was read of the tokens

module _ (at : Place) (r : Reading) (tokens : List (List ℕ)) (seen : Event) (place : IsAt r at) (read : seen_by at.phase at.thread r.names at.minor tokens ≡ Some seen) where
  abbrev f : ℕ → ℕ
  f = number_for at.phase at.thread r.names

  is : IsRead f r.minor tokens seen
  is = what_is_read f r.minor tokens seen (ap (λ m. seen_by at.phase at.thread r.names m tokens) (sym place.minor) ∙ read)

  outcome : form_outcome at.number (reading_of r) (stated_form r.minor tokens) ≡ add_statement at.number is.event (reading_of r) (reading_of r).phases
  outcome = stated_gives f at.number (reading_of r) tokens seen is

  -- it is under no thread
  pub stands_outside : is_in_thread r.stage ≡ false → is_staged r.stage r.phases.items r.parts.items r.lines.items ≡ true
      → form_outcome at.number (reading_of r) (stated_form r.minor tokens) ≡ refuses structure
  stands_outside h staged = outcome ∙ under_none at.number is.event r h staged

  module _ (texts : List (List ℕ)) (made : texts ≡ made_texts (apart_of tokens).0) where
    stated : Stated at r.names texts seen is.event
    stated = is_stated at r.names tokens texts seen (subst (λ m. IsRead f m tokens seen) (sym place.minor) is) made

    -- it is a statement
    pub is_statement : (e : Event) × Stated at r.names texts seen e
    is_statement = (is.event, stated)

    module _ (inside : is_in_thread r.stage ≡ true) where
      stage : r.stage ≡ InThread at.thread
      stage = in_thread_is r.stage inside ∙ ap InThread (sym place.thread)

      -- its names have a fault
      pub line_fails : (result : Result (Unit {0}) LineFault) (next : script.Reading) (names : List script.Defined) (fault : LineFault)
          → ((e : Event) → Stated at r.names texts seen e → NumbersLine at r.names e (Err fault) names) → IsErrAnd result (λ f. f ≡ fault)
          → GivesOutcome (form_outcome at.number (reading_of r) (stated_form r.minor tokens)) next result
      line_fails result next names fault numbered out =
          let p = err_from_is_err_and result out in
          subst (λ (o : Outcome). GivesOutcome o next result) (sym outcome)
          (subst (λ (z : Result (Unit {0}) LineFault). GivesOutcome (add_statement at.number is.event (reading_of r) (reading_of r).phases) next z) (sym (p.1 ∙ ap (λ f. Err f) p.2))
          (line_refused at is.event r stage place.minor place.phase (Err fault) names fault refl (numbered is.event stated)))

      -- or it is added
      pub line_goes : (line : Line) (names : List script.Defined) (lines : List Line) → ((e : Event) → Stated at r.names texts seen e → NumbersLine at r.names e (Ok line) names)
          → lines ≡ r.lines.items ++ line ∷ []
          → form_outcome at.number (reading_of r) (stated_form r.minor tokens)
          ≡ reads (record { minor = r.minor; phases = in_order (phases_of r.phases.items ++ open_phase r.stage r.parts.items lines); names = names })
      line_goes line names lines numbered more = outcome ∙ line_added at is.event r stage place.minor place.phase line names lines (numbered is.event stated) more
