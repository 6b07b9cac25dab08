-- A call whose fields were spelled is read again.
use Rattle.std.proofs.Common.{◌≡◌, ℕ, List, Some, unwrap_or, ap, sym, ◌∙◌}
use Rattle.gfx_model.specs.Events.{Event}
use Rattle.gfx_model.specs.Events.Event.{EndSection}
use Rattle.gfx_model.specs.Spelling.{HasSpelling, spelling, id_of, type_of}
use Rattle.gfx_grammar.specs.Rows.{read_event, read_call}
use Rattle.gfx_grammar.specs.Laws.{SpelledIsRead}
use Rattle.gfx_commands.specs.Recorded.{event_with, AreFields}

module _ (id : ℕ) (params : List ℕ) (e : Event) (number : id ≡ id_of e) (kind : type_of e ≡ 4) (fits : HasSpelling 1 e) (same : params ≡ spelling 1 e) (law : SpelledIsRead) where
  read : read_call 1 id params ≡ Some e
  read = ap (λ n. read_event 1 4 n params) number ∙ sym (ap (λ k. read_event 1 k (id_of e) params) kind) ∙ law 1 params e (record { fits = fits; same = same })

  pub its_event : event_with id params ≡ e
  unfolding event_with
  its_event = ap (λ o. unwrap_or o (EndSection 0)) read

  pub are_fields : AreFields id params
  are_fields = record { number = number ∙ ap id_of (sym its_event); read = read ∙ ap Some (sym its_event); spelled = same ∙ ap (spelling 1) (sym its_event) }
