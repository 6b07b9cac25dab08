use Rattle.std.proofs.Common.{[], ◌++◌, map, sym, ap, subst, ◌∙◌}
use Rattle.std.specs.List.{list_any}
use Rattle.gfx_model.specs.Events.{event_of}
use Rattle.gfx_script.specs.Puts.{AreWide}
use Rattle.gfx_script.specs.Resolved.{is_unknown}
use Rattle.gfx_script.proofs.Numbered.{seen_written, texts_named, unknown_fault, refused_names, numbered_line, as_many, made_spelled, finds, alike_written}
use Rattle.gfx_script.proofs.numbering.number_line.Goals as goal

pub uses-requires : goal.uses-requires
uses-requires c =
    seen_written c.args.at c.args.names.now (map (λ t. t.now) c.args.words.now) (event_of c.args.effect.now) c.requires.stated.0 c.requires.stated.1

pub returns-then-has_unknown : goal.returns-then-has_unknown
returns-then-has_unknown c = λ e s.
    unknown_fault c.args.at c.args.names.now (map (λ t. t.now) c.args.words.now) (event_of c.args.effect.now) e s (c.args.names.now ++ [])
    (finds c.args.at.phase c.args.at.thread c.args.names.now [] c.are_numbered.ensures.once c.are_numbered.ensures.few)
    (ap (list_any is_unknown) (sym c.in_ok-uses.ensures) ∙ sym c.has_unknown.ensures ∙ c.if-has_unknown.true)

pub define_all-requires : goal.define_all-requires
define_all-requires c =
    texts_named c.args.at c.args.names.now (map (λ t. t.now) c.args.words.now) (event_of c.args.effect.now) c.requires.stated.0 c.requires.stated.1

pub returns-in_err-defines : goal.returns-in_err-defines
returns-in_err-defines c = λ e s.
    refused_names c.args.at c.args.names.now (map (λ t. t.now) c.args.words.now) (event_of c.args.effect.now) e s c.are_numbered.ensures.once c.are_numbered.ensures.few
    (ap (list_any is_unknown) (sym c.in_ok-uses.ensures) ∙ sym c.has_unknown.ensures ∙ c.if-has_unknown.false)
    c.from_residual-in_err-defines.result _ _ c.in_err-defines.ensures c.from_residual-in_err-defines.ensures.1

pub renumber-requires-clause-written : goal.renumber-requires-clause-written
renumber-requires-clause-written c =
    seen_written c.args.at c.args.names.now (map (λ t. t.now) c.args.words.now) (event_of c.args.effect.now) c.requires.stated.0 c.requires.stated.1

pub renumber-requires-clause-defines : goal.renumber-requires-clause-defines
renumber-requires-clause-defines c =
    let defined = c.in_ok-defines.ensures in
    as_many c.args.at c.args.names.now (map (λ t. t.now) c.args.words.now) (event_of c.args.effect.now) c.requires.stated.0 c.requires.stated.1 _ c.in_ok-defines.defines defined.2

pub new-requires-clause-written : goal.new-requires-clause-written
new-requires-clause-written c =
    let h = c.in_ok-effect.ensures in
    alike_written (event_of c.args.effect.now) (event_of c.in_ok-effect.effect) h.others
    ∙ seen_written c.args.at c.args.names.now (map (λ t. t.now) c.args.words.now) (event_of c.args.effect.now) c.requires.stated.0 c.requires.stated.1

pub new-requires-clause-fits : goal.new-requires-clause-fits
new-requires-clause-fits c =
    made_spelled c.args.at c.args.names.now (map (λ t. t.now) c.args.words.now) (event_of c.args.effect.now) c.requires.stated.0 c.requires.stated.1
    c.in_ok-uses.uses c.in_ok-defines.defines (event_of c.in_ok-effect.effect) c.in_ok-effect.ensures
    (subst AreWide c.items.ensures c.are_wide.ensures) (subst AreWide c.items-2.ensures c.are_wide-2.ensures)

pub returns-in-Ok : goal.returns-in-Ok
returns-in-Ok c = λ e s.
    let line = c.in-Ok.ensures in
    let defined = c.in_ok-defines.ensures in
    numbered_line c.args.at c.args.names.now (map (λ t. t.now) c.args.words.now) (event_of c.args.effect.now) e s c.are_numbered.ensures.once c.are_numbered.ensures.few
    (ap (list_any is_unknown) (sym c.in_ok-uses.ensures) ∙ sym c.has_unknown.ensures ∙ c.if-has_unknown.false)
    c.in_ok-uses.uses c.in_ok-uses.ensures c.in_ok-defines.defines _ defined (event_of c.in_ok-effect.effect) c.in_ok-effect.ensures c.in-Ok.line line.0 line.1
