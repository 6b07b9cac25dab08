use Rattle.std.proofs.Common.{◌∷◌, ◌++◌, ◌∙◌, [], sym, refl}
use Rattle.gfx_types.specs.declared.names.Kind.TheVariants as kind
use Rattle.gfx_model.specs.Table as table
use Rattle.gfx_model.specs.Checks as words
use Rattle.gfx_model.specs.Limits.{max_list_length}
use Rattle.gfx_rules.proofs.Joined.{stops, goes_on, joins}
use Rattle.gfx_rules.proofs.New.{news, rooms}
use Rattle.gfx_rules.proofs.rows_buffers.allocate_command_buffers.Goals as goal

pub returns-in-Some : goal.returns-in-Some
unfolding table.row_of
returns-in-Some g c = stops (g.A.Answers.view c.args.answers.now) (table.of_device kind.Pool c.args.device c.args.pool ++ table.between 1 max_list_length c.args.buffers.now) _ _ _ c.in-Some.ensures refl

pub returns-in-None : goal.returns-in-None
unfolding table.row_of
returns-in-None g c = let v = g.A.Answers.view c.args.answers.now in
    goes_on v (table.of_device kind.Pool c.args.device c.args.pool ++ table.between 1 max_list_length c.args.buffers.now) _ _ _ c.in-None.ensures
    (joins v (table.new_each [] c.args.buffers.now) (words.Check.room _ ∷ []) _ _ _ _
    (c.new_faults-fresh.ensures ∙ sym (news v [] c.args.buffers.now)) (c.room_fault.ensures ∙ sym (rooms v _)) c.first.ensures refl)
    refl
