use Rattle.std.proofs.Common.{rules}
use Rattle.std.proofs.lemmas.List.Sorted.{answers_always}
use Rattle.gfx_table.proofs.Places.{searched}
use Rattle.gfx_table.proofs.spill.search.Goals as goal

pub returns-clause-found : goal.returns-clause-found
returns-clause-found g c =
    let facts = c.binary_search_by_key.ensures in
    let by_id = facts.position (λ entry. entry.0) (answers_always _ _ _ (λ f a r h called. search rules)) in
    (searched c.args.entries.now c.args.id c.requires _ facts.bound by_id).found

pub returns-clause-missing : goal.returns-clause-missing
returns-clause-missing g c =
    let facts = c.binary_search_by_key.ensures in
    let by_id = facts.position (λ entry. entry.0) (answers_always _ _ _ (λ f a r h called. search rules)) in
    (searched c.args.entries.now c.args.id c.requires _ facts.bound by_id).missing
