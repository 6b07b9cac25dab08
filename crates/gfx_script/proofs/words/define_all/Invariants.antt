use Rattle.std.proofs.Common.{map}
use Rattle.gfx_script.proofs.NamePlaces.{Defined_so_far}
use Rattle.gfx_script.proofs.words.define_all.Given as goal

-- the names so far are defined, and none of them was taken
abbrev pub invariant-words : goal.invariant-words
invariant-words l = Defined_so_far l.phase l.thread l.fn.names l.names (map (λ t. t.now) l.words) l.word-index l.numbers.items
