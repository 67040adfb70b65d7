use Rattle.std.proofs.Common.{◌≡◌, map, take}
use Rattle.carried_trees.specs.carried_types.Terms.{id_in}
use Rattle.carried_trees.proofs.carried_types.types.moved_ids.Given as goal

abbrev pub invariant-loop-id : goal.invariant-loop-id
invariant-loop-id l = l.new.items ≡ map (id_in l.ids) (take l.id-index l.list)
