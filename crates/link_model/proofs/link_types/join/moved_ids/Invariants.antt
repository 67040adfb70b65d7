use Rattle.std.proofs.Common.{◌≡◌, map, take}
use Rattle.link_model.specs.link_types.Moved.{moved_id}
use Rattle.link_model.proofs.link_types.join.moved_ids.Given as goal

abbrev pub invariant-loop-id : goal.invariant-loop-id
invariant-loop-id l = l.list.items ≡ map (moved_id l.start) (take l.id-index l.ids)
