use Rattle.std.proofs.Common.{◌≡◌, ◌++◌, map, take}
use Rattle.link_merge.specs.Kids.{term_kids}
use Rattle.link_merge.specs.Parted.{lists_of}
use Rattle.link_merge.proofs.kids.add_type_kids.Given as goal

abbrev pub invariant-loop-id : goal.invariant-loop-id
invariant-loop-id l = lists_of l.lists.items ≡ lists_of l.fn.lists.items ++ map (term_kids l.types l.tags) (take l.id l.unit.terms)
