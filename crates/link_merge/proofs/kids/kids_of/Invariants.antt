use Rattle.std.proofs.Common.{◌≡◌, ◌++◌, drop}
use Rattle.link_merge.specs.Kids.{types_kids, all_kids}
use Rattle.link_merge.specs.Parted.{lists_of}
use Rattle.link_merge.proofs.kids.kids_of.Given as goal

abbrev pub invariant-loop-u : goal.invariant-loop-u
invariant-loop-u l = lists_of l.lists.items ++ types_kids l.nodes l.tag_starts l.u (drop l.u l.units) ≡ all_kids l.units l.nodes l.tag_starts l.tags l.counted
