use Rattle.std.proofs.Common.{◌≡◌, map, take}
use Rattle.link_merge.specs.Kids.{tag_kids}
use Rattle.link_merge.specs.Parted.{lists_of}
use Rattle.link_merge.proofs.kids.all_tag_kids.Given as goal

abbrev pub invariant-loop-one : goal.invariant-loop-one
invariant-loop-one l = lists_of l.lists.items ≡ map (tag_kids l.units l.nodes l.tags) (take l.one-index l.counted)
