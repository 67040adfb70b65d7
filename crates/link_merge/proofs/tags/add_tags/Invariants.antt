use Rattle.link_merge.specs.Tags.{TagsUpTo}
use Rattle.link_merge.proofs.tags.add_tags.Given as goal

abbrev pub invariant-loop-number : goal.invariant-loop-number
invariant-loop-number l = TagsUpTo l.units l.starts l.unit l.number l.list.items
