use Rattle.link_merge.specs.Tags.{TagsUpTo}
use Rattle.link_merge.proofs.tags.all_tags.Given as goal

abbrev pub invariant-loop-unit : goal.invariant-loop-unit
invariant-loop-unit l = TagsUpTo l.units l.starts l.unit 0 l.list.items
