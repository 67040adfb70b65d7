use Rattle.link_merge.specs.Tags.{UnionsUpTo}
use Rattle.link_merge.proofs.tags.all_unions.Given as goal

abbrev pub invariant-loop-unit : goal.invariant-loop-unit
invariant-loop-unit l = UnionsUpTo l.units l.starts l.unit-index l.list.items
