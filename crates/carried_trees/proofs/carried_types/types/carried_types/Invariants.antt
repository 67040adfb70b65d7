use Rattle.carried_trees.specs.carried_types.Terms.{AreTypes, IsGrown, tag_type}
use Rattle.carried_trees.proofs.carried_types.types.carried_types.Given as goal

-- so many types are carried
abbrev pub invariant-loop-id : goal.invariant-loop-id
invariant-loop-id l = record {
  grown : IsGrown l.fn.types l.types;
  carried : AreTypes (tag_type l.fn.types l.tags) l.old l.id l.ids.items l.given.items l.types;
}
