use Rattle.carried_trees.specs.carried_types.Terms.{tag_type}
use Rattle.carried_trees.specs.carried_types.Members.{AreAdded, AreDone}
use Rattle.carried_trees.proofs.carried_types.completing.complete_tags.Given as goal

-- so many tags have their members
abbrev pub invariant-loop-position : goal.invariant-loop-position
invariant-loop-position l = record {
  added : AreAdded (tag_type l.initial.types l.tags) l.walked l.initial.types l.types;
  done : AreDone (tag_type l.initial.types l.tags) l.walked l.types l.position;
}
