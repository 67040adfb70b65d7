use Rattle.carried_trees.specs.carried_types.Told.{IsPartUntold}
use Rattle.carried_trees.proofs.carried_types.telling.are_parts_told.Given as goal

-- none of so many tags is untold
abbrev pub invariant-loop-tag : goal.invariant-loop-tag
invariant-loop-tag l = IsPartUntold l.types l.given l.incomplete l.tag → ⊥
