-- What the code's view of a unit or a program shows.
use Rattle.core_tree.specs.declared.trees.Trees.{Trees}
use Rattle.core_tree.specs.Typed.{CoreTrees}

abbrev pub core_of : Trees → CoreTrees
core_of t = record { types = t.types.now; nodes = t.nodes.now; entities = t.entities.now }
