-- What the lists of nodes are lists of.
use Rattle.std.specs.Prelude.{ℕ, List}
use Rattle.core_tree.specs.declared.node.Node.{Node}
use Rattle.core_tree.specs.declared.under.Group.{Group}
use Rattle.core_tree.specs.declared.under.Group.TheVariants.{Children, Entities}
use Rattle.core_tree.specs.Range.{listed_in}

abbrev pub group_of : Group → Node → List ℕ
group_of Children node = node.children
group_of Entities node = listed_in node
