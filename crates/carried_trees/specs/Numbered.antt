-- The compound literals among nodes with the numbers of their entities.
use Rattle.std.specs.Prelude.{ℕ, ◌≡◌, ◌+◌, List, length}
use Rattle.core_tree.specs.declared.node.Node.{Node}
use Rattle.tree_reads.specs.leaf_maps.Numbers.{number_at}
use Rattle.carried_trees.specs.declared.literals.OwnLiterals.{OwnLiterals}
use Rattle.carried_trees.specs.Literals.{AreFound, literal_number}

-- those among the first so many nodes are listed, and the map has their numbers
pub record AreNumbered (nodes : List Node) (from first count : ℕ) (own : OwnLiterals) : Type 0 where
  pub found : AreFound nodes from first count own.list.items
  pub numbers : (leaf : ℕ) → number_at own.numbers leaf ≡ literal_number first own.list.items leaf
  pub next : own.next ≡ first + length own.list.items
