-- That the objects of a built unit's compound literals have no linkage.
use Rattle.std.specs.Prelude.{ℕ, List}
use Rattle.core_tree.specs.declared.node.Unit.{Unit}
use Rattle.core_tree.specs.Typed.{trees_of}
use Rattle.core_tree.specs.Range.{EachNode}
use Rattle.core_tree.specs.Linkages.{MakesUnlinked}
use Rattle.c_senses.specs.Tree.{Source}
use Rattle.core_node_laws.specs.built_unit_laws.built_laws.PassedOn.{IsBuilt}

abbrev pub LiteralsUnlinked : Type 0
LiteralsUnlinked =
    (s : Source) (name : List ℕ) (u : Unit)
    → IsBuilt s name u
    → EachNode (trees_of u) (λ n node. MakesUnlinked (trees_of u) node.kind)
