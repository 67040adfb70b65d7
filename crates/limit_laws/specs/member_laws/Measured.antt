-- The sizes of values of units that are built.
use Rattle.std.specs.Prelude.{ℕ, List}
use Rattle.type_rules.specs.Sizes.{TagsHaveSizes}
use Rattle.core_tree.specs.declared.node.Unit.{Unit}
use Rattle.core_tree.specs.Typed.{trees_of}
use Rattle.core_tree.specs.Range.{EachNode}
use Rattle.core_tree.specs.Valid.{InRows, ValueSized}
use Rattle.c_senses.specs.Tree.{Source}
use Rattle.parsed_tree_laws.specs.sense_laws.Senses.{ChildrenFirst}
use Rattle.parsed_tree_laws.specs.family_laws.Families.{Families}
use Rattle.core_node_laws.specs.built_unit_laws.built_units.Built.{IsBuilt}

-- where nodes stand in their rows, and structures and unions have a size if they are complete
abbrev pub ValuesHaveSizes : Type 0
ValuesHaveSizes =
    (s : Source) (name : List ℕ) (u : Unit)
    → IsBuilt s name u
    → ChildrenFirst s
    → Families s
    → InRows (trees_of u)
    → TagsHaveSizes u.types
    → EachNode (trees_of u) (λ n node. ValueSized (trees_of u) node)
