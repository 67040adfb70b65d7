-- Members of structures and unions of units that are built.
use Rattle.std.specs.Prelude.{ℕ, List}
use Rattle.core_tree.specs.declared.node.Unit.{Unit}
use Rattle.c_senses.specs.Tree.{Source}
use Rattle.parsed_tree_laws.specs.sense_laws.Senses.{ChildrenFirst}
use Rattle.parsed_tree_laws.specs.family_laws.Families.{Families}
use Rattle.core_node_laws.specs.built_unit_laws.built_units.Built.{IsBuilt}
use Rattle.core_node_laws.specs.built_unit_laws.value_laws.Values.{MembersComplete}

-- each member of structure or union type is complete
abbrev pub MembersAreComplete : Type 0
MembersAreComplete =
    (s : Source) (name : List ℕ) (u : Unit)
    → IsBuilt s name u
    → ChildrenFirst s
    → Families s
    → MembersComplete u.types
