-- Values of structures and unions of units that are built.
use Rattle.std.specs.Prelude.{ℕ, ◌≡◌, List, Some}
use Rattle.c_types.specs.declared.term.MemberTerm.{MemberTerm}
use Rattle.c_types.specs.Table.{Table, type_of}
use Rattle.type_rules.specs.Kinds.{IsAggregate}
use Rattle.type_rules.specs.Members.{member_at}
use Rattle.type_rules.specs.Sizes.{IsObject, TagsHaveSizes}
use Rattle.core_tree.specs.declared.node.Unit.{Unit}
use Rattle.core_tree.specs.Typed.{trees_of}
use Rattle.core_tree.specs.Range.{EachNode}
use Rattle.core_tree.specs.Valid.{InRows, ValueSized}
use Rattle.c_senses.specs.Tree.{Source}
use Rattle.c_initialise.specs.passed.sense_laws.Senses.{ChildrenFirst}
use Rattle.core_node_laws.specs.built_unit_laws.built_units.Built.{IsBuilt}

-- each member of structure or union type is complete
abbrev pub MembersComplete : Table → Type 0
MembersComplete table =
    (tag k : ℕ) (m : MemberTerm)
    → member_at table (Some tag) k ≡ Some m
    → IsAggregate (type_of table m.ty.0)
    → IsObject table (type_of table m.ty.0)

-- where nodes stand in their rows, and structures and unions have a size if they are complete
abbrev pub ValuesSized : Type 0
ValuesSized =
    (s : Source) (name : List ℕ) (u : Unit)
    → IsBuilt s name u
    → ChildrenFirst s
    → InRows (trees_of u)
    → TagsHaveSizes u.types
    → MembersComplete u.types
    → EachNode (trees_of u) (λ n node. ValueSized (trees_of u) node)
