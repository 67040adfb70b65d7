-- The sizes of structures and unions of units that are built.
use Rattle.std.specs.Prelude.{ℕ, ◌≡◌, ◌<◌, true, List, length}
use Rattle.c_grammar.specs.Productions.{p_struct}
use Rattle.c_types.specs.Table.{Table, type_of}
use Rattle.type_rules.specs.Kinds.{IsAggregate}
use Rattle.type_rules.specs.Sizes.{TagsHaveSizes}
use Rattle.core_tree.specs.declared.node.Unit.{Unit}
use Rattle.c_senses.specs.Tree.{Source, is_a}
use Rattle.c_senses.specs.Tags.{aggregate_type}
use Rattle.c_initialise.specs.passed.sense_laws.Senses.{ChildrenFirst}
use Rattle.core_node_laws.specs.passed.parsed_tree_laws.family_laws.Families.{Families}
use Rattle.core_node_laws.specs.built_unit_laws.built_units.Built.{IsBuilt}

-- a specifier has that type
pub record IsSpecified (s : Source) (table : Table) (id : ℕ) : Type 0 where
  pub node : ℕ
  pub inside : node < length s.nodes
  pub struct : is_a s p_struct node ≡ true
  pub type : type_of table id ≡ aggregate_type s node

-- each structure or union of the table is that of a specifier, with its keyword
abbrev pub TagsSpecified : Source → Table → Type 0
TagsSpecified s table = (id : ℕ) → id < length table.terms → IsAggregate (type_of table id) → IsSpecified s table id

-- then each one that is complete has a size and a number of nodes
abbrev pub TagsSized : Type 0
TagsSized =
    (s : Source) (name : List ℕ) (u : Unit)
    → IsBuilt s name u
    → ChildrenFirst s
    → Families s
    → TagsSpecified s u.types
    → TagsHaveSizes u.types
