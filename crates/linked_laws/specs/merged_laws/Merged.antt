-- Members in a table that is merged from units'.
use Rattle.std.specs.Prelude.{ℕ, ◌≡◌, ◌<◌, ◌^◌, List, Some, length, slice_get}
use Rattle.c_types.specs.declared.term.Term.TheVariants.{Union}
use Rattle.c_types.specs.declared.term.MemberTerm.{MemberTerm}
use Rattle.c_types.specs.Trees.{Ctype}
use Rattle.c_types.specs.Layout.{all_nodes}
use Rattle.c_types.specs.Table.{Table, members_in, extents_in}
use Rattle.c_types.specs.Made.{IsMade, AreNamed}
use Rattle.type_rules.specs.Members.{IsMemberOf}
use Rattle.type_rules.specs.Sizes.{TagsHaveSizes}
use Rattle.core_tree.specs.declared.node.Unit.{Unit}
use Rattle.link_model.specs.Merged.{Numbering, moved, IsMerged}

-- each unit's table is one that was made
pub record AreTables (units : List Unit) : Type 0 where
  pub made : (u : ℕ) (x : Unit) → slice_get units u ≡ Some x → IsMade x.types
  pub named : (u : ℕ) (x : Unit) → slice_get units u ≡ Some x → AreNamed x.types

-- each complete structure or union of a unit has a size
pub record AreSizes (units : List Unit) : Type 0 where
  pub each : (u : ℕ) (x : Unit) → slice_get units u ≡ Some x → TagsHaveSizes x.types

-- a tag that stands in no union has members of fewer than 2^24 nodes, if it is complete
pub record TagsFit (table : Table) : Type 0 where
  pub each : (tag : ℕ) (members : List MemberTerm)
      → members_in table tag ≡ Some members
      → ((i : ℕ) → slice_get table.terms i ≡ Some (Union tag) → ⊥)
      → length (all_nodes (extents_in table members)) < 2 ^ 24

abbrev pub MembersKept : Type 0
MembersKept =
    (units : List Unit) (n : Numbering) (table : Table)
    → AreTables units
    → IsMerged units n table
    → (u : ℕ) (x : Unit)
    → slice_get units u ≡ Some x
    → (whole : Ctype) (k : ℕ) (t : Ctype)
    → IsMemberOf x.types whole k t
    → IsMemberOf table (moved n u whole) k (moved n u t)

abbrev pub MergedFit : Type 0
MergedFit =
    (units : List Unit) (n : Numbering) (table : Table)
    → AreTables units
    → AreSizes units
    → IsMade table
    → AreNamed table
    → IsMerged units n table
    → TagsFit table
