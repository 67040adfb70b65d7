-- Sizes in a table that is merged from units'.
use Rattle.std.specs.Prelude.{ℕ, ◌≡◌, List, Some, slice_get}
use Rattle.c_types.specs.Trees.{Ctype}
use Rattle.c_types.specs.Table.{Table}
use Rattle.c_types.specs.Made.{IsMade, AreNamed, IsComplete}
use Rattle.type_rules.specs.Sizes.{HasSize, TagsHaveSizes}
use Rattle.core_tree.specs.declared.node.Unit.{Unit}
use Rattle.core_tree.specs.Valid.{Keyed}
use Rattle.link_model.specs.Merged.{Numbering, moved, IsMerged}
use Rattle.linked_laws.specs.merged_laws.Merged.{AreTables, AreSizes}

-- each unit has a key or none for each tag, and no key twice
pub record AreKeyed (units : List Unit) : Type 0 where
  pub each : (u : ℕ) (x : Unit) → slice_get units u ≡ Some x → Keyed x.types.tags x.tags.items

-- what is complete in a unit is complete in the table, and has a size there if it has one in the unit
pub record TypesKept (n : Numbering) (table : Table) (u : ℕ) (x : Unit) : Type 0 where
  pub complete : (t : Ctype) → IsComplete x.types t → IsComplete table (moved n u t)
  pub sized : (t : Ctype) → HasSize x.types t → HasSize table (moved n u t)

abbrev pub SizesKept : Type 0
SizesKept =
    (units : List Unit) (n : Numbering) (table : Table)
    → AreTables units
    → IsMade table
    → IsMerged units n table
    → (u : ℕ) (x : Unit)
    → slice_get units u ≡ Some x
    → TypesKept n table u x

abbrev pub MergedSized : Type 0
MergedSized =
    (units : List Unit) (n : Numbering) (table : Table)
    → AreTables units
    → AreSizes units
    → AreKeyed units
    → IsMade table
    → AreNamed table
    → IsMerged units n table
    → TagsHaveSizes table
