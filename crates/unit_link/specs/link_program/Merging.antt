-- Units whose types stand in one table.
use Rattle.std.specs.Prelude.{ℕ, ◌+◌, ◌≤◌, List, length, slice_index}
use Rattle.c_types.specs.Table.{Table}
use Rattle.core_tree.specs.declared.node.Unit.{Unit}
use Rattle.link_model.specs.Merged.{Numbering, IsMerged}

-- the types of unit u begin at its start
abbrev pub placed : List ℕ → (ℕ → ℕ → ℕ) → Numbering
placed starts tag = record { type = λ u i. slice_index starts u + i; tag = tag }

-- the table is the one of all units, with a start for each unit
pub record AreMerged (units : List Unit) (starts : List ℕ) (table : Table) : Type 0 where
  pub tag : ℕ → ℕ → ℕ
  pub merged : IsMerged units (placed starts tag) table
  pub enough : length units ≤ length starts
