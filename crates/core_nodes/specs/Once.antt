-- A table in which no type stands twice.
use Rattle.std.specs.Prelude.{ℕ, ◌≡◌, ◌<◌, length}
use Rattle.c_types.specs.Table.{Table, type_of}

-- two ids of one type are one id
pub record HasOnce (table : Table) : Type 0 where
  pub each : (i j : ℕ)
      → i < length table.terms
      → j < length table.terms
      → type_of table i ≡ type_of table j
      → i ≡ j
