-- A table that has what types of a program's objects and functions need.
use Rattle.std.specs.Prelude.{ℕ, ◌≡◌, ◌<◌, length}
use Rattle.c_types.specs.Trees.{Ctype}
use Rattle.c_types.specs.Table.{Table, type_of}
use Rattle.type_rules.specs.Sizes.{with_one, HasSignature}

-- a type stands in a table
pub record HasTree (table : Table) (t : Ctype) : Type 0 where
  pub id : ℕ
  pub within : id < length table.terms
  pub tree : type_of table id ≡ t

-- a type's signature and the type with one element stand in the table
pub record IsReady (table : Table) (t : Ctype) : Type 0 where
  pub signed : HasSignature table t
  pub one : HasTree table (with_one t)

-- this holds of each type of the table
pub record AreReady (table : Table) : Type 0 where
  pub each : (i : ℕ) → i < length table.terms → IsReady table (type_of table i)

-- the same types, and more behind them
pub record IsGrown (old now : Table) : Type 0 where
  pub more : (i : ℕ) → i < length old.terms → i < length now.terms
  pub kept : (i : ℕ) → i < length old.terms → type_of now i ≡ type_of old i
  pub tags : now.tags ≡ old.tags
  pub completed : now.completed ≡ old.completed
