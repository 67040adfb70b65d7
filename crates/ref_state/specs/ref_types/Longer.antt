-- A table with terms behind those of another one.
use Rattle.std.specs.Prelude.{◌≡◌, ℕ, ◌<◌, List, ◌++◌, length}
use Rattle.c_types.specs.declared.term.Term.{Term}
use Rattle.c_types.specs.Trees.{Ctype}
use Rattle.c_types.specs.Table.{Table, type_of, extent_in}

-- the terms behind, and what stays: each type under its number, and what a type takes
pub record IsLonger (old : Table) (more : List Term) (new : Table) : Type 0 where
  pub table : new ≡ record old { terms = old.terms ++ more }
  pub kept : (i : ℕ) → i < length old.terms → type_of new i ≡ type_of old i
  pub extents : (t : Ctype) → extent_in new t ≡ extent_in old t
