-- Types are what their terms say.
use Rattle.std.specs.Prelude.{ℕ, ◌≡◌, Some, slice_get}
use Rattle.c_types.specs.declared.term.Term.{Term}
use Rattle.c_types.specs.Trees.{grow}
use Rattle.c_types.specs.Table.{Table, types_of, type_of}
use Rattle.c_types.specs.Made.{AreNamed}

abbrev pub TypesGrown : Type 0
TypesGrown =
    (table : Table) (id : ℕ) (t : Term)
    → AreNamed table
    → slice_get table.terms id ≡ Some t
    → type_of table id ≡ grow (types_of table) t
