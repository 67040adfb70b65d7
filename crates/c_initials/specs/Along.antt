-- A type that may be there.
use Rattle.std.specs.Prelude.{Option, Some, None}
use Rattle.c_types.specs.declared.term.TypeId.{TypeId}
use Rattle.c_types.specs.Trees.{Ctype}
use Rattle.c_types.specs.Table.{Table, type_of}

abbrev pub type_in : Table → Option TypeId → Option Ctype
type_in table None = None
type_in table (Some id) = Some (type_of table id.0)
