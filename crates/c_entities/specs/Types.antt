-- Types of a table by their numbers.
use Rattle.std.specs.Prelude.{Bool, true, false, List, map, Option, Some, None}
use Rattle.c_types.specs.declared.term.TypeId.{TypeId}
use Rattle.c_types.specs.declared.term.Form.{Form}
use Rattle.c_types.specs.declared.term.Form.TheVariants.{Unspecified}
use Rattle.c_types.specs.Trees.{Ctype}
use Rattle.c_types.specs.Table.{Table, type_of}

-- a form that says nothing of parameters
abbrev pub is_unspecified : Form → Bool
is_unspecified Unspecified = true
is_unspecified form = false

-- the type, where there is a number, and those of some numbers
abbrev pub type_in : Table → Option TypeId → Option Ctype
type_in table None = None
type_in table (Some id) = Some (type_of table id.0)

abbrev pub types_in : Table → List TypeId → List Ctype
types_in table ids = map (λ t. type_of table t.0) ids
