-- The type that an object is declared with, before its initialiser.
use Rattle.std.specs.Prelude.{◌≡◌, Option, Some, None, IfSome}
use Rattle.c_types.specs.Trees.{Ctype}
use Rattle.c_types.specs.Table.{Table, type_of}
use Rattle.c_senses.specs.World.{World}
use Rattle.c_senses.specs.Limits.{within_limits}
use Rattle.init_rows.specs.declared.types.Declared.{Declared}

-- it is one of the table's, and whether it is within the limits is known
abbrev pub IsDeclaredIn : Table → Option Declared → Option Ctype → Type 0
IsDeclaredIn table None t = t ≡ None
IsDeclaredIn table (Some d) t = t ≡ Some (type_of table d.ty.0)

abbrev pub IsJudged : World → Table → Option Declared → Type 0
IsJudged w table o = IfSome o (λ d. d.limited ≡ within_limits w (type_of table d.ty.0))
