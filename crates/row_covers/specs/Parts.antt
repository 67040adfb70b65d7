-- What the code keeps of the parts of objects and values.
use Rattle.std.specs.Prelude.{◌≡◌, ℕ, ◌<◌, min, Bool, true, false, List, Option, Some, None, length}
use Rattle.c_types.specs.Trees.{Ctype, VaListType, PointerTo}
use Rattle.c_types.specs.Table.{Table, type_of}
use Rattle.obj_space.specs.Spots.{Reached}
use Rattle.row_covers.specs.declared.parts.Part.{Part}
use Rattle.row_covers.specs.declared.parts.End.{End}

-- a node's number as far as 32 bits hold it
abbrev pub near : ℕ → ℕ
near n = min n 4294967295

-- the part, of a type of the table; none where there is none
abbrev pub Follows : Table → Option Part → Option Reached → Type 0
Follows table None r = r ≡ None
Follows table (Some part) r =
    (x : Reached) × (r ≡ Some x) × (x.ty ≡ type_of table part.ty.0) × (part.node ≡ near x.node)
    × (x.inside ≡ part.inside) × (part.ty.0 < length table.terms)

-- a pointer or a variadic list
abbrev pub is_pointing : Ctype → Bool
is_pointing (PointerTo to) = true
is_pointing VaListType = true
is_pointing t = false

-- the end of a path, where there is one
abbrev pub IsEnd : Option Reached → Option End → Type 0
IsEnd r None = r ≡ None
IsEnd r (Some e) = (x : Reached) × (r ≡ Some x) × (e.node ≡ near x.node) × (e.pointer ≡ is_pointing x.ty)
