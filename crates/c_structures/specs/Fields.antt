-- Names and types of fields.
use Rattle.std.specs.Prelude.{ℕ, ◌≡◌, Bool, not, ◌&&◌, ◌||◌, Option, Some, None}
use Rattle.c_types.specs.declared.term.TypeId.{TypeId}
use Rattle.c_types.specs.Trees.{Ctype}
use Rattle.c_types.specs.Table.{Table, type_of}
use Rattle.c_senses.specs.Tree.{Source}
use Rattle.c_senses.specs.World.{World, has_size}
use Rattle.c_senses.specs.Limits.{ends_flexible}
use Rattle.c_senses.specs.Sense.{Sense}
use Rattle.c_senses.specs.Tags.{in_union, is_last_field}

-- an element's type, where there is one
abbrev pub IsElement : Table → Option TypeId → Option Ctype → Type 0
IsElement table None t = t ≡ None
IsElement table (Some id) t = t ≡ Some (type_of table id.0)

-- the last field of a structure's list, behind another member
abbrev pub ends_list : World → Source → (ℕ → Sense) → ℕ → Bool → Bool
ends_list w s sense at has_earlier = not (in_union w s sense at) && (is_last_field w s sense at && has_earlier)

-- complete, and no structure that ends in an array without a length, but in a union
abbrev pub fits_whole : World → Source → (ℕ → Sense) → ℕ → Ctype → Bool
fits_whole w s sense at t = has_size w t && (in_union w s sense at || not (ends_flexible w t))
