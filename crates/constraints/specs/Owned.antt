-- The parameters of each function, as lists that stand by the functions' entities.
use Rattle.std.specs.Prelude.{◌≡◌, ◌<◌, ℕ, List, [], Option, Some, length, slice_get, option_and_then, Vec}
use Rattle.std.specs.Prelude.{vec_capacity}
use Rattle.std.specs.declared.alloc.Global.{Global}
use Rattle.std.specs.Option.{option_map_or}
use Rattle.c_types.specs.declared.key.ObjectKey.{ObjectKey}
use Rattle.core_tree.specs.Typed.{CoreTrees}
use Rattle.obj_space.specs.View.{SpaceView}
use Rattle.row_numbers.specs.Functions.{entity_in, parameters_of}

-- the list of a function; one past the end is empty
abbrev pub listed : List (Vec ObjectKey Global) → ℕ → List ObjectKey
listed lists f = option_map_or (λ list. list.items) (slice_get lists f) []

abbrev pub owner_in : CoreTrees → ObjectKey → Option ℕ
owner_in u key = option_and_then (λ entity. entity.owner) (entity_in u key)

-- a function's list has room for one parameter more
abbrev pub HasRoom : List (Vec ObjectKey Global) → ℕ → Type 0
HasRoom lists f =
    (list : Vec ObjectKey Global) → slice_get lists f ≡ Some list → length list.items < vec_capacity list

-- each function's list has its parameters
abbrev pub AreOwned : CoreTrees → SpaceView → List (Vec ObjectKey Global) → Type 0
AreOwned u s lists = (f : ℕ) → listed lists f ≡ parameters_of u s f
