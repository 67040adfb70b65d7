-- The names that a run text has of places in memory, and of nodes.
use Rattle.std.specs.Prelude.{ℕ, List, [], ◌++◌, Option, Some, None, slice_get, option_and_then, codes, decimal}
use Rattle.std.specs.Option.{option_map_or}
use Rattle.pta_base.specs.declared.place.Place.{Place}
use Rattle.c_types.specs.declared.key.ObjectKey.{ObjectKey}
use Rattle.c_types.specs.declared.term.PathStep.{PathStep}
use Rattle.c_types.specs.Table.{Table}
use Rattle.core_tree.specs.declared.node.Node.{Node}
use Rattle.core_tree.specs.declared.node.Program.{Program}
use Rattle.obj_space.specs.declared.location.Location.{Location}
use Rattle.obj_space.specs.Spots.{spot_by}
use Rattle.obj_space.specs.View.{first_from}
use Rattle.ref_cells.specs.declared.cells.Cell.{Cell}
use Rattle.ref_cells.specs.declared.cells.Cell.TheVariants.{Pointer, Function}
use Rattle.ref_cells.specs.declared.instance.Instance.{Instance}

-- ---- places in memory
-- the location of the part at the end of a path, in the object whose first location has that number
abbrev pub spot_from : List Location → Table → List PathStep → ℕ → Option ℕ
spot_from space table path l = option_and_then (λ x. spot_by table l x path) (slice_get space l)

-- the location of the part of an object at the end of a path; none where the program has no such object or part
abbrev pub spot_of : List Location → Table → ObjectKey → List PathStep → Option ℕ
spot_of space table key path = option_and_then (spot_from space table path) (first_from 0 space key)

-- the name of a location; a question mark where there is none
abbrev pub name_at : List Location → Option ℕ → List ℕ
name_at space None = codes "?"
name_at space (Some l) = option_map_or (λ (x : Location). x.name) (slice_get space l) (codes "?")

-- the name of the part of an object at the end of a path
abbrev pub part_name : List Location → Table → ObjectKey → List PathStep → List ℕ
part_name space table key path = name_at space (spot_of space table key path)

-- the name of what a pointer points to, or of the cell that it is the place of
abbrev pub target_name : List Location → Table → List Instance → Cell → List ℕ
target_name space table memory (Pointer i path past) =
    option_map_or (λ (x : Instance). part_name space table x.key path) (slice_get memory i) (codes "?")
target_name space table memory (Function key) = part_name space table key []
target_name space table memory cell = codes "?"

-- ---- places in the text
-- the name of a unit
abbrev pub unit_name : List (List ℕ) → ℕ → List ℕ
unit_name names unit = option_map_or (λ (name : List ℕ). name) (slice_get names unit) []

-- a place, with its line and its column
abbrev pub place_text : List (List ℕ) → Place → List ℕ
place_text names place =
    unit_name names place.unit ++ codes ":" ++ decimal place.line ++ codes ":" ++ decimal place.column

-- the place of a node
abbrev pub node_place : Program → ℕ → List ℕ
node_place p n = option_map_or (λ (node : Node). place_text p.names.items node.place) (slice_get p.nodes.items n) []
