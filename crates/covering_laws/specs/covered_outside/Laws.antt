-- That sets cover what passes between a program and what lies outside it, where it is entered from there.
use Rattle.std.specs.Prelude.{◌≡◌, ◌⊎◌, ℕ, ◌+◌, false, IsSome, List, [], ◌∷◌, Some, Contains, slice_get}
use Rattle.c_types.specs.declared.key.ObjectKey.{ObjectKey}
use Rattle.c_types.specs.declared.key.ObjectKey.TheVariants.{Entity as EntityKey, Outside as OutsideKey}
use Rattle.c_types.specs.declared.term.PathStep.TheVariants.{Index}
use Rattle.c_types.specs.declared.term.TypeId.{TypeId}
use Rattle.c_types.specs.Trees.{Ctype, VoidType, PointerTo}
use Rattle.c_types.specs.Table.{type_of, extent_in}
use Rattle.c_types.specs.Made.{IsMade}
use Rattle.type_rules.specs.Kinds.{IsScalar}
use Rattle.core_tree.specs.Typed.{trees_in}
use Rattle.obj_space.specs.View.{first_from, view_of}
use Rattle.row_numbers.specs.Kept.{nodes_of, kept_row}
use Rattle.row_numbers.specs.Functions.{function_keys, number_of, key_type, parameters_of}
use Rattle.row_numbers.specs.Setting.{result_row}
use Rattle.ref_cells.specs.declared.cells.Cell.{Cell}
use Rattle.ref_cells.specs.declared.cells.Cell.TheVariants.{Pointer}
use Rattle.ref_cells.specs.declared.cells.Value.{Value}
use Rattle.ref_cells.specs.declared.instance.Instance.{Instance}
use Rattle.ref_mem.specs.Reads.{one_cell}
use Rattle.ref_state.specs.Values.{cell_of}
use Rattle.normal_form.specs.Assignments.{given_type}
use Rattle.covering_laws.specs.object_contents.Contents.{IsOutside}
use Rattle.covering_laws.specs.covered_memory.Covered.{Sets, CellIn, ValueIn, InstanceIn, outside_row}
use Rattle.covering_laws.specs.covered_rows.Laws.{Solved, sets_in, setting_in}

-- new memory from outside, of a complete type or without one, is covered
abbrev pub OutsideCovered : Type 0
OutsideCovered =
    (g : Sets) (memory : List Instance) (inst : Instance)
    → IsMade g.table
    → IsOutside g.space
    → inst.key ≡ OutsideKey
    → inst.cells ≡ []
    → ((id : TypeId) → inst.ty ≡ Some id → IsSome (extent_in g.table (type_of g.table id.0)))
    → InstanceIn g memory inst

-- a pointer to it is in the row of what lies outside
abbrev pub OutsidePoints : Type 0
OutsidePoints =
    (s : Solved) (e i : ℕ) (memory : List Instance) (inst : Instance)
    → IsOutside s.space
    → Contains s.program.entries.items e
    → slice_get memory i ≡ Some inst
    → inst.key ≡ OutsideKey
    → CellIn (sets_in s) memory (outside_row (sets_in s)) (Pointer i (Index 0 ∷ []) false)

-- what is in that row is covered in the object of each parameter of a function at which the program is entered
abbrev pub EntriesTake : Type 0
EntriesTake =
    (s : Solved) (e k l : ℕ) (key : ObjectKey) (to : Ctype) (memory : List Instance) (cell : Cell)
    → IsOutside s.space
    → Contains s.program.entries.items e
    → slice_get (parameters_of (trees_in s.program) (view_of s.space) e) k ≡ Some key
    → first_from 0 s.space key ≡ Some l
    → key_type (trees_in s.program) key ≡ PointerTo to
    → CellIn (sets_in s) memory (outside_row (sets_in s)) cell
    → ValueIn (sets_in s) memory (λ i. l + i) (PointerTo to) (one_cell cell)

-- what such a function gives is in that row
abbrev pub EntriesGive : Type 0
EntriesGive =
    (s : Solved) (e l : ℕ) (t : Ctype) (memory : List Instance) (v : Value)
    → IsOutside s.space
    → Contains s.program.entries.items e
    → Contains (function_keys (trees_in s.program)) (EntityKey e)
    → first_from 0 s.space (EntityKey e) ≡ Some l
    → given_type (setting_in s) e ≡ t
    → (t ≡ VoidType) ⊎ IsScalar t
    → ValueIn (sets_in s) memory
    (kept_row (result_row (trees_in s.program) (view_of s.space) (number_of (trees_in s.program) (view_of s.space) e))
    (nodes_of s.program.types t)) t v
    → CellIn (sets_in s) memory (outside_row (sets_in s)) (cell_of v)
