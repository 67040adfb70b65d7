-- Cells that point to nothing may stand anywhere: what numbers, nulls and unset cells are put into stays covered. So it is with
-- memset, with the rows over characters and with the initial zeros of an object.
use Rattle.std.proofs.Common.{◌≡◌, ℕ, zero, suc, ◌+◌, ◌==◌, Bool, true, false, cond, List, [], ◌∷◌, ◌++◌, filter, map, Option, Some, None, IsSome, slice_get}
use Rattle.c_types.specs.declared.term.PathStep.{PathStep}
use Rattle.c_types.specs.declared.term.TypeId.{TypeId}
use Rattle.c_types.specs.Paths.{type_at_path}
use Rattle.c_types.specs.Trees.{Ctype, VoidType, BoolType, IntegerType, FloatingType, VaListType, PointerTo, ArrayOf, FunctionFrom, StructureOf, UnionOf}
use Rattle.c_types.specs.Table.{Table, type_of, extent_in}
use Rattle.sol_model.specs.declared.system.System.{System}
use Rattle.obj_space.specs.Spots.{Reached, part_at}
use Rattle.ref_cells.specs.declared.cells.Cell.{Cell}
use Rattle.ref_cells.specs.declared.cells.Cell.TheVariants.{Unset, Number, Null, Pointer, Function}
use Rattle.ref_cells.specs.declared.instance.Instance.{Instance}
use Rattle.ref_cells.specs.Cells.{CellList, joined}
use Rattle.ref_cells.specs.Wholes.{whole_of}
use Rattle.ref_cells.specs.Values.{blank, filled}
use Rattle.ref_mem.specs.Writes.{put_all, width_along, with_parts, typed_as}
use Rattle.ref_elements.specs.declared.runs.Run.{Run}
use Rattle.ref_elements.specs.Outcomes.{is_pointing, place_in, pointers_in}
use Rattle.ref_elements.specs.Parts.{Parts, pointers_of, with_all}
use Rattle.ref_copies.specs.Copies.{byte_at, byte_in, set_cells, set_parts}
use Rattle.covering_laws.specs.covered_memory.Cells.{EachCell}
use Rattle.covering_laws.specs.covered_memory.Spots.{whole_part}
use Rattle.covering_laws.specs.covered_memory.Covered.{Sets, CellIn, pointer_row, CellsIn, object_row, InstanceIn, MemoryIn, Leaves}
use Rattle.covering_laws.specs.covered_memory.Demands.{Grounds}
use Rattle.covering_laws.proofs.covered_memory.Cells.{each_change}
use Rattle.covering_laws.proofs.covered_memory.Filled.{fills_all}
use Rattle.covering_laws.proofs.covered_memory.Changes.{change_law, PartsIn, parts_own}
use Rattle.covering_laws.proofs.covered_library.Copies.{typed_step}
use Rattle.covering_laws.specs.covered_library.Calls.{StoresIn}
use Rattle.covering_laws.proofs.covered_library.Stores.{stores_append}

-- a cell that points to nothing
abbrev pub IsQuiet : Cell → Type 0
IsQuiet (Pointer i path past) = ⊥
IsQuiet (Function key) = ⊥
IsQuiet cell = Unit {0}

abbrev pub AreQuiet : CellList → Type 0
AreQuiet cells = EachCell (λ p c. IsQuiet c) cells

abbrev pub ArePartsQuiet : Parts → Type 0
ArePartsQuiet [] = Unit {0}
ArePartsQuiet (part ∷ rest) = AreQuiet part.1 × ArePartsQuiet rest

quiet_cell : (g : Sets) (memory : List Instance) (row : Option ℕ) (c : Cell) → IsQuiet c → CellIn g memory row c
quiet_cell g memory row (Pointer i path past) h = absurd h
quiet_cell g memory row (Function key) h = absurd h
quiet_cell g memory row Unset h = tt
quiet_cell g memory row (Number n) h = tt
quiet_cell g memory row Null h = tt

pub quiet_cells : (g : Sets) (memory : List Instance) (row : ℕ → ℕ) (whole : Option Reached) (cells : CellList) → AreQuiet cells → CellsIn g memory row whole cells
quiet_cells g memory row whole cells h =
    each_change (λ p c. IsQuiet c) (λ p c. CellIn g memory (pointer_row row (part_at g.table whole p)) c) cells (λ p c q. quiet_cell g memory (pointer_row row (part_at g.table whole p)) c q) h

module _ (g : Sets) (system : System) (grounds : Grounds g.table g.space system) (memory : List Instance) (all : MemoryIn g memory) where
  pub quiet_parts : (row : ℕ → ℕ) (whole : Option Reached) (parts : Parts) → ArePartsQuiet parts → PartsIn g system grounds memory row whole parts
  quiet_parts row whole [] h = tt
  quiet_parts row whole (part ∷ rest) h = (quiet_cells g memory row (part_at g.table whole part.0) part.1 h.0, quiet_parts row whole rest h.1)

  -- What is put points to nothing: the memory stays covered.
  pub quiet_law : (i : ℕ) (id : TypeId) (parts : Parts) → ArePartsQuiet parts → IsSome (extent_in g.table (type_of g.table id.0))
      → ((a : Instance) → slice_get memory i ≡ Some a → a.ty ≡ None → ⊥) → Leaves g memory (with_all g.table memory i id parts)
  quiet_law i id parts quiet complete typed =
      change_law g system grounds memory i (λ inst. with_parts g.table parts (typed_as id inst)) all
      (λ a e h. let step = typed_step g system grounds memory all a id h complete (λ none. absurd (typed a e none)) (λ none. absurd (typed a e none)) in
      let row = object_row step.1.location.content step.1.first in
      let whole = whole_part (whole_of g.table (typed_as id a)) in (
        record { key = step.0.key; in_tree = step.0.in_tree; whole = step.0.whole },
        parts_own g system grounds memory (typed_as id a) step.1 parts (quiet_parts row whole parts quiet),
      ))

-- what points to nothing is no pointer that is stored
module _ (g : Sets) (after : List Instance) (i : ℕ) where
  cells_stored : (path : List PathStep) (cells : CellList) → AreQuiet cells → StoresIn g after (pointers_in i (joined path cells))
  cells_stored path [] h = tt
  cells_stored path (e ∷ rest) h = by e.1 h.0 (cells_stored path rest h.1)
    where
      by : (c : Cell) → IsQuiet c → StoresIn g after (pointers_in i (joined path rest))
          → StoresIn g after (map (λ x. (place_in i x.0, x.1)) (cond (is_pointing c) ((path ++ e.0, c) ∷ filter (λ x. is_pointing x.1) (joined path rest)) (filter (λ x. is_pointing x.1) (joined path rest))))
      by (Pointer j q past) k more = absurd k
      by (Function key) k more = absurd k
      by Unset k more = more
      by (Number m) k more = more
      by Null k more = more

  pub quiet_stored : (parts : Parts) → ArePartsQuiet parts → StoresIn g after (pointers_of i parts)
  quiet_stored [] h = tt
  quiet_stored (part ∷ rest) h = stores_append g after (pointers_in i (joined part.0 part.1)) (pointers_of i rest) (cells_stored part.0 part.1 h.0) (quiet_stored rest h.1)

-- the cells that memset sets
blank_quiet : (marked : Bool) (t : Ctype) → IsQuiet (blank marked t)
blank_quiet false t = tt
blank_quiet true (PointerTo to) = tt
blank_quiet true VaListType = tt
blank_quiet true VoidType = tt
blank_quiet true BoolType = tt
blank_quiet true (IntegerType size rank signed) = tt
blank_quiet true FloatingType = tt
blank_quiet true (ArrayOf of n) = tt
blank_quiet true (FunctionFrom a b c) = tt
blank_quiet true (StructureOf tag) = tt
blank_quiet true (UnionOf tag) = tt

pub filled_quiet : (table : Table) (marked : Bool) (t : Ctype) → AreQuiet (filled table marked t [])
filled_quiet table marked t = fills_all table (λ o c. IsQuiet c) (λ o c h. h) (λ o. tt) marked (λ o s. blank_quiet marked s) t None [] tt tt

byte_quiet : (t : Option Ctype) (width : Option ℕ) (byte : ℕ) → IsQuiet (byte_in t width byte)
byte_quiet None width byte = tt
byte_quiet (Some t) width byte = tt

pub set_quiet : (table : Table) (t : Ctype) (byte : ℕ) → AreQuiet (set_cells table t byte)
set_quiet table t byte = by (byte == 0)
  where
    bytes : (cells : CellList) → AreQuiet (map (λ e. (e.0, byte_at table t byte e.0)) cells)
    bytes [] = tt
    bytes (e ∷ rest) = (byte_quiet (type_at_path table (Some t) e.0) (width_along table (Some t) e.0) byte, bytes rest)

    by : (b : Bool) → AreQuiet (cond b (filled table true t []) (map (λ e. (e.0, byte_at table t byte e.0)) (filled table false t [])))
    by true = filled_quiet table true t
    by false = bytes (filled table false t [])

pub set_parts_quiet : (run : Run) (cells : CellList) → AreQuiet cells → (k n : ℕ) → ArePartsQuiet (set_parts run cells k n)
set_parts_quiet run cells h k zero = tt
set_parts_quiet run cells h k (suc n) = (h, set_parts_quiet run cells h (k + 1) n)
