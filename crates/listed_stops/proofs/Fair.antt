-- Reads, writes and elements stop for no bad call.
use Rattle.std.proofs.Common.{◌≡◌, ℕ, ◌/◌, ◌%◌, ◌==◌, nat_le, ℤ, Bool, true, false, cond, List, [], ◌∷◌, Option, Some, None, Result, Ok, Err, slice_get, refl, subst}
use Rattle.std.specs.Prelude.{⊤}
use Rattle.c_types.specs.declared.term.PathStep.{PathStep}
use Rattle.c_types.specs.declared.term.TypeId.{TypeId}
use Rattle.c_types.specs.Paths.{part_type}
use Rattle.c_types.specs.Trees.{Ctype, StructureOf, UnionOf}
use Rattle.c_types.specs.Table.{Table}
use Rattle.type_rules.specs.Kinds.{character}
use Rattle.ref_cells.specs.declared.cells.Reason.{Reason}
use Rattle.ref_cells.specs.declared.cells.Reason.TheVariants.{DeadUse, OutOfRange, Mismatch, BadCall}
use Rattle.ref_cells.specs.declared.cells.Cell.{Cell}
use Rattle.ref_cells.specs.declared.cells.Cell.TheVariants.{Unset, Number, Null, Pointer}
use Rattle.ref_cells.specs.declared.cells.Value.{Value}
use Rattle.ref_cells.specs.declared.instance.Instance.{Instance}
use Rattle.ref_cells.specs.Cells.{CellList}
use Rattle.ref_cells.specs.Places.{is_out, walk, type_in, type_at_place, is_alike, fitting, reach}
use Rattle.ref_cells.specs.Values.{cell_in}
use Rattle.ref_cells.specs.Wholes.{whole_of}
use Rattle.ref_mem.specs.Reads.{opened, scalar_value, value_of, opened_value, read_in, read_found, read, number_in, number_of_cells, number_read, read_character}
use Rattle.ref_mem.specs.Writes.{written_in, write_found, write, part_in, part_found, character_part}
use Rattle.ref_elements.specs.declared.runs.Run.{Run}
use Rattle.ref_elements.specs.Objects.{element_of_object, place_of_object}
use Rattle.ref_elements.specs.Runs.{◌>>=◌, run_from, whole_id, with_run, found_as, live_at, found_at, parts_of, within}

-- it gives something, or stops for another reason than a bad call
abbrev pub Fair : {X : Type 0} → Result X Reason → Type 0
Fair (Ok x) = ⊤
Fair (Err BadCall) = ⊥
Fair (Err reason) = ⊤

pub not_fair : {X : Type 0} (r : Result X Reason) → Fair r → r ≡ Err BadCall → ⊥
not_fair {X = X} r h e = subst (λ (s : Result X Reason). Fair s) e h

-- one thing after another
pub after_fair : {A B : Type 0} (r : Result A Reason) (f : A → Result B Reason) → Fair r → ((x : A) → ◌≡◌ {A = Result A Reason} r (Ok x) → Fair (f x)) → Fair (r >>= f)
after_fair (Ok x) f h g = g x refl
after_fair (Err e) f h g = h

pub then_fair : {A B : Type 0} (r : Result A Reason) (f : A → Result B Reason) → Fair r → ((x : A) → Fair (f x)) → Fair (r >>= f)
then_fair r f h g = after_fair r f h (λ x is. g x)

pub either_fair : {X : Type 0} (b : Bool) (x y : Result X Reason) → Fair x → Fair y → Fair (cond b x y)
either_fair true x y h g = h
either_fair false x y h g = g

-- ---- places in memory
walk_fair : (table : Table) (t : Option Ctype) (path : List PathStep) → Fair (walk table t path)
walk_fair table None [] = tt
walk_fair table None (step ∷ rest) = tt
walk_fair table (Some t) [] = tt
walk_fair table (Some t) (step ∷ rest) = either_fair (is_out t step) (Err OutOfRange) (walk table (part_type table t step) rest) tt (walk_fair table (part_type table t step) rest)

type_in_fair : (table : Table) (o : Option Instance) (path : List PathStep) (past : Bool) → Fair (type_in table o path past)
type_in_fair table None path past = tt
type_in_fair table (Some inst) path past =
    either_fair inst.live (cond past (Err OutOfRange) (walk table (whole_of table inst) path)) (Err DeadUse)
    (either_fair past (Err OutOfRange) (walk table (whole_of table inst) path) tt (walk_fair table (whole_of table inst) path)) tt

type_at_fair : (table : Table) (memory : List Instance) (place : Cell) → Fair (type_at_place table memory place)
type_at_fair table memory Null = tt
type_at_fair table memory (Pointer i path past) = type_in_fair table (slice_get memory i) path past
type_at_fair table memory cell = tt

fitting_fair : (t : Ctype) (r : Result Ctype Reason) → Fair r → Fair (fitting t r)
fitting_fair t (Err e) h = h
fitting_fair t (Ok found) h = either_fair (is_alike found t) (Ok found) (Err Mismatch) tt tt

reach_fair : (table : Table) (memory : List Instance) (place : Cell) (t : Ctype) → Fair (reach table memory place t)
unfolding reach
reach_fair table memory place t = fitting_fair t (type_at_place table memory place) (type_at_fair table memory place)

-- ---- reads
pub scalar_fair : (t : Ctype) (cell : Cell) → Fair (scalar_value t cell)
scalar_fair t Unset = tt
scalar_fair t cell = tt

value_fair : (table : Table) (marked : Bool) (found t : Ctype) (cells : CellList) → Fair (value_of table marked found t cells)
value_fair table marked (StructureOf tag) t cells = tt
value_fair table marked (UnionOf tag) t cells = tt
value_fair table marked found t cells = scalar_fair t (cell_in marked found cells)

opened_fair : (table : Table) (marked : Bool) (found t : Ctype) (o : Option CellList) → Fair (opened_value table marked found t o)
opened_fair table marked found t None = tt
opened_fair table marked found t (Some cells) = value_fair table marked found t cells

read_in_fair : (table : Table) (o : Option Instance) (path : List PathStep) (found t : Ctype) → Fair (read_in table o path found t)
read_in_fair table None path found t = tt
read_in_fair table (Some inst) path found t = opened_fair table inst.zero found t (opened table (whole_of table inst) path inst.cells)

read_found_fair : (table : Table) (memory : List Instance) (place : Cell) (t : Ctype) (r : Result Ctype Reason) → Fair r → Fair (read_found table memory place t r)
read_found_fair table memory place t (Err e) h = h
read_found_fair table memory (Pointer i path past) t (Ok found) h = read_in_fair table (slice_get memory i) path found t
read_found_fair table memory place t (Ok found) h = tt

pub read_fair : (table : Table) (memory : List Instance) (place : Cell) (t : Ctype) → Fair (read table memory place t)
unfolding read
read_fair table memory place t = read_found_fair table memory place t (reach table memory place t) (reach_fair table memory place t)

number_in_fair : (cell : Cell) → Fair (number_in cell)
number_in_fair (Number n) = tt
number_in_fair cell = tt

number_of_fair : (cells : CellList) → Fair (number_of_cells cells)
number_of_fair [] = tt
number_of_fair (e ∷ rest) = number_in_fair e.1

number_read_fair : (r : Result Value Reason) → Fair r → Fair (number_read r)
number_read_fair (Err e) h = h
number_read_fair (Ok v) h = number_of_fair v.cells

pub character_fair : (table : Table) (memory : List Instance) (place : Cell) → Fair (read_character table memory place)
unfolding read_character
character_fair table memory place = number_read_fair (read table memory place character) (read_fair table memory place character)

-- ---- writes
written_in_fair : (table : Table) (memory : List Instance) (i : ℕ) (o : Option Instance) (path : List PathStep) (found : Ctype) (value : CellList) → Fair (written_in table memory i o path found value)
written_in_fair table memory i None path found value = tt
written_in_fair table memory i (Some inst) path found value = tt

write_found_fair : (table : Table) (memory : List Instance) (place : Cell) (value : CellList) (r : Result Ctype Reason) → Fair r → Fair (write_found table memory place value r)
write_found_fair table memory place value (Err e) h = h
write_found_fair table memory (Pointer i path past) value (Ok found) h = written_in_fair table memory i (slice_get memory i) path found value
write_found_fair table memory place value (Ok found) h = tt

pub write_fair : (table : Table) (memory : List Instance) (place : Cell) (t : Ctype) (value : Value) → Fair (write table memory place t value)
unfolding write
write_fair table memory place t value = write_found_fair table memory place value.cells (reach table memory place t) (reach_fair table memory place t)

part_in_fair : (table : Table) (o : Option Instance) (path : List PathStep) (found : Ctype) (c : ℤ) → Fair (part_in table o path found c)
part_in_fair table None path found c = tt
part_in_fair table (Some inst) path found c = tt

part_found_fair : (table : Table) (memory : List Instance) (place : Cell) (c : ℤ) (r : Result Ctype Reason) → Fair r → Fair (part_found table memory place c r)
part_found_fair table memory place c (Err e) h = h
part_found_fair table memory (Pointer i path past) c (Ok found) h = part_in_fair table (slice_get memory i) path found c
part_found_fair table memory place c (Ok found) h = tt

pub part_fair : (table : Table) (memory : List Instance) (place : Cell) (c : ℤ) → Fair (character_part table memory place c)
unfolding character_part
part_fair table memory place c = part_found_fair table memory place c (reach table memory place character) (reach_fair table memory place character)

-- ---- elements
with_run_fair : (i : ℕ) (o : Option Run) → Fair (with_run i o)
with_run_fair i None = tt
with_run_fair i (Some run) = tt

pub found_as_fair : (table : Table) (i : ℕ) (inst : Instance) (path : List PathStep) (past : Bool) (o : Option TypeId) → Fair (found_as table i inst path past o)
found_as_fair table i inst path past None = tt
found_as_fair table i inst path past (Some id) = with_run_fair i (run_from table (Some (whole_id table inst id)) path past)

pub live_fair : (o : Option Instance) → Fair (live_at o)
live_fair None = tt
live_fair (Some inst) = either_fair inst.live (Ok inst) (Err DeadUse) tt tt

pub found_fair : (table : Table) (memory : List Instance) (place : Cell) → Fair (found_at table memory place)
found_fair table memory Null = tt
found_fair table memory (Pointer i path past) =
    then_fair (live_at (slice_get memory i)) (λ (inst : Instance). found_as table i inst path past inst.ty) (live_fair (slice_get memory i)) (λ inst. found_as_fair table i inst path past inst.ty)
found_fair table memory cell = tt

pub parts_fair : (bytes : ℕ) (o : Option ℕ) → Fair (parts_of bytes o)
parts_fair bytes None = tt
parts_fair bytes (Some size) =
    either_fair (size == 0) (Err Mismatch) (cond (bytes % size == 0) (Ok (bytes / size)) (Err Mismatch)) tt (either_fair (bytes % size == 0) (Ok (bytes / size)) (Err Mismatch) tt tt)

pub within_fair : (n room : ℕ) → Fair (within n room)
within_fair n room = either_fair (nat_le n room) (Ok n) (Err OutOfRange) tt tt

pub element_object_fair : (memory : List Instance) (o : Option ℕ) → Fair (element_of_object memory o)
element_object_fair memory None = tt
element_object_fair memory (Some i) = tt

pub place_object_fair : (memory : List Instance) (o : Option ℕ) → Fair (place_of_object memory o)
place_object_fair memory None = tt
place_object_fair memory (Some i) = tt
