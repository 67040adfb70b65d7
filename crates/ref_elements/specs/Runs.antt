-- The elements from a place on.
use Rattle.std.specs.Prelude.{ℕ, ◌+◌, ◌-◌, ◌/◌, ◌%◌, ◌==◌, nat_le, Bool, false, if◌then◌else◌, List, [], ◌∷◌, ◌++◌}
use Rattle.std.specs.Prelude.{Option, Some, None, Result, Ok, Err, slice_get}
use Rattle.std.specs.Option.{option_map}
use Rattle.c_types.specs.declared.term.PathStep.{PathStep}
use Rattle.c_types.specs.declared.term.PathStep.TheVariants.{Index, Member}
use Rattle.c_types.specs.declared.term.TypeId.{TypeId}
use Rattle.c_types.specs.declared.term.Term.{Term}
use Rattle.c_types.specs.declared.term.Term.TheVariants.{Array, Structure, Union}
use Rattle.c_types.specs.Trees.{Ctype}
use Rattle.c_types.specs.Table.{Table, type_of, extent_in, size_below}
use Rattle.type_rules.specs.Members.{member_at}
use Rattle.ref_cells.specs.declared.cells.Reason.{Reason}
use Rattle.ref_cells.specs.declared.cells.Reason.TheVariants.{NullUse, DeadUse, OutOfRange, Mismatch}
use Rattle.ref_cells.specs.declared.cells.Cell.{Cell}
use Rattle.ref_cells.specs.declared.cells.Cell.TheVariants.{Null, Pointer}
use Rattle.ref_cells.specs.declared.instance.Instance.{Instance}
use Rattle.ref_cells.specs.declared.wholes.Whole.{Whole}
use Rattle.ref_cells.specs.declared.wholes.Whole.TheVariants.{One, Many}
use Rattle.ref_elements.specs.declared.runs.Run.{Run}
use Rattle.ref_elements.specs.declared.runs.Found.{Found}
use Rattle.ref_cells.specs.Wholes.{is_allocated, elements_of, shape_of}
use Rattle.ref_cells.specs.Cells.{CellList}
use Rattle.ref_cells.specs.Places.{is_out}
use Rattle.ref_mem.specs.Reads.{content}

infixl 10 ◌>>=◌
abbrev pub ◌>>=◌ : {A B : Type 0} → Result A Reason → (A → Result B Reason) → Result B Reason
(Ok x) >>= f = f x
(Err e) >>= f = Err e

-- the whole of an instance of a type, by numbers of types
abbrev pub whole_id : Table → Instance → TypeId → Whole
whole_id table inst id =
    if is_allocated inst.key
    then Many id (elements_of inst.key inst.bytes (size_below (extent_in table (type_of table id.0)))) else One id

abbrev pub member_id : Table → ℕ → ℕ → Option TypeId
member_id table tag k = option_map (λ m. m.ty) (member_at table (Some tag) k)

abbrev pub term_part : Table → Option Term → PathStep → Option TypeId
term_part table (Some (Array of (Some n))) (Index i) = Some of
term_part table (Some (Structure tag)) (Member k) = member_id table tag k
term_part table (Some (Union tag)) (Member k) = member_id table tag k
term_part table term step = None

-- the type of a part, whatever the index
abbrev pub part_id : Table → Whole → PathStep → Option TypeId
part_id table (Many id n) (Index i) = Some id
part_id table (Many id n) (Member k) = None
part_id table (One id) step = term_part table (slice_get table.terms id.0) step

abbrev pub term_count : Option Term → Option ℕ
term_count (Some (Array of length)) = length
term_count term = None

-- how many elements an array has
abbrev pub count_in : Table → Whole → Option ℕ
count_in table (Many id n) = Some n
count_in table (One id) = term_count (slice_get table.terms id.0)

-- the place itself, where it is no element of an array
abbrev pub alone : Whole → Bool → Option Run
alone (One id) past = Some (record { front = []; first = None; room = (if past then 0 else 1); of = id })
alone (Many id n) past = None

-- the elements of an array from an index on, none behind a place that is past
abbrev pub indexed : Bool → ℕ → Option ℕ → Option TypeId → Option Run
indexed past i (Some n) (Some id) =
    Some (record { front = []; first = Some i; room = (if past then 0 else n - i); of = id })
indexed past i count id = None

abbrev pub behind_step : PathStep → Bool → Option Run → Option Run
behind_step step out None = None
behind_step step out (Some run) =
    Some (record run { front = step ∷ run.front; room = (if out then 0 else run.room) })

-- an index that is a path's last step
abbrev pub last_index : PathStep → List PathStep → Option ℕ
last_index (Index i) [] = Some i
last_index step rest = None

abbrev pub run_from : Table → Option Whole → List PathStep → Bool → Option Run
run_from table None path past = None
run_from table (Some whole) [] past = alone whole past
run_from table (Some whole) (step ∷ rest) past = elim (last_index step rest) [
  | Some i ↦ indexed past i (count_in table whole) (part_id table whole (Index i))
  | None ↦ behind_step step (is_out (shape_of table whole) step)
      (run_from table (option_map One (part_id table whole step)) rest past)
]

-- the path of the element so many further on
abbrev pub element_path : Run → ℕ → List PathStep
element_path run k = elim run.first [ None ↦ run.front | Some i ↦ run.front ++ Index (i + k) ∷ [] ]

abbrev pub with_run : ℕ → Option Run → Result Found Reason
with_run i None = Err Mismatch
with_run i (Some run) = Ok (record { number = i; run = run })

abbrev pub found_as : Table → ℕ → Instance → List PathStep → Bool → Option TypeId → Result Found Reason
found_as table i inst path past None = Err Mismatch
found_as table i inst path past (Some id) = with_run i (run_from table (Some (whole_id table inst id)) path past)

-- an instance that lives
abbrev pub live_at : Option Instance → Result Instance Reason
live_at None = Err Mismatch
live_at (Some inst) = if inst.live then Ok inst else Err DeadUse

-- the elements at a place of an instance that has a type; null, a function, an ended instance and an untyped one
-- stop it as they stop a read
abbrev pub found_at : Table → List Instance → Cell → Result Found Reason
found_at table memory Null = Err NullUse
found_at table memory (Pointer i path past) =
    live_at (slice_get memory i) >>= λ inst. found_as table i inst path past inst.ty
found_at table memory cell = Err Mismatch

abbrev pub size_in : Table → TypeId → Option ℕ
size_in table id = size_below (extent_in table (type_of table id.0))

-- how many elements of a size so many bytes are, where they are whole ones
abbrev pub parts_of : ℕ → Option ℕ → Result ℕ Reason
parts_of bytes None = Err Mismatch
parts_of bytes (Some size) =
    if size == 0 then Err Mismatch else (if bytes % size == 0 then Ok (bytes / size) else Err Mismatch)

-- so many elements lie in an array
abbrev pub within : ℕ → ℕ → Result ℕ Reason
within n room = if nat_le n room then Ok n else Err OutOfRange

-- a pointer to an element
abbrev pub element_at : Found → ℕ → Cell
element_at found k = Pointer found.number (element_path found.run k) false

abbrev pub content_in : Table → Option Instance → List PathStep → Ctype → Option CellList
content_in table None path t = None
content_in table (Some inst) path t = content table inst path t

-- all cells of an element, or none where its path goes through a member that isn't active
abbrev pub content_at : Table → List Instance → Found → ℕ → Option CellList
content_at table memory found k =
    content_in table (slice_get memory found.number) (element_path found.run k) (type_of table found.run.of.0)
