-- What a read gives.
use Rattle.std.specs.Prelude.{ℕ, zero, suc, ◌+◌, ◌==◌, pos, Bool, true, false, List, [], ◌∷◌, ◌++◌, Option, Some}
use Rattle.std.specs.Prelude.{None, map, slice_get, unwrap_or}
use Rattle.c_types.specs.declared.term.PathStep.{PathStep}
use Rattle.c_types.specs.declared.term.PathStep.TheVariants.{Index, Member}
use Rattle.c_types.specs.Trees.{Ctype, VoidType, VaListType, PointerTo, ArrayOf, FunctionFrom, StructureOf, UnionOf}
use Rattle.c_types.specs.Table.{Table, type_of, members_in}
use Rattle.ref_cells.specs.declared.cells.Cell.{Cell}
use Rattle.ref_cells.specs.declared.cells.Cell.TheVariants.{Unset, Number, Null}
use Rattle.ref_cells.specs.Cells.{CellList, under, prefixed}

-- zero in a scalar: null in a pointer and in a variadic list, else the number
abbrev pub zero_cell : Ctype → Cell
zero_cell (PointerTo to) = Null
zero_cell VaListType = Null
zero_cell t = Number (pos 0)

-- what a scalar holds of which no cell is listed, with and without the mark
abbrev pub blank : Bool → Ctype → Cell
blank true t = zero_cell t
blank false t = Unset

-- what a scalar holds of which these cells are listed
abbrev pub cell_in : Bool → Ctype → CellList → Cell
cell_in marked t [] = blank marked t
cell_in marked t (e ∷ rest) = e.1

abbrev pub member_step : List PathStep → ℕ
member_step (Member k ∷ rest) = k
member_step path = 0

-- What is listed of a part so that it isn't forgotten: its cells, or its own place, unset, where it has none.
-- An empty structure is no scalar, so nothing reads what stands at its place; but a union tells by it which member is
-- active.
abbrev pub listed : CellList → CellList
listed [] = ([], Unset) ∷ []
listed (e ∷ rest) = e ∷ rest

-- the active member of a union: the one under which a cell is listed, else the first
abbrev pub active : CellList → ℕ
active [] = 0
active (e ∷ rest) = member_step e.0

-- the types of a tag's members
abbrev pub member_types : Table → ℕ → List Ctype
member_types table tag = map (λ m. type_of table m.ty.0) (unwrap_or (members_in table tag) [])

-- all cells of a value of a type of which these are listed
abbrev pub Fill : Type 0
Fill = Ctype → CellList → CellList

-- the cells of the first so many elements
abbrev pub elements : (CellList → CellList) → ℕ → CellList → CellList
elements fill zero cells = []
elements fill (suc n) cells = elements fill n cells ++ prefixed (Index n) (fill (under (Index n) cells))

-- the cells of members, the first of them number k
abbrev pub members_from : Fill → ℕ → List Ctype → CellList → CellList
members_from fill k [] cells = []
members_from fill k (t ∷ rest) cells =
    prefixed (Member k) (fill t (under (Member k) cells)) ++ members_from fill (k + 1) rest cells

abbrev pub one_member : Fill → ℕ → Option Ctype → CellList → CellList
one_member fill k None cells = []
one_member fill k (Some t) cells = prefixed (Member k) (listed (fill t (under (Member k) cells)))

-- the cells of a value, where the members of structures and unions are filled like this
abbrev pub filled_by : Table → Bool → Fill → Ctype → CellList → CellList
filled_by table marked fill VoidType cells = []
filled_by table marked fill (FunctionFrom result parameters form) cells = []
filled_by table marked fill (ArrayOf of None) cells = []
filled_by table marked fill (ArrayOf of (Some n)) cells = elements (filled_by table marked fill of) n cells
filled_by table marked fill (StructureOf tag) cells = members_from fill 0 (member_types table tag) cells
filled_by table marked fill (UnionOf tag) cells =
    one_member fill (active cells) (slice_get (member_types table tag) (active cells)) cells
filled_by table marked fill t cells = ([], cell_in marked t cells) ∷ []

-- through so many structures and unions, one within another
abbrev pub filled_to : Table → Bool → ℕ → Fill
filled_to table marked zero = λ t cells. []
filled_to table marked (suc depth) = filled_by table marked (filled_to table marked depth)

-- All cells of a value, unset ones too: a structure's are those of its members, an array's those of its elements, a
-- union's those of its active member, or that member's place where it has none. No structure or union holds one of its
-- own tag, so there are no more levels than tags.
unfoldable pub filled : Table → Bool → Fill
filled table marked = filled_by table marked (filled_to table marked table.tags)

-- a step that doesn't go into a member of a union that isn't active
abbrev pub goes_on : Option Ctype → PathStep → CellList → Bool
goes_on (Some (UnionOf tag)) (Member k) cells = active cells == k
goes_on t step cells = true
