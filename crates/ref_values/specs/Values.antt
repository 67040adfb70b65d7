-- What each kind of expression computes from its operands' values.
use Rattle.std.specs.Prelude.{ℕ, ℤ, pos, ◌&&◌, Bool, true, false, if◌then◌else◌, List, [], ◌∷◌, Option, Some, None}
use Rattle.std.specs.Prelude.{Result, Ok, Err, slice_get}
use Rattle.std.specs.Ordering.{int_eq}
use Rattle.c_types.specs.declared.key.ObjectKey.TheVariants.{Text as TextKey, Entity as EntityKey}
use Rattle.c_types.specs.declared.term.TypeId.{TypeId}
use Rattle.c_types.specs.Trees.{Ctype, VoidType}
use Rattle.c_types.specs.Table.{type_of}
use Rattle.core_tree.specs.declared.node.Node.{Node}
use Rattle.core_tree.specs.declared.node.Op.{Op}
use Rattle.core_tree.specs.declared.node.Op.TheVariants.{Not}
use Rattle.core_tree.specs.declared.node.NodeKind.{NodeKind}
use Rattle.core_tree.specs.declared.node.NodeKind.TheVariants.{VarArgs}
use Rattle.ref_places.specs.Places.{varargs_row}
use Rattle.core_tree.specs.declared.node.NodeKind.TheVariants.{Named, Text, Literal, FunctionName, Deref, Member}
use Rattle.core_tree.specs.declared.node.NodeKind.TheVariants.{Number, NullValue, Fetch, AddressOf, Decay}
use Rattle.core_tree.specs.declared.node.NodeKind.TheVariants.{PointerAdd, Convert, Upcast, Assign, Update, Choose}
use Rattle.core_tree.specs.declared.node.NodeKind.TheVariants.{Sequence, MemberOfValue, Arith}
use Rattle.core_tree.specs.Typed.{CoreTrees, type_at}
use Rattle.core_tree.specs.Rows.{place_bits}
use Rattle.row_numbers.specs.Objects.{entity_key}
use Rattle.ref_cells.specs.declared.cells.Reason.{Reason}
use Rattle.ref_cells.specs.declared.cells.Reason.TheVariants.{Unset as UnsetUse, Mismatch}
use Rattle.ref_cells.specs.declared.cells.Cell.{Cell}
use Rattle.ref_cells.specs.declared.cells.Cell.TheVariants.{Number as NumberCell, Null, Pointer, Function, Unset}
use Rattle.ref_cells.specs.declared.cells.Value.{Value}
use Rattle.ref_cells.specs.declared.instance.Instance.{Instance}
use Rattle.ref_mem.specs.Reads.{one_cell}
use Rattle.ref_elements.specs.Runs.{◌>>=◌}
use Rattle.ref_elements.specs.Outcomes.{Effect, gives}
use Rattle.ref_state.specs.Values.{value_in, cell_in}
use Rattle.ref_values.specs.Numbers.{over_one, over_two}
use Rattle.ref_places.specs.Pointers.{compared}
use Rattle.ref_places.specs.Places.{named_row, deref_row, member_row, decay_row, upcast_row}
use Rattle.ref_values.specs.Memory.{fetch_row, assign_row, convert_row, pointer_moved, update_row}
use Rattle.ref_values.specs.Memory.{member_of_value_row, is_missing}

-- a row that leaves the memory as it is
abbrev pub cell_given : List Instance → Result Cell Reason → Effect
cell_given memory row = row >>= λ cell. gives memory (one_cell cell)

abbrev pub number_given : List Instance → Result ℤ Reason → Effect
number_given memory row = row >>= λ n. gives memory (one_cell (NumberCell n))

-- a scalar as a condition
abbrev pub is_true : Cell → Result Bool Reason
is_true (NumberCell n) = Ok (if int_eq n (pos 0) then false else true)
is_true Null = Ok false
is_true (Pointer instance path past) = Ok true
is_true (Function key) = Ok true
is_true Unset = Err UnsetUse

abbrev pub opposite : Bool → ℤ
opposite true = pos 0
opposite false = pos 1

-- an operator over one value
abbrev pub one_row : Op → Ctype → Cell → Result ℤ Reason
one_row Not t cell = is_true cell >>= λ b. Ok (opposite b)
one_row op t (NumberCell n) = over_one op t n
one_row op t cell = Err Mismatch

-- an operator over two values, of which the left one has that type
abbrev pub two_row : Op → Ctype → Cell → Cell → Result ℤ Reason
two_row op t (NumberCell x) (NumberCell y) = over_two op t x y
two_row op t a b = compared op a b

-- the value of a node wasn't returned
abbrev pub lacks_one : CoreTrees → List (ℕ × Value) → ℕ → Bool
lacks_one u values c = is_missing u.types (type_at u c) (value_in values c)

-- the operands of a node are all there; the left of a Sequence and what is converted to void needn't be
abbrev pub lacks : CoreTrees → List (ℕ × Value) → List ℕ → Bool
lacks u values [] = false
lacks u values (c ∷ rest) = if lacks_one u values c then true else lacks u values rest

abbrev pub uses_all : Ctype → NodeKind → Bool
uses_all VoidType Convert = false
uses_all t Sequence = false
uses_all t Choose = false
uses_all t (Literal e) = false
uses_all t kind = true

-- the operand of a node that has one, and the operands of one that has two
abbrev pub one_of : List ℕ → Option ℕ
one_of (v ∷ []) = Some v
one_of children = None

abbrev pub two_of : List ℕ → Option (ℕ × ℕ)
two_of (a ∷ b ∷ []) = Some (a, b)
two_of children = None

-- kinds whose value is one cell, which is made without a look at what the memory holds
abbrev pub gives_cell : NodeKind → Bool
gives_cell (Named e) = true
gives_cell (Text bytes) = true
gives_cell (Literal e) = true
gives_cell (FunctionName e) = true
gives_cell (Number k) = true
gives_cell NullValue = true
gives_cell Deref = true
gives_cell (Member k) = true
gives_cell (VarArgs e) = true
gives_cell kind = false

abbrev pub deref_computed : List (ℕ × Value) → Option ℕ → Result Cell Reason
deref_computed values (Some v) = deref_row (cell_in values v)
deref_computed values None = Err Mismatch

abbrev pub member_computed : CoreTrees → List Instance → ℕ → List (ℕ × Value) → Option ℕ → Result Cell Reason
member_computed u memory k values (Some p) = member_row u.types memory (cell_in values p) (type_at u p) k
member_computed u memory k values None = Err Mismatch

abbrev pub cell_computed : CoreTrees
    → List Instance
    → List ℕ
    → ℕ
    → NodeKind
    → List ℕ
    → List (ℕ × Value)
    → Result Cell Reason
cell_computed u memory own n (Named e) children values =
    named_row memory own (entity_key e (slice_get u.entities e))
cell_computed u memory own n (Text bytes) children values = named_row memory own (TextKey n)
cell_computed u memory own n (Literal e) children values = named_row memory own (EntityKey e)
cell_computed u memory own n (FunctionName e) children values =
    Ok (Function (entity_key e (slice_get u.entities e)))
cell_computed u memory own n (Number k) children values = Ok (NumberCell k)
cell_computed u memory own n NullValue children values = Ok Null
cell_computed u memory own n (VarArgs e) children values = varargs_row memory own e
cell_computed u memory own n Deref children values = deref_computed values (one_of children)
cell_computed u memory own n (Member k) children values = member_computed u memory k values (one_of children)
cell_computed u memory own n kind children values = Err Mismatch

-- a value over one operand, by the kind of the node and its type
abbrev pub one_computed : CoreTrees → List Instance → TypeId → NodeKind → ℕ → List (ℕ × Value) → ℕ → Effect
one_computed u memory ty Fetch p values word = fetch_row u.types memory (cell_in values p) (type_of u.types ty.0)
one_computed u memory ty AddressOf p values word = gives memory (one_cell (cell_in values p))
one_computed u memory ty Decay p values word =
    cell_given memory (decay_row u.types memory (cell_in values p) (type_at u p))
one_computed u memory ty Convert v values word = convert_row u.types memory (type_at u v) (cell_in values v) ty word
one_computed u memory ty Upcast v values word =
    cell_given memory (upcast_row u.types memory (cell_in values v) (type_at u v))
one_computed u memory ty (MemberOfValue k) v values word =
    member_of_value_row memory (type_at u v) k (value_in values v).cells
one_computed u memory ty (Arith op) a values word =
    number_given memory (one_row op (type_at u a) (cell_in values a))
one_computed u memory ty kind v values word = Err Mismatch

-- a value over two operands
abbrev pub two_computed : CoreTrees → List Instance → TypeId → NodeKind → ℕ → ℕ → List (ℕ × Value) → Effect
two_computed u memory ty (PointerAdd minus) v i values =
    cell_given memory (pointer_moved u.types memory (cell_in values v) minus (cell_in values i))
two_computed u memory ty Assign p v values =
    assign_row u.types memory (cell_in values p) (type_of u.types ty.0) (value_in values v)
two_computed u memory ty (Update op post) p v values =
    update_row u.types memory (cell_in values p) (type_of u.types ty.0) op post
    (place_bits u (slice_get u.nodes p)) (type_at u v) (cell_in values v)
two_computed u memory ty Sequence a b values = gives memory (value_in values b)
two_computed u memory ty (Arith op) a b values =
    number_given memory (two_row op (type_at u a) (cell_in values a) (cell_in values b))
two_computed u memory ty kind a b values = Err Mismatch

abbrev pub pair_computed : CoreTrees
    → List Instance
    → TypeId
    → NodeKind
    → Option (ℕ × ℕ)
    → List (ℕ × Value)
    → Effect
pair_computed u memory ty kind (Some operands) values = two_computed u memory ty kind operands.0 operands.1 values
pair_computed u memory ty kind None values = Err Mismatch

-- a value, by how many operands it has
abbrev pub value_computed : CoreTrees
    → List Instance
    → TypeId
    → NodeKind
    → List ℕ
    → Option ℕ
    → List (ℕ × Value)
    → ℕ
    → Effect
value_computed u memory ty kind children (Some v) values word = one_computed u memory ty kind v values word
value_computed u memory ty kind children None values word = pair_computed u memory ty kind (two_of children) values

-- by the kind of a node, from its type, its children and their values
abbrev pub computed_by : CoreTrees
    → List Instance
    → List ℕ
    → ℕ
    → TypeId
    → NodeKind
    → List ℕ
    → List (ℕ × Value)
    → ℕ
    → Effect
computed_by u memory own n ty kind children values word =
    if gives_cell kind then cell_given memory (cell_computed u memory own n kind children values)
    else value_computed u memory ty kind children (one_of children) values word

-- what a node computes, all of whose operands have their values
unfoldable pub computed : CoreTrees → List Instance → List ℕ → ℕ → Node → List (ℕ × Value) → ℕ → Effect
computed u memory own n node values word =
    if uses_all (type_of u.types node.ty.0) node.kind && lacks u values node.children then Err UnsetUse
    else computed_by u memory own n node.ty node.kind node.children values word
