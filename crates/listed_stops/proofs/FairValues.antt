-- The rows of places, pointers, numbers and values stop for no bad call.
use Rattle.std.proofs.Common.{ℕ, ◌==◌, ℤ, pos, ◌+ℤ◌, ◌-ℤ◌, int_le, ◌&&◌, not, unsigned_abs, Bool, true, false, cond, List, [], ◌∷◌, Option, Some, None, Result, Ok, Err, slice_get}
use Rattle.std.specs.Ordering.{int_eq}
use Rattle.c_types.specs.declared.key.ObjectKey.{ObjectKey}
use Rattle.c_types.specs.declared.key.ObjectKey.TheVariants.{Text as TextKey, Entity as EntityKey, Varargs as VarargsKey}
use Rattle.c_types.specs.declared.term.PathStep.{PathStep}
use Rattle.c_types.specs.declared.term.PathStep.TheVariants.{Index, Member as MemberStep}
use Rattle.c_types.specs.declared.term.TypeId.{TypeId}
use Rattle.c_types.specs.Trees.{Ctype, VoidType, BoolType, IntegerType, PointerTo, FunctionFrom}
use Rattle.c_types.specs.Table.{Table, type_of}
use Rattle.type_rules.specs.Numbers.{half_of}
use Rattle.core_tree.specs.declared.node.Node.{Node}
use Rattle.core_tree.specs.declared.node.Op.{Op}
use Rattle.core_tree.specs.declared.node.Op.TheVariants.{Minus, Less, Greater, LessEqual, GreaterEqual, Equal, NotEqual, Not}
use Rattle.core_tree.specs.declared.node.NodeKind.{NodeKind}
use Rattle.core_tree.specs.declared.node.NodeKind.TheVariants.{Named, Text, Literal, FunctionName, Deref, Member, Number as NumberNode, NullValue, VarArgs, Fetch, AddressOf, Decay, PointerAdd, Convert, Upcast, Assign, Update, Sequence, MemberOfValue, Arith}
use Rattle.core_tree.specs.Rows.{place_bits}
use Rattle.core_tree.specs.Typed.{CoreTrees, type_at}
use Rattle.c_consts.specs.Wrapped.{width_of}
use Rattle.c_consts.specs.Operators.{Step, Gives, Breaks, NoForm, OutOfRange as OutOfTheRange, ZeroDivisor, unary, binary}
use Rattle.row_numbers.specs.Objects.{entity_key}
use Rattle.ref_cells.specs.declared.cells.Reason.{Reason}
use Rattle.ref_cells.specs.declared.cells.Reason.TheVariants.{NullUse, OutOfRange, Unset as UnsetUse, Overflow, Mismatch}
use Rattle.ref_cells.specs.declared.cells.Cell.{Cell}
use Rattle.ref_cells.specs.declared.cells.Cell.TheVariants.{Unset, Number, Null, Pointer, Function}
use Rattle.ref_cells.specs.declared.cells.Value.{Value}
use Rattle.ref_cells.specs.declared.instance.Instance.{Instance}
use Rattle.ref_cells.specs.Cells.{CellList, under}
use Rattle.ref_cells.specs.Numbers.{converted}
use Rattle.ref_cells.specs.Values.{active}
use Rattle.ref_mem.specs.Reads.{read, one_cell}
use Rattle.ref_mem.specs.Writes.{write}
use Rattle.ref_elements.specs.Runs.{◌>>=◌}
use Rattle.ref_elements.specs.Outcomes.{gives, stores_and_gives}
use Rattle.ref_state.specs.Values.{value_in, cell_in, cell_of}
use Rattle.ref_places.specs.Parts.{type_there}
use Rattle.ref_places.specs.Places.{instance_of, whole_place, first_place, named_row, varargs_row, deref_row, is_type, stepped, member_row, is_array, decay_row, upcast_row}
use Rattle.ref_places.specs.Pointers.{last_index, front, elements_at, index_moved, with_index, mark_moved, place_moved, moved, same_path, in_order, between, ordered, compared, signed_by}
use Rattle.ref_values.specs.Numbers.{outcome, is_lost, two_in, left_operand, right_operand, over_two, over_one, update_type, promoted, is_narrow}
use Rattle.ref_values.specs.Memory.{fetch_row, stores_at, assign_row, pointer_converted, number_converted, scalar_converted, converted_to, convert_row, is_minus, pointer_moved, is_integer, number_kept, computed_in, number_updated, scalar_updated, cell_updated, update_written, update_row, is_union, is_empty, value_within, member_of_value_row}
use Rattle.ref_values.specs.Values.{cell_given, number_given, is_true, opposite, one_row, two_row, lacks, uses_all, one_of, two_of, gives_cell, deref_computed, member_computed, cell_computed, one_computed, two_computed, pair_computed, value_computed, computed_by, computed}
use Rattle.listed_stops.proofs.Fair.{Fair, then_fair, either_fair, read_fair, write_fair}

-- ---- places
whole_place_fair : (o : Option ℕ) → Fair (whole_place o)
whole_place_fair None = tt
whole_place_fair (Some i) = tt

first_place_fair : (o : Option ℕ) → Fair (first_place o)
first_place_fair None = tt
first_place_fair (Some i) = tt

named_fair : (memory : List Instance) (own : List ℕ) (key : ObjectKey) → Fair (named_row memory own key)
unfolding named_row
named_fair memory own key = whole_place_fair (instance_of memory own key)

varargs_fair : (memory : List Instance) (own : List ℕ) (e : ℕ) → Fair (varargs_row memory own e)
unfolding varargs_row
varargs_fair memory own e = first_place_fair (instance_of memory own (VarargsKey e))

deref_fair : (cell : Cell) → Fair (deref_row cell)
deref_fair Null = tt
deref_fair (Pointer i path past) = tt
deref_fair (Function key) = tt
deref_fair cell = tt

stepped_fair : (cell : Cell) (step : PathStep) → Fair (stepped cell step)
stepped_fair (Pointer i path past) step = tt
stepped_fair cell step = tt

member_fair : (table : Table) (memory : List Instance) (place : Cell) (s : Ctype) (k : ℕ) → Fair (member_row table memory place s k)
unfolding member_row
member_fair table memory place s k = either_fair (is_type s (type_there table memory place)) (stepped place (MemberStep k)) (Err Mismatch) (stepped_fair place (MemberStep k)) tt

array_fair : (table : Table) (memory : List Instance) (place : Cell) → Fair (let r : Result Cell Reason = cond (is_array (type_there table memory place)) (stepped place (Index 0)) (Err Mismatch) in r)
array_fair table memory place = either_fair (is_array (type_there table memory place)) (stepped place (Index 0)) (Err Mismatch) (stepped_fair place (Index 0)) tt

decay_fair : (table : Table) (memory : List Instance) (place : Cell) (t : Ctype) → Fair (decay_row table memory place t)
unfolding decay_row
decay_fair table memory place (FunctionFrom result parameters form) = tt
decay_fair table memory place t = array_fair table memory place

upcast_fair : (table : Table) (memory : List Instance) (cell : Cell) (t : Ctype) → Fair (upcast_row table memory cell t)
upcast_fair table memory Null t = tt
upcast_fair table memory cell (PointerTo s) = member_fair table memory cell s 0
upcast_fair table memory cell t = tt

-- ---- pointers
index_fair : (count i : ℕ) (k : ℤ) → Fair (index_moved count i k)
index_fair count i k = either_fair (int_le (pos 0) (pos i +ℤ k) && int_le (pos i +ℤ k) (pos count)) (Ok (unsigned_abs (pos i +ℤ k))) (Err OutOfRange) tt tt

with_index_fair : (i : ℕ) (path : List PathStep) (past : Bool) (r : Result ℕ Reason) → Fair r → Fair (with_index i path past r)
with_index_fair i path past (Ok k) h = tt
with_index_fair i path past (Err e) h = h

mark_fair : (i : ℕ) (path : List PathStep) (past : Bool) (k : ℤ) → Fair (mark_moved i path past k)
mark_fair i path past k =
    either_fair (int_eq k (pos 0)) (Ok (Pointer i path past))
    (cond past (cond (int_eq k (pos 0 -ℤ pos 1)) (Ok (Pointer i path false)) (Err OutOfRange)) (cond (int_eq k (pos 1)) (Ok (Pointer i path true)) (Err OutOfRange)))
    tt
    (either_fair past (cond (int_eq k (pos 0 -ℤ pos 1)) (Ok (Pointer i path false)) (Err OutOfRange)) (cond (int_eq k (pos 1)) (Ok (Pointer i path true)) (Err OutOfRange))
    (either_fair (int_eq k (pos 0 -ℤ pos 1)) (Ok (Pointer i path false)) (Err OutOfRange) tt tt) (either_fair (int_eq k (pos 1)) (Ok (Pointer i path true)) (Err OutOfRange) tt tt))

place_moved_fair : (table : Table) (memory : List Instance) (i : ℕ) (path : List PathStep) (past : Bool) (k : ℤ) (o : Option ℕ) → Fair (place_moved table memory i path past k o)
place_moved_fair table memory i path past k (Some j) =
    with_index_fair i path past (index_moved (elements_at table (slice_get memory i) path) j k) (index_fair (elements_at table (slice_get memory i) path) j k)
place_moved_fair table memory i path past k None = mark_fair i path past k

moved_fair : (table : Table) (memory : List Instance) (cell : Cell) (k : ℤ) → Fair (moved table memory cell k)
unfolding moved
moved_fair table memory Null k = either_fair (int_eq k (pos 0)) (Ok Null) (Err NullUse) tt tt
moved_fair table memory (Function key) k = either_fair (int_eq k (pos 0)) (Ok (Function key)) (Err OutOfRange) tt tt
moved_fair table memory (Pointer i path past) k = place_moved_fair table memory i path past k (last_index path)
moved_fair table memory cell k = tt

order_fair : (op : Op) (i j : ℕ) → Fair (in_order op i j)
order_fair Minus i j = tt
order_fair Less i j = tt
order_fair Greater i j = tt
order_fair LessEqual i j = tt
order_fair GreaterEqual i j = tt
order_fair op i j = tt

between_fair : (op : Op) (a b : Option ℕ) → Fair (between op a b)
between_fair op (Some i) (Some j) = order_fair op i j
between_fair op a b = tt

ordered_fair : (op : Op) (a b : Cell) → Fair (ordered op a b)
ordered_fair op (Pointer a p x) (Pointer b q y) =
    either_fair ((a == b) && same_path (front p) (front q)) (between op (last_index p) (last_index q)) (Err OutOfRange) (between_fair op (last_index p) (last_index q)) tt
ordered_fair op a b = tt

compared_fair : (op : Op) (a b : Cell) → Fair (compared op a b)
unfolding compared
compared_fair Equal a b = tt
compared_fair NotEqual a b = tt
compared_fair op a b = ordered_fair op a b

-- ---- numbers
outcome_fair : (step : Step) → Fair (outcome step)
outcome_fair (Gives value) = tt
outcome_fair (Breaks NoForm) = tt
outcome_fair (Breaks OutOfTheRange) = tt
outcome_fair (Breaks ZeroDivisor) = tt

two_in_fair : (op : Op) (size : ℕ) (signed : Bool) (x y : ℤ) → Fair (two_in op size signed x y)
two_in_fair op size signed x y =
    either_fair (is_lost op x) (Err Overflow) (outcome (binary op signed (half_of size) (width_of size) x y)) tt (outcome_fair (binary op signed (half_of size) (width_of size) x y))

over_two_fair : (op : Op) (t : Ctype) (x y : ℤ) → Fair (over_two op t x y)
over_two_fair op (IntegerType size rank signed) x y = two_in_fair op size signed (left_operand op (IntegerType size rank signed) x) (right_operand op (IntegerType size rank signed) y)
over_two_fair op t x y = tt

over_one_fair : (op : Op) (t : Ctype) (x : ℤ) → Fair (over_one op t x)
over_one_fair op (IntegerType size rank signed) x = outcome_fair (unary op signed (half_of size) (converted (IntegerType size rank signed) x))
over_one_fair op t x = tt

-- ---- values that read memory or change it
fetch_fair : (table : Table) (memory : List Instance) (place : Cell) (t : Ctype) → Fair (fetch_row table memory place t)
fetch_fair table memory place t = then_fair (read table memory place t) (λ value. gives memory value) (read_fair table memory place t) (λ value. tt)

assign_fair : (table : Table) (memory : List Instance) (place : Cell) (t : Ctype) (value : Value) → Fair (assign_row table memory place t value)
assign_fair table memory place t value =
    then_fair (write table memory place t value) (λ after. stores_and_gives after value (stores_at place value.cells)) (write_fair table memory place t value) (λ after. tt)

pointer_converted_fair : (table : Table) (memory : List Instance) (cell : Cell) (ty : TypeId) (t : Ctype) (word : ℕ) → Fair (pointer_converted table memory cell ty t word)
pointer_converted_fair table memory cell ty BoolType word = tt
pointer_converted_fair table memory cell ty (IntegerType size rank signed) word = tt
pointer_converted_fair table memory cell ty t word = tt

number_converted_fair : (memory : List Instance) (t : Ctype) (cell : Cell) → Fair (number_converted memory t cell)
number_converted_fair memory t (Number n) = tt
number_converted_fair memory t cell = tt

scalar_converted_fair : (table : Table) (memory : List Instance) (a : Ctype) (cell : Cell) (ty : TypeId) (word : ℕ) → Fair (scalar_converted table memory a cell ty word)
scalar_converted_fair table memory (PointerTo to) cell ty word = pointer_converted_fair table memory cell ty (type_of table ty.0) word
scalar_converted_fair table memory a cell ty word = number_converted_fair memory (type_of table ty.0) cell

converted_fair : (table : Table) (memory : List Instance) (a : Ctype) (cell : Cell) (ty : TypeId) (word : ℕ) (t : Ctype) → Fair (converted_to table memory a cell ty word t)
converted_fair table memory a cell ty word VoidType = tt
converted_fair table memory a cell ty word t = scalar_converted_fair table memory a cell ty word

convert_fair : (table : Table) (memory : List Instance) (a : Ctype) (cell : Cell) (ty : TypeId) (word : ℕ) → Fair (convert_row table memory a cell ty word)
unfolding convert_row
convert_fair table memory a cell ty word = converted_fair table memory a cell ty word (type_of table ty.0)

pointer_moved_fair : (table : Table) (memory : List Instance) (cell : Cell) (minus : Bool) (count : Cell) → Fair (pointer_moved table memory cell minus count)
pointer_moved_fair table memory cell minus (Number k) = moved_fair table memory cell (signed_by minus k)
pointer_moved_fair table memory cell minus count = tt

number_kept_fair : (t : Ctype) (r : Result ℤ Reason) → Fair r → Fair (number_kept t r)
number_kept_fair t (Ok n) h = tt
number_kept_fair t (Err e) h = h

number_updated_fair : (t : Ctype) (op : Op) (bits : Option ℕ) (old : ℤ) (value_type : Ctype) (v : ℤ) → Fair (number_updated t op bits old value_type v)
number_updated_fair t op bits old value_type v =
    let common : Ctype = update_type op (promoted t (is_narrow bits)) value_type in
    number_kept_fair t (computed_in common op old v) (over_two_fair op common (converted common old) v)

scalar_updated_fair : (t : Ctype) (op : Op) (bits : Option ℕ) (old : Cell) (value_type : Ctype) (v : Cell) → Fair (scalar_updated t op bits old value_type v)
scalar_updated_fair t op bits (Number old) value_type (Number v) = either_fair (is_integer t) (number_updated t op bits old value_type v) (Err Mismatch) (number_updated_fair t op bits old value_type v) tt
scalar_updated_fair t op bits old value_type v = tt

cell_updated_fair : (table : Table) (memory : List Instance) (t : Ctype) (op : Op) (bits : Option ℕ) (old : Cell) (value_type : Ctype) (v : Cell) → Fair (cell_updated table memory t op bits old value_type v)
cell_updated_fair table memory (PointerTo to) op bits old value_type v = pointer_moved_fair table memory old (is_minus op) v
cell_updated_fair table memory t op bits old value_type v = scalar_updated_fair t op bits old value_type v

update_written_fair : (table : Table) (memory : List Instance) (place : Cell) (t : Ctype) (post : Bool) (old new : Cell) → Fair (update_written table memory place t post old new)
update_written_fair table memory place t post old new =
    then_fair (write table memory place t (one_cell new)) (λ after. stores_and_gives after (cond post (one_cell old) (one_cell new)) (stores_at place (([], new) ∷ []))) (write_fair table memory place t (one_cell new)) (λ after. tt)

update_fair : (table : Table) (memory : List Instance) (place : Cell) (t : Ctype) (op : Op) (post : Bool) (bits : Option ℕ) (value_type : Ctype) (v : Cell) → Fair (update_row table memory place t op post bits value_type v)
unfolding update_row
update_fair table memory place t op post bits value_type v =
    then_fair (read table memory place t) (λ old. cell_updated table memory t op bits (cell_of old) value_type v >>= λ new. update_written table memory place t post (cell_of old) new) (read_fair table memory place t)
    (λ old.
    then_fair (cell_updated table memory t op bits (cell_of old) value_type v) (λ new. update_written table memory place t post (cell_of old) new) (cell_updated_fair table memory t op bits (cell_of old) value_type v)
    (λ new. update_written_fair table memory place t post (cell_of old) new))

member_of_value_fair : (memory : List Instance) (s : Ctype) (k : ℕ) (cells : CellList) → Fair (member_of_value_row memory s k cells)
unfolding member_of_value_row
member_of_value_fair memory s k cells = either_fair (is_union s && (not (is_empty cells) && not (active cells == k))) (Err Mismatch) (gives memory (value_within (under (MemberStep k) cells))) tt tt

-- ---- values
cell_given_fair : (memory : List Instance) (row : Result Cell Reason) → Fair row → Fair (cell_given memory row)
cell_given_fair memory row h = then_fair row (λ cell. gives memory (one_cell cell)) h (λ cell. tt)

number_given_fair : (memory : List Instance) (row : Result ℤ Reason) → Fair row → Fair (number_given memory row)
number_given_fair memory row h = then_fair row (λ n. gives memory (one_cell (Number n))) h (λ n. tt)

pub true_fair : (cell : Cell) → Fair (is_true cell)
true_fair (Number n) = tt
true_fair Null = tt
true_fair (Pointer i path past) = tt
true_fair (Function key) = tt
true_fair Unset = tt

one_fair : (op : Op) (t : Ctype) (cell : Cell) → Fair (one_row op t cell)
one_fair Not t cell = then_fair (is_true cell) (λ b. Ok (opposite b)) (true_fair cell) (λ b. tt)
one_fair op t (Number n) = over_one_fair op t n
one_fair op t cell = tt

two_fair : (op : Op) (t : Ctype) (a b : Cell) → Fair (two_row op t a b)
two_fair op t (Number x) (Number y) = over_two_fair op t x y
two_fair op t a b = compared_fair op a b

deref_computed_fair : (values : List (ℕ × Value)) (o : Option ℕ) → Fair (deref_computed values o)
deref_computed_fair values (Some v) = deref_fair (cell_in values v)
deref_computed_fair values None = tt

member_computed_fair : (u : CoreTrees) (memory : List Instance) (k : ℕ) (values : List (ℕ × Value)) (o : Option ℕ) → Fair (member_computed u memory k values o)
member_computed_fair u memory k values (Some p) = member_fair u.types memory (cell_in values p) (type_at u p) k
member_computed_fair u memory k values None = tt

cell_computed_fair : (u : CoreTrees) (memory : List Instance) (own : List ℕ) (n : ℕ) (kind : NodeKind) (children : List ℕ) (values : List (ℕ × Value)) → Fair (cell_computed u memory own n kind children values)
cell_computed_fair u memory own n (Named e) children values = named_fair memory own (entity_key e (slice_get u.entities e))
cell_computed_fair u memory own n (Text bytes) children values = named_fair memory own (TextKey n)
cell_computed_fair u memory own n (Literal e) children values = named_fair memory own (EntityKey e)
cell_computed_fair u memory own n (FunctionName e) children values = tt
cell_computed_fair u memory own n (NumberNode k) children values = tt
cell_computed_fair u memory own n NullValue children values = tt
cell_computed_fair u memory own n (VarArgs e) children values = varargs_fair memory own e
cell_computed_fair u memory own n Deref children values = deref_computed_fair values (one_of children)
cell_computed_fair u memory own n (Member k) children values = member_computed_fair u memory k values (one_of children)
cell_computed_fair u memory own n kind children values = tt

one_computed_fair : (u : CoreTrees) (memory : List Instance) (ty : TypeId) (kind : NodeKind) (v : ℕ) (values : List (ℕ × Value)) (word : ℕ) → Fair (one_computed u memory ty kind v values word)
one_computed_fair u memory ty Fetch p values word = fetch_fair u.types memory (cell_in values p) (type_of u.types ty.0)
one_computed_fair u memory ty AddressOf p values word = tt
one_computed_fair u memory ty Decay p values word = cell_given_fair memory (decay_row u.types memory (cell_in values p) (type_at u p)) (decay_fair u.types memory (cell_in values p) (type_at u p))
one_computed_fair u memory ty Convert v values word = convert_fair u.types memory (type_at u v) (cell_in values v) ty word
one_computed_fair u memory ty Upcast v values word = cell_given_fair memory (upcast_row u.types memory (cell_in values v) (type_at u v)) (upcast_fair u.types memory (cell_in values v) (type_at u v))
one_computed_fair u memory ty (MemberOfValue k) v values word = member_of_value_fair memory (type_at u v) k (value_in values v).cells
one_computed_fair u memory ty (Arith op) a values word = number_given_fair memory (one_row op (type_at u a) (cell_in values a)) (one_fair op (type_at u a) (cell_in values a))
one_computed_fair u memory ty kind v values word = tt

two_computed_fair : (u : CoreTrees) (memory : List Instance) (ty : TypeId) (kind : NodeKind) (a b : ℕ) (values : List (ℕ × Value)) → Fair (two_computed u memory ty kind a b values)
two_computed_fair u memory ty (PointerAdd minus) v i values =
    cell_given_fair memory (pointer_moved u.types memory (cell_in values v) minus (cell_in values i)) (pointer_moved_fair u.types memory (cell_in values v) minus (cell_in values i))
two_computed_fair u memory ty Assign p v values = assign_fair u.types memory (cell_in values p) (type_of u.types ty.0) (value_in values v)
two_computed_fair u memory ty (Update op post) p v values =
    update_fair u.types memory (cell_in values p) (type_of u.types ty.0) op post (place_bits u (slice_get u.nodes p)) (type_at u v) (cell_in values v)
two_computed_fair u memory ty Sequence a b values = tt
two_computed_fair u memory ty (Arith op) a b values =
    number_given_fair memory (two_row op (type_at u a) (cell_in values a) (cell_in values b)) (two_fair op (type_at u a) (cell_in values a) (cell_in values b))
two_computed_fair u memory ty kind a b values = tt

pair_computed_fair : (u : CoreTrees) (memory : List Instance) (ty : TypeId) (kind : NodeKind) (o : Option (ℕ × ℕ)) (values : List (ℕ × Value)) → Fair (pair_computed u memory ty kind o values)
pair_computed_fair u memory ty kind (Some operands) values = two_computed_fair u memory ty kind operands.0 operands.1 values
pair_computed_fair u memory ty kind None values = tt

value_computed_fair : (u : CoreTrees) (memory : List Instance) (ty : TypeId) (kind : NodeKind) (children : List ℕ) (o : Option ℕ) (values : List (ℕ × Value)) (word : ℕ) → Fair (value_computed u memory ty kind children o values word)
value_computed_fair u memory ty kind children (Some v) values word = one_computed_fair u memory ty kind v values word
value_computed_fair u memory ty kind children None values word = pair_computed_fair u memory ty kind (two_of children) values

computed_by_fair : (u : CoreTrees) (memory : List Instance) (own : List ℕ) (n : ℕ) (ty : TypeId) (kind : NodeKind) (children : List ℕ) (values : List (ℕ × Value)) (word : ℕ)
    → Fair (computed_by u memory own n ty kind children values word)
computed_by_fair u memory own n ty kind children values word =
    either_fair (gives_cell kind) (cell_given memory (cell_computed u memory own n kind children values)) (value_computed u memory ty kind children (one_of children) values word)
    (cell_given_fair memory (cell_computed u memory own n kind children values) (cell_computed_fair u memory own n kind children values))
    (value_computed_fair u memory ty kind children (one_of children) values word)

pub computed_fair : (u : CoreTrees) (memory : List Instance) (own : List ℕ) (n : ℕ) (node : Node) (values : List (ℕ × Value)) (word : ℕ) → Fair (computed u memory own n node values word)
unfolding computed
computed_fair u memory own n node values word =
    either_fair (uses_all (type_of u.types node.ty.0) node.kind && lacks u values node.children) (Err UnsetUse) (computed_by u memory own n node.ty node.kind node.children values word) tt
    (computed_by_fair u memory own n node.ty node.kind node.children values word)
