-- What a fixed value's computation leaves of the memory: all of it.
use Rattle.std.proofs.Common.{◌≡◌, ℕ, List, [], Option, Some, None, Result, Ok, Err, Bool, true, false, cond, IfOk, slice_get, refl, ap}
use Rattle.c_types.specs.declared.term.TypeId.{TypeId}
use Rattle.c_types.specs.declared.term.Term.{Term}
use Rattle.c_types.specs.declared.term.Term.TheVariants.{Pointer as PointerTerm}
use Rattle.c_types.specs.Trees.{Ctype, VoidType, BoolType, IntegerType, PointerTo}
use Rattle.c_types.specs.Table.{Table, type_of}
use Rattle.core_tree.specs.declared.node.Node.{Node}
use Rattle.core_tree.specs.declared.node.NodeKind.{NodeKind}
use Rattle.core_tree.specs.declared.node.NodeKind.TheVariants.{Fetch, AddressOf, Decay, PointerAdd, Convert, Upcast}
use Rattle.core_tree.specs.declared.node.NodeKind.TheVariants.{Assign, Update, Sequence, MemberOfValue, Arith}
use Rattle.core_tree.specs.Typed.{CoreTrees, type_at}
use Rattle.ref_cells.specs.declared.cells.Reason.{Reason}
use Rattle.ref_cells.specs.declared.cells.Reason.TheVariants.{Unset as UnsetUse}
use Rattle.ref_cells.specs.declared.cells.Cell.{Cell}
use Rattle.ref_cells.specs.declared.cells.Cell.TheVariants.{Number, Pointer}
use Rattle.ref_cells.specs.declared.cells.Value.{Value}
use Rattle.ref_cells.specs.declared.instance.Instance.{Instance}
use Rattle.std.proofs.Common.{ℤ}
use Rattle.ref_elements.specs.Outcomes.{Effect}
use Rattle.ref_state.specs.Values.{cell_in}
use Rattle.ref_places.specs.Places.{decay_row, upcast_row}
use Rattle.ref_values.specs.Memory.{convert_row, converted_to, scalar_converted, pointer_converted, number_converted, typed_by, type_given, complete_only, pointee, pointer_moved}
use Rattle.ref_values.specs.Values.{cell_given, number_given, one_row, two_row, cell_computed, one_computed, two_computed, pair_computed, value_computed, gives_cell, one_of, two_of, uses_all, lacks, computed_by, computed}
use Rattle.std.proofs.Common.{◌&&◌}
use Rattle.ref_start.specs.Fixed.{Keeps, convert_way, way_of}

-- an effect that leaves this memory
abbrev pub Leaves : List Instance → Effect → Type 0
Leaves memory given = IfOk given (λ e. e.memory ≡ memory)

cell_leaves : (memory : List Instance) (row : Result Cell Reason) → Leaves memory (cell_given memory row)
cell_leaves memory (Ok cell) = refl
cell_leaves memory (Err reason) = tt

number_leaves : (memory : List Instance) (row : Result ℤ Reason) → Leaves memory (number_given memory row)
number_leaves memory (Ok n) = refl
number_leaves memory (Err reason) = tt

no_pointee : (o : Option Term) → Keeps (convert_way o) → pointee o ≡ None
no_pointee None h = refl
no_pointee (Some (PointerTerm to)) h = absurd h
no_pointee (Some term) h = refl

module _ (table : Table) (memory : List Instance) (ty : TypeId) (keeps : Keeps (convert_way (slice_get table.terms ty.0))) where
  typed_leaves : (cell : Cell) → typed_by table memory cell ty ≡ memory
  typed_leaves (Pointer i path past) =
      ap (λ (o : Option TypeId). type_given memory i (complete_only table o) (slice_get memory i)) (no_pointee (slice_get table.terms ty.0) keeps)
  typed_leaves cell = refl

  pointer_leaves : (cell : Cell) (word : ℕ) (t : Ctype) → Leaves memory (pointer_converted table memory cell ty t word)
  pointer_leaves cell word BoolType = refl
  pointer_leaves cell word (IntegerType size rank signed) = refl
  pointer_leaves cell word t = typed_leaves cell

  plain_leaves : (t : Ctype) (cell : Cell) → Leaves memory (number_converted memory t cell)
  plain_leaves t (Number n) = refl
  plain_leaves t cell = tt

  scalar_leaves : (a : Ctype) (cell : Cell) (word : ℕ) → Leaves memory (scalar_converted table memory a cell ty word)
  scalar_leaves (PointerTo to) cell word = pointer_leaves cell word (type_of table ty.0)
  scalar_leaves a cell word = plain_leaves (type_of table ty.0) cell

  to_leaves : (a : Ctype) (cell : Cell) (word : ℕ) (t : Ctype) → Leaves memory (converted_to table memory a cell ty word t)
  to_leaves a cell word VoidType = refl
  to_leaves a cell word t = scalar_leaves a cell word

  convert_leaves : (a : Ctype) (cell : Cell) (word : ℕ) → Leaves memory (convert_row table memory a cell ty word)
  unfolding convert_row
  convert_leaves a cell word = to_leaves a cell word (type_of table ty.0)

module _ (u : CoreTrees) (memory : List Instance) (ty : TypeId) (values : List (ℕ × Value)) (word : ℕ) where
  abbrev Stays : NodeKind → Type 0
  Stays kind = Keeps (way_of kind (slice_get u.types.terms ty.0))

  one_leaves : (kind : NodeKind) → Stays kind → (v : ℕ) → Leaves memory (one_computed u memory ty kind v values word)
  one_leaves Fetch h v = absurd h
  one_leaves AddressOf h v = refl
  one_leaves Decay h v = cell_leaves memory (decay_row u.types memory (cell_in values v) (type_at u v))
  one_leaves Convert h v = convert_leaves u.types memory ty h (type_at u v) (cell_in values v) word
  one_leaves Upcast h v = cell_leaves memory (upcast_row u.types memory (cell_in values v) (type_at u v))
  one_leaves (MemberOfValue k) h v = absurd h
  one_leaves (Arith op) h v = number_leaves memory (one_row op (type_at u v) (cell_in values v))
  one_leaves kind h v = tt

  two_leaves : (kind : NodeKind) → Stays kind → (a b : ℕ) → Leaves memory (two_computed u memory ty kind a b values)
  two_leaves (PointerAdd minus) h a b = cell_leaves memory (pointer_moved u.types memory (cell_in values a) minus (cell_in values b))
  two_leaves Assign h a b = absurd h
  two_leaves (Update op post) h a b = absurd h
  two_leaves Sequence h a b = absurd h
  two_leaves (Arith op) h a b = number_leaves memory (two_row op (type_at u a) (cell_in values a) (cell_in values b))
  two_leaves kind h a b = tt

  pair_leaves : (kind : NodeKind) → Stays kind → (o : Option (ℕ × ℕ)) → Leaves memory (pair_computed u memory ty kind o values)
  pair_leaves kind h (Some operands) = two_leaves kind h operands.0 operands.1
  pair_leaves kind h None = tt

  value_leaves : (kind : NodeKind) → Stays kind → (children : List ℕ) (o : Option ℕ) → Leaves memory (value_computed u memory ty kind children o values word)
  value_leaves kind h children (Some v) = one_leaves kind h v
  value_leaves kind h children None = pair_leaves kind h (two_of children)

  either_leaves : (b : Bool) (x y : Effect) → Leaves memory x → Leaves memory y → Leaves memory (cond b x y)
  either_leaves true x y p q = p
  either_leaves false x y p q = q

  by_leaves : (n : ℕ) (kind : NodeKind) → Stays kind → (children : List ℕ) → Leaves memory (computed_by u memory [] n ty kind children values word)
  by_leaves n kind h children =
      either_leaves (gives_cell kind) (cell_given memory (cell_computed u memory [] n kind children values))
      (value_computed u memory ty kind children (one_of children) values word)
      (cell_leaves memory (cell_computed u memory [] n kind children values))
      (value_leaves kind h children (one_of children))

pub computed_leaves : (u : CoreTrees) (memory : List Instance) (n : ℕ) (node : Node) (values : List (ℕ × Value)) (word : ℕ)
    → Keeps (way_of node.kind (slice_get u.types.terms node.ty.0)) → Leaves memory (computed u memory [] n node values word)
unfolding computed
computed_leaves u memory n node values word h =
    either_leaves u memory node.ty values word (uses_all (type_of u.types node.ty.0) node.kind && lacks u values node.children) (Err UnsetUse)
    (computed_by u memory [] n node.ty node.kind node.children values word) tt
    (by_leaves u memory node.ty values word n node.kind h node.children)
