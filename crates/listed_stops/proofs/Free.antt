-- Rows of numbers and pointers that stop with Mismatch only for a cause.
use Rattle.std.proofs.Common.{◌≡◌, ◌⊎◌, inl, inr, ℕ, ◌==◌, ℤ, pos, ◌+ℤ◌, ◌-ℤ◌, ◌*ℤ◌, ◌^◌, int_le, int_div, int_rem, ◌&&◌, not, unsigned_abs, Bool, true, false, cond, List, Option, Some, None, Result, Ok, Err, slice_get, refl, subst}
use Rattle.std.specs.Prelude.{⊤}
use Rattle.std.specs.Int.{int_shr}
use Rattle.std.specs.Ordering.{int_eq}
use Rattle.c_types.specs.declared.term.PathStep.{PathStep}
use Rattle.c_types.specs.declared.term.PathStep.TheVariants.{Member as MemberStep}
use Rattle.c_types.specs.declared.term.TypeId.{TypeId}
use Rattle.c_types.specs.Trees.{Ctype, VoidType, BoolType, IntegerType, PointerTo}
use Rattle.c_types.specs.Table.{Table, type_of}
use Rattle.type_rules.specs.Kinds.{IsInteger, IsPointer, IsPromoted, IsComparable}
use Rattle.type_rules.specs.Conversions.{Converts}
use Rattle.type_rules.specs.Numbers.{half_of}
use Rattle.core_tree.specs.declared.node.Op.{Op}
use Rattle.core_tree.specs.declared.node.Op.TheVariants.{Multiply, Divide, Remainder, Plus, Minus, ShiftLeft, ShiftRight, Less, Greater, LessEqual, GreaterEqual, Equal, NotEqual, And, Xor, Or, Complement, Not}
use Rattle.core_tree.specs.Rows.{Unary, Binary}
use Rattle.c_consts.specs.Wrapped.{width_of, is_signed_in}
use Rattle.c_consts.specs.Operators.{Step, Gives, Breaks, NoForm, OutOfRange as OutOfTheRange, ZeroDivisor, in_type, is_count, unary, binary}
use Rattle.ref_cells.specs.declared.cells.Reason.{Reason}
use Rattle.ref_cells.specs.declared.cells.Reason.TheVariants.{NullUse, OutOfRange, Overflow, Mismatch}
use Rattle.ref_cells.specs.declared.cells.Cell.{Cell}
use Rattle.ref_cells.specs.declared.cells.Cell.TheVariants.{Unset, Number, Null, Pointer, Function}
use Rattle.ref_cells.specs.declared.instance.Instance.{Instance}
use Rattle.ref_cells.specs.Cells.{CellList, under}
use Rattle.ref_cells.specs.Numbers.{converted}
use Rattle.ref_cells.specs.Values.{active}
use Rattle.ref_mem.specs.Reads.{one_cell}
use Rattle.ref_elements.specs.Runs.{◌>>=◌}
use Rattle.ref_elements.specs.Outcomes.{gives}
use Rattle.ref_places.specs.Places.{whole_place, first_place, deref_row}
use Rattle.ref_places.specs.Pointers.{last_index, front, elements_at, index_moved, with_index, mark_moved, place_moved, moved, same_path, in_order, between, ordered, compared, signed_by}
use Rattle.ref_values.specs.Numbers.{outcome, is_lost, two_in, left_operand, right_operand, over_two}
use Rattle.ref_values.specs.Memory.{pointer_converted, number_converted, scalar_converted, converted_to, convert_row, pointer_moved, is_union, is_empty, value_within, member_of_value_row}
use Rattle.ref_values.specs.Values.{cell_given, number_given, is_true, opposite, one_row, two_row}
use Rattle.listed_stops.specs.Mismatches.{HasForm}

-- it gives something, or stops for another reason than Mismatch, or there is the cause
abbrev pub Free : {X : Type 0} → Type 0 → Result X Reason → Type 0
Free C (Ok x) = ⊤
Free C (Err Mismatch) = C
Free C (Err reason) = ⊤

pub cause_of : {X : Type 0} (C : Type 0) (r : Result X Reason) → Free C r → r ≡ Err Mismatch → C
cause_of {X = X} C r h e = subst (λ (s : Result X Reason). Free C s) e h

-- any row, where there is a cause
pub caused : {X : Type 0} (C : Type 0) (r : Result X Reason) → C → Free C r
caused C (Ok x) c = tt
caused C (Err Mismatch) c = c
caused C (Err reason) c = tt

-- what is a cause is another one
pub lift_free : {X : Type 0} (C D : Type 0) (r : Result X Reason) → (C → D) → Free C r → Free D r
lift_free C D (Ok x) f h = tt
lift_free C D (Err Mismatch) f h = f h
lift_free C D (Err reason) f h = tt

-- one thing after another
pub after_free : {A B : Type 0} (C : Type 0) (r : Result A Reason) (f : A → Result B Reason) → Free C r → ((x : A) → ◌≡◌ {A = Result A Reason} r (Ok x) → Free C (f x)) → Free C (r >>= f)
after_free C (Ok x) f h g = g x refl
after_free C (Err Mismatch) f h g = h
after_free C (Err reason) f h g = tt

pub then_free : {A B : Type 0} (C : Type 0) (r : Result A Reason) (f : A → Result B Reason) → Free C r → ((x : A) → Free C (f x)) → Free C (r >>= f)
then_free C r f h g = after_free C r f h (λ x is. g x)

pub either_free : {X : Type 0} (C : Type 0) (b : Bool) (x y : Result X Reason) → Free C x → Free C y → Free C (cond b x y)
either_free C true x y h g = h
either_free C false x y h g = g

true_false : true ≡ false → ⊥
true_false e = cc

-- ---- numbers
-- a step that doesn't break for its form
abbrev IsFormed : Step → Type 0
IsFormed (Breaks NoForm) = ⊥
IsFormed step = ⊤

outcome_free : (C : Type 0) (step : Step) → IsFormed step → Free C (outcome step)
outcome_free C (Gives value) h = tt
outcome_free C (Breaks NoForm) h = absurd h
outcome_free C (Breaks OutOfTheRange) h = tt
outcome_free C (Breaks ZeroDivisor) h = tt

either_formed : (b : Bool) (x y : Step) → IsFormed x → IsFormed y → IsFormed (cond b x y)
either_formed true x y h g = h
either_formed false x y h g = g

in_type_formed : (signed : Bool) (half : ℕ) (value : ℤ) → IsFormed (in_type signed half value)
in_type_formed false half value = tt
in_type_formed true half value = either_formed (is_signed_in half value) (Gives value) (Breaks OutOfTheRange) tt tt

-- operators over two numbers
abbrev IsTwo : Op → Type 0
IsTwo Complement = ⊥
IsTwo Not = ⊥
IsTwo op = ⊤

binary_formed : (op : Op) (signed : Bool) (half width : ℕ) (x y : ℤ) → IsTwo op → IsFormed (binary op signed half width x y)
binary_formed Multiply signed half width x y h = in_type_formed signed half (x *ℤ y)
binary_formed Divide signed half width x y h = either_formed (int_eq y (pos 0)) (Breaks ZeroDivisor) (in_type signed half (int_div x y)) tt (in_type_formed signed half (int_div x y))
binary_formed Remainder signed half width x y h = either_formed (int_eq y (pos 0)) (Breaks ZeroDivisor) (in_type signed half (int_rem x y)) tt (in_type_formed signed half (int_rem x y))
binary_formed Plus signed half width x y h = in_type_formed signed half (x +ℤ y)
binary_formed Minus signed half width x y h = in_type_formed signed half (x -ℤ y)
binary_formed ShiftLeft signed half width x y h =
    either_formed (is_count width y) (in_type signed half (x *ℤ pos (2 ^ unsigned_abs y))) (Breaks OutOfTheRange) (in_type_formed signed half (x *ℤ pos (2 ^ unsigned_abs y))) tt
binary_formed ShiftRight signed half width x y h =
    either_formed (is_count width y) (in_type signed half (int_shr x (unsigned_abs y))) (Breaks OutOfTheRange) (in_type_formed signed half (int_shr x (unsigned_abs y))) tt
binary_formed Complement signed half width x y h = absurd h
binary_formed Not signed half width x y h = absurd h
binary_formed op signed half width x y h = tt

two_in_free : (C : Type 0) (op : Op) (size : ℕ) (signed : Bool) (x y : ℤ) → IsTwo op → Free C (two_in op size signed x y)
two_in_free C op size signed x y h =
    either_free C (is_lost op x) (Err Overflow) (outcome (binary op signed (half_of size) (width_of size) x y)) tt
    (outcome_free C (binary op signed (half_of size) (width_of size) x y) (binary_formed op signed (half_of size) (width_of size) x y h))

-- what the row of an operator over two values says
two_there : (op : Op) (a b t : Ctype) → Binary op a b t → IsTwo op
two_there Complement a b t row = absurd row
two_there Not a b t row = absurd row
two_there op a b t row = tt

-- operators that neither compare nor subtract
abbrev IsPlain : Op → Type 0
IsPlain Minus = ⊥
IsPlain Less = ⊥
IsPlain Greater = ⊥
IsPlain LessEqual = ⊥
IsPlain GreaterEqual = ⊥
IsPlain Equal = ⊥
IsPlain NotEqual = ⊥
IsPlain op = ⊤

plain_promoted : (op : Op) (a b t : Ctype) → Binary op a b t → IsPlain op → IsPromoted a
plain_promoted Multiply a b t row h = row.0
plain_promoted Divide a b t row h = row.0
plain_promoted Remainder a b t row h = row.0
plain_promoted Plus a b t row h = row.0
plain_promoted ShiftLeft a b t row h = row.0
plain_promoted ShiftRight a b t row h = row.0
plain_promoted And a b t row h = row.0
plain_promoted Xor a b t row h = row.0
plain_promoted Or a b t row h = row.0
plain_promoted Complement a b t row h = absurd row
plain_promoted Not a b t row h = absurd row
plain_promoted op a b t row h = absurd h

both_comparable : (op : Op) (a b t : Ctype) → Binary op a b t → IsComparable a
both_comparable Minus (PointerTo to) b t row = inr tt
both_comparable Minus a b t row = inl row.0
both_comparable Less a b t row = row.0
both_comparable Greater a b t row = row.0
both_comparable LessEqual a b t row = row.0
both_comparable GreaterEqual a b t row = row.0
both_comparable Equal a b t row = row.0
both_comparable NotEqual a b t row = row.0
both_comparable op a b t row = inl (plain_promoted op a b t row tt)

over_two_free : (C : Type 0) (op : Op) (a b t : Ctype) (x y : ℤ) → Binary op a b t → ((HasForm a (Number x) → ⊥) → C) → Free C (over_two op a x y)
over_two_free C op (IntegerType size rank signed) b t x y row bad =
    two_in_free C op size signed (left_operand op (IntegerType size rank signed) x) (right_operand op (IntegerType size rank signed) y) (two_there op (IntegerType size rank signed) b t row)
over_two_free C op (PointerTo to) b t x y row bad = bad (λ h. h)
over_two_free C op a b t x y row bad = absurd (elim (both_comparable op a b t row) [ inl m ↦ m | inr p ↦ p ])

abbrev IsPointing : Cell → Type 0
IsPointing (Pointer i path past) = ⊤
IsPointing cell = ⊥

integer_points : (a : Ctype) (cell : Cell) → IsPromoted a → IsPointing cell → HasForm a cell → ⊥
integer_points (IntegerType size rank signed) (Pointer i path past) m p h = h
integer_points (IntegerType size rank signed) cell m p h = absurd p
integer_points a cell m p h = absurd m

abbrev IsOrdering : Op → Type 0
IsOrdering Equal = ⊥
IsOrdering NotEqual = ⊥
IsOrdering op = ⊤

order_free : (C : Type 0) (op : Op) (i j : ℕ) → IsOrdering op → (IsPlain op → C) → Free C (in_order op i j)
order_free C Minus i j o h = tt
order_free C Less i j o h = tt
order_free C Greater i j o h = tt
order_free C LessEqual i j o h = tt
order_free C GreaterEqual i j o h = tt
order_free C Equal i j o h = absurd o
order_free C NotEqual i j o h = absurd o
order_free C op i j o h = h tt

between_free : (C : Type 0) (op : Op) (a b : Option ℕ) → IsOrdering op → (IsPlain op → C) → Free C (between op a b)
between_free C op (Some i) (Some j) o h = order_free C op i j o h
between_free C op a b o h = tt

ordered_free : (C : Type 0) (op : Op) (a b : Cell) → IsOrdering op → (IsPlain op → IsPointing a → C) → Free C (ordered op a b)
ordered_free C op (Pointer i p x) (Pointer j q y) o h =
    either_free C ((i == j) && same_path (front p) (front q)) (between op (last_index p) (last_index q)) (Err OutOfRange) (between_free C op (last_index p) (last_index q) o (λ plain. h plain tt)) tt
ordered_free C op a b o h = tt

compared_free : (C : Type 0) (op : Op) (a b : Cell) → (IsPlain op → IsPointing a → C) → Free C (compared op a b)
unfolding compared
compared_free C Equal a b h = tt
compared_free C NotEqual a b h = tt
compared_free C op a b h = ordered_free C op a b tt h

-- an operator over two values: the left one hasn't its form
pub two_free : (C : Type 0) (op : Op) (a b t : Ctype) (x y : Cell) → Binary op a b t → ((HasForm a x → ⊥) → C) → Free C (two_row op a x y)
two_free C op a b t (Number x) (Number y) row bad = over_two_free C op a b t x y row bad
two_free C op a b t x y row bad = compared_free C op x y (λ plain points. bad (integer_points a x (plain_promoted op a b t row plain) points))

pub true_free : (C : Type 0) (cell : Cell) → Free C (is_true cell)
true_free C (Number n) = tt
true_free C Null = tt
true_free C (Pointer i path past) = tt
true_free C (Function key) = tt
true_free C Unset = tt

-- an operator over one value
pub one_free : (C : Type 0) (op : Op) (a t : Ctype) (cell : Cell) → Unary op a t → ((HasForm a cell → ⊥) → C) → Free C (one_row op a cell)
one_free C Not a t cell row bad = then_free C (is_true cell) (λ b. Ok (opposite b)) (true_free C cell) (λ b. tt)
one_free C Plus (IntegerType size rank signed) t (Number n) row bad = outcome_free C (unary Plus signed (half_of size) (converted (IntegerType size rank signed) n)) tt
one_free C Plus (IntegerType size rank signed) t cell row bad = bad (λ h. h)
one_free C Plus a t cell row bad = absurd row.0
one_free C Minus (IntegerType size rank signed) t (Number n) row bad =
    outcome_free C (unary Minus signed (half_of size) (converted (IntegerType size rank signed) n)) (in_type_formed signed (half_of size) _)
one_free C Minus (IntegerType size rank signed) t cell row bad = bad (λ h. h)
one_free C Minus a t cell row bad = absurd row.0
one_free C Complement (IntegerType size rank signed) t (Number n) row bad =
    outcome_free C (unary Complement signed (half_of size) (converted (IntegerType size rank signed) n)) (in_type_formed signed (half_of size) _)
one_free C Complement (IntegerType size rank signed) t cell row bad = bad (λ h. h)
one_free C Complement a t cell row bad = absurd row.0
one_free C op a t cell row bad = absurd row

-- ---- pointers
pub whole_free : (o : Option ℕ) → Free (o ≡ None) (whole_place o)
whole_free None = refl
whole_free (Some i) = tt

pub first_free : (o : Option ℕ) → Free (o ≡ None) (first_place o)
first_free None = refl
first_free (Some i) = tt

pub deref_free : (C : Type 0) (a t : Ctype) (cell : Cell) → a ≡ PointerTo t → ((HasForm a cell → ⊥) → C) → Free C (deref_row cell)
deref_free C a t Null is bad = tt
deref_free C a t (Pointer i path past) is bad = tt
deref_free C a t (Function key) is bad = tt
deref_free C a t (Number n) is bad = bad (subst (λ (x : Ctype). HasForm x (Number n)) is)
deref_free C a t Unset is bad = bad (subst (λ (x : Ctype). HasForm x Unset) is)

index_free : (C : Type 0) (count i : ℕ) (k : ℤ) → Free C (index_moved count i k)
index_free C count i k = either_free C (int_le (pos 0) (pos i +ℤ k) && int_le (pos i +ℤ k) (pos count)) (Ok (unsigned_abs (pos i +ℤ k))) (Err OutOfRange) tt tt

with_index_free : (C : Type 0) (i : ℕ) (path : List PathStep) (past : Bool) (r : Result ℕ Reason) → Free C r → Free C (with_index i path past r)
with_index_free C i path past (Ok k) h = tt
with_index_free C i path past (Err Mismatch) h = h
with_index_free C i path past (Err reason) h = tt

mark_free : (C : Type 0) (i : ℕ) (path : List PathStep) (past : Bool) (k : ℤ) → Free C (mark_moved i path past k)
mark_free C i path past k =
    either_free C (int_eq k (pos 0)) (Ok (Pointer i path past))
    (cond past (cond (int_eq k (pos 0 -ℤ pos 1)) (Ok (Pointer i path false)) (Err OutOfRange)) (cond (int_eq k (pos 1)) (Ok (Pointer i path true)) (Err OutOfRange))) tt
    (either_free C past (cond (int_eq k (pos 0 -ℤ pos 1)) (Ok (Pointer i path false)) (Err OutOfRange)) (cond (int_eq k (pos 1)) (Ok (Pointer i path true)) (Err OutOfRange))
    (either_free C (int_eq k (pos 0 -ℤ pos 1)) (Ok (Pointer i path false)) (Err OutOfRange) tt tt) (either_free C (int_eq k (pos 1)) (Ok (Pointer i path true)) (Err OutOfRange) tt tt))

place_moved_free : (C : Type 0) (table : Table) (memory : List Instance) (i : ℕ) (path : List PathStep) (past : Bool) (k : ℤ) (o : Option ℕ) → Free C (place_moved table memory i path past k o)
place_moved_free C table memory i path past k (Some index) =
    with_index_free C i path past (index_moved (elements_at table (slice_get memory i) path) index k) (index_free C (elements_at table (slice_get memory i) path) index k)
place_moved_free C table memory i path past k None = mark_free C i path past k

moved_free : (C : Type 0) (table : Table) (memory : List Instance) (a : Ctype) (cell : Cell) (k : ℤ) → IsPointer a → ((HasForm a cell → ⊥) → C) → Free C (moved table memory cell k)
unfolding moved
moved_free C table memory a Null k p bad = either_free C (int_eq k (pos 0)) (Ok Null) (Err NullUse) tt tt
moved_free C table memory a (Function key) k p bad = either_free C (int_eq k (pos 0)) (Ok (Function key)) (Err OutOfRange) tt tt
moved_free C table memory a (Pointer i path past) k p bad = place_moved_free C table memory i path past k (last_index path)
moved_free C table memory (PointerTo to) (Number n) k p bad = bad (λ h. h)
moved_free C table memory (PointerTo to) Unset k p bad = bad (λ h. h)
moved_free C table memory a cell k p bad = absurd p

-- a pointer moved by an integer: one of them hasn't its form
pub pointer_moved_free : (C : Type 0) (table : Table) (memory : List Instance) (a b : Ctype) (cell : Cell) (minus : Bool) (count : Cell)
    → IsPointer a → IsInteger b → ((HasForm a cell → ⊥) → C) → ((HasForm b count → ⊥) → C) → Free C (pointer_moved table memory cell minus count)
pointer_moved_free C table memory a b cell minus (Number k) p m bad worse = moved_free C table memory a cell (signed_by minus k) p bad
pointer_moved_free C table memory a BoolType cell minus count p m bad worse = worse (λ h. h)
pointer_moved_free C table memory a (IntegerType size rank signed) cell minus count p m bad worse = worse (λ h. h)
pointer_moved_free C table memory a b cell minus count p m bad worse = absurd m

-- ---- conversions
pointer_converted_free : (C : Type 0) (table : Table) (memory : List Instance) (cell : Cell) (ty : TypeId) (t : Ctype) (word : ℕ) → Free C (pointer_converted table memory cell ty t word)
pointer_converted_free C table memory cell ty BoolType word = tt
pointer_converted_free C table memory cell ty (IntegerType size rank signed) word = tt
pointer_converted_free C table memory cell ty t word = tt

number_converted_free : (C : Type 0) (memory : List Instance) (a t : Ctype) (cell : Cell) → IsInteger a → ((HasForm a cell → ⊥) → C) → Free C (number_converted memory t cell)
number_converted_free C memory a t (Number n) m bad = tt
number_converted_free C memory BoolType t cell m bad = bad (λ h. h)
number_converted_free C memory (IntegerType size rank signed) t cell m bad = bad (λ h. h)
number_converted_free C memory a t cell m bad = absurd m

-- what is converted to something is a scalar
scalar_from : (a t : Ctype) → Converts a t → (t ≡ VoidType → ⊥) → IsInteger a ⊎ IsPointer a
scalar_from (PointerTo to) t c some = inr tt
scalar_from BoolType t c some = inl tt
scalar_from (IntegerType size rank signed) t c some = inl tt
scalar_from a VoidType c some = absurd (some refl)
scalar_from a t c some = absurd c

scalar_converted_free : (C : Type 0) (table : Table) (memory : List Instance) (a : Ctype) (cell : Cell) (ty : TypeId) (word : ℕ)
    → IsInteger a ⊎ IsPointer a → ((HasForm a cell → ⊥) → C) → Free C (scalar_converted table memory a cell ty word)
scalar_converted_free C table memory (PointerTo to) cell ty word s bad = pointer_converted_free C table memory cell ty (type_of table ty.0) word
scalar_converted_free C table memory BoolType cell ty word s bad = number_converted_free C memory BoolType (type_of table ty.0) cell tt bad
scalar_converted_free C table memory (IntegerType size rank signed) cell ty word s bad = number_converted_free C memory (IntegerType size rank signed) (type_of table ty.0) cell tt bad
scalar_converted_free C table memory a cell ty word s bad = absurd (elim s [ inl m ↦ m | inr p ↦ p ])

converted_free : (C : Type 0) (table : Table) (memory : List Instance) (a : Ctype) (cell : Cell) (ty : TypeId) (word : ℕ) (t : Ctype)
    → ((t ≡ VoidType → ⊥) → IsInteger a ⊎ IsPointer a) → ((HasForm a cell → ⊥) → C) → Free C (converted_to table memory a cell ty word t)
converted_free C table memory a cell ty word VoidType s bad = tt
converted_free C table memory a cell ty word t s bad = scalar_converted_free C table memory a cell ty word (s (λ e. cc)) bad

pub convert_free : (C : Type 0) (table : Table) (memory : List Instance) (a : Ctype) (cell : Cell) (ty : TypeId) (word : ℕ)
    → Converts a (type_of table ty.0) → ((HasForm a cell → ⊥) → C) → Free C (convert_row table memory a cell ty word)
unfolding convert_row
convert_free C table memory a cell ty word c bad = converted_free C table memory a cell ty word (type_of table ty.0) (λ some. scalar_from a (type_of table ty.0) c some) bad

-- ---- members of values
pub member_of_value_free : (memory : List Instance) (s : Ctype) (k : ℕ) (cells : CellList) → Free (is_union s ≡ true) (member_of_value_row memory s k cells)
unfolding member_of_value_row
member_of_value_free memory s k cells = by (is_union s) refl
  where
    by : (b : Bool) → is_union s ≡ b → Free (is_union s ≡ true) (cond (b && (not (is_empty cells) && not (active cells == k))) (Err Mismatch) (gives memory (value_within (under (MemberStep k) cells))))
    by true is = caused (is_union s ≡ true) (cond (not (is_empty cells) && not (active cells == k)) (Err Mismatch) (gives memory (value_within (under (MemberStep k) cells)))) is
    by false is = tt

-- ---- what a row gives
pub cell_given_free : (C : Type 0) (memory : List Instance) (row : Result Cell Reason) → Free C row → Free C (cell_given memory row)
cell_given_free C memory row h = then_free C row (λ cell. gives memory (one_cell cell)) h (λ cell. tt)

pub number_given_free : (C : Type 0) (memory : List Instance) (row : Result ℤ Reason) → Free C row → Free C (number_given memory row)
number_given_free C memory row h = then_free C row (λ n. gives memory (one_cell (Number n))) h (λ n. tt)
