-- Names, objects and their parts, assignments, calls and casts (C11 6.5.1 to 6.5.4, 6.5.16).
use Rattle.std.specs.Prelude.{ℕ, zero, suc, ◌+◌, ◌==◌, pos, Bool, true, false, ◌&&◌, ◌||◌, not, List, [], ◌∷◌, length}
use Rattle.std.specs.Prelude.{Option, Some, None, slice_get, is_some, is_none, if◌then◌else◌}
use Rattle.c_scope.specs.passed.pta_base.declared.kind.Kind.TheVariants.{Operand, ArrayOfValue, FlexibleMember}
use Rattle.c_scope.specs.passed.pta_base.declared.place.Place.{Place}
use Rattle.c_inits.specs.passed.c_types.declared.term.Form.{Form}
use Rattle.c_inits.specs.passed.c_types.declared.term.Form.TheVariants.{Fixed, Variadic, Unspecified}
use Rattle.c_inits.specs.passed.c_types.Trees.{Ctype, Ctypes, NoTypes, MoreTypes, VoidType, PointerTo, ArrayOf}
use Rattle.c_inits.specs.passed.c_types.Trees.{FunctionFrom, VaListType}
use Rattle.c_inits.specs.passed.c_types.Layout.{Extent}
use Rattle.c_inits.specs.passed.c_types.Table.{size_below}
use Rattle.c_consts.specs.passed.core_tree.declared.node.Op.{Op}
use Rattle.c_consts.specs.passed.core_tree.declared.node.Op.TheVariants.{Multiply, Divide, Remainder, Plus, Minus}
use Rattle.c_consts.specs.passed.core_tree.declared.node.Op.TheVariants.{ShiftLeft, ShiftRight, And, Xor, Or}
use Rattle.c_consts.specs.passed.core_tree.declared.node.NodeKind.TheVariants.{Named, Text, FunctionName, Deref}
use Rattle.c_consts.specs.passed.core_tree.declared.node.NodeKind.TheVariants.{Member, Number, AddressOf, Assign}
use Rattle.c_consts.specs.passed.core_tree.declared.node.NodeKind.TheVariants.{Update, CallNode, MemberOfValue}
use Rattle.c_consts.specs.passed.core_tree.declared.node.NodeKind.TheVariants.{Convert, VarArgs, NextArg}
use Rattle.c_consts.specs.passed.core_tree.Typed.{Sort, PlaceNode}
use Rattle.c_consts.specs.passed.core_tree.Rows.{int, character}
use Rattle.c_inits.specs.passed.c_grammar.Words.{sign_multiply_assign, sign_divide_assign, sign_remainder_assign}
use Rattle.c_inits.specs.passed.c_grammar.Words.{sign_add_assign, sign_subtract_assign, sign_shift_left_assign}
use Rattle.c_inits.specs.passed.c_grammar.Words.{sign_shift_right_assign, sign_and_assign, sign_xor_assign}
use Rattle.c_inits.specs.passed.c_grammar.Words.{sign_or_assign}
use Rattle.c_consts.specs.Core.{Core, Cores, Of, NoCores, MoreCores, ctype_of, core_sort, leaf, over, over_two}
use Rattle.c_inits.specs.Made.{Part}
use Rattle.c_senses.specs.Given.{Given, Fits, Refuses, ◌>>=◌, given_if, given_some}
use Rattle.c_senses.specs.World.{World, Meaning, Object, Function, TypeName, Tag, Value, extent, has_size}
use Rattle.c_senses.specs.World.{members_of, way_to}
use Rattle.c_senses.specs.Literals.{unsigned_long}
use Rattle.c_senses.specs.Conversions.{OperandSort, Whole, Address, Aggregate, Other, operand_of, value_of}
use Rattle.c_senses.specs.Conversions.{promotion, conversion, place_width, width_in, typed, is_list, is_scalar}
use Rattle.c_senses.specs.Operators.{moved}

-- a string literal, or a function's own name: an array of its bytes and a closing zero
abbrev pub text_core : Place → List ℕ → Core
text_core place bytes = leaf (Text bytes) place (ArrayOf character (Some (length bytes + 1)))

-- 6.5.1: a name by what it means. An object with automatic storage has its name in its own function's body alone.
abbrev pub object_name : World → Place → ℕ → ℕ → Ctype → Given Core
object_name w place at entity t =
    typed at t (given_if (w.may_name entity) Operand at (Fits (leaf (Named entity) place t)))

-- a word for the own name of the function whose body is read
abbrev pub own_name_row : World → Place → ℕ → Given Core
own_name_row w place at = elim w.own_name [ None ↦ Refuses Operand at | Some name ↦ Fits (text_core place name) ]

abbrev pub name_row : World → Place → ℕ → Option Meaning → Given Core
name_row w place at None = own_name_row w place at
name_row w place at (Some (Object entity t)) = object_name w place at entity t
name_row w place at (Some (Function entity t)) = Fits (leaf (FunctionName entity) place t)
name_row w place at (Some (TypeName t)) = Refuses Operand at
name_row w place at (Some (Tag tag)) = Refuses Operand at
name_row w place at (Some (Value n)) = Fits (leaf (Number n) place int)

-- 6.5.3.2: the address of a place that is no bit-field
abbrev pub address_row : World → Place → ℕ → Core → Sort → Given Core
address_row w place at c PlaceNode =
    given_if (is_none (place_width w c)) Operand at (Fits (over AddressOf place (PointerTo (ctype_of c)) c))
address_row w place at c sort = Refuses Operand at

-- what a pointer points to, unless it is void
abbrev pub target_row : Place → ℕ → Core → Ctype → Given Core
target_row place at v VoidType = Refuses Operand at
target_row place at v t = typed at t (Fits (over Deref place t v))

abbrev pub indirection_row : Place → ℕ → Core → OperandSort → Given Core
indirection_row place at v (Address to) = target_row place at v to
indirection_row place at v x = Refuses Operand at

-- 6.5.2.1: a pointer and an integer in any order; the pointer comes first
abbrev pub element_row : World → Place → ℕ → Core → Core → Ctype → Given Core
element_row w place at a b to = moved w false place at a b to >>= (λ p. target_row place at p to)

abbrev pub index_row : World → Place → ℕ → Core → Core → OperandSort → OperandSort → Given Core
index_row w place at a b (Address to) Whole = element_row w place at a b to
index_row w place at a b Whole (Address to) = element_row w place at b a to
index_row w place at a b x y = Refuses Operand at

-- 6.5.2.3: the members on the way to a name, each a member of a place or of a value
abbrev pub lacks_length : Ctype → Bool
lacks_length (ArrayOf of None) = true
lacks_length t = false

abbrev pub is_array : Ctype → Bool
is_array (ArrayOf of length) = true
is_array t = false

abbrev pub is_place_sort : Sort → Bool
is_place_sort PlaceNode = true
is_place_sort sort = false

abbrev pub member_node : Place → ℕ → Core → Ctype → Sort → Core
member_node place k c t PlaceNode = over (Member k) place t c
member_node place k c t sort = over (MemberOfValue k) place t c

abbrev pub member_step : Place → ℕ → Core → ℕ → Part → Given Core
member_step place at c k m =
    if lacks_length m.type then Refuses FlexibleMember at
    else if is_array m.type && not (is_place_sort (core_sort c)) then Refuses ArrayOfValue at
    else typed at m.type (Fits (member_node place k c m.type (core_sort c)))

abbrev pub part_at : Option (List Part) → ℕ → Option Part
part_at None k = None
part_at (Some members) k = slice_get members k

abbrev pub along : World → Place → ℕ → List ℕ → Core → Given Core
along w place at [] c = Fits c
along w place at (k ∷ way) c =
    given_some (part_at (members_of w (ctype_of c)) k) Operand at >>=
    (λ m. member_step place at c k m >>= along w place at way)

abbrev pub member_row : World → Place → ℕ → List ℕ → Core → Given Core
member_row w place at name c =
    given_some (way_to w name (ctype_of c)) Operand at >>= (λ way. along w place at way c)

abbrev pub arrow_row : World → Place → ℕ → List ℕ → Core → OperandSort → Given Core
arrow_row w place at name v (Address to) =
    given_if (is_some (members_of w to)) Operand at (member_row w place at name (over Deref place to v))
arrow_row w place at name v x = Refuses Operand at

-- 6.5.16: a place of scalar type, of a variadic list, or of a structure or union that is complete
abbrev pub is_assigned : World → OperandSort → Bool
is_assigned w Whole = true
is_assigned w (Address to) = true
is_assigned w (Aggregate tag) = is_some (w.members tag)
is_assigned w Other = false

abbrev pub assign_row : World → Place → ℕ → Core → Core → Given Core
assign_row w place at p v =
    given_if
    (is_place_sort (core_sort p) && (is_assigned w (operand_of (ctype_of p)) || is_list (ctype_of p))) Operand at
    (conversion w false at v (ctype_of p) >>= (λ x. Fits (over_two Assign place (ctype_of p) p x)))

-- the operator of an assignment that computes
abbrev pub assigned_op : ℕ → Option Op
assigned_op sign =
    if sign == sign_multiply_assign then Some Multiply
    else if sign == sign_divide_assign then Some Divide
    else if sign == sign_remainder_assign then Some Remainder
    else if sign == sign_add_assign then Some Plus
    else if sign == sign_subtract_assign then Some Minus
    else if sign == sign_shift_left_assign then Some ShiftLeft
    else if sign == sign_shift_right_assign then Some ShiftRight
    else if sign == sign_and_assign then Some And
    else if sign == sign_xor_assign then Some Xor
    else if sign == sign_or_assign then Some Or
    else None

abbrev pub moves_pointer : Op → Bool
moves_pointer Plus = true
moves_pointer Minus = true
moves_pointer op = false

abbrev pub updated : World → Op → Bool → Place → Core → Core → Core
updated w op post place p v = over_two (Update op post) place (ctype_of p) p v

abbrev pub update_sorts : World → Op → Bool → Place → ℕ → Core → Core → OperandSort → OperandSort → Given Core
update_sorts w op post place at p v Whole Whole = Fits (updated w op post place p (promotion w v))
update_sorts w op post place at p v (Address to) Whole =
    given_if (moves_pointer op) Operand at (Fits (updated w op post place p (promotion w v)))
update_sorts w op post place at p v x y = Refuses Operand at

-- p op= v, and ++ and -- with the number 1
abbrev pub update_row : World → Op → Bool → Place → ℕ → Core → Core → Given Core
update_row w op post place at p v =
    given_if (is_place_sort (core_sort p)) Operand at
    (update_sorts w op post place at p v (operand_of (ctype_of p)) (operand_of (ctype_of v)))

-- 6.5.2.2: a call
abbrev pub count_of : Ctypes → ℕ
count_of NoTypes = 0
count_of (MoreTypes t rest) = suc (count_of rest)

abbrev pub at_least : ℕ → ℕ → Bool
at_least zero n = true
at_least (suc m) zero = false
at_least (suc m) (suc n) = at_least m n

abbrev pub takes_so_many : Form → ℕ → ℕ → Bool
takes_so_many Fixed parameters arguments = parameters == arguments
takes_so_many Variadic parameters arguments = at_least parameters arguments
takes_so_many Unspecified parameters arguments = true

-- an argument past the parameters: an integer promoted, a pointer, a structure or a union as it is
abbrev pub further : World → ℕ → Core → OperandSort → Given Core
further w at v Whole = Fits (promotion w v)
further w at v (Address to) = Fits v
further w at v (Aggregate tag) = Fits v
further w at v Other = Refuses Operand at

-- a variadic list as it is
abbrev pub further_value : World → ℕ → Core → Given Core
further_value w at v = if is_list (ctype_of v) then Fits v else further w at v (operand_of (ctype_of v))

abbrev pub one_more : Core → Cores → Cores
one_more c cs = MoreCores c cs

abbrev pub arguments : World → ℕ → Ctypes → List Core → Given Cores
arguments w at ps [] = Fits NoCores
arguments w at NoTypes (a ∷ rest) =
    value_of w at a >>=
    (λ v. further_value w at v >>=
    (λ x. arguments w at NoTypes rest >>= (λ more. Fits (one_more x more))))
arguments w at (MoreTypes t ps) (a ∷ rest) =
    value_of w at a >>=
    (λ v. conversion w false at v t >>= (λ x. arguments w at ps rest >>= (λ more. Fits (one_more x more))))

abbrev pub is_returned : World → Ctype → Bool
is_returned w VoidType = true
is_returned w t = has_size w t

abbrev pub call_of : World → Place → ℕ → Core → Ctype → Ctypes → Form → List Core → Given Core
call_of w place at c r ps form args =
    given_if (takes_so_many form (count_of ps) (length args)) Operand at
    (arguments w at ps args >>=
    (λ cores. given_if (is_returned w r) Operand at (Fits (Of CallNode place r (MoreCores c cores)))))

-- a call stands in a function's body, or where it isn't evaluated; what its own type decides comes before that
abbrev pub callee_row : World → Place → ℕ → Core → List Core → Ctype → Given Core
callee_row w place at c args (PointerTo (FunctionFrom r ps form)) = typed at r
    (given_if w.may_call Operand at (call_of w place at c r ps form args))
callee_row w place at c args t = Refuses Operand at

abbrev pub call_row : World → Place → ℕ → Core → List Core → Given Core
call_row w place at f args = value_of w at f >>= (λ c. callee_row w place at c args (ctype_of c))

-- 6.5.4: a cast. Nothing is cast to an array or a function, and a structure or union to its own type alone.
abbrev pub cast_row : World → ℕ → Core → Ctype → Given Core
cast_row w at x t = typed at t (value_of w at x >>= (λ v. conversion w true at v t))

-- 6.5.3.4: the size of a type, and its alignment, where an array has its element's
abbrev pub size_number : Place → ℕ → Core
size_number place n = leaf (Number (pos n)) place unsigned_long

abbrev pub size_row : World → Place → ℕ → Ctype → Given Core
size_row w place at t = given_some (size_below (extent w t)) Operand at >>= (λ n. Fits (size_number place n))

abbrev pub align_in : Option Extent → Option ℕ
align_in None = None
align_in (Some e) = Some e.align

abbrev pub align_row : World → Place → ℕ → Ctype → Given Core
align_row w place at t = given_some (align_in (extent w t)) Operand at >>= (λ n. Fits (size_number place n))

-- the width of a bit-field that an expression names, as a member of a place or of a value
abbrev pub named_width : World → Core → Option ℕ
named_width w (Of (Member k) place type (MoreCores p NoCores)) = width_in (members_of w (ctype_of p)) k
named_width w (Of (MemberOfValue k) place type (MoreCores v NoCores)) = width_in (members_of w (ctype_of v)) k
named_width w c = None

abbrev pub sized_expression : World → Place → ℕ → Core → Given Core
sized_expression w place at c = given_if (is_none (named_width w c)) Operand at (size_row w place at (ctype_of c))

-- 7.16: operations on variadic lists, which give nothing but the next argument
abbrev pub is_list_place : Core → Bool
is_list_place c = is_place_sort (core_sort c) && is_list (ctype_of c)

abbrev pub dropped : Place → Core → Core
dropped place c = over Convert place VoidType c

-- 7.16.1.4: a list gets what the function was passed past the parameter that is named, its last one
abbrev pub started : Place → Core → ℕ → Core
started place a function =
    dropped place (over_two Assign place VaListType a (leaf (VarArgs function) place VaListType))

abbrev pub start_named : Place → ℕ → Core → Option ℕ → Given Core
start_named place at a None = Refuses Operand at
start_named place at a (Some function) = given_if (is_list_place a) Operand at (Fits (started place a function))

abbrev pub last_named : World → Core → Option ℕ
last_named w (Of (Named entity) place type NoCores) = w.further entity
last_named w c = None

abbrev pub start_row : World → Place → ℕ → Core → Core → Given Core
start_row w place at a n = start_named place at a (last_named w n)

-- 7.16.1.2: a list gets the value of another one
abbrev pub copied : Place → ℕ → Core → Core → Given Core
copied place at a v =
    given_if (is_list (ctype_of v)) Operand at (Fits (dropped place (over_two Assign place VaListType a v)))

abbrev pub copy_row : World → Place → ℕ → Core → Core → Given Core
copy_row w place at a b =
    given_if (is_list_place a) Operand at (value_of w at b >>= (λ v. copied place at a v))

-- 7.16.1.1: the next argument, an integer or a pointer
abbrev pub next_row : Place → ℕ → Core → Ctype → Given Core
next_row place at a t =
    typed at t
    (given_if (is_list_place a && is_scalar (operand_of t)) Operand at (Fits (over NextArg place t a)))

-- 7.16.1.3: the address of a list, given away
abbrev pub end_row : World → Place → ℕ → Core → Given Core
end_row w place at a =
    given_if (is_list_place a) Operand at
    (address_row w place at a (core_sort a) >>= (λ x. Fits (dropped place x)))
