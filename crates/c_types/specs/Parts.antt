-- The parts of a type: its members and its nodes.
use Rattle.std.specs.Prelude.{ℕ, ◌+◌, ◌^◌, nat_lt, if◌then◌else◌, List, [], ◌∷◌, Option, Some, None, length, take}
use Rattle.std.specs.Prelude.{slice_get}
use Rattle.std.specs.Option.{option_and_then}
use Rattle.c_types.specs.declared.term.Class.{Class}
use Rattle.c_types.specs.declared.term.Class.TheVariants.{Pointer as PointerClass, Integer as IntegerClass}
use Rattle.c_types.specs.declared.term.Class.TheVariants.{Structure as StructureClass, Union as UnionClass}
use Rattle.c_types.specs.declared.term.Class.TheVariants.{Array as ArrayClass, Function as FunctionClass}
use Rattle.c_types.specs.declared.term.Class.TheVariants.{Floating as FloatingClass, VaList as VaListClass}
use Rattle.c_types.specs.declared.term.Class.TheVariants.{Void as VoidClass}
use Rattle.c_types.specs.declared.term.TypeId.{TypeId}
use Rattle.c_types.specs.declared.term.MemberTerm.{MemberTerm}
use Rattle.c_types.specs.Trees.{Ctype, VoidType, BoolType, IntegerType, FloatingType, VaListType, PointerTo}
use Rattle.c_types.specs.Trees.{ArrayOf, FunctionFrom, StructureOf, UnionOf}
use Rattle.c_types.specs.Layout.{Extent, all_nodes}
use Rattle.c_types.specs.Table.{Table, type_of, members_in, extents_in}

-- the class of a type
abbrev pub class_of_type : Ctype → Class
class_of_type VoidType = VoidClass
class_of_type BoolType = IntegerClass 1
class_of_type (IntegerType size rank signed) = IntegerClass size
class_of_type FloatingType = FloatingClass
class_of_type VaListType = VaListClass
class_of_type (PointerTo to) = PointerClass
class_of_type (ArrayOf of length) = ArrayClass
class_of_type (FunctionFrom result parameters form) = FunctionClass
class_of_type (StructureOf tag) = StructureClass
class_of_type (UnionOf tag) = UnionClass

-- the type of the first member
abbrev pub head_type : List MemberTerm → Option TypeId
head_type [] = None
head_type (m ∷ rest) = Some m.ty

-- the type of the first member of a complete structure that has one
abbrev pub first_member_of : Table → Ctype → Option TypeId
first_member_of table (StructureOf tag) = option_and_then head_type (members_in table tag)
first_member_of table t = None

-- how far a member's node stands behind its structure's: 1 plus the nodes of the members before it
abbrev pub position : List Extent → ℕ → ℕ
position extents k = 1 + length (all_nodes (take k extents))

-- a number for each member but a flexible array, which has no node
abbrev pub unless_flexible : Ctype → ℕ → Option ℕ
unless_flexible (ArrayOf of None) n = None
unless_flexible t n = Some n

abbrev pub member_node : Table → (List MemberTerm → ℕ) → Option (List MemberTerm) → ℕ → Option ℕ
member_node table place None k = None
member_node table place (Some members) k =
    option_and_then (λ m. unless_flexible (type_of table m.ty.0) (place members)) (slice_get members k)

-- the position of a member's node in its structure, and 0 in a union
abbrev pub field_in : Table → Ctype → ℕ → Option ℕ
field_in table (StructureOf tag) k =
    member_node table (λ members. position (extents_in table members) k) (members_in table tag) k
field_in table (UnionOf tag) k = member_node table (λ members. 0) (members_in table tag) k
field_in table t k = None

-- a number of 32 bits
abbrev pub within_32 : Option ℕ → Option ℕ
within_32 None = None
within_32 (Some n) = if nat_lt n (2 ^ 32) then Some n else None
