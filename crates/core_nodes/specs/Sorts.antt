-- How the code's sorts of types are those of the definitions.
use Rattle.std.specs.Prelude.{⊤, Result, Ok, Err, false, ℕ, ◌≡◌, ◌<◌, length, Option, Some, None}
use Rattle.c_types.specs.declared.term.TypeId.{TypeId}
use Rattle.c_types.specs.declared.term.MemberTerm.{MemberTerm}
use Rattle.c_types.specs.Trees.{Ctype, IntegerType, PointerTo}
use Rattle.c_types.specs.Table.{Table, type_of}
use Rattle.c_senses.specs.Conversions.{OperandSort, Whole as WholeSort, Address as AddressSort}
use Rattle.c_senses.specs.Conversions.{Aggregate as AggregateSort, Other as OtherSort}
use Rattle.core_tree.specs.declared.node.Unit.{Unit}
use Rattle.c_senses.specs.passed.c_consts.Core.{Core}
use Rattle.c_senses.specs.World.{World}
use Rattle.c_senses.specs.Operators.{common_of, in_common}
use Rattle.core_nodes.specs.Standing.{core_at}
use Rattle.core_nodes.specs.declared.fault.CheckFault.{CheckFault}
use Rattle.core_nodes.specs.declared.fault.CheckFault.TheVariants.{BadOperand, Unsupported, OutOfMemory}
use Rattle.core_nodes.specs.declared.integers.Pair.{Pair}
use Rattle.core_nodes.specs.declared.integers.Common.{Common}
use Rattle.core_nodes.specs.declared.integers.Common.TheVariants.{Left, Right, UnsignedLeft, UnsignedRight}
use Rattle.core_nodes.specs.declared.integers.Integer.{Integer}
use Rattle.core_nodes.specs.declared.sorts.Operand.{Operand}
use Rattle.core_nodes.specs.declared.sorts.Operand.TheVariants.{Whole, Address, Aggregate, Other}

abbrev pub sort_seen : Table → Operand → OperandSort
sort_seen table Whole = WholeSort
sort_seen table (Address to) = AddressSort (type_of table to.0)
sort_seen table (Aggregate tag) = AggregateSort tag
sort_seen table Other = OtherSort

-- its type or tag is the table's
abbrev pub IsWithin : Table → Operand → Type 0
IsWithin table Whole = ⊤
IsWithin table (Address to) = to.0 < length table.terms
IsWithin table (Aggregate tag) = tag < table.tags
IsWithin table Other = ⊤

-- the type to which an array or a function decays points there
abbrev pub DecaysTo : Table → Option Ctype → Option TypeId → Type 0
DecaysTo table t None = t ≡ None
DecaysTo table t (Some to) = t ≡ Some (PointerTo (type_of table to.0))

-- the width of a member, if there is one
abbrev pub bits_of : Option MemberTerm → Option ℕ
bits_of None = None
bits_of (Some m) = m.bits

abbrev pub integer_seen : Integer → Ctype
integer_seen i = IntegerType i.size i.rank i.signed

-- the type that is chosen of two
abbrev pub chosen_type : Integer → Integer → Common → Ctype
chosen_type a b Left = integer_seen a
chosen_type a b Right = integer_seen b
chosen_type a b UnsignedLeft = IntegerType a.size a.rank false
chosen_type a b UnsignedRight = IntegerType b.size b.rank false

-- two values in their common type, with that type
abbrev pub PairMade : World → Unit → Result Pair CheckFault → Core → Core → Type 0
PairMade w u (Ok pair) a b =
    (core_at u pair.left ≡ in_common w a b a) × (core_at u pair.right ≡ in_common w a b b)
    × (type_of u.types pair.ty.0 ≡ common_of w a b)
PairMade w u (Err (BadOperand node)) a b = ⊥
PairMade w u (Err (Unsupported kind node)) a b = ⊥
PairMade w u (Err OutOfMemory) a b = ⊤

abbrev pub IsPairWithin : Unit → Pair → Type 0
IsPairWithin u pair =
    (pair.left < length u.nodes.items) × (pair.right < length u.nodes.items) × (pair.ty.0 < length u.types.terms)
