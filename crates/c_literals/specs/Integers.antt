-- The types of integer constants (C11 6.4.4.1p5).
use Rattle.std.specs.Prelude.{true, false}
use Rattle.c_types.specs.declared.term.Term.{Term}
use Rattle.c_types.specs.declared.term.Term.TheVariants.{Integer}
use Rattle.c_types.specs.Trees.{Ctype}
use Rattle.core_tree.specs.Rows.{int, long}
use Rattle.c_senses.specs.Literals.{unsigned_int, unsigned_long, long_long, unsigned_long_long}
use Rattle.c_literals.specs.declared.integers.ConstantType.{ConstantType}
use Rattle.c_literals.specs.declared.integers.ConstantType.TheVariants.{Int, UnsignedInt, Long, UnsignedLong}
use Rattle.c_literals.specs.declared.integers.ConstantType.TheVariants.{LongLong, UnsignedLongLong}

abbrev pub type_seen : ConstantType → Ctype
type_seen Int = int
type_seen UnsignedInt = unsigned_int
type_seen Long = long
type_seen UnsignedLong = unsigned_long
type_seen LongLong = long_long
type_seen UnsignedLongLong = unsigned_long_long

-- the same type as a term of a table
abbrev pub term_of : ConstantType → Term
term_of Int = Integer 4 4 true
term_of UnsignedInt = Integer 4 4 false
term_of Long = Integer 8 5 true
term_of UnsignedLong = Integer 8 5 false
term_of LongLong = Integer 8 6 true
term_of UnsignedLongLong = Integer 8 6 false
