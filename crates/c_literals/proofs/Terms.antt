-- The types of constants as terms of a table.
use Rattle.std.proofs.Common.{◌≡◌, ℕ, List, refl, rules}
use Rattle.c_types.specs.declared.term.Term.{Term}
use Rattle.c_types.specs.Trees.{Ctype, grow}
use Rattle.c_types.specs.Table.{IsAfter, HasTag}
use Rattle.c_types.specs.Made.{IsSized, KeepsApart}
use Rattle.c_literals.specs.declared.integers.ConstantType.{ConstantType}
use Rattle.c_literals.specs.declared.integers.ConstantType.TheVariants.{Int, UnsignedInt, Long, UnsignedLong, LongLong, UnsignedLongLong}
use Rattle.c_literals.specs.Integers.{type_seen, term_of}

pub grow_term : (t : ConstantType) (trees : List Ctype) → grow trees (term_of t) ≡ type_seen t
grow_term Int trees = refl
grow_term UnsignedInt trees = refl
grow_term Long trees = refl
grow_term UnsignedLong trees = refl
grow_term LongLong trees = refl
grow_term UnsignedLongLong trees = refl

-- such a term names no types and no tag, and its size is that of an integer
pub is_after : (t : ConstantType) (n : ℕ) → IsAfter n (term_of t)
is_after Int n = tt
is_after UnsignedInt n = tt
is_after Long n = tt
is_after UnsignedLong n = tt
is_after LongLong n = tt
is_after UnsignedLongLong n = tt

pub has_tag : (t : ConstantType) (n : ℕ) → HasTag n (term_of t)
has_tag Int n = tt
has_tag UnsignedInt n = tt
has_tag Long n = tt
has_tag UnsignedLong n = tt
has_tag LongLong n = tt
has_tag UnsignedLongLong n = tt

pub is_sized : (t : ConstantType) → IsSized (term_of t)
is_sized Int = search rules
is_sized UnsignedInt = search rules
is_sized Long = search rules
is_sized UnsignedLong = search rules
is_sized LongLong = search rules
is_sized UnsignedLongLong = search rules

pub keeps_apart : (t : ConstantType) (terms : List Term) → KeepsApart terms (term_of t)
keeps_apart Int terms = tt
keeps_apart UnsignedInt terms = tt
keeps_apart Long terms = tt
keeps_apart UnsignedLong terms = tt
keeps_apart LongLong terms = tt
keeps_apart UnsignedLongLong terms = tt
