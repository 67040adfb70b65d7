-- The type of a part of an object.
use Rattle.std.specs.Prelude.{ℕ, nat_lt, if◌then◌else◌, List, [], ◌∷◌, Option, Some, None, slice_get}
use Rattle.std.specs.Option.{option_and_then}
use Rattle.c_types.specs.declared.term.PathStep.{PathStep}
use Rattle.c_types.specs.declared.term.PathStep.TheVariants.{Index, Member}
use Rattle.c_types.specs.declared.term.MemberTerm.{MemberTerm}
use Rattle.c_types.specs.Trees.{Ctype, ArrayOf, StructureOf, UnionOf}
use Rattle.c_types.specs.Table.{Table, type_of, members_in}

-- a type that isn't an array without a length
abbrev pub with_length : Ctype → Option Ctype
with_length (ArrayOf of None) = None
with_length t = Some t

-- the type of a member that is no flexible array
abbrev pub member_type : Table → Option (List MemberTerm) → ℕ → Option Ctype
member_type table None k = None
member_type table (Some members) k = option_and_then (λ m. with_length (type_of table m.ty.0)) (slice_get members k)

-- the type one step below a type
abbrev pub part_type : Table → Ctype → PathStep → Option Ctype
part_type table (ArrayOf of (Some n)) (Index i) = if nat_lt i n then Some of else None
part_type table (StructureOf tag) (Member k) = member_type table (members_in table tag) k
part_type table (UnionOf tag) (Member k) = member_type table (members_in table tag) k
part_type table t step = None

abbrev pub part_below : Table → Option Ctype → PathStep → Option Ctype
part_below table None step = None
part_below table (Some t) step = part_type table t step

-- the type at the end of a path, or none where the path leaves the type
abbrev pub type_at_path : Table → Option Ctype → List PathStep → Option Ctype
type_at_path table t [] = t
type_at_path table t (step ∷ rest) = type_at_path table (part_below table t step) rest
