-- The shapes of a table's types.
use Rattle.std.specs.Prelude.{ℕ, ◌≡◌, ◌<◌, Bool, true, false, List, [], map, drop, length, slice_get, Option, Some}
use Rattle.std.specs.Prelude.{None, IsSome, option_map, if◌then◌else◌}
use Rattle.c_types.specs.declared.term.MemberTerm.{MemberTerm}
use Rattle.c_types.specs.Trees.{Ctype, VoidType, ArrayOf, StructureOf, UnionOf}
use Rattle.c_types.specs.Table.{Table, TagMembers, type_of, members_in}
use Rattle.c_inits.specs.Shapes.{Shape, Fields, Scalar, NoFields, Field}
use Rattle.c_inits.specs.Made.{Part, TagParts, Look, looked_up, laid_out, shape_of, shape_for, with_field}
use Rattle.c_inits.specs.Made.{fields_of}

-- a member with its type
abbrev pub part_with : MemberTerm → Ctype → Part
part_with m t = record { name = m.name; type = t; bits = m.bits }

abbrev pub part_of : Table → MemberTerm → Part
part_of table m = part_with m (type_of table m.ty.0)

-- the members of a tag, with their types
abbrev pub parts_in : Table → Option (List MemberTerm) → Option (List Part)
parts_in table members = option_map (map (part_of table)) members

abbrev pub tag_parts : Table → TagMembers → TagParts
tag_parts table c = record { tag = c.tag; members = map (part_of table) c.members }

-- what can be initialised in each complete tag
unfoldable pub fillable : Table → Look
fillable table = looked_up (laid_out [] (map (tag_parts table) table.completed))

-- the shape of the type of that number; an array without a length has as many elements as the limit says
abbrev pub shape_in : Table → (limit : ℕ) → ℕ → Option Shape
shape_in table limit id = shape_for (fillable table) limit (type_of table id)

abbrev pub or_void : Option Shape → Shape
or_void None = Scalar VoidType
or_void (Some s) = s

-- a type that has a shape, and its shape
abbrev pub HasShape : Table → ℕ → ℕ → Type 0
HasShape table limit id = IsSome (shape_in table limit id)

abbrev pub type_shape : Table → ℕ → ℕ → Shape
type_shape table limit id = or_void (shape_in table limit id)

-- the members of a list from that position on, as fields
abbrev pub fields_from : Table → ℕ → List MemberTerm → Fields
fields_from table k members = fields_of (fillable table) k (map (part_of table) (drop k members))

-- a member that can be initialised, or that is passed over
abbrev pub IsFilled : Table → MemberTerm → Bool → Type 0
IsFilled table m filled =
    (k : ℕ) (rest : Fields)
    → with_field (part_of table m) k (shape_of (fillable table) (type_of table m.ty.0)) rest
    ≡ (if filled then Field m.name k (or_void (shape_of (fillable table) (type_of table m.ty.0))) rest else rest)

abbrev pub IsMemberType : Look → Ctype → Type 0
IsMemberType look (ArrayOf of None) = Unit {0}
IsMemberType look t = IsSome (shape_of look t)

-- members that are complete, but for arrays without a length
pub record AreComplete (table : Table) (members : List MemberTerm) : Type 0 where
  pub known : (k : ℕ) (m : MemberTerm) → slice_get members k ≡ Some m → m.ty.0 < length table.terms
  pub each : (k : ℕ) (m : MemberTerm)
      → slice_get members k ≡ Some m
      → IsMemberType (fillable table) (type_of table m.ty.0)

-- an array without a length
abbrev pub lacks_length : Ctype → Bool
lacks_length (ArrayOf of None) = true
lacks_length t = false

-- the number of elements of an array
abbrev pub elements_of : (limit : ℕ) → Option ℕ → ℕ
elements_of limit None = limit
elements_of limit (Some n) = n

-- the members of a complete tag from that position on, as fields
abbrev pub members_from : Table → ℕ → Option (List MemberTerm) → Fields
members_from table k None = NoFields
members_from table k (Some members) = fields_from table k members

abbrev pub tag_fields : Table → ℕ → ℕ → Fields
tag_fields table k tag = members_from table k (members_in table tag)

-- the type of a tag with its keyword
abbrev pub tagged : (is_union : Bool) → ℕ → Ctype
tagged true tag = UnionOf tag
tagged false tag = StructureOf tag
