-- Which types have a size and a number of nodes.
use Rattle.std.specs.Prelude.{ℕ, ◌≡◌, ◌<◌, ⊤, Some, None, IsSome, length, ◌⊎◌}
use Rattle.c_types.specs.Trees.{Ctype, NoTypes, VoidType, PointerTo, ArrayOf, FunctionFrom, StructureOf, UnionOf}
use Rattle.c_types.specs.declared.term.Form.TheVariants.{Fixed}
use Rattle.c_types.specs.Table.{Table, type_of, members_in, extent_in, size_below, nodes_within}
use Rattle.type_rules.specs.Kinds.{IsAggregate}
use Rattle.type_rules.specs.Conversions.{result_of}

-- a complete object type
abbrev pub IsObject : Table → Ctype → Type 0
IsObject table t = IsSome (extent_in table t)

abbrev pub PointsToObject : Table → Ctype → Type 0
PointsToObject table (PointerTo to) = IsObject table to
PointsToObject table t = ⊥

-- a type that has a size and a number of nodes
abbrev pub HasSize : Table → Ctype → Type 0
HasSize table t = IsSome (size_below (extent_in table t)) × IsSome (nodes_within (extent_in table t))

-- an array without a length counts as one of one element
abbrev pub with_one : Ctype → Ctype
with_one (ArrayOf of None) = ArrayOf of (Some 1)
with_one t = t

-- void, or a structure or union without a member list
abbrev pub IsOpenIn : Table → Ctype → Type 0
IsOpenIn table VoidType = ⊤
IsOpenIn table (StructureOf tag) = members_in table tag ≡ None
IsOpenIn table (UnionOf tag) = members_in table tag ≡ None
IsOpenIn table t = ⊥

-- the structure or union has a size, if it is complete
abbrev pub TagHasSize : Table → ℕ → Type 0
TagHasSize table id =
    IsAggregate (type_of table id) → IsObject table (type_of table id) → HasSize table (type_of table id)

-- each complete structure or union has a size
abbrev pub TagsHaveSizes : Table → Type 0
TagsHaveSizes table = (id : ℕ) → id < length table.terms → TagHasSize table id

-- what a function gives has a size, if it isn't void
abbrev pub ResultHasSize : Table → Ctype → Type 0
ResultHasSize table t = (result_of t ≡ VoidType) ⊎ HasSize table (result_of t)

-- a function type without parameters has its type with the list (void) in the table
abbrev pub HasSignature : Table → Ctype → Type 0
HasSignature table (FunctionFrom result NoTypes form) =
    (id : ℕ) × (id < length table.terms) × (type_of table id ≡ FunctionFrom result NoTypes Fixed)
HasSignature table t = ⊤
