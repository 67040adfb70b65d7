-- A complete object type has a first node.
use Rattle.std.proofs.Common.{◌≡◌, ℕ, List, Option, Some, None, IsTrue, IsSome, is_some, ◌↔◌, slice_get, refl, ap, rules}
use Rattle.std.specs.Option.{option_map}
use Rattle.c_types.specs.declared.term.TypeId.{TypeId}
use Rattle.c_types.specs.Trees.{Ctype, VoidType, BoolType, IntegerType, FloatingType, VaListType, PointerTo, ArrayOf, FunctionFrom, StructureOf, UnionOf}
use Rattle.c_types.specs.Layout.{Extent, Look, extent_of, of_members, repeated, structure_of, union_of}
use Rattle.c_types.specs.Table.{node_of}
use Rattle.c_types.proofs.Nodes.{structure_nodes, union_nodes}

-- a first node, where there is an extent
abbrev pub HasFirst : Option Extent → Type 0
HasFirst None = Unit {0}
HasFirst (Some e) = (x : Ctype) × (slice_get e.nodes 0 ≡ Some x)

repeated_first : (n : ℕ) (o : Option Extent) → HasFirst o → HasFirst (repeated n o)
repeated_first n None h = tt
repeated_first n (Some e) h = h

structure_first : (t : Ctype) (o : Option (List Extent)) → HasFirst (of_members (structure_of t) o)
structure_first t None = tt
structure_first t (Some es) = (t, ap (λ (ns : List Ctype). slice_get ns 0) (structure_nodes t es))

union_first : (t : Ctype) (o : Option (List Extent)) → HasFirst (of_members (union_of t) o)
union_first t None = tt
union_first t (Some es) = (t, ap (λ (ns : List Ctype). slice_get ns 0) (union_nodes t es))

pub has_first : (look : Look) (t : Ctype) → HasFirst (extent_of look t)
has_first look VoidType = tt
has_first look BoolType = (BoolType, refl)
has_first look (IntegerType size rank signed) = (IntegerType size rank signed, refl)
has_first look FloatingType = (FloatingType, refl)
has_first look VaListType = (VaListType, refl)
has_first look (PointerTo to) = (PointerTo to, refl)
has_first look (ArrayOf of None) = tt
has_first look (ArrayOf of (Some n)) = repeated_first n (extent_of look of) (has_first look of)
has_first look (FunctionFrom result parameters form) = tt
has_first look (StructureOf tag) = structure_first (StructureOf tag) (look tag)
has_first look (UnionOf tag) = union_first (UnionOf tag) (look tag)

-- so that an object type is one with a node
pub object_iff : (o : Option Extent) → HasFirst o → (r : Option TypeId) (f : TypeId → Ctype) → option_map f r ≡ node_of o 0 → IsTrue (is_some r) ↔ IsSome o
object_iff None h None f e = search rules
object_iff None h (Some id) f e = cc
object_iff (Some x) (t, at) None f e = cc
object_iff (Some x) h (Some id) f e = search rules
