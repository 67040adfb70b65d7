-- Types of a unit have as many nodes as in the table.
use Rattle.std.proofs.Common.{◌≡◌, ◌∙◌, ◌⊎◌, ℕ, suc, List, length, Option, Some, None, IsSome, refl, sym, ap, inl, inr}
use Rattle.std.proofs.lemmas.Bool.{false≢true}
use Rattle.c_types.specs.Trees.{Ctype, VoidType, BoolType, IntegerType, FloatingType, VaListType, PointerTo, ArrayOf, FunctionFrom, StructureOf, UnionOf}
use Rattle.c_types.specs.Layout.{Extent, Look, all_nodes, extent_of, repeated, of_members, structure_of, union_of, flexible, or_flexible, member_extent, element_extent}
use Rattle.c_types.specs.Table.{Table}
use Rattle.c_types.specs.Made.{IsFlexible}
use Rattle.c_types.proofs.Nodes.{structure_nodes, union_nodes}
use Rattle.link_model.specs.Renamed.{renamed}

-- both are complete, with as many nodes
abbrev pub Alike : Option Extent → Option Extent → Type 0
Alike None b = ⊥
Alike (Some e) None = ⊥
Alike (Some e) (Some d) = length d.nodes ≡ length e.nodes

-- both are there, with as many nodes
abbrev pub ListsAlike : Option (List Extent) → Option (List Extent) → Type 0
ListsAlike None b = ⊥
ListsAlike (Some es) None = ⊥
ListsAlike (Some es) (Some ds) = length (all_nodes ds) ≡ length (all_nodes es)

-- what the first look knows, the others know alike, one by other numbers
abbrev pub KnowAlike : (ℕ → ℕ) → Look → Look → Look → Type 0
KnowAlike f first look more = (tag : ℕ) → IsSome (first tag) → ListsAlike (look tag) (more (f tag))

repeated_alike : (n : ℕ) (a b : Option Extent) → Alike a b → Alike (repeated n a) (repeated n b)
repeated_alike n None b h = absurd h
repeated_alike n (Some e) None h = absurd h
repeated_alike n (Some e) (Some d) h = h

structure_alike : (s t : Ctype) (a b : Option (List Extent)) → ListsAlike a b → Alike (of_members (structure_of s) a) (of_members (structure_of t) b)
structure_alike s t None b h = absurd h
structure_alike s t (Some es) None h = absurd h
structure_alike s t (Some es) (Some ds) h =
    ap (λ (ns : List Ctype). length ns) (structure_nodes t ds) ∙ (ap suc h ∙ sym (ap (λ (ns : List Ctype). length ns) (structure_nodes s es)))

union_alike : (s t : Ctype) (a b : Option (List Extent)) → ListsAlike a b → Alike (of_members (union_of s) a) (of_members (union_of t) b)
union_alike s t None b h = absurd h
union_alike s t (Some es) None h = absurd h
union_alike s t (Some es) (Some ds) h =
    ap (λ (ns : List Ctype). length ns) (union_nodes t ds) ∙ sym (ap (λ (ns : List Ctype). length ns) (union_nodes s es))

some_repeated : (n : ℕ) (o : Option Extent) → IsSome (repeated n o) → IsSome o
some_repeated n None h = h
some_repeated n (Some e) h = refl

some_members : (g : List Extent → Extent) (o : Option (List Extent)) → IsSome (of_members g o) → IsSome o
some_members g None h = h
some_members g (Some es) h = refl

extent_alike : (f : ℕ → ℕ) (first look more : Look) → KnowAlike f first look more → (t : Ctype) → IsSome (extent_of first t) → Alike (extent_of look t) (extent_of more (renamed f t))
extent_alike f first look more k VoidType h = absurd (false≢true h)
extent_alike f first look more k BoolType h = refl
extent_alike f first look more k (IntegerType size rank signed) h = refl
extent_alike f first look more k FloatingType h = refl
extent_alike f first look more k VaListType h = refl
extent_alike f first look more k (PointerTo to) h = refl
extent_alike f first look more k (ArrayOf of None) h = absurd (false≢true h)
extent_alike f first look more k (ArrayOf of (Some n)) h =
    repeated_alike n (extent_of look of) (extent_of more (renamed f of)) (extent_alike f first look more k of (some_repeated n (extent_of first of) h))
extent_alike f first look more k (FunctionFrom result parameters form) h = absurd (false≢true h)
extent_alike f first look more k (StructureOf tag) h =
    structure_alike (StructureOf tag) (StructureOf (f tag)) (look tag) (more (f tag)) (k tag (some_members (structure_of (StructureOf tag)) (first tag) h))
extent_alike f first look more k (UnionOf tag) h =
    union_alike (UnionOf tag) (UnionOf (f tag)) (look tag) (more (f tag)) (k tag (some_members (union_of (UnionOf tag)) (first tag) h))

or_alike : (a b c d : Option Extent) → Alike a b → length (or_flexible b d).nodes ≡ length (or_flexible a c).nodes
or_alike None b c d h = absurd h
or_alike (Some e) None c d h = absurd h
or_alike (Some e) (Some x) c d h = h

flexible_none : (o : Option Extent) → length (flexible o).nodes ≡ 0
flexible_none None = refl
flexible_none (Some e) = refl

flexible_alike : (table : Table) (f : ℕ → ℕ) (look more : Look) (t : Ctype) → IsFlexible table t → length (member_extent more (renamed f t)).nodes ≡ length (member_extent look t).nodes
flexible_alike table f look more (ArrayOf of None) h = flexible_none (extent_of more (renamed f of)) ∙ sym (flexible_none (extent_of look of))
flexible_alike table f look more (ArrayOf of (Some n)) h = absurd h
flexible_alike table f look more VoidType h = absurd h
flexible_alike table f look more BoolType h = absurd h
flexible_alike table f look more (IntegerType size rank signed) h = absurd h
flexible_alike table f look more FloatingType h = absurd h
flexible_alike table f look more VaListType h = absurd h
flexible_alike table f look more (PointerTo to) h = absurd h
flexible_alike table f look more (FunctionFrom result parameters form) h = absurd h
flexible_alike table f look more (StructureOf tag) h = absurd h
flexible_alike table f look more (UnionOf tag) h = absurd h

-- a member has as many nodes in both
pub member_alike : (table : Table) (f : ℕ → ℕ) (first look more : Look) → KnowAlike f first look more → (t : Ctype) → IsSome (extent_of first t) ⊎ IsFlexible table t
    → length (member_extent more (renamed f t)).nodes ≡ length (member_extent look t).nodes
member_alike table f first look more k t (inl complete) =
    or_alike (extent_of look t) (extent_of more (renamed f t)) (element_extent look t) (element_extent more (renamed f t)) (extent_alike f first look more k t complete)
member_alike table f first look more k t (inr loose) = flexible_alike table f look more t loose
