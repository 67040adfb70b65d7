-- Types of a unit take as much as in the table.
use Rattle.std.proofs.Common.{arith, ◌≡◌, ◌∙◌, ◌⊎◌, ℕ, ◌+◌, ◌*◌, max, List, [], ◌∷◌, length, length-append, Option, Some, None, IsSome, refl, ap, inl, inr}
use Rattle.std.proofs.lemmas.Bool.{false≢true}
use Rattle.c_types.specs.Trees.{Ctype, VoidType, BoolType, IntegerType, FloatingType, VaListType, PointerTo, ArrayOf, FunctionFrom, StructureOf, UnionOf}
use Rattle.c_types.specs.Layout.{Extent, Look, round_up, beside, placed, padded, first_extent, structure_of, above, overlaid, union_of, extent_of, repeated, of_members, flexible, or_flexible, member_extent, element_extent}
use Rattle.link_model.specs.Renamed.{renamed}

-- both take as much
pub record IsAsLarge (e d : Extent) : Type 0 where
  pub size : d.size ≡ e.size
  pub align : d.align ≡ e.align
  pub nodes : length d.nodes ≡ length e.nodes

-- both are complete, and take as much
abbrev pub Alike : Option Extent → Option Extent → Type 0
Alike None b = ⊥
Alike (Some e) None = ⊥
Alike (Some e) (Some d) = IsAsLarge e d

-- the same of members in order
abbrev pub AreAsLarge : List Extent → List Extent → Type 0
AreAsLarge [] [] = Unit {0}
AreAsLarge (e ∷ es) (d ∷ ds) = IsAsLarge e d × AreAsLarge es ds
AreAsLarge es ds = ⊥

abbrev pub ListsAlike : Option (List Extent) → Option (List Extent) → Type 0
ListsAlike None b = ⊥
ListsAlike (Some es) None = ⊥
ListsAlike (Some es) (Some ds) = AreAsLarge es ds

-- what the first look knows, the others know alike, one by other numbers
abbrev pub KnowAlike : (ℕ → ℕ) → Look → Look → Look → Type 0
KnowAlike f first look more = (tag : ℕ) → IsSome (first tag) → ListsAlike (look tag) (more (f tag))

beside_alike : (a b m n : Extent) → IsAsLarge a b → IsAsLarge m n → IsAsLarge (beside a m) (beside b n)
beside_alike a b m n o i =
    let x = length-append a.nodes m.nodes in
    let y = length-append b.nodes n.nodes in
    let p = o.nodes in
    let q = i.nodes in
    record {
      size = ap (λ (s : ℕ). round_up s n.align + n.size) o.size ∙ (ap (λ (s : ℕ). round_up a.size s + n.size) i.align ∙ ap (λ (s : ℕ). round_up a.size m.align + s) i.size);
      align = ap (λ (s : ℕ). max s n.align) o.align ∙ ap (λ (s : ℕ). max a.align s) i.align;
      nodes = omega arith;
    }

placed_alike : (a b : Extent) (ms ns : List Extent) → IsAsLarge a b → AreAsLarge ms ns → IsAsLarge (placed a ms) (placed b ns)
placed_alike a b [] [] o all = o
placed_alike a b [] (n ∷ ns) o all = absurd all
placed_alike a b (m ∷ ms) [] o all = absurd all
placed_alike a b (m ∷ ms) (n ∷ ns) o all = placed_alike (beside a m) (beside b n) ms ns (beside_alike a b m n o all.0) all.1

padded_alike : (a b : Extent) → IsAsLarge a b → IsAsLarge (padded a) (padded b)
padded_alike a b o = record {
  size = ap (λ (s : ℕ). round_up s b.align) o.size ∙ ap (λ (s : ℕ). round_up a.size s) o.align;
  align = o.align;
  nodes = o.nodes;
}

above_alike : (a b m n : Extent) → IsAsLarge a b → IsAsLarge m n → IsAsLarge (above a m) (above b n)
above_alike a b m n o i = record {
  size = ap (λ (s : ℕ). max s n.size) o.size ∙ ap (λ (s : ℕ). max a.size s) i.size;
  align = ap (λ (s : ℕ). max s n.align) o.align ∙ ap (λ (s : ℕ). max a.align s) i.align;
  nodes = o.nodes;
}

overlaid_alike : (a b : Extent) (ms ns : List Extent) → IsAsLarge a b → AreAsLarge ms ns → IsAsLarge (overlaid a ms) (overlaid b ns)
overlaid_alike a b [] [] o all = o
overlaid_alike a b [] (n ∷ ns) o all = absurd all
overlaid_alike a b (m ∷ ms) [] o all = absurd all
overlaid_alike a b (m ∷ ms) (n ∷ ns) o all = overlaid_alike (above a m) (above b n) ms ns (above_alike a b m n o all.0) all.1

first_alike : (s t : Ctype) → IsAsLarge (first_extent s) (first_extent t)
first_alike s t = record { size = refl; align = refl; nodes = refl }

pub structure_alike : (s t : Ctype) (es ds : List Extent) → AreAsLarge es ds → IsAsLarge (structure_of s es) (structure_of t ds)
structure_alike s t es ds h = padded_alike (placed (first_extent s) es) (placed (first_extent t) ds) (placed_alike (first_extent s) (first_extent t) es ds (first_alike s t) h)

pub union_alike : (s t : Ctype) (es ds : List Extent) → AreAsLarge es ds → IsAsLarge (union_of s es) (union_of t ds)
union_alike s t es ds h = padded_alike (overlaid (first_extent s) es) (overlaid (first_extent t) ds) (overlaid_alike (first_extent s) (first_extent t) es ds (first_alike s t) h)

pub of_structure : (s t : Ctype) (a b : Option (List Extent)) → ListsAlike a b → Alike (of_members (structure_of s) a) (of_members (structure_of t) b)
of_structure s t None b h = absurd h
of_structure s t (Some es) None h = absurd h
of_structure s t (Some es) (Some ds) h = structure_alike s t es ds h

pub of_union : (s t : Ctype) (a b : Option (List Extent)) → ListsAlike a b → Alike (of_members (union_of s) a) (of_members (union_of t) b)
of_union s t None b h = absurd h
of_union s t (Some es) None h = absurd h
of_union s t (Some es) (Some ds) h = union_alike s t es ds h

repeated_alike : (n : ℕ) (a b : Option Extent) → Alike a b → Alike (repeated n a) (repeated n b)
repeated_alike n None b h = absurd h
repeated_alike n (Some e) None h = absurd h
repeated_alike n (Some e) (Some d) h = record { size = ap (λ (s : ℕ). n * s) h.size; align = h.align; nodes = h.nodes }

some_repeated : (n : ℕ) (o : Option Extent) → IsSome (repeated n o) → IsSome o
some_repeated n None h = h
some_repeated n (Some e) h = refl

some_members : (g : List Extent → Extent) (o : Option (List Extent)) → IsSome (of_members g o) → IsSome o
some_members g None h = h
some_members g (Some es) h = refl

same_size : (e : Extent) → IsAsLarge e e
same_size e = record { size = refl; align = refl; nodes = refl }

pub extent_alike : (f : ℕ → ℕ) (first look more : Look) → KnowAlike f first look more → (t : Ctype) → IsSome (extent_of first t) → Alike (extent_of look t) (extent_of more (renamed f t))
extent_alike f first look more k VoidType h = absurd (false≢true h)
extent_alike f first look more k BoolType h = record { size = refl; align = refl; nodes = refl }
extent_alike f first look more k (IntegerType size rank signed) h = record { size = refl; align = refl; nodes = refl }
extent_alike f first look more k FloatingType h = record { size = refl; align = refl; nodes = refl }
extent_alike f first look more k VaListType h = record { size = refl; align = refl; nodes = refl }
extent_alike f first look more k (PointerTo to) h = record { size = refl; align = refl; nodes = refl }
extent_alike f first look more k (ArrayOf of None) h = absurd (false≢true h)
extent_alike f first look more k (ArrayOf of (Some n)) h =
    repeated_alike n (extent_of look of) (extent_of more (renamed f of)) (extent_alike f first look more k of (some_repeated n (extent_of first of) h))
extent_alike f first look more k (FunctionFrom result parameters form) h = absurd (false≢true h)
extent_alike f first look more k (StructureOf tag) h =
    of_structure (StructureOf tag) (StructureOf (f tag)) (look tag) (more (f tag)) (k tag (some_members (structure_of (StructureOf tag)) (first tag) h))
extent_alike f first look more k (UnionOf tag) h =
    of_union (UnionOf tag) (UnionOf (f tag)) (look tag) (more (f tag)) (k tag (some_members (union_of (UnionOf tag)) (first tag) h))

or_alike : (a b c d : Option Extent) → Alike a b → IsAsLarge (or_flexible a c) (or_flexible b d)
or_alike None b c d h = absurd h
or_alike (Some e) None c d h = absurd h
or_alike (Some e) (Some x) c d h = h

loose_alike : (a b : Option Extent) → Alike a b → IsAsLarge (flexible a) (flexible b)
loose_alike None b h = absurd h
loose_alike (Some e) None h = absurd h
loose_alike (Some e) (Some d) h = record { size = refl; align = h.align; nodes = refl }

abbrev pub LooksSo : Look → Ctype → Type 0
LooksSo first (ArrayOf of None) = IsSome (extent_of first of)
LooksSo first t = ⊥

flexible_alike : (f : ℕ → ℕ) (first look more : Look) → KnowAlike f first look more → (t : Ctype) → LooksSo first t → IsAsLarge (member_extent look t) (member_extent more (renamed f t))
flexible_alike f first look more k (ArrayOf of None) h = loose_alike (extent_of look of) (extent_of more (renamed f of)) (extent_alike f first look more k of h)
flexible_alike f first look more k (ArrayOf of (Some n)) h = absurd h
flexible_alike f first look more k VoidType h = absurd h
flexible_alike f first look more k BoolType h = absurd h
flexible_alike f first look more k (IntegerType size rank signed) h = absurd h
flexible_alike f first look more k FloatingType h = absurd h
flexible_alike f first look more k VaListType h = absurd h
flexible_alike f first look more k (PointerTo to) h = absurd h
flexible_alike f first look more k (FunctionFrom result parameters form) h = absurd h
flexible_alike f first look more k (StructureOf tag) h = absurd h
flexible_alike f first look more k (UnionOf tag) h = absurd h

-- a member takes as much in both
pub member_alike : (f : ℕ → ℕ) (first look more : Look) → KnowAlike f first look more → (t : Ctype) → IsSome (extent_of first t) ⊎ LooksSo first t → IsAsLarge (member_extent look t) (member_extent more (renamed f t))
member_alike f first look more k t (inl complete) =
    or_alike (extent_of look t) (extent_of more (renamed f t)) (element_extent look t) (element_extent more (renamed f t)) (extent_alike f first look more k t complete)
member_alike f first look more k t (inr loose) = flexible_alike f first look more k t loose
