-- How many nodes stand before a member's.
use Rattle.std.proofs.Common.{arith, ◌≡◌, ◌∙◌, ℕ, zero, suc, ◌^◌, ◌<◌, ◌≤◌, Bool, cond, List, [], ◌∷◌, length, length-append, take, Option, Some, None, IsSome, unwrap_or, slice_get, refl, sym, ap, subst, inl, inr}
use Rattle.std.specs.Prelude.{⊤}
use Rattle.std.specs.Option.{option_and_then}
use Rattle.std.proofs.lemmas.Bool.{le-ltb, false≢true}
use Rattle.c_types.specs.declared.term.MemberTerm.{MemberTerm}
use Rattle.c_types.specs.Trees.{Ctype, VoidType, BoolType, IntegerType, FloatingType, VaListType, PointerTo, ArrayOf, FunctionFrom, StructureOf, UnionOf}
use Rattle.c_types.specs.Layout.{Extent, Look, all_nodes, extent_of, repeated, of_members, structure_of, union_of, or_flexible, member_extent, element_extent}
use Rattle.c_types.specs.Parts.{position, unless_flexible, member_node as place_in, within_32}
use Rattle.c_types.specs.Table.{Table, type_of, look_in, extent_in, extents_in, members_in}
use Rattle.c_types.specs.Made.{IsMade}
use Rattle.c_types.proofs.Nodes.{structure_nodes, union_nodes, extents_get}
use Rattle.row_numbers.specs.Kept.{member_node}

some_one : {X : Type 0} → {x y : X} → ◌≡◌ {A = Option X} (Some x) (Some y) → x ≡ y
some_one h = cc

none_some : {X : Type 0} → {x : X} → ◌≡◌ {A = Option X} None (Some x) → ⊥
none_some h = cc

present : {A : Type 0} (xs : List A) (i : ℕ) → i < length xs → (x : A) × (slice_get xs i ≡ Some x)
present [] i h = absurd (omega arith)
present (x ∷ xs) zero h = (x, refl)
present (x ∷ xs) (suc i) h = present xs i (omega arith)

inside : {A : Type 0} (xs : List A) (i : ℕ) (x : A) → slice_get xs i ≡ Some x → i < length xs
inside [] i x h = absurd (none_some h)
inside (y ∷ xs) zero x h = omega arith
inside (y ∷ xs) (suc i) x h = let rest = inside xs i x h in omega arith

-- a complete type has a node
abbrev pub Positive : Option Extent → Type 0
Positive None = ⊤
Positive (Some e) = 0 < length e.nodes

positive_repeated : (n : ℕ) (o : Option Extent) → Positive o → Positive (repeated n o)
positive_repeated n None h = h
positive_repeated n (Some e) h = h

positive_structure : (t : Ctype) (o : Option (List Extent)) → Positive (of_members (structure_of t) o)
positive_structure t None = tt
positive_structure t (Some es) = subst (λ (ns : List Ctype). 0 < length ns) (sym (structure_nodes t es)) (omega arith)

positive_union : (t : Ctype) (o : Option (List Extent)) → Positive (of_members (union_of t) o)
positive_union t None = tt
positive_union t (Some es) = subst (λ (ns : List Ctype). 0 < length ns) (sym (union_nodes t es)) (omega arith)

pub positive : (look : Look) (t : Ctype) → Positive (extent_of look t)
positive look VoidType = tt
positive look BoolType = omega arith
positive look (IntegerType size rank signed) = omega arith
positive look FloatingType = omega arith
positive look VaListType = omega arith
positive look (PointerTo to) = omega arith
positive look (ArrayOf of None) = tt
positive look (ArrayOf of (Some n)) = positive_repeated n (extent_of look of) (positive look of)
positive look (FunctionFrom result parameters form) = tt
positive look (StructureOf tag) = positive_structure (StructureOf tag) (look tag)
positive look (UnionOf tag) = positive_union (UnionOf tag) (look tag)

-- a complete member has a node
pub or_some : (o other : Option Extent) → Positive o → IsSome o → 0 < length (or_flexible o other).nodes
or_some None other p h = absurd (false≢true h)
or_some (Some d) other p h = p

-- where each of the first so many has a node, so many nodes stand before the next
many : (es : List Extent) (k : ℕ) → ((j : ℕ) (e : Extent) → j < k → slice_get es j ≡ Some e → 0 < length e.nodes) → k ≤ length es → k ≤ length (all_nodes (take k es))
many es zero f le = omega arith
many [] (suc k) f le = absurd (omega arith)
many (e ∷ es) (suc k) f le =
    let rest = many es k (λ j d lt at. f (suc j) d (omega arith) at) (omega arith) in
    let first = f 0 e (omega arith) refl in
    let both = length-append e.nodes (all_nodes (take k es)) in
    omega arith

pub unless_is : (t : Ctype) (n r : ℕ) → unless_flexible t n ≡ Some r → n ≡ r
unless_is (ArrayOf of None) n r h = absurd (none_some h)
unless_is (ArrayOf of (Some m)) n r h = some_one h
unless_is t n r h = some_one h

-- a number past those of 32 bits is none
far_none : (o : Option ℕ) → ((n : ℕ) → o ≡ Some n → 2 ^ 32 ≤ n) → unwrap_or (within_32 o) 0 ≡ 0
far_none None f = refl
far_none (Some n) f = ap (λ (b : Bool). unwrap_or (cond b (Some n) None) 0) (le-ltb n (2 ^ 32) (f n refl))

zero_unless : (t : Ctype) → unwrap_or (within_32 (unless_flexible t 0)) 0 ≡ 0
zero_unless (ArrayOf of None) = refl
zero_unless (ArrayOf of (Some m)) = refl
zero_unless t = refl

union_by : (table : Table) (o : Option (List MemberTerm)) (k : ℕ) → unwrap_or (within_32 (place_in table (λ members. 0) o k)) 0 ≡ 0
union_by table None k = refl
union_by table (Some ms) k = by (slice_get ms k)
  where
    by : (om : Option MemberTerm) → unwrap_or (within_32 (option_and_then (λ (m : MemberTerm). unless_flexible (type_of table m.ty.0) 0) om)) 0 ≡ 0
    by None = refl
    by (Some m) = zero_unless (type_of table m.ty.0)

module _ (table : Table) (made : IsMade table) (tag : ℕ) (ms : List MemberTerm) (is : members_in table tag ≡ Some ms) (k : ℕ) where
  -- each member before another one has a node
  before_has : (m : MemberTerm) → slice_get ms k ≡ Some m → (j : ℕ) (e : Extent) → j < k → slice_get (extents_in table ms) j ≡ Some e → 0 < length e.nodes
  before_has m at j e lt here =
      let less = inside ms k m at in
      let (x, x_at) = present ms j (omega arith) in
      let t = type_of table x.ty.0 in
      let same : e ≡ member_extent (look_in table) t = some_one (sym here ∙ extents_get table ms j x x_at) in
      subst (λ (d : Extent). 0 < length d.nodes) (sym same)
      (elim (made.members tag ms is j x x_at).1.object [
        | inl complete ↦ or_some (extent_in table t) (element_extent (look_in table) t) (positive (look_in table) t) complete
        | inr last ↦ absurd (let end = last.last in omega arith)
      ])

  far_place : 2 ^ 32 ≤ k → (om : Option MemberTerm) → slice_get ms k ≡ om → (n : ℕ) → option_and_then (λ (m : MemberTerm). unless_flexible (type_of table m.ty.0) (position (extents_in table ms) k)) om ≡ Some n → 2 ^ 32 ≤ n
  far_place far None at n h = absurd (none_some h)
  far_place far (Some m) at n h =
      let e = unless_is (type_of table m.ty.0) (position (extents_in table ms) k) n h in
      let less = inside (extents_in table ms) k _ (extents_get table ms k m at) in
      let before = many (extents_in table ms) k (before_has m at) (omega arith) in
      omega arith

structure_by : (table : Table) → IsMade table → (tag k : ℕ) → 2 ^ 32 ≤ k → (o : Option (List MemberTerm)) → members_in table tag ≡ o
    → unwrap_or (within_32 (place_in table (λ members. position (extents_in table members) k) o k)) 0 ≡ 0
structure_by table made tag k far None is = refl
structure_by table made tag k far (Some ms) is = far_none (place_in table (λ members. position (extents_in table members) k) (Some ms) k) (far_place table made tag ms is k far (slice_get ms k) refl)

-- a member past the numbers of 32 bits has no position of 32 bits
pub far_member : (table : Table) → IsMade table → (t : Ctype) (k : ℕ) → 2 ^ 32 ≤ k → member_node table t k ≡ 0
far_member table made (StructureOf tag) k far = structure_by table made tag k far (members_in table tag) refl
far_member table made (UnionOf tag) k far = union_by table (members_in table tag) k
far_member table made t k far = refl
