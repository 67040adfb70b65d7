-- A type that is within the limits and has a size has a number of nodes too, and keeps both.
use Rattle.std.proofs.Common.{arith, ◌≡◌, ◌≤◌, ◌+◌, ℕ, zero, suc, Bool, true, false, ◌&&◌, List, [], ◌∷◌, ◌++◌, take, length, Option, Some, None, refl, sym, ap, ◌∙◌, subst}
use Rattle.std.specs.Prelude.{IsSome, is_some}
use Rattle.c_types.specs.Layout.{Extent}
use Rattle.c_types.specs.Trees.{Ctype, VoidType, BoolType, IntegerType, FloatingType, VaListType, PointerTo, ArrayOf, FunctionFrom, StructureOf, UnionOf}
use Rattle.c_types.specs.Table.{extent_in, size_below, nodes_within}
use Rattle.type_rules.specs.Sizes.{HasSize}
use Rattle.core_tree.specs.declared.node.Unit.{Unit}
use Rattle.core_nodes.specs.Standing.{Knows}
use Rattle.c_senses.specs.Tree.{Source}
use Rattle.c_senses.specs.World.{World, extent, has_size}
use Rattle.c_senses.specs.Limits.{is_small, within_limits}
use Rattle.c_senses.specs.Rows.{world_at}
use Rattle.c_senses.specs.Sense.{Sense}
use Rattle.parsed_tree_laws.specs.sense_laws.Laws.{Grows}
use Rattle.parsed_tree_laws.specs.sense_laws.Senses.{ChildrenFirst}
use Rattle.parsed_tree_laws.proofs.sense_laws.Completing.{grown_by_one}

take_one : (xs : List Sense) (n : ℕ) → suc n ≤ length xs → (x : Sense) × (take (suc n) xs ≡ take n xs ++ x ∷ [])
take_one [] n h = absurd (omega (arith, h))
take_one (x ∷ xs) zero h = (x, refl)
take_one (x ∷ xs) (suc n) h = let more = take_one xs n (omega (arith, h)) in (more.0, ap (λ (l : List Sense). x ∷ l) more.1)

take_all : (xs : List Sense) → take (length xs) xs ≡ xs
take_all [] = refl
take_all (x ∷ xs) = ap (λ (l : List Sense). x ∷ l) (take_all xs)

abbrev around : Source → List Sense → ℕ → World
around s senses i = world_at s (take i senses) i

-- the world grows
grows_by : (s : Source) → ChildrenFirst s → (senses : List Sense) (d n j : ℕ) → n + d ≡ length senses → Grows (around s senses n) (world_at s senses j)
grows_by s first senses zero n j e =
    let all : take n senses ≡ senses = ap (λ (k : ℕ). take k senses) (let z : n ≡ length senses = omega (arith, e) in z) ∙ take_all senses in
    subst (λ (l : List Sense). Grows (world_at s l n) (world_at s senses j)) (sym all) (record { members = λ tag parts h. h; extents = λ t x h. h })
grows_by s first senses (suc d) n j e =
    let one = take_one senses n (omega (arith, e)) in
    let more = grows_by s first senses d (suc n) j (omega (arith, e)) in
    let step : Grows (around s senses n) (around s senses (suc n)) = subst (λ (l : List Sense). Grows (around s senses n) (world_at s l (suc n))) (sym one.1) (grown_by_one s first (take n senses) one.0 n (suc n)) in
    record { members = λ tag parts h. more.members tag parts (step.members tag parts h); extents = λ t x h. more.extents t x (step.extents t x h) }

gap : (a b : ℕ) → a ≤ b → (d : ℕ) × (a + d ≡ b)
gap zero b h = (b, (let e : 0 + b ≡ b = omega arith in e))
gap (suc a) zero h = absurd (omega (arith, h))
gap (suc a) (suc b) h = let more = gap a b (omega (arith, h)) in (more.0, (let e = more.1 in omega (arith, e)))

pub grows_to : (s : Source) → ChildrenFirst s → (senses : List Sense) (n : ℕ) → n ≤ length senses → Grows (around s senses n) (world_at s senses (length senses))
grows_to s first senses n le = let d = gap n (length senses) le in grows_by s first senses d.0 n (length senses) d.1

both : (a b : Bool) → (a && b) ≡ true → (a ≡ true) × (b ≡ true)
both true b e = (refl, e)
both false b e = cc

some_is : {A : Type 0} (o : Option A) → is_some o ≡ true → IsSome o
some_is o e = e

-- an extent that is small
abbrev pub IsSmall : Option Extent → Type 0
IsSmall o = IsSome (size_below o) × IsSome (nodes_within o)

small_of : (o : Option Extent) → is_small o ≡ true → is_some (size_below o) ≡ true → IsSmall o
small_of None e h = cc
small_of (Some x) e h = let parts = both (is_some (size_below (Some x))) (is_some (nodes_within (Some x))) e in (some_is (size_below (Some x)) parts.0, some_is (nodes_within (Some x)) parts.1)

-- within the limits what has a size is small
pub limited_small : (w : World) (t : Ctype) → within_limits w t ≡ true → has_size w t ≡ true → IsSmall (extent w t)
limited_small w (PointerTo to) e h = (refl, refl)
limited_small w (ArrayOf of n) e h = small_of (extent w (ArrayOf of n)) (both (is_small (extent w (ArrayOf of n))) (within_limits w of) e).0 h
limited_small w (FunctionFrom result parameters form) e h = cc
limited_small w VoidType e h = cc
limited_small w BoolType e h = small_of (extent w BoolType) e h
limited_small w (IntegerType size rank signed) e h = small_of (extent w (IntegerType size rank signed)) e h
limited_small w FloatingType e h = small_of (extent w FloatingType) e h
limited_small w VaListType e h = small_of (extent w VaListType) e h
limited_small w (StructureOf tag) e h = small_of (extent w (StructureOf tag)) e h
limited_small w (UnionOf tag) e h = small_of (extent w (UnionOf tag)) e h

-- what is small stays so, to the table at the end
small_stays : (old new : World) (u : Unit) (t : Ctype) → Grows old new → Knows new u → (o : Option Extent) → extent old t ≡ o → IsSmall o → HasSize u.types t
small_stays old new u t grows knows None e h = let never : false ≡ true = h.0 in cc
small_stays old new u t grows knows (Some x) e h =
    let there : extent_in u.types t ≡ Some x = sym (knows.extents t) ∙ grows.extents t x e in
    subst (λ (o : Option Extent). IsSmall o) (sym there) h

pub sized_stays : (s : Source) → ChildrenFirst s → (senses : List Sense) (i : ℕ) (u : Unit) (t : Ctype) → i ≤ length senses → Knows (world_at s senses (length senses)) u → within_limits (around s senses i) t ≡ true → has_size (around s senses i) t ≡ true
    → HasSize u.types t
sized_stays s first senses i u t le knows limited sized =
    small_stays (around s senses i) (world_at s senses (length senses)) u t (grows_to s first senses i le) knows (extent (around s senses i) t) refl (limited_small (around s senses i) t limited sized)
