-- Sizes of types at later nodes, and of arrays.
use Rattle.std.proofs.Common.{arith, ◌≡◌, ◌≤◌, ◌*◌, ℕ, zero, suc, Bool, true, false, ◌&&◌, List, [], ◌∷◌, take, length, Option, Some, None, refl, ap, subst}
use Rattle.std.specs.Prelude.{IsSome, is_some, nat_lt, ◌^◌, if◌then◌else◌}
use Rattle.c_types.specs.Layout.{Extent, repeated}
use Rattle.c_types.specs.Trees.{Ctype, ArrayOf}
use Rattle.c_types.specs.Table.{Table, extent_in, size_below, nodes_within}
use Rattle.type_rules.specs.Sizes.{HasSize}
use Rattle.c_senses.specs.Tree.{Source}
use Rattle.c_senses.specs.World.{World, extent, has_size}
use Rattle.c_senses.specs.Limits.{is_small, within_limits}
use Rattle.c_senses.specs.Rows.{world_at}
use Rattle.c_senses.specs.Sense.{Sense}
use Rattle.parsed_tree_laws.specs.sense_laws.Laws.{Grows}
use Rattle.parsed_tree_laws.specs.sense_laws.Senses.{ChildrenFirst}
use Rattle.limit_laws.proofs.member_laws.Growing.{grows_to, IsSmall}

both : (a b : Bool) → (a && b) ≡ true → (a ≡ true) × (b ≡ true)
both true b e = (refl, e)
both false b e = cc

take_less : (xs : List Sense) (n m : ℕ) → n ≤ m → take n (take m xs) ≡ take n xs
take_less xs zero m le = refl
take_less xs (suc n) zero le = absurd (omega (arith, le))
take_less [] (suc n) (suc m) le = refl
take_less (x ∷ xs) (suc n) (suc m) le = ap (λ (l : List Sense). x ∷ l) (take_less xs n m (omega (arith, le)))

taken_long : (xs : List Sense) (n : ℕ) → n ≤ length xs → length (take n xs) ≡ n
taken_long xs zero le = refl
taken_long [] (suc n) le = absurd (omega (arith, le))
taken_long (x ∷ xs) (suc n) le = ap suc (taken_long xs n (omega (arith, le)))

-- the world grows from node to node
pub grows_between : (s : Source) → ChildrenFirst s → (senses : List Sense) (n m : ℕ) → n ≤ m → m ≤ length senses → Grows (world_at s (take n senses) n) (world_at s (take m senses) m)
grows_between s first senses n m le within =
    let long : length (take m senses) ≡ m = taken_long senses m within in
    let base = grows_to s first (take m senses) n (omega (arith, le, long)) in
    let here = subst (λ (l : List Sense). Grows (world_at s l n) (world_at s (take m senses) (length (take m senses)))) (take_less senses n m le) base in
    subst (λ (k : ℕ). Grows (world_at s (take n senses) n) (world_at s (take m senses) k)) long here

-- an array of what has a size has one, where it is within the limits
array_some : (o : Option Extent) (n : ℕ) → is_some o ≡ true → is_some (repeated n o) ≡ true
array_some (Some e) n h = refl
array_some None n h = cc

size_some : (o : Option Extent) → is_some (size_below o) ≡ true → is_some o ≡ true
size_some (Some e) h = refl
size_some None h = cc

small_size : (o : Option Extent) → is_small o ≡ true → is_some o ≡ true → is_some (size_below o) ≡ true
small_size (Some e) h k = (both (is_some (size_below (Some e))) (is_some (nodes_within (Some e))) h).0
small_size None h k = cc

some_grows : (old new : World) → Grows old new → (t : Ctype) (o : Option Extent) → extent old t ≡ o → is_some o ≡ true → is_some (extent new t) ≡ true
some_grows old new grows t (Some x) e h = ap is_some (grows.extents t x e)
some_grows old new grows t None e h = cc

pub array_sized : (old new : World) → Grows old new → (of : Ctype) (n : ℕ) → has_size old of ≡ true → within_limits new (ArrayOf of (Some n)) ≡ true → has_size new (ArrayOf of (Some n)) ≡ true
array_sized old new grows of n sized limited =
    let there : is_some (extent new of) ≡ true = some_grows old new grows of (extent old of) refl (size_some (extent old of) sized) in
    small_size (extent new (ArrayOf of (Some n))) (both (is_small (extent new (ArrayOf of (Some n)))) (within_limits new of) limited).0 (array_some (extent new of) n there)

-- an array of one has the size of its element
one_small : (o : Option Extent) → IsSmall o → IsSmall (repeated 1 o)
one_small None h = let never : false ≡ true = h.0 in cc
one_small (Some e) h =
    let same : e.size ≡ 1 * e.size = omega arith in
    (subst (λ (k : ℕ). IsSome (if nat_lt k (2 ^ 63) then Some k else None)) same h.0, h.1)

pub one_sized : (table : Table) (of : Ctype) → HasSize table of → HasSize table (ArrayOf of (Some 1))
one_sized table of h = one_small (extent_in table of) h
