-- What is filled and what is put is in order.
use Rattle.std.proofs.Common.{◌≡◌, ℕ, zero, suc, ◌+◌, ◌*◌, ◌<◌, ◌≤◌, Bool, true, false, cond, List, [], ◌∷◌, ◌++◌, Option, Some, None, map, filter, ltb, slice_get, refl, inl, inr, arith, rules}
use Rattle.c_types.specs.declared.term.PathStep.{PathStep}
use Rattle.c_types.specs.declared.term.PathStep.TheVariants.{Index, Member}
use Rattle.c_types.specs.Trees.{Ctype, VoidType, BoolType, IntegerType, FloatingType, VaListType, PointerTo, ArrayOf, FunctionFrom, StructureOf, UnionOf}
use Rattle.c_types.specs.Table.{Table}
use Rattle.c_types.specs.Paths.{part_below}
use Rattle.ref_cells.specs.declared.cells.Cell.{Cell}
use Rattle.ref_cells.specs.Cells.{Entry, CellList, step_key, head_key, prefixed, under, below, above, is_below, is_above}
use Rattle.ref_cells.specs.Order.{IsBefore, IsBeforeAll, IsOrdered}
use Rattle.ref_cells.specs.Values.{Fill, listed, active, elements, members_from, one_member, member_types, filled_by, filled_to, filled, goes_on}
use Rattle.ref_cells.specs.Puts.{lost, put}
use Rattle.ref_cells.proofs.Unders.{ordered_under}

before_prefixed : (s : PathStep) (p : List PathStep) (xs : CellList) → IsBeforeAll p xs → IsBeforeAll (s ∷ p) (prefixed s xs)
before_prefixed s p [] h = tt
before_prefixed s p (e ∷ xs) h = (inr (refl, h.0), before_prefixed s p xs h.1)

pub ordered_prefixed : (s : PathStep) (xs : CellList) → IsOrdered xs → IsOrdered (prefixed s xs)
ordered_prefixed s [] h = tt
ordered_prefixed s (e ∷ xs) h = (before_prefixed s e.0 xs h.0, ordered_prefixed s xs h.1)

-- each number is below that one, or is at least that one
abbrev pub AllBelow : ℕ → CellList → Type 0
AllBelow n [] = Unit {0}
AllBelow n (e ∷ xs) = (head_key e.0 < n) × AllBelow n xs

abbrev pub AllFrom : ℕ → CellList → Type 0
AllFrom n [] = Unit {0}
AllFrom n (e ∷ xs) = (n ≤ head_key e.0) × AllFrom n xs

key_before : (p q : List PathStep) → head_key p < head_key q → IsBefore p q
key_before p [] h = absurd (omega arith)
key_before [] (b ∷ q) h = tt
key_before (a ∷ p) (b ∷ q) h = inl h

before_append : (p : List PathStep) (xs ys : CellList) → IsBeforeAll p xs → IsBeforeAll p ys → IsBeforeAll p (xs ++ ys)
before_append p [] ys h k = k
before_append p (e ∷ xs) ys h k = (h.0, before_append p xs ys h.1 k)

before_from : (n : ℕ) (p : List PathStep) (ys : CellList) → head_key p < n → AllFrom n ys → IsBeforeAll p ys
before_from n p [] h k = tt
before_from n p (e ∷ ys) h k = let le = k.0 in (key_before p e.0 (omega arith), before_from n p ys h k.1)

pub ordered_append : (n : ℕ) (xs ys : CellList) → AllBelow n xs → AllFrom n ys → IsOrdered xs → IsOrdered ys → IsOrdered (xs ++ ys)
ordered_append n [] ys b f h k = k
ordered_append n (e ∷ xs) ys b f h k = (before_append e.0 xs ys h.0 (before_from n e.0 ys b.0 f), ordered_append n xs ys b.1 f h.1 k)

pub prefixed_from : (s : PathStep) (n : ℕ) (xs : CellList) → n ≤ step_key s → AllFrom n (prefixed s xs)
prefixed_from s n [] h = tt
prefixed_from s n (e ∷ xs) h = (h, prefixed_from s n xs h)

pub prefixed_below : (s : PathStep) (n : ℕ) (xs : CellList) → step_key s < n → AllBelow n (prefixed s xs)
prefixed_below s n [] h = tt
prefixed_below s n (e ∷ xs) h = (h, prefixed_below s n xs h)

pub below_append : (n : ℕ) (xs ys : CellList) → AllBelow n xs → AllBelow n ys → AllBelow n (xs ++ ys)
below_append n [] ys h k = k
below_append n (e ∷ xs) ys h k = (h.0, below_append n xs ys h.1 k)

from_append : (n : ℕ) (xs ys : CellList) → AllFrom n xs → AllFrom n ys → AllFrom n (xs ++ ys)
from_append n [] ys h k = k
from_append n (e ∷ xs) ys h k = (h.0, from_append n xs ys h.1 k)

pub below_more : (m n : ℕ) (xs : CellList) → m ≤ n → AllBelow m xs → AllBelow n xs
below_more m n [] le h = tt
below_more m n (e ∷ xs) le h = let lt = h.0 in (omega arith, below_more m n xs le h.1)

elements_below : (fill : CellList → CellList) (n : ℕ) (cells : CellList) → AllBelow (2 * n + 1) (elements fill n cells)
elements_below fill zero cells = tt
elements_below fill (suc n) cells =
    below_append (2 * suc n + 1) (elements fill n cells) (prefixed (Index n) (fill (under (Index n) cells)))
    (below_more (2 * n + 1) (2 * suc n + 1) (elements fill n cells) (omega arith) (elements_below fill n cells))
    (prefixed_below (Index n) (2 * suc n + 1) (fill (under (Index n) cells)) (omega arith))

pub ordered_elements : (fill : CellList → CellList) → ((cells : CellList) → IsOrdered (fill cells)) → (n : ℕ) (cells : CellList) → IsOrdered (elements fill n cells)
ordered_elements fill o zero cells = tt
ordered_elements fill o (suc n) cells =
    ordered_append (2 * n + 1) (elements fill n cells) (prefixed (Index n) (fill (under (Index n) cells)))
    (elements_below fill n cells)
    (prefixed_from (Index n) (2 * n + 1) (fill (under (Index n) cells)) (omega arith))
    (ordered_elements fill o n cells)
    (ordered_prefixed (Index n) (fill (under (Index n) cells)) (o (under (Index n) cells)))

members_above : (fill : Fill) (n k : ℕ) (types : List Ctype) (cells : CellList) → n ≤ 2 * k + 2 → AllFrom n (members_from fill k types cells)
members_above fill n k [] cells le = tt
members_above fill n k (t ∷ rest) cells le =
    from_append n (prefixed (Member k) (fill t (under (Member k) cells))) (members_from fill (k + 1) rest cells)
    (prefixed_from (Member k) n (fill t (under (Member k) cells)) le)
    (members_above fill n (k + 1) rest cells (omega arith))

ordered_members : (fill : Fill) → ((t : Ctype) (cells : CellList) → IsOrdered (fill t cells)) → (k : ℕ) (types : List Ctype) (cells : CellList) → IsOrdered (members_from fill k types cells)
ordered_members fill o k [] cells = tt
ordered_members fill o k (t ∷ rest) cells =
    ordered_append (2 * k + 3) (prefixed (Member k) (fill t (under (Member k) cells))) (members_from fill (k + 1) rest cells)
    (prefixed_below (Member k) (2 * k + 3) (fill t (under (Member k) cells)) (omega arith))
    (members_above fill (2 * k + 3) (k + 1) rest cells (omega arith))
    (ordered_prefixed (Member k) (fill t (under (Member k) cells)) (o t (under (Member k) cells)))
    (ordered_members fill o (k + 1) rest cells)

-- what is listed of a part
pub listed_ordered : (xs : CellList) → IsOrdered xs → IsOrdered (listed xs)
listed_ordered [] h = (tt, tt)
listed_ordered (e ∷ xs) h = h

ordered_member : (fill : Fill) → ((t : Ctype) (cells : CellList) → IsOrdered (fill t cells)) → (k : ℕ) (t : Option Ctype) (cells : CellList) → IsOrdered (one_member fill k t cells)
ordered_member fill o k None cells = tt
ordered_member fill o k (Some t) cells =
    ordered_prefixed (Member k) (listed (fill t (under (Member k) cells))) (listed_ordered (fill t (under (Member k) cells)) (o t (under (Member k) cells)))

ordered_by : (table : Table) (marked : Bool) (fill : Fill) → ((t : Ctype) (cells : CellList) → IsOrdered (fill t cells)) → (t : Ctype) (cells : CellList) → IsOrdered (filled_by table marked fill t cells)
ordered_by table marked fill o VoidType cells = tt
ordered_by table marked fill o (FunctionFrom result parameters form) cells = tt
ordered_by table marked fill o (ArrayOf of None) cells = tt
ordered_by table marked fill o (ArrayOf of (Some n)) cells = ordered_elements (filled_by table marked fill of) (ordered_by table marked fill o of) n cells
ordered_by table marked fill o (StructureOf tag) cells = ordered_members fill o 0 (member_types table tag) cells
ordered_by table marked fill o (UnionOf tag) cells = ordered_member fill o (active cells) (slice_get (member_types table tag) (active cells)) cells
ordered_by table marked fill o BoolType cells = (tt, tt)
ordered_by table marked fill o (IntegerType size rank signed) cells = (tt, tt)
ordered_by table marked fill o FloatingType cells = (tt, tt)
ordered_by table marked fill o VaListType cells = (tt, tt)
ordered_by table marked fill o (PointerTo to) cells = (tt, tt)

ordered_to : (table : Table) (marked : Bool) (n : ℕ) (t : Ctype) (cells : CellList) → IsOrdered (filled_to table marked n t cells)
ordered_to table marked zero t cells = tt
ordered_to table marked (suc n) t cells = ordered_by table marked (filled_to table marked n) (ordered_to table marked n) t cells

pub filled_ordered : (table : Table) (marked : Bool) (t : Ctype) (cells : CellList) → IsOrdered (filled table marked t cells)
unfolding filled
filled_ordered table marked t cells = ordered_by table marked (filled_to table marked table.tags) (ordered_to table marked table.tags) t cells

pub lost_ordered : (table : Table) (marked : Bool) (t : Option Ctype) → IsOrdered (lost table marked t)
lost_ordered table false t = tt
lost_ordered table true None = tt
lost_ordered table true (Some t) = filled_ordered table false t []

filtered_before : (test : Entry → Bool) (p : List PathStep) (xs : CellList) → IsBeforeAll p xs → IsBeforeAll p (filter test xs)
filtered_before test p [] h = tt
filtered_before test p (e ∷ xs) h = let more = filtered_before test p xs h.1 in elim (test e) as (λ b. IsBeforeAll p (cond b (e ∷ filter test xs) (filter test xs))) [ true ↦ (h.0, more) | false ↦ more ]

ordered_filter : (test : Entry → Bool) (xs : CellList) → IsOrdered xs → IsOrdered (filter test xs)
ordered_filter test [] h = tt
ordered_filter test (e ∷ xs) h = let more = ordered_filter test xs h.1 in elim (test e) as (λ b. IsOrdered (cond b (e ∷ filter test xs) (filter test xs))) [ true ↦ (filtered_before test e.0 xs h.0, more) | false ↦ more ]

below_yes : (n : ℕ) (e : Entry) (xs : CellList) → AllBelow n (filter (is_below n) xs) → (b : Bool) → ltb (head_key e.0) n ≡ b → AllBelow n (cond b (e ∷ filter (is_below n) xs) (filter (is_below n) xs))
below_yes n e xs h true lt = (search rules, h)
below_yes n e xs h false lt = h

filter_below : (n : ℕ) (xs : CellList) → AllBelow n (filter (is_below n) xs)
filter_below n [] = tt
filter_below n (e ∷ xs) = below_yes n e xs (filter_below n xs) (ltb (head_key e.0) n) refl

above_yes : (n : ℕ) (e : Entry) (xs : CellList) → AllFrom (n + 1) (filter (is_above n) xs) → (b : Bool) → ltb n (head_key e.0) ≡ b → AllFrom (n + 1) (cond b (e ∷ filter (is_above n) xs) (filter (is_above n) xs))
above_yes n e xs h true lt = let l : n < head_key e.0 = search rules in (omega arith, h)
above_yes n e xs h false lt = h

filter_above : (n : ℕ) (xs : CellList) → AllFrom (n + 1) (filter (is_above n) xs)
filter_above n [] = tt
filter_above n (e ∷ xs) = above_yes n e xs (filter_above n xs) (ltb n (head_key e.0)) refl

ordered_around : (s : PathStep) (cells inside : CellList) → IsOrdered cells → IsOrdered inside → IsOrdered (below s cells ++ prefixed s inside ++ above s cells)
ordered_around s cells inside h k =
    ordered_append (step_key s + 1) (below s cells ++ prefixed s inside) (above s cells)
    (below_append (step_key s + 1) (below s cells) (prefixed s inside) (below_more (step_key s) (step_key s + 1) (below s cells) (omega arith) (filter_below (step_key s) cells)) (prefixed_below s (step_key s + 1) inside (omega arith)))
    (filter_above (step_key s) cells)
    (ordered_append (step_key s) (below s cells) (prefixed s inside) (filter_below (step_key s) cells) (prefixed_from s (step_key s) inside (omega arith)) (ordered_filter (is_below (step_key s)) cells h) (ordered_prefixed s inside k))
    (ordered_filter (is_above (step_key s)) cells h)

ordered_cases : (b : Bool) (xs ys : CellList) → IsOrdered xs → IsOrdered ys → IsOrdered (cond b xs ys)
ordered_cases true xs ys h k = h
ordered_cases false xs ys h k = k

pub put_ordered : (table : Table) (marked : Bool) (t : Option Ctype) (path : List PathStep) (value cells : CellList) → IsOrdered value → IsOrdered cells → IsOrdered (put table marked t path value cells)
put_ordered table marked t [] value cells v h = listed_ordered value v
put_ordered table marked t (step ∷ rest) value cells v h =
    let part = part_below table t step in
    ordered_cases (goes_on t step cells) (below step cells ++ prefixed step (put table marked part rest value (under step cells)) ++ above step cells) (prefixed step (put table marked part rest value (lost table marked part)))
    (ordered_around step cells (put table marked part rest value (under step cells)) h (put_ordered table marked part rest value (under step cells) v (ordered_under step cells h)))
    (ordered_prefixed step (put table marked part rest value (lost table marked part)) (put_ordered table marked part rest value (lost table marked part) v (lost_ordered table marked part)))

-- the order is one of paths alone
before_kept : (f : Cell → Cell) (p : List PathStep) (xs : CellList) → IsBeforeAll p xs → IsBeforeAll p (map (λ e. (e.0, f e.1)) xs)
before_kept f p [] h = tt
before_kept f p (e ∷ xs) h = (h.0, before_kept f p xs h.1)

pub kept_ordered : (f : Cell → Cell) (xs : CellList) → IsOrdered xs → IsOrdered (map (λ e. (e.0, f e.1)) xs)
kept_ordered f [] h = tt
kept_ordered f (e ∷ xs) h = (before_kept f e.0 xs h.0, kept_ordered f xs h.1)
