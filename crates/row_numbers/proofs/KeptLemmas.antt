-- The kept nodes of the first so many nodes.
use Rattle.std.proofs.Common.{arith, ◌≡◌, ℕ, zero, suc, ◌+◌, ◌<◌, ◌≤◌, List, [], ◌∷◌, ◌++◌, Bool, true, false, cond, length, length-append, length-take, take, get_or, map, refl, ap, ◌∙◌, add-one}
use Rattle.std.specs.List.{slice_get, range_with_len, All}
use Rattle.std.proofs.lemmas.List.FromFn.{map-range_with_len_more}
use Rattle.c_types.specs.Trees.{Ctype}
use Rattle.row_numbers.specs.Kept.{is_kept, kept_at, kept_from, kept, kept_count, kept_row, row_or}

step : (b : Bool) (s : ℕ) (xs ys zs : List ℕ) → xs ≡ ys ++ zs → cond b (s ∷ xs) xs ≡ cond b (s ∷ ys) ys ++ zs
step true s xs ys zs h = ap (λ (l : List ℕ). s ∷ l) h
step false s xs ys zs h = h

pub from_true : (s : ℕ) (nodes : List Ctype) (i : ℕ) → i < length nodes → kept_at (slice_get nodes i) ≡ true → kept_from s (take (suc i) nodes) ≡ kept_from s (take i nodes) ++ (s + i) ∷ []
from_true s [] i h k = absurd (omega arith)
from_true s (t ∷ rest) zero h k = rw k (ap (λ (n : ℕ). n ∷ []) (omega arith))
from_true s (t ∷ rest) (suc i) h k =
    step (is_kept t) s _ (kept_from (s + 1) (take i rest)) ((s + suc i) ∷ []) (from_true (s + 1) rest i (omega arith) k ∙ ap (λ (n : ℕ). kept_from (s + 1) (take i rest) ++ n ∷ []) (omega arith))

same : (b : Bool) (s : ℕ) (xs ys : List ℕ) → xs ≡ ys → cond b (s ∷ xs) xs ≡ cond b (s ∷ ys) ys
same true s xs ys h = ap (λ (l : List ℕ). s ∷ l) h
same false s xs ys h = h

pub from_false : (s : ℕ) (nodes : List Ctype) (i : ℕ) → i < length nodes → kept_at (slice_get nodes i) ≡ false → kept_from s (take (suc i) nodes) ≡ kept_from s (take i nodes)
from_false s [] i h k = absurd (omega arith)
from_false s (t ∷ rest) zero h k = rw k refl
from_false s (t ∷ rest) (suc i) h k = same (is_kept t) s _ _ (from_false (s + 1) rest i (omega arith) k)

bounded : (b : Bool) (s n : ℕ) (xs : List ℕ) → length xs ≤ n → length (cond b (s ∷ xs) xs) ≤ suc n
bounded true s n xs h = omega arith
bounded false s n xs h = omega arith

from_length : (s : ℕ) (nodes : List Ctype) → length (kept_from s nodes) ≤ length nodes
from_length s [] = omega arith
from_length s (t ∷ rest) = bounded (is_kept t) s (length rest) (kept_from (s + 1) rest) (from_length (s + 1) rest)

pub kept_length : (nodes : List Ctype) → kept_count nodes ≤ length nodes
kept_length nodes = from_length 0 nodes

-- one node more
pub kept_more : (nodes : List Ctype) (i : ℕ) → i < length nodes → kept_at (slice_get nodes i) ≡ true → kept (take (i + 1) nodes) ≡ kept (take i nodes) ++ i ∷ []
kept_more nodes i h k = rw add-one (from_true 0 nodes i h k ∙ ap (λ (n : ℕ). kept (take i nodes) ++ n ∷ []) (omega arith))

pub kept_same : (nodes : List Ctype) (i : ℕ) → i < length nodes → kept_at (slice_get nodes i) ≡ false → kept (take (i + 1) nodes) ≡ kept (take i nodes)
kept_same nodes i h k = rw add-one (from_false 0 nodes i h k)

pub count_more : (nodes : List Ctype) (i : ℕ) → i < length nodes → kept_at (slice_get nodes i) ≡ true → kept_count (take (i + 1) nodes) ≡ kept_count (take i nodes) + 1
count_more nodes i h k = ap length (kept_more nodes i h k) ∙ length-append (kept (take i nodes)) (i ∷ [])

pub count_same : (nodes : List Ctype) (i : ℕ) → i < length nodes → kept_at (slice_get nodes i) ≡ false → kept_count (take (i + 1) nodes) ≡ kept_count (take i nodes)
count_same nodes i h k = ap length (kept_same nodes i h k)

pub rows_more : (none first : ℕ) (nodes : List Ctype) (i : ℕ) (b : Bool) → kept_at (slice_get nodes i) ≡ b → (row : ℕ) → row ≡ kept_row first nodes i → map (λ k. row_or none (kept_row first nodes k) (kept_at (slice_get nodes k))) (range_with_len 0 (i + 1)) ≡ map (λ k. row_or none (kept_row first nodes k) (kept_at (slice_get nodes k))) (range_with_len 0 i) ++ row_or none row b ∷ []
rows_more none first nodes i b k row e =
    map-range_with_len_more (λ k. row_or none (kept_row first nodes k) (kept_at (slice_get nodes k))) 0 i i (omega arith)
    ∙ rw (k, ← e) refl

pub up_to : (nodes : List Ctype) (i : ℕ) → i ≤ length nodes → kept_count (take i nodes) ≤ i
up_to nodes i h = omega (arith, kept_length (take i nodes), length-take i nodes)

-- the kept nodes are among the nodes
below_by : (b : Bool) (s n : ℕ) (xs : List ℕ) → ((k d : ℕ) → k < length xs → get_or xs k d < n) → s < n → (k d : ℕ) → k < length (cond b (s ∷ xs) xs) → get_or (cond b (s ∷ xs) xs) k d < n
below_by false s n xs h lt k d in_list = h k d in_list
below_by true s n xs h lt zero d in_list = lt
below_by true s n xs h lt (suc k) d in_list = h k d (omega arith)

below_from : (s : ℕ) (nodes : List Ctype) (n : ℕ) → s + length nodes ≤ n → (k d : ℕ) → k < length (kept_from s nodes) → get_or (kept_from s nodes) k d < n
below_from s [] n le k d lt = absurd (omega arith)
below_from s (t ∷ rest) n le k d lt = below_by (is_kept t) s n (kept_from (s + 1) rest) (λ j e. below_from (s + 1) rest n (omega arith) j e) (omega arith) k d lt

pub kept_below : (nodes : List Ctype) (n : ℕ) → length nodes ≤ n → All (λ node. node < n) (kept nodes)
kept_below nodes n le = below_from 0 nodes n (omega arith)
