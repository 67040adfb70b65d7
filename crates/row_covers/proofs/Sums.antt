-- Sums of the first so many numbers.
use Rattle.std.proofs.Common.{arith, ◌≡◌, ◌∙◌, ℕ, ◌+◌, ◌<◌, ◌≤◌, zero, suc, List, [], ◌∷◌, Option, Some, None, slice_get, refl, sym, length, map, sum, take, get_or, ap}
use Rattle.std.proofs.lemmas.Option.{slice_get-get_or, slice_get_within, get_or_from_slice_get}
use Rattle.std.proofs.lemmas.List.{get_or-map, length-map, take_all}
use Rattle.std.proofs.lemmas.List.Sums.{fold_more}
use Rattle.core_tree.specs.declared.node.Node.{Node}
use Rattle.core_tree.specs.Typed.{CoreTrees}
use Rattle.core_tree.specs.Range.{InRange}

-- one more
pub sum_more : {X : Type 0} (f : X → ℕ) (xs : List X) (i : ℕ) (d : X) → i < length xs → sum (take (i + 1) (map f xs)) ≡ sum (take i (map f xs)) + f (get_or xs i d)
sum_more f xs i d lt =
    let long = length-map xs f in
    let within : i < length (map f xs) = omega arith in
    fold_more (λ (a b : ℕ). a + b) 0 (map f xs) i 0 within ∙ ap (λ (k : ℕ). sum (take i (map f xs)) + k) (get_or-map f xs i d 0 lt)

-- the type of a node is the table's
pub type_known : (u : CoreTrees) → InRange u → (n : ℕ) (d : Node) → n < length u.nodes → (get_or u.nodes n d).ty.0 < length u.types.terms
type_known u range n d lt = range.types n (get_or u.nodes n d) (slice_get-get_or u.nodes n d lt)

some_none : {X : Type 0} → {x : X} → ◌≡◌ {A = Option X} (Some x) None → ⊥
some_none h = cc

none_past : {X : Type 0} (xs : List X) (i : ℕ) → slice_get xs i ≡ None → length xs ≤ i
none_past [] i e = omega arith
none_past (x ∷ xs) zero e = absurd (some_none e)
none_past (x ∷ xs) (suc i) e = (let rest = none_past xs i e in omega arith)

-- one more, where there is one
pub sum_at : {X : Type 0} (f : X → ℕ) (xs : List X) (i w : ℕ) → ((x : X) → slice_get xs i ≡ Some x → w ≡ f x) → (slice_get xs i ≡ None → w ≡ 0) → sum (take (i + 1) (map f xs)) ≡ sum (take i (map f xs)) + w
sum_at {X = X} f xs i w some none = by (slice_get xs i) refl
  where
    by : (o : Option X) → slice_get xs i ≡ o → sum (take (i + 1) (map f xs)) ≡ sum (take i (map f xs)) + w
    by (Some x) e =
        let lt = slice_get_within xs i x e in
        sum_more f xs i x lt ∙ ap (λ (k : ℕ). sum (take i (map f xs)) + k) (ap f (get_or_from_slice_get xs i x x e) ∙ sym (some x e))
    by None e =
        let past : length (map f xs) ≤ i = (let long = length-map xs f in let behind = none_past xs i e in omega arith) in
        let same : take (i + 1) (map f xs) ≡ take i (map f xs) = take_all (i + 1) (map f xs) (omega arith) ∙ sym (take_all i (map f xs) past) in
        let zero = none e in
        let sums = ap sum same in
        omega (arith, zero, sums)
