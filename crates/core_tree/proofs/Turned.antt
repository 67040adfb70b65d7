-- The children of a For from the last one.
use Rattle.std.proofs.Common.{arith, ◌≡◌, ℕ, suc, ◌-◌, ◌≤◌, Bool, true, IsTrue, ◌↔◌, List, [], ◌∷◌, ◌++◌, length, get_or, take, drop, reverse, subst, sym, ap, ◌∙◌}
use Rattle.std.proofs.lemmas.List.{reverse-reverse, reverse-append, take-append-drop}
use Rattle.std.proofs.Math.Seq.{drop-cons}
use Rattle.std.proofs.Math.ListN.{drop_of_length-le}
use Rattle.core_tree.specs.Typed.{CoreTrees}
use Rattle.core_tree.specs.Rows.{IsCondition, ForFirst, ForCondition}

-- the last one, then the others turned
last_of : (xs : List ℕ) (d : ℕ) → 1 ≤ length xs → reverse xs ≡ get_or xs (length xs - 1) d ∷ reverse (take (length xs - 1) xs)
last_of xs d h =
    let n = length xs - 1 in
    let cons : drop n xs ≡ get_or xs n d ∷ drop (suc n) xs = drop-cons xs n d (omega arith) in
    let none : drop (suc n) xs ≡ [] = drop_of_length-le xs {i = suc n} (omega arith) in
    let whole : take n xs ++ get_or xs n d ∷ [] ≡ xs = ap (λ (ys : List ℕ). take n xs ++ get_or xs n d ∷ ys) (sym none) ∙ (ap (λ (ys : List ℕ). take n xs ++ ys) (sym cons) ∙ take-append-drop n xs) in
    ap reverse (sym whole) ∙ reverse-append (take n xs) (get_or xs n d ∷ [])

pub for_last : (u : CoreTrees) (es : List ℕ) (b : Bool) (xs : List ℕ) (d : ℕ) → b ≡ true → 1 ≤ length xs → IsCondition u (get_or xs (length xs - 1) d) → (r : Bool) → (IsTrue r ↔ ForFirst u es (take (length xs - 1) xs)) → IsTrue r ↔ ForCondition u es b (reverse xs)
for_last u es b xs d e h condition r k =
    let first = take (length xs - 1) xs in
    let turned : reverse (reverse first) ≡ first = reverse-reverse first in
    rw (e, last_of xs d h) (λ t. (condition, subst (λ (ys : List ℕ). ForFirst u es ys) (sym turned) (k.0 t)), λ p. k.1 (subst (λ (ys : List ℕ). ForFirst u es ys) turned p.1))
