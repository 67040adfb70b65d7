-- No two nodes of units have one place in the program.
use Rattle.std.proofs.Common.{arith, ◌≡◌, ℕ, zero, suc, ◌<◌, List, [], ◌∷◌, length, take, Some, refl, ap}
use Rattle.std.specs.List.{slice_get}
use Rattle.std.proofs.lemmas.List.Sums.{sum_by-cons}
use Rattle.core_tree.specs.declared.node.Unit.{Unit}
use Rattle.unit_link.specs.Places.{node_place}
use Rattle.linked_laws.proofs.embedded_laws.Lists.{some_one, none_some}

pub places_apart : (units : List Unit) (u v i j : ℕ) (x y : Unit) → slice_get units u ≡ Some x → slice_get units v ≡ Some y → i < length x.nodes.items → j < length y.nodes.items
    → node_place units u i ≡ node_place units v j → (u ≡ v) × (i ≡ j)
places_apart [] u v i j x y at there li lj e = absurd (none_some at)
places_apart (z ∷ zs) zero zero i j x y at there li lj e = (refl, omega arith)
places_apart (z ∷ zs) zero (suc v) i j x y at there li lj e =
    let more = sum_by-cons (λ (w : Unit). length w.nodes.items) z (take v zs) in
    let same : length z.nodes.items ≡ length x.nodes.items = ap (λ (w : Unit). length w.nodes.items) (some_one at) in
    absurd (omega arith)
places_apart (z ∷ zs) (suc u) zero i j x y at there li lj e =
    let more = sum_by-cons (λ (w : Unit). length w.nodes.items) z (take u zs) in
    let same : length z.nodes.items ≡ length y.nodes.items = ap (λ (w : Unit). length w.nodes.items) (some_one there) in
    absurd (omega arith)
places_apart (z ∷ zs) (suc u) (suc v) i j x y at there li lj e =
    let one = sum_by-cons (λ (w : Unit). length w.nodes.items) z (take u zs) in
    let other = sum_by-cons (λ (w : Unit). length w.nodes.items) z (take v zs) in
    let r = places_apart zs u v i j x y at there li lj (omega arith) in
    (ap suc r.0, r.1)
