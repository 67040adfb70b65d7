-- What ordered maps and sets find by comparing, and what by testing for equality.
use Rattle.std.proofs.Common.{◌≡◌, ℕ, true, ◌&&◌, ◌||◌, eqb, Some, List, [], ◌∷◌, cond, refl, sym, ap, ◌∙◌, arith}
use Rattle.std.specs.declared.cmp.Ordering.{Ordering}
use Rattle.std.specs.declared.cmp.Ordering.TheVariants.{Less, Equal, Greater}
use Rattle.std.specs.Ordering.{is_eq, nat_cmp, ordering_then}
use Rattle.std.specs.BTreeMap.{BTreeMap, Updates, is_at}
use Rattle.std.specs.BTreeSet.{BTreeSet, contains}
use Rattle.std.specs.List.{list_any}
use Rattle.std.specs.Map.{lookup}
use Rattle.std.proofs.lemmas.Bool.Decides.{nat_tests}

-- two numbers compare equal where they are equal
number_same : (a b : ℕ) → is_eq (nat_cmp a b) ≡ eqb a b
number_same a b = grind (arith, nat_tests)

then_same : (o p : Ordering) → is_eq (ordering_then o p) ≡ (is_eq o && is_eq p)
then_same Less p = refl
then_same Equal p = refl
then_same Greater p = refl

abbrev pub pair_cmp : ℕ × ℕ → ℕ × ℕ → Ordering
pair_cmp x y = ordering_then (nat_cmp x.0 y.0) (nat_cmp x.1 y.1)

pair_same : (a b c d : ℕ) → is_eq (pair_cmp (a, b) (c, d)) ≡ (eqb a c && eqb b d)
pair_same a b c d = then_same (nat_cmp a c) (nat_cmp b d) ∙ (ap (λ t. t && is_eq (nat_cmp b d)) (number_same a c) ∙ ap (λ t. eqb a c && t) (number_same b d))

-- what is found at two numbers by comparing and by testing
pub found_at : {X : Type 0} (a b : ℕ) (es : List ((ℕ × ℕ) × X)) → lookup (is_at (pair_cmp (a, b))) es ≡ lookup (λ k. eqb a k.0 && eqb b k.1) es
found_at a b [] = refl
found_at a b (e ∷ es) = rw (pair_same a b e.0.0 e.0.1) (ap (λ o. cond (eqb a e.0.0 && eqb b e.0.1) (Some e.1) o) (found_at a b es))

-- after a pair of numbers has got a value
pub updated : {X : Type 0} (a b : ℕ) (old new : BTreeMap (ℕ × ℕ) X) (w : X) → Updates pair_cmp old new (a, b) (Some w) → (c d : ℕ)
    → lookup (λ k. eqb c k.0 && eqb d k.1) new.entries ≡ cond (eqb a c && eqb b d) (Some w) (lookup (λ k. eqb c k.0 && eqb d k.1) old.entries)
updated a b old new w h c d =
    sym (found_at c d new.entries) ∙ (h.0 (c, d)
    ∙ (ap (λ t. cond t (Some w) (lookup (is_at (pair_cmp (c, d))) old.entries)) (pair_same a b c d)
    ∙ ap (λ o. cond (eqb a c && eqb b d) (Some w) o) (found_at c d old.entries)))

-- what is in a set by comparing and by testing
pub among : (n : ℕ) (xs : List ℕ) → list_any (is_at (nat_cmp n)) xs ≡ list_any (λ k. eqb n k) xs
among n [] = refl
among n (x ∷ xs) = rw (number_same n x) (ap (λ b. eqb n x || b) (among n xs))

pub among_more : (old new : BTreeSet ℕ) (n : ℕ) → ((q : ℕ) → contains nat_cmp new q ≡ cond (is_at (nat_cmp n) q) true (contains nat_cmp old q)) → (q : ℕ)
    → list_any (λ k. eqb q k) new.keys ≡ cond (eqb n q) true (list_any (λ k. eqb q k) old.keys)
among_more old new n h q =
    sym (among q new.keys) ∙ (h q ∙ (ap (λ t. cond t true (list_any (is_at (nat_cmp q)) old.keys)) (number_same n q) ∙ ap (λ b. cond (eqb n q) true b) (among q old.keys)))
