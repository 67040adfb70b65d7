-- What an ordered map finds by comparing numbers, and by testing them.
use Rattle.std.proofs.Common.{◌≡◌, ℕ, eqb, Some, List, [], ◌∷◌, cond, refl, sym, ap, ◌∙◌, arith}
use Rattle.std.specs.Ordering.{is_eq, nat_cmp}
use Rattle.std.specs.BTreeMap.{BTreeMap, Updates, is_at}
use Rattle.std.specs.Map.{lookup}
use Rattle.std.proofs.lemmas.Bool.Decides.{nat_tests}

number_same : (a b : ℕ) → is_eq (nat_cmp a b) ≡ eqb a b
number_same a b = grind (arith, nat_tests)

pub found_number : {X : Type 0} (a : ℕ) (es : List (ℕ × X)) → lookup (is_at (nat_cmp a)) es ≡ lookup (λ k. eqb a k) es
found_number a [] = refl
found_number a (e ∷ es) = rw (number_same a e.0) (ap (λ o. cond (eqb a e.0) (Some e.1) o) (found_number a es))

-- after a number has got a value
pub number_updated : {X : Type 0} (a : ℕ) (old new : BTreeMap ℕ X) (w : X) → Updates nat_cmp old new a (Some w) → (c : ℕ)
    → lookup (λ k. eqb c k) new.entries ≡ cond (eqb a c) (Some w) (lookup (λ k. eqb c k) old.entries)
number_updated a old new w h c =
    sym (found_number c new.entries) ∙ (h.0 c
    ∙ (ap (λ t. cond t (Some w) (lookup (is_at (nat_cmp c)) old.entries)) (number_same a c)
    ∙ ap (λ o. cond (eqb a c) (Some w) o) (found_number c old.entries)))
