-- Each production is of one of the kinds that the code tells apart.
use Rattle.std.proofs.Common.{arith, ◌≡◌, ◌==◌, ◌<◌, ℕ, zero, suc, Bool, true, false, ◌||◌, ◌&&◌, List, [], ◌∷◌, refl, ap, subst}
use Rattle.std.specs.Prelude.{nat_lt}
use Rattle.std.proofs.lemmas.Bool.{eqb-true, eqb-false, ltb-false}
use Rattle.c_grammar.specs.Terminals.{contains}
use Rattle.unit_walk.specs.unit_rows.Built.{lists, lists_others, is_plain, is_limited, is_expression}

-- what holds of each number of a list holds of one that is in it
abbrev pub AllOf : (ℕ → Type 0) → List ℕ → Type 0
AllOf P [] = Unit {0}
AllOf P (k ∷ ks) = P k × AllOf P ks

pub one_of : (P : ℕ → Type 0) (p : ℕ) (ks : List ℕ) → AllOf P ks → contains ks p ≡ true → P p
one_of P p [] all e = cc
one_of P p (k ∷ ks) all e = by (one_of P p ks all.1) (k == p) refl e
  where
    by : (contains ks p ≡ true → P p) → (b : Bool) → (k == p) ≡ b → (b || contains ks p) ≡ true → P p
    by rest true f g = subst P (eqb-true k p f) all.0
    by rest false f g = rest g

-- the kinds
abbrev pub is_covered : ℕ → Bool
is_covered p = lists_others p || (is_expression p || (is_plain p || is_limited p))

all_covered : ℕ → Bool
all_covered zero = true
all_covered (suc n) = is_covered n && all_covered n

left : (a b : Bool) → (a && b) ≡ true → a ≡ true
left true b e = refl
left false b e = cc

right : (a b : Bool) → (a && b) ≡ true → b ≡ true
right true b e = e
right false b e = cc

covered_below : (n p : ℕ) → all_covered n ≡ true → p < n → is_covered p ≡ true
unfolding all_covered
covered_below zero p e h = absurd (omega (arith, h))
covered_below (suc n) p e h = by (covered_below n p (right (is_covered n) (all_covered n) e)) (n == p) refl
  where
    by : (p < n → is_covered p ≡ true) → (b : Bool) → (n == p) ≡ b → is_covered p ≡ true
    by rest true f = subst (λ (k : ℕ). is_covered k ≡ true) (eqb-true n p f) (left (is_covered n) (all_covered n) e)
    by rest false f = rest (omega (arith, h, eqb-false n p f))

out_left : (a b : Bool) → a ≡ false → (a || b) ≡ true → b ≡ true
out_left true b e f = cc
out_left false b e f = f

or_last : (a b : Bool) → b ≡ true → (a || b) ≡ true
or_last true b e = refl
or_last false b e = e

covered : (p : ℕ) → is_covered p ≡ true
unfolding all_covered
covered p = by (nat_lt 47 p) refl
  where
    by : (b : Bool) → nat_lt 47 p ≡ b → is_covered p ≡ true
    by true e = ap (λ (b : Bool). b || (is_expression p || (is_plain p || is_limited p))) (or_last (contains lists p) (nat_lt 47 p) e)
    by false e = covered_below 48 p refl (omega (arith, ltb-false 47 p e))

-- a node of none of the others asks for types within the limits
pub limited_there : (p : ℕ) → lists_others p ≡ false → is_expression p ≡ false → is_plain p ≡ false → is_limited p ≡ true
limited_there p a b c = out_left (is_plain p) (is_limited p) c (out_left (is_expression p) _ b (out_left (lists_others p) _ a (covered p)))
