-- The productions of initialisers.
use Rattle.std.proofs.Common.{◌≡◌, ℕ, eqb, Bool, true, false, ◌||◌, IsTrue, refl}
use Rattle.std.proofs.lemmas.Bool.{eqb-true}
use Rattle.c_grammar.specs.Productions.{p_init, p_items, p_designator}
use Rattle.init_rows.specs.Joined.{IsInitialPart}

third : (a b c : Bool) → IsTrue (a || (b || c)) → a ≡ false → b ≡ false → c ≡ true
third true b c h e f = cc
third false true c h e f = cc
third false false true h e f = refl
third false false false h e f = h

not_same : (a b : ℕ) → (a ≡ b → ⊥) → eqb a b ≡ false
not_same a b h = by (eqb a b) refl
  where
    by : (c : Bool) → eqb a b ≡ c → c ≡ false
    by true e = absurd (h (eqb-true a b e))
    by false e = refl

-- what is neither an initialiser nor a list of them is a designator
pub is_designator : (p : ℕ) → IsInitialPart p → (p ≡ p_init → ⊥) → (p ≡ p_items → ⊥) → p ≡ p_designator
is_designator p h e f = eqb-true p p_designator (third (eqb p p_init) (eqb p p_items) (eqb p p_designator) h (not_same p p_init e) (not_same p p_items f))
