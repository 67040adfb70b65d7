-- Productions that only list others.
use Rattle.std.proofs.Common.{arith, ◌≡◌, ◌==◌, ◌<◌, ℕ, Bool, true, false, cond, ◌||◌, ◌&&◌, nat_lt, List, [], ◌∷◌, inl, inr, refl, ◌∙◌, subst}
use Rattle.std.specs.Prelude.{nat_le}
use Rattle.std.proofs.lemmas.Bool.{eqb-true, ltb-true, leb-true}
use Rattle.std.proofs.lemmas.Bool.Decides.{eqb_tells}
use Rattle.c_grammar.specs.Terminals.{contains}
use Rattle.c_senses.specs.Tree.{Source}
use Rattle.c_senses.specs.Given.{Fits}
use Rattle.c_senses.specs.World.{World}
use Rattle.c_senses.specs.Sense.{Sense, Nothing}
use Rattle.c_senses.specs.Rows.{row_of, declaring_row}
use Rattle.unit_walk.specs.unit_rows.Built.{lists, lists_others}

off : {A : Type 0} (t : Bool) (a b : A) → t ≡ false → cond t a b ≡ b
off true a b e = cc
off false a b e = refl

apart : (p k : ℕ) → 47 < p → k < 48 → (p == k) ≡ false
apart p k h l = elim (eqb_tells p k) [ inl q ↦ absurd (omega (arith, q.1)) | inr q ↦ q.0 ]

none : (a b : Bool) → a ≡ false → b ≡ false → (a || b) ≡ false
none true b e f = cc
none false b e f = f

no_expression : (p : ℕ) → 47 < p → (nat_le 31 p && nat_le p 47) ≡ false
no_expression p h = by (nat_le 31 p) (nat_le p 47) refl
  where
    by : (a b : Bool) → nat_le p 47 ≡ b → (a && b) ≡ false
    by true true e = absurd (omega (arith, h, leb-true p 47 e))
    by true false e = refl
    by false b e = refl

module _ (w : World) (s : Source) (sense : ℕ → Sense) (at : ℕ) (children : List ℕ) where
  no_row : (p : ℕ) → 47 < p → declaring_row w s sense p at children ≡ Fits Nothing
  no_row p h =
      off (p == 2) _ _ (apart p 2 h (omega arith)) ∙ (off (p == 3) _ _ (apart p 3 h (omega arith)) ∙ (off (p == 4) _ _ (apart p 4 h (omega arith))
      ∙ (off (p == 6) _ _ (apart p 6 h (omega arith)) ∙ (off (p == 10) _ _ (apart p 10 h (omega arith)) ∙ (off (p == 11) _ _ (apart p 11 h (omega arith))
      ∙ (off (p == 12) _ _ (apart p 12 h (omega arith)) ∙ (off (p == 13) _ _ (apart p 13 h (omega arith)) ∙ (off (p == 14) _ _ (apart p 14 h (omega arith))
      ∙ (off (p == 15) _ _ (apart p 15 h (omega arith)) ∙ (off (p == 16) _ _ (apart p 16 h (omega arith)) ∙ (off (p == 18) _ _ (apart p 18 h (omega arith))
      ∙ (off (p == 22) _ _ (apart p 22 h (omega arith)) ∙ (off (p == 23) _ _ (apart p 23 h (omega arith)) ∙ (off (p == 24) _ _ (apart p 24 h (omega arith))
      ∙ (off (p == 25) _ _ (apart p 25 h (omega arith)) ∙ (off (p == 26) _ _ (apart p 26 h (omega arith)) ∙ (off (p == 28) _ _ (apart p 28 h (omega arith))
      ∙ (off (p == 29) _ _ (apart p 29 h (omega arith)) ∙ (off (p == 30) _ _ (apart p 30 h (omega arith)) ∙ (off ((p == 19) || ((p == 20) || (p == 21))) _ _ (none (p == 19) ((p == 20) || (p == 21)) (apart p 19 h (omega arith)) (none (p == 20) (p == 21) (apart p 20 h (omega arith)) (apart p 21 h (omega arith))))))))))))))))))))))))

  past : (p : ℕ) → 47 < p → row_of w s sense p at children ≡ Fits Nothing
  past p h = off (nat_le 31 p && nat_le p 47) _ _ (no_expression p h) ∙ no_row p h

  AllNothing : List ℕ → Type 0
  AllNothing [] = Unit {0}
  AllNothing (k ∷ ks) = (row_of w s sense k at children ≡ Fits Nothing) × AllNothing ks

  one_of : (p : ℕ) → (ks : List ℕ) → AllNothing ks → contains ks p ≡ true → row_of w s sense p at children ≡ Fits Nothing
  unfolding AllNothing
  one_of p [] all e = cc
  one_of p (k ∷ ks) all e = by (k == p) refl e (one_of p ks all.1)
    where
      by : (b : Bool) → (k == p) ≡ b → (b || contains ks p) ≡ true → (contains ks p ≡ true → row_of w s sense p at children ≡ Fits Nothing) → row_of w s sense p at children ≡ Fits Nothing
      by true f g rest = subst (λ (q : ℕ). row_of w s sense q at children ≡ Fits Nothing) (eqb-true k p f) all.0
      by false f g rest = rest g

  pub nothing_of : (p : ℕ) → lists_others p ≡ true → row_of w s sense p at children ≡ Fits Nothing
  unfolding AllNothing
  nothing_of p e = by (contains lists p) (nat_lt 47 p) refl refl e
    where
      by : (a b : Bool) → contains lists p ≡ a → nat_lt 47 p ≡ b → (a || b) ≡ true → row_of w s sense p at children ≡ Fits Nothing
      by true b f g h = one_of p lists (refl, (refl, (refl, (refl, (refl, (refl, (refl, (refl, tt)))))))) f
      by false true f g h = past p (ltb-true 47 p g)
      by false false f g h = cc
