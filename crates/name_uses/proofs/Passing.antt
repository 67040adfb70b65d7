-- The rows of nodes that stand for what their only part stands for.
use Rattle.std.proofs.Common.{arith, ◌≡◌, ◌≤◌, ◌+◌, ◌-◌, ℕ, zero, suc, ◌==◌, Bool, false, cond, List, [], ◌∷◌, length, get_or, Some, inl, inr, refl, sym, ap, ◌∙◌}
use Rattle.std.proofs.lemmas.Bool.Decides.{eqb_tells}
use Rattle.std.specs.Prelude.{◌&&◌}
use Rattle.pta_base.specs.declared.kind.Kind.TheVariants.{NotBuilt}
use Rattle.c_consts.specs.Core.{Core}
use Rattle.c_senses.specs.Given.{Fits, Refuses}
use Rattle.c_senses.specs.Tree.{Source, production_at, children_at, is_leaf, kind_at}
use Rattle.c_senses.specs.World.{World}
use Rattle.c_senses.specs.Sense.{Sense, IsCore}
use Rattle.c_senses.specs.Expressions.{unary_of, cast_of, expression_row}
use Rattle.c_results.specs.Parts.{core_in}
use Rattle.expression_rows.specs.c_rows.Built.{built_primary}
use Rattle.expression_rows.specs.Built.{built_row}
use Rattle.name_uses.specs.Alone.{PassesOn}
use Rattle.name_uses.specs.Built.{first_is_strange, named_row}

-- a sense that is a core tree's
pub core_is : (x : Sense) (c : Core) → core_in x ≡ Some c → x ≡ IsCore c
core_is (IsCore d) c e = let same : d ≡ c = cc in ap IsCore same
core_is x c e = cc

-- a list of one
pub single : (xs : List ℕ) → length xs ≡ 1 → xs ≡ get_or xs 0 0 ∷ []
single [] e = cc
single (x ∷ []) e = refl
single (x ∷ y ∷ xs) e = absurd (omega (arith, e))

no_primary : (n : ℕ) → n ≤ 45 → (n == 47) ≡ false
no_primary n le = elim (eqb_tells n 47) [ inl p ↦ absurd (omega (arith, p.1)) | inr p ↦ p.0 ]

module _ (w : World) (s : Source) (sense : ℕ → Sense) (at part : ℕ) where
  level_row : (k : ℕ) → k ≤ 14 → is_leaf s part ≡ false → expression_row w s sense (31 + k) at (part ∷ []) ≡ Fits (sense part)
  level_row zero le inner = refl
  level_row (suc zero) le inner = refl
  level_row (suc (suc zero)) le inner = refl
  level_row (suc (suc (suc zero))) le inner = refl
  level_row (suc (suc (suc (suc zero)))) le inner = refl
  level_row (suc (suc (suc (suc (suc zero))))) le inner = refl
  level_row (suc (suc (suc (suc (suc (suc zero)))))) le inner = refl
  level_row (suc (suc (suc (suc (suc (suc (suc zero))))))) le inner = refl
  level_row (suc (suc (suc (suc (suc (suc (suc (suc zero)))))))) le inner = refl
  level_row (suc (suc (suc (suc (suc (suc (suc (suc (suc zero))))))))) le inner = refl
  level_row (suc (suc (suc (suc (suc (suc (suc (suc (suc (suc zero)))))))))) le inner = refl
  level_row (suc (suc (suc (suc (suc (suc (suc (suc (suc (suc (suc zero))))))))))) le inner = refl
  level_row (suc (suc (suc (suc (suc (suc (suc (suc (suc (suc (suc (suc zero)))))))))))) le inner = refl
  level_row (suc (suc (suc (suc (suc (suc (suc (suc (suc (suc (suc (suc (suc zero))))))))))))) le inner = ap (λ (leafy : Bool). cast_of w s sense at part [] leafy) inner
  level_row (suc (suc (suc (suc (suc (suc (suc (suc (suc (suc (suc (suc (suc (suc zero)))))))))))))) le inner = ap (λ (leafy : Bool). unary_of w s sense at part [] leafy (kind_at s part)) inner
  level_row (suc (suc (suc (suc (suc (suc (suc (suc (suc (suc (suc (suc (suc (suc (suc k))))))))))))))) le inner = absurd (omega arith)

  module _ (m : PassesOn s at part) where
    pub whole_alone : expression_row w s sense (production_at s at) at (children_at s at) ≡ Fits (sense part)
    whole_alone =
        let p = production_at s at in
        let h = m.above in
        let same : 31 + (p - 31) ≡ p = omega (arith, h) in
        let le : p - 31 ≤ 14 = omega (arith, m.below) in
        ap (λ (xs : List ℕ). expression_row w s sense p at xs) m.alone
        ∙ (sym (ap (λ (n : ℕ). expression_row w s sense n at (part ∷ [])) same) ∙ level_row (p - 31) le m.inner)

    pub built_alone : built_row w s sense (production_at s at) at (children_at s at) ≡ Fits (sense part)
    built_alone =
        let p = production_at s at in
        let xs = children_at s at in
        ap (λ (t : Bool). cond t (built_primary w s sense at xs) (expression_row w s sense p at xs)) (no_primary p m.below) ∙ whole_alone

    pub named_alone : named_row w s sense (production_at s at) at (children_at s at) ≡ Fits (sense part)
    named_alone =
        let p = production_at s at in
        let xs = children_at s at in
        ap (λ (t : Bool). cond (t && first_is_strange w s xs) (Refuses NotBuilt at) (built_row w s sense p at xs)) (no_primary p m.below) ∙ built_alone
