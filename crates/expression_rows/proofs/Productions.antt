-- Rows by their productions.
use Rattle.std.proofs.Common.{arith, ◌≡◌, ◌≢◌, ◌<◌, ◌≤◌, ℕ, ◌==◌, Bool, true, false, cond, List, [], ◌∷◌, length, get_or, drop, inl, inr, eqb, refl, ap, ◌∙◌}
use Rattle.std.proofs.lemmas.Bool.Decides.{eqb_tells}
use Rattle.c_lexer.specs.declared.TokenKind.TheVariants.{Identifier}
use Rattle.core_tree.specs.declared.node.Unit.{Unit}
use Rattle.expression_rows.specs.declared.around.Around.{Around}
use Rattle.expression_rows.specs.Fitting.{FirstFits, IdentifierFits}
use Rattle.pta_base.specs.declared.kind.Kind.TheVariants.{Operand}
use Rattle.c_senses.specs.Given.{Given, Refuses}
use Rattle.c_senses.specs.Operators.{between}
use Rattle.c_senses.specs.Tree.{Source, kind_at}
use Rattle.c_senses.specs.World.{World}
use Rattle.c_senses.specs.Sense.{Sense}
use Rattle.c_senses.specs.Expressions.{binary_row, is_binary}
use Rattle.expression_rows.specs.Built.{built_row}

past : (t : Bool) (a b : Given Sense) → t ≡ false → cond t a b ≡ b
past t a b e = ap (λ (x : Bool). cond x a b) e

apart : (n k : ℕ) → n ≢ k → eqb n k ≡ false
apart n k ne = elim (eqb_tells n k) [ inl p ↦ absurd (ne p.1) | inr p ↦ p.0 ]

module _ (w : World) (s : Source) (sense : ℕ → Sense) (production at : ℕ) (xs : List ℕ) where
  module _ (primary : production ≢ 47) (post : production ≢ 46) (unary : production ≢ 45) (casting : production ≢ 44) (choice : production ≢ 33) (assigning : production ≢ 32) where
    by_chains : built_row w s sense production at xs ≡ cond (is_binary w s sense production) (binary_row w s sense (between w) at xs) (Refuses Operand at)
    by_chains =
        past _ _ _ (apart production 47 primary)
        ∙ (past _ _ _ (apart production 47 primary)
        ∙ (past _ _ _ (apart production 46 post)
        ∙ (past _ _ _ (apart production 45 unary)
        ∙ (past _ _ _ (apart production 44 casting)
        ∙ (past _ _ _ (apart production 33 choice) ∙ past _ _ _ (apart production 32 assigning))))))

    -- operators between operands
    pub chain_row : is_binary w s sense production ≡ true → built_row w s sense production at xs ≡ binary_row w s sense (between w) at xs
    chain_row e = by_chains ∙ ap (λ (t : Bool). cond t (binary_row w s sense (between w) at xs) (Refuses Operand at)) e

    -- none of an expression's
    pub other_row : is_binary w s sense production ≡ false → built_row w s sense production at xs ≡ Refuses Operand at
    other_row e = by_chains ∙ ap (λ (t : Bool). cond t (binary_row w s sense (between w) at xs) (Refuses Operand at)) e

-- the first of some children that are there
pub first_fits : (w : World) (u : Unit) (s : Source) (sense : ℕ → Sense) (around : Around) (xs : List ℕ) → FirstFits w u s sense xs around → 0 < length xs → kind_at s (get_or xs 0 0) ≡ Identifier → IdentifierFits w u s sense (get_or xs 0 0) (drop 1 xs) around
first_fits w u s sense around [] h some kind = absurd (omega arith)
first_fits w u s sense around (first ∷ rest) h some kind = h kind
