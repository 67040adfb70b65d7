-- Steps of rows.
use Rattle.std.proofs.Common.{arith, ◌≡◌, ℕ, zero, suc, Err, ◌<◌, List, [], ◌∷◌, length, get_or, drop, false, refl, ap, ◌∙◌}
use Rattle.std.specs.Prelude.{◌==◌}
use Rattle.pta_base.specs.declared.place.Place.{Place}
use Rattle.core_tree.specs.declared.node.Unit.{Unit}
use Rattle.c_consts.specs.Core.{Core, ctype_of}
use Rattle.c_lexer.specs.declared.TokenKind.{TokenKind}
use Rattle.c_senses.specs.Given.{Given}
use Rattle.c_senses.specs.World.{World}
use Rattle.c_senses.specs.Tree.{Source, kind_at}
use Rattle.c_senses.specs.Sense.{Sense}
use Rattle.c_senses.specs.Conversions.{OperandSort, operand_of}
use Rattle.c_senses.specs.Objects.{index_row}
use Rattle.c_senses.specs.Expressions.{as_sense}
use Rattle.core_nodes.specs.Standing.{Made}
use Rattle.core_nodes.specs.declared.fault.CheckFault.{CheckFault}
use Rattle.core_nodes.specs.declared.fault.CheckFault.TheVariants.{BadOperand, Unsupported, OutOfMemory}
use Rattle.c_results.specs.Standing.{Rowed}
use Rattle.expression_rows.specs.c_rows.Built.{built_primary, built_primary_of}

-- a refusal of a core tree is one of its sense
pub fault_rowed : (u : Unit) (e : CheckFault) (g : Given Core) → Made u (Err e) g → Rowed u (Err e) (as_sense g)
fault_rowed u (BadOperand n) g m = ap as_sense m
fault_rowed u (Unsupported k n) g m = ap as_sense m
fault_rowed u OutOfMemory g m = tt

pub index_same : (w : World) (place : Place) (at : ℕ) (a a' b : Core) (x y : OperandSort) → x ≡ operand_of (ctype_of a) → y ≡ operand_of (ctype_of b) → a ≡ a' → index_row w place at a b x y ≡ index_row w place at a' b (operand_of (ctype_of a')) (operand_of (ctype_of b))
index_same w place at a a' b x y ex ey ea =
    ap (λ (z : OperandSort). index_row w place at a b z y) ex
    ∙ (ap (λ (z : OperandSort). index_row w place at a b (operand_of (ctype_of a)) z) ey
    ∙ ap (λ (c : Core). index_row w place at c b (operand_of (ctype_of c)) (operand_of (ctype_of b))) ea)

-- what stands behind the first of two or more
pub two_of : (xs : List ℕ) → 1 < length xs → drop 1 xs ≡ get_or xs 1 0 ∷ drop 2 xs
two_of [] h = absurd (omega arith)
two_of (x ∷ []) h = absurd (omega arith)
two_of (x ∷ y ∷ rest) h = refl

pub not_zero : (n : ℕ) → false ≡ (n == 0) → n ≡ 0 → ⊥
not_zero zero h e = cc
not_zero (suc n) h e = absurd (omega (arith, e))

-- rows by their first parts
module _ (w : World) (s : Source) (sense : ℕ → Sense) where
  pub primary_is : (at : ℕ) (xs : List ℕ) (kind : TokenKind) → 0 < length xs → kind ≡ kind_at s (get_or xs 0 0) → built_primary_of w s sense at (get_or xs 0 0) (drop 1 xs) kind ≡ built_primary w s sense at xs
  primary_is at [] kind h e = absurd (omega arith)
  primary_is at (x ∷ rest) kind h e = ap (built_primary_of w s sense at x rest) e
