-- Returns over the value that is converted.
use Rattle.std.proofs.Common.{◌≡◌, ℕ, false, Option, Some, None, Result, sym, ap, ◌∙◌, refl, subst}
use Rattle.pta_base.specs.declared.kind.Kind.TheVariants.{Operand}
use Rattle.c_types.specs.Trees.{Ctype}
use Rattle.core_tree.specs.declared.node.NodeKind.TheVariants.{Return}
use Rattle.core_tree.specs.declared.node.Unit.{Unit}
use Rattle.c_consts.specs.Core.{Core}
use Rattle.c_senses.specs.Given.{Given, Fits, Refuses, given_some, ◌>>=◌}
use Rattle.c_senses.specs.Tree.{Source, place_at}
use Rattle.c_senses.specs.World.{World}
use Rattle.c_senses.specs.Conversions.{value_of, conversion}
use Rattle.c_senses.specs.Sense.{Sense, IsCore, value_in}
use Rattle.c_senses.specs.Statements.{returned_type, return_row, statement, one}
use Rattle.core_nodes.specs.declared.fault.CheckFault.{CheckFault}
use Rattle.core_nodes.specs.Standing.{Made}
use Rattle.c_results.specs.Parts.{core_in}
use Rattle.c_statements.specs.Others.{returned}

-- the value of a part that has been made
pub value_some : (u : Unit) (w : World) (at : ℕ) (x : Sense) (c : Core) (r : Result ℕ CheckFault) → core_in x ≡ Some c → Made u r (value_of w at c) → Made u r (value_in w at x)
value_some u w at (IsCore d) c r e m = subst (λ (y : Core). Made u r (value_of w at y)) (let same : c ≡ d = cc in same) m
value_some u w at x c r e m = cc

pub bound : (g : Given Core) (f h : Core → Given Core) → ((g >>= f) >>= h) ≡ (g >>= (λ x. f x >>= h))
bound (Fits c) f h = refl
bound (Refuses kind node) f h = refl

module _ (w : World) (s : Source) (sense : ℕ → Sense) (at : ℕ) where
  pub return_of : (c : ℕ) (t : Ctype) (o : Option ℕ) → Some c ≡ o → returned_type w s sense at ≡ Some t → return_row w s sense at o ≡ (returned w at (sense c) t >>= (λ x. Fits (statement Return (place_at s at) (one x))))
  return_of c t o e typed =
      sym (ap (return_row w s sense at) e)
      ∙ (ap (λ (r : Option Ctype). given_some r Operand at >>= (λ k. value_in w at (sense c) >>= (λ v. conversion w false at v k >>= (λ x. Fits (statement Return (place_at s at) (one x)))))) typed
      ∙ sym (bound (value_in w at (sense c)) (λ v. conversion w false at v t) (λ x. Fits (statement Return (place_at s at) (one x)))))

  pub no_function : (c : ℕ) (o : Option ℕ) → Some c ≡ o → returned_type w s sense at ≡ None → return_row w s sense at o ≡ Refuses Operand at
  no_function c o e typed =
      sym (ap (return_row w s sense at) e)
      ∙ ap (λ (r : Option Ctype). given_some r Operand at >>= (λ k. value_in w at (sense c) >>= (λ v. conversion w false at v k >>= (λ x. Fits (statement Return (place_at s at) (one x)))))) typed
