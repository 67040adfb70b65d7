-- Enumerators by their parts.
use Rattle.std.proofs.Common.{◌≡◌, ℕ, Bool, List, [], ◌∷◌, Option, Some, None, Err, refl, sym, ap, length, ◌<◌, get_or, arith}
use Rattle.std.specs.Prelude.{ℤ, pos, ◌+ℤ◌}
use Rattle.pta_base.specs.declared.kind.Kind.TheVariants.{Operand}
use Rattle.core_tree.specs.declared.node.Unit.{Unit}
use Rattle.c_grammar.specs.Productions.{p_conditional}
use Rattle.c_senses.specs.Tree.{Source, child_of}
use Rattle.c_senses.specs.Given.{Given, Fits, given_if, ◌>>=◌}
use Rattle.c_senses.specs.World.{World}
use Rattle.c_senses.specs.Constants.{constant_in}
use Rattle.c_senses.specs.Sense.{Sense, IsValue}
use Rattle.c_senses.specs.Tags.{is_int, value_before, enumerator_of, enumerator_named, enumerator_row, before_enumerator}
use Rattle.core_nodes.specs.declared.fault.CheckFault.{CheckFault}
use Rattle.core_nodes.specs.declared.fault.CheckFault.TheVariants.{BadOperand, Unsupported, OutOfMemory}
use Rattle.c_results.specs.Standing.{Rowed}
use Rattle.c_results.specs.Parts.{number_in}
use Rattle.c_conversions.specs.constant_values.Constants.{ConstantMade}

numbered : (x : Sense) (n : ℤ) → Some n ≡ number_in x → n ≡ (elim x [ IsValue m ↦ m | _ ↦ pos 0 ])
numbered (IsValue m) n e = cc
numbered x n e = cc

unnumbered : (x : Sense) → None ≡ number_in x → pos 0 ≡ (elim x [ IsValue m ↦ m | _ ↦ pos 0 ])
unnumbered (IsValue m) e = cc
unnumbered x e = refl

module _ (w : World) (s : Source) (sense : ℕ → Sense) where
  pub of_value : (at leaf : ℕ) (n : ℤ) (b : Bool) → b ≡ is_int w s sense n → enumerator_of w s sense at leaf n ≡ given_if b Operand leaf (Fits (IsValue n))
  of_value at leaf n b e = sym (ap (λ (x : Bool). given_if x Operand leaf (Fits (IsValue n))) e)

  pub before_some : (i : ℕ) (n : ℤ) → Some n ≡ number_in (sense i) → n ≡ value_before w s sense (Some i)
  before_some i n e = numbered (sense i) n e

  pub before_other : (i : ℕ) → None ≡ number_in (sense i) → pos 0 ≡ value_before w s sense (Some i)
  before_other i e = unnumbered (sense i) e

  abbrev valued_row : ℕ → ℕ → Given ℤ → Given Sense
  valued_row at leaf g = g >>= enumerator_of w s sense at leaf

  pub by_value : (at leaf e : ℕ) (n : ℤ) → constant_in w s at (sense e) ≡ Fits n → enumerator_named w s sense at leaf (Some e) ≡ enumerator_of w s sense at leaf n
  by_value at leaf e n v = ap (valued_row at leaf) v

  pub by_fault : (u : Unit) (at leaf e : ℕ) (fault : CheckFault) → ConstantMade (Err fault) (constant_in w s at (sense e)) → Rowed u (Err fault) (enumerator_named w s sense at leaf (Some e))
  by_fault u at leaf e (BadOperand node) v = ap (valued_row at leaf) v
  by_fault u at leaf e (Unsupported kind node) v = ap (valued_row at leaf) v
  by_fault u at leaf e OutOfMemory v = tt

  pub counts_on : (at leaf : ℕ) (n : ℤ) → n ≡ value_before w s sense (before_enumerator w s sense at) → enumerator_of w s sense at leaf (n +ℤ pos 1) ≡ enumerator_named w s sense at leaf None
  counts_on at leaf n e = ap (λ (x : ℤ). enumerator_of w s sense at leaf (x +ℤ pos 1)) e

  pub first_named : (at : ℕ) (xs : List ℕ) (e : Option ℕ) → 0 < length xs → e ≡ child_of s p_conditional at → enumerator_named w s sense at (get_or xs 0 0) e ≡ enumerator_row w s sense at xs
  first_named at [] e some h = absurd (omega arith)
  first_named at (leaf ∷ rest) e some h = ap (enumerator_named w s sense at leaf) h
