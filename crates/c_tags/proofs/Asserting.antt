-- Assertions and alignments by their parts.
use Rattle.std.proofs.Common.{◌≡◌, ℕ, Bool, not, List, Option, Some, None, Err, refl, sym, ap, ◌∙◌}
use Rattle.std.specs.Prelude.{ℤ, pos}
use Rattle.std.specs.Ordering.{int_eq}
use Rattle.pta_base.specs.declared.kind.Kind.TheVariants.{Operand}
use Rattle.c_types.specs.Trees.{Ctype}
use Rattle.core_tree.specs.declared.node.Unit.{Unit}
use Rattle.c_grammar.specs.Productions.{p_conditional}
use Rattle.c_senses.specs.Tree.{Source, child_of, last_where, is_leaf}
use Rattle.c_senses.specs.Given.{Given, Fits, Refuses, given_if, given_some, ◌>>=◌}
use Rattle.c_senses.specs.World.{World, has_size}
use Rattle.c_senses.specs.Constants.{constant_in}
use Rattle.c_senses.specs.Sense.{Sense, Nothing, IsType}
use Rattle.c_senses.specs.Statements.{assert_row}
use Rattle.c_senses.specs.Specifiers.{align_operand, align_specifier}
use Rattle.core_nodes.specs.declared.fault.CheckFault.{CheckFault}
use Rattle.core_nodes.specs.declared.fault.CheckFault.TheVariants.{BadOperand, Unsupported, OutOfMemory}
use Rattle.c_results.specs.Standing.{Rowed}
use Rattle.c_results.specs.Parts.{type_in}
use Rattle.c_conversions.specs.constant_values.Constants.{ConstantMade}

module _ (w : World) (s : Source) (sense : ℕ → Sense) (at : ℕ) where
  abbrev holding : Given ℤ → Given Sense
  holding g = g >>= (λ n. given_if (not (int_eq n (pos 0))) Operand at (Fits Nothing))

  abbrev asserted : Option ℕ → Given Sense
  asserted o = given_some o Operand at >>= (λ c. holding (constant_in w s at (sense c)))

  pub assert_none : None ≡ child_of s p_conditional at → assert_row w s sense at ≡ Refuses Operand at
  assert_none e = sym (ap asserted e)

  pub assert_value : (c : ℕ) (n : ℤ) (b : Bool) → Some c ≡ child_of s p_conditional at → constant_in w s at (sense c) ≡ Fits n → b ≡ int_eq n (pos 0) → assert_row w s sense at ≡ given_if (not b) Operand at (Fits Nothing)
  assert_value c n b e v z = sym (ap asserted e) ∙ (ap holding v ∙ sym (ap (λ (x : Bool). given_if (not x) Operand at (Fits Nothing)) z))

  pub assert_fault : (u : Unit) (c : ℕ) (fault : CheckFault) → Some c ≡ child_of s p_conditional at → ConstantMade (Err fault) (constant_in w s at (sense c)) → Rowed u (Err fault) (assert_row w s sense at)
  assert_fault u c (BadOperand node) e v = sym (ap asserted e) ∙ ap holding v
  assert_fault u c (Unsupported kind node) e v = sym (ap asserted e) ∙ ap holding v
  assert_fault u c OutOfMemory e v = tt

  abbrev aligned : Option ℕ → Given Sense
  aligned o = elim o [ None ↦ Refuses Operand at | Some c ↦ align_operand w s sense at (sense c) ]

  abbrev last_inner : List ℕ → Option ℕ
  last_inner children = last_where (λ c. not (is_leaf s c)) children

  pub align_none : (children : List ℕ) → None ≡ last_inner children → align_specifier w s sense at children ≡ Refuses Operand at
  align_none children e = sym (ap aligned e)

  typed_operand : (x : Sense) (t : Ctype) → type_in x ≡ Some t → align_operand w s sense at x ≡ given_if (has_size w t) Operand at (Fits Nothing)
  typed_operand (IsType y) t e = let same : y ≡ t = cc in ap (λ (z : Ctype). given_if (has_size w z) Operand at (Fits Nothing)) same
  typed_operand x t e = cc

  constant_operand : (x : Sense) → type_in x ≡ None → align_operand w s sense at x ≡ (constant_in w s at x >>= (λ n. Fits Nothing))
  constant_operand (IsType y) e = cc
  constant_operand x e = refl

  pub align_type : (children : List ℕ) (c : ℕ) (t : Ctype) (b : Bool) → Some c ≡ last_inner children → type_in (sense c) ≡ Some t → b ≡ has_size w t → align_specifier w s sense at children ≡ given_if b Operand at (Fits Nothing)
  align_type children c t b e h z = sym (ap aligned e) ∙ (typed_operand (sense c) t h ∙ sym (ap (λ (x : Bool). given_if x Operand at (Fits Nothing)) z))

  pub align_value : (children : List ℕ) (c : ℕ) (n : ℤ) → Some c ≡ last_inner children → type_in (sense c) ≡ None → constant_in w s at (sense c) ≡ Fits n → align_specifier w s sense at children ≡ Fits Nothing
  align_value children c n e h v = sym (ap aligned e) ∙ (constant_operand (sense c) h ∙ ap (λ (g : Given ℤ). g >>= (λ m. Fits Nothing)) v)

  pub align_fault : (u : Unit) (children : List ℕ) (c : ℕ) (fault : CheckFault) → Some c ≡ last_inner children → type_in (sense c) ≡ None → ConstantMade (Err fault) (constant_in w s at (sense c)) → Rowed u (Err fault) (align_specifier w s sense at children)
  align_fault u children c (BadOperand node) e h v = sym (ap aligned e) ∙ (constant_operand (sense c) h ∙ ap (λ (g : Given ℤ). g >>= (λ m. Fits Nothing)) v)
  align_fault u children c (Unsupported kind node) e h v = sym (ap aligned e) ∙ (constant_operand (sense c) h ∙ ap (λ (g : Given ℤ). g >>= (λ m. Fits Nothing)) v)
  align_fault u children c OutOfMemory e h v = tt
