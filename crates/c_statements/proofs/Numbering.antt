-- Cases over their parts.
use Rattle.std.proofs.Common.{◌≡◌, ℕ, Bool, not, List, Option, Some, None, Err, refl, sym, ap, ◌∙◌, subst}
use Rattle.std.specs.Prelude.{ℤ}
use Rattle.pta_base.specs.declared.kind.Kind.{Kind}
use Rattle.pta_base.specs.declared.kind.Kind.TheVariants.{Operand}
use Rattle.core_tree.specs.declared.node.NodeKind.TheVariants.{Case}
use Rattle.core_tree.specs.declared.node.Unit.{Unit}
use Rattle.c_grammar.specs.Productions.{p_conditional}
use Rattle.c_consts.specs.Core.{Core, ctype_of}
use Rattle.c_consts.specs.Wrapped.{converted}
use Rattle.c_senses.specs.Given.{Given, Fits, Refuses, given_if, given_some, ◌>>=◌}
use Rattle.c_senses.specs.Tree.{Source, place_at, child_of, children_at, any_where, numbers_from}
use Rattle.c_senses.specs.World.{World}
use Rattle.c_senses.specs.Constants.{constant_in}
use Rattle.c_senses.specs.Sense.{Sense}
use Rattle.c_senses.specs.Statements.{switch_around, switched, expression_in, is_case_again, case_in, case_row, body_of, statements_among, statement, one}
use Rattle.core_nodes.specs.declared.fault.CheckFault.{CheckFault}
use Rattle.core_nodes.specs.declared.fault.CheckFault.TheVariants.{BadOperand, Unsupported, OutOfMemory}
use Rattle.core_nodes.specs.Standing.{Made}
use Rattle.c_conversions.specs.constant_values.Constants.{ConstantMade}
use Rattle.c_statements.specs.Labels.{number_for}

-- a switch whose value is refused gives a case no type
pub bad_number : (u : Unit) (e : CheckFault) (node : ℕ) (g : Given Core) (n : ℤ) → e ≡ BadOperand node → Made u (Err e) g → None ≡ number_for g n
bad_number u e node g n is m =
    let refused : g ≡ Refuses Operand node = subst (λ (f : CheckFault). Made u (Err f) g) is m in
    sym (ap (λ (h : Given Core). number_for h n) refused)

pub unsupported_number : (u : Unit) (e : CheckFault) (kind : Kind) (node : ℕ) (g : Given Core) (n : ℤ) → e ≡ Unsupported kind node → Made u (Err e) g → None ≡ number_for g n
unsupported_number u e kind node g n is m =
    let refused : g ≡ Refuses kind node = subst (λ (f : CheckFault). Made u (Err f) g) is m in
    sym (ap (λ (h : Given Core). number_for h n) refused)

module _ (w : World) (s : Source) (sense : ℕ → Sense) (at : ℕ) where
  -- a case by what its switch chooses by
  abbrev pub case_by : Given Core → ℕ → Core → ℤ → Given Core
  case_by chosen switch body n =
      elim chosen [
        | Refuses kind node ↦ Fits (statement (Case n) (place_at s at) (one body))
        | Fits v ↦ let m = converted (ctype_of v) n in given_if (not (any_where (is_case_again w s sense switch m) (numbers_from 0 at))) Operand at (Fits (statement (Case m) (place_at s at) (one body)))
      ]

  by_none : (chosen : Given Core) (switch : ℕ) (body : Core) (n : ℤ) → None ≡ number_for chosen n → case_by chosen switch body n ≡ Fits (statement (Case n) (place_at s at) (one body))
  by_none (Fits v) switch body n e = cc
  by_none (Refuses kind node) switch body n e = refl

  by_some : (chosen : Given Core) (switch : ℕ) (body : Core) (n m : ℤ) → Some m ≡ number_for chosen n
      → case_by chosen switch body n ≡ given_if (not (any_where (is_case_again w s sense switch m) (numbers_from 0 at))) Operand at (Fits (statement (Case m) (place_at s at) (one body)))
  by_some (Fits v) switch body n m e =
      let same : converted (ctype_of v) n ≡ m = cc in
      ap (λ (k : ℤ). given_if (not (any_where (is_case_again w s sense switch k) (numbers_from 0 at))) Operand at (Fits (statement (Case k) (place_at s at) (one body)))) same
  by_some (Refuses kind node) switch body n m e = cc

  pub case_alone : (switch : ℕ) (body : Core) (n : ℤ) → None ≡ number_for (switched w s sense switch (expression_in w s sense (children_at s switch))) n → case_in w s sense at switch body n ≡ Fits (statement (Case n) (place_at s at) (one body))
  case_alone switch body n e = by_none (switched w s sense switch (expression_in w s sense (children_at s switch))) switch body n e

  pub case_number : (switch : ℕ) (body : Core) (n m : ℤ) (again : Bool) → Some m ≡ number_for (switched w s sense switch (expression_in w s sense (children_at s switch))) n
      → any_where (is_case_again w s sense switch m) (numbers_from 0 at) ≡ again → case_in w s sense at switch body n ≡ given_if (not again) Operand at (Fits (statement (Case m) (place_at s at) (one body)))
  case_number switch body n m again e any =
      by_some (switched w s sense switch (expression_in w s sense (children_at s switch))) switch body n m e
      ∙ ap (λ (b : Bool). given_if (not b) Operand at (Fits (statement (Case m) (place_at s at) (one body)))) any

  -- the parts of a case, in the order in which they are looked at
  module _ (children : List ℕ) where
    abbrev behind_switch : ℤ → Option ℕ → Given Core
    behind_switch n o = given_some o Operand at >>= (λ switch. body_of w s sense at (statements_among w s sense children) >>= (λ body. case_in w s sense at switch body n))

    abbrev behind_part : Option ℕ → Given Core
    behind_part o = given_some o Operand at >>= (λ c. constant_in w s at (sense c) >>= (λ n. behind_switch n (switch_around w s sense at)))

    pub no_part : None ≡ child_of s p_conditional at → case_row w s sense at children ≡ Refuses Operand at
    no_part e = sym (ap behind_part e)

    with_part : (c : ℕ) → Some c ≡ child_of s p_conditional at → case_row w s sense at children ≡ (constant_in w s at (sense c) >>= (λ n. behind_switch n (switch_around w s sense at)))
    with_part c e = sym (ap behind_part e)

    pub no_constant : (u : Unit) (c : ℕ) (fault : CheckFault) → Some c ≡ child_of s p_conditional at → ConstantMade (Err fault) (constant_in w s at (sense c)) → Made u (Err fault) (case_row w s sense at children)
    no_constant u c (BadOperand node) e m = with_part c e ∙ ap (λ (g : Given ℤ). g >>= (λ n. behind_switch n (switch_around w s sense at))) m
    no_constant u c (Unsupported kind node) e m = with_part c e ∙ ap (λ (g : Given ℤ). g >>= (λ n. behind_switch n (switch_around w s sense at))) m
    no_constant u c OutOfMemory e m = tt

    with_constant : (c : ℕ) (n : ℤ) → Some c ≡ child_of s p_conditional at → constant_in w s at (sense c) ≡ Fits n → case_row w s sense at children ≡ behind_switch n (switch_around w s sense at)
    with_constant c n e m = with_part c e ∙ ap (λ (g : Given ℤ). g >>= (λ n. behind_switch n (switch_around w s sense at))) m

    pub no_switch : (c : ℕ) (n : ℤ) → Some c ≡ child_of s p_conditional at → constant_in w s at (sense c) ≡ Fits n → None ≡ switch_around w s sense at → case_row w s sense at children ≡ Refuses Operand at
    no_switch c n e m none = with_constant c n e m ∙ sym (ap (behind_switch n) none)

    pub with_switch : (c : ℕ) (n : ℤ) (switch : ℕ) → Some c ≡ child_of s p_conditional at → constant_in w s at (sense c) ≡ Fits n → Some switch ≡ switch_around w s sense at
        → case_row w s sense at children ≡ (body_of w s sense at (statements_among w s sense children) >>= (λ body. case_in w s sense at switch body n))
    with_switch c n switch e m some = with_constant c n e m ∙ sym (ap (behind_switch n) some)
