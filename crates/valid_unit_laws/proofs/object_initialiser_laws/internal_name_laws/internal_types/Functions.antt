-- A name with linkage that is defined is a function's.
use Rattle.std.proofs.Common.{◌≡◌, inr, ℕ, Bool, true, false, ◌&&◌, List, length, Option, Some, None, refl, ap, ◌∙◌}
use Rattle.std.specs.Prelude.{is_some}
use Rattle.c_types.specs.Trees.{Ctype, FunctionFrom}
use Rattle.c_grammar.specs.Productions.{p_external, p_block}
use Rattle.c_senses.specs.Tree.{Source, is_a, child_of, children_at}
use Rattle.c_senses.specs.Limits.{is_function_type}
use Rattle.c_senses.specs.Declarators.{is_declarator}
use Rattle.c_senses.specs.Entities.{is_linked, is_defined, declaration_of, own_type}
use Rattle.c_senses.specs.Sense.{Sense, sense_in}
use Rattle.c_senses.specs.Rows.{AreSenses}
use Rattle.declaration_laws.specs.function_laws.passed.definition_laws.Definitions.{is_definition}
use Rattle.declaration_laws.proofs.function_laws.passed.definition_laws.linkage_laws.Seen.{nodes}
use Rattle.declaration_laws.proofs.function_laws.passed.definition_laws.linkage_laws.Linked.{Tree}
use Rattle.declaration_laws.specs.function_laws.passed.definition_laws.function_definitions.Defined.{Defines}
use Rattle.declaration_laws.proofs.function_laws.function_bodies.Heads.{Parts}
use Rattle.declaration_laws.proofs.function_laws.function_bodies.Standing.{named_by}

-- such a name has a function's type
pub record IsFunctionName (s : Source) (senses : List Sense) (leaf : ℕ) : Type 0 where
  pub type : Ctype
  pub own : own_type s (sense_in senses) leaf ≡ Some type
  pub is : is_function_type type ≡ true

module _ (s : Source) (tree : Tree s) (senses : List Sense) (are : AreSenses s senses) (whole : length senses ≡ length s.nodes) (parts : (q : ℕ) → is_definition s q ≡ true → Parts (nodes s) (children_at s q))
    (defines : (q : ℕ) → is_definition s q ≡ true → Defines s senses q) (declarators : (q : ℕ) (is : is_definition s q ≡ true) → is_declarator s (parts q is).declarator ≡ true) where
  defined_in : (leaf : ℕ) → is_defined s (sense_in senses) leaf ≡ true → (q : ℕ) × (is_definition s q ≡ true) × (declaration_of s (sense_in senses) leaf ≡ Some q)
  defined_in leaf h = by (declaration_of s (sense_in senses) leaf) refl h
    where
      by : (x : Option ℕ) → declaration_of s (sense_in senses) leaf ≡ x → (elim x as (λ _. Bool) [ None ↦ false | Some p ↦ is_a s p_external p && is_some (child_of s p_block p) ]) ≡ true
          → (q : ℕ) × (is_definition s q ≡ true) × (declaration_of s (sense_in senses) leaf ≡ Some q)
      by None e k = cc
      by (Some p) e k = (p, k, e)

  pub function_name : (leaf : ℕ) → is_linked s (sense_in senses) leaf ≡ true → is_defined s (sense_in senses) leaf ≡ true → IsFunctionName s senses leaf
  function_name leaf linked defined =
      let q = defined_in leaf defined in
      let h = defines q.0 q.1 in
      let name : leaf ≡ h.name = named_by s tree senses are whole parts defines declarators leaf q.0 q.1 q.2 (inr linked) in
      record { type = FunctionFrom h.result h.parameters h.form; own = ap (own_type s (sense_in senses)) name ∙ h.type; is = refl }
