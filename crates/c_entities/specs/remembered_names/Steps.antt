-- What a declaration's own type is made of, whatever more is made.
use Rattle.std.specs.Prelude.{ℕ, ◌≡◌, ◌<◌, true, List, ◌++◌, length, All, IfSome, Option, Some, None, option_map}
use Rattle.core_tree.specs.declared.node.Unit.{Unit}
use Rattle.c_types.specs.declared.term.TypeId.{TypeId}
use Rattle.c_types.specs.Trees.{Ctype}
use Rattle.c_types.specs.Table.{type_of}
use Rattle.core_nodes.specs.passed.c_senses.Sense.{Sense, sense_in}
use Rattle.core_nodes.specs.passed.c_senses.Declarators.{derived}
use Rattle.core_nodes.specs.passed.c_senses.Entities.{own_type, is_parameter, initialiser_for, length_given_by}
use Rattle.c_results.specs.declared.made.Made.{Made}
use Rattle.c_results.specs.Parts.{declarator_in}
use Rattle.c_results.specs.Standing.{senses_made, IsWithin}
use Rattle.tree_reads.specs.declared.syntax.Syntax.{Syntax}
use Rattle.tree_reads.specs.Sources.{source_read, source_in}
use Rattle.c_entities.specs.declared.remembered_names.steps.TypeSteps.{TypeSteps}

-- the senses of nodes when more has been made
abbrev pub with_more : Unit → List Made → List Made → ℕ → Sense
with_more u results more = sense_in (senses_made u (results ++ more))

-- the type that the steps of a declarator make of a type, or that type, where there is no declarator
abbrev pub type_by : Unit → List Made → TypeId → Option ℕ → Option Ctype
type_by u results base None = Some (type_of u.types base.0)
type_by u results base (Some declarator) =
    option_map (λ d. derived d.1 (type_of u.types base.0))
    (declarator_in (sense_in (senses_made u results) declarator))

-- an initialiser gives the name no length, whatever more is made
abbrev pub StaysPlain : Syntax → List Made → ℕ → Type 0
StaysPlain syntax results leaf =
    (u : Unit) (more : List Made) →
    length_given_by (source_read syntax) (with_more u results more)
    (initialiser_for (source_read syntax) (with_more u results more) leaf)
    ≡ None

abbrev pub IsParameterLeaf : Syntax → ℕ → Type 0
IsParameterLeaf syntax leaf = (sense : ℕ → Sense) → is_parameter (source_read syntax) sense leaf ≡ true

-- the declarator has been made, if there is one
abbrev pub IsMadeBy : List Made → Option ℕ → Type 0
IsMadeBy results declarator = IfSome declarator (λ d. d < length results)

-- the steps give a declaration's own type, whatever more is made
pub record StaysTyped (syntax : Syntax) (results : List Made) (leaf : ℕ) (steps : TypeSteps) : Type 0 where
  pub made : IsMadeBy results steps.declarator
  pub within : (u : Unit) → All (IsWithin u) results → steps.base.0 < length u.types.terms
  pub type : (u : Unit) (uses : List (ℕ × ℕ)) (more : List Made)
      → own_type (source_in syntax uses) (with_more u results more) leaf
      ≡ type_by u results steps.base steps.declarator
