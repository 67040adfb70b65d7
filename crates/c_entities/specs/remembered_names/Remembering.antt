-- What is remembered of declarations: what a use of each means, whatever more is made.
use Rattle.std.specs.Prelude.{ℕ, ◌≡◌, Bool, true, false, List, get_or, Option, Some, None}
use Rattle.core_tree.specs.declared.node.Unit.{Unit}
use Rattle.c_types.specs.Trees.{Ctype}
use Rattle.core_nodes.specs.passed.c_senses.Tree.{Source}
use Rattle.core_nodes.specs.passed.c_senses.Sense.{Sense}
use Rattle.core_nodes.specs.passed.c_senses.World.{Meaning, TypeName}
use Rattle.core_nodes.specs.passed.c_senses.Entities.{declared_meaning, object_or_function}
use Rattle.c_results.specs.declared.made.Made.{Made}
use Rattle.tree_reads.specs.declared.syntax.Syntax.{Syntax}
use Rattle.tree_reads.specs.Sources.{source_in}
use Rattle.c_entities.specs.declared.remembered_names.remembered.Remembered.{Remembered}
use Rattle.c_entities.specs.remembered_names.Steps.{with_more, type_by, IsMadeBy}

-- what a name means by its type: a type, or the object or function of an entity
abbrev pub named : Source → (ℕ → Sense) → Bool → ℕ → Ctype → Meaning
named s sense true entity t = TypeName t
named s sense false entity t = object_or_function s sense entity t

-- the declaration gives its name that meaning, whatever more is made, where its steps make a type
pub record IsRemembered (syntax : Syntax) (results : List Made) (e : Remembered) : Type 0 where
  pub made : IsMadeBy results e.steps.declarator
  pub means : (u : Unit) (uses : List (ℕ × ℕ)) (more : List Made) (t : Ctype)
      → type_by u results e.steps.base e.steps.declarator ≡ Some t
      → declared_meaning (source_in syntax uses) (with_more u results more) e.leaf
      ≡ Some (named (source_in syntax uses) (with_more u results more) e.is_type e.entity t)

-- all that is remembered is so
abbrev pub AreRemembered : Syntax → List Made → List (Option Remembered) → Type 0
AreRemembered syntax results list =
    (slot : ℕ) (e : Remembered) → get_or list slot None ≡ Some e → IsRemembered syntax results e
