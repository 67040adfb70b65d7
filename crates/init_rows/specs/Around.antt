-- What rows of initialisers are told of names and worlds.
use Rattle.std.specs.Prelude.{ℕ, ◌≡◌, List, Option, Some, None, option_and_then, if◌then◌else◌}
use Rattle.core_tree.specs.declared.node.Unit.{Unit}
use Rattle.c_grammar.specs.Productions.{p_rest}
use Rattle.c_senses.specs.Tree.{Source, is_a, parent_of}
use Rattle.c_senses.specs.World.{World}
use Rattle.c_senses.specs.Sense.{Sense, sense_in}
use Rattle.c_senses.specs.Entities.{initialised_by}
use Rattle.c_results.specs.Standing.{senses_made}
use Rattle.c_declarators.specs.Limited.{AreLimited}
use Rattle.tree_reads.specs.Sources.{source_in}
use Rattle.name_places.specs.Named.{name_within}
use Rattle.c_named.specs.declared.said.Said.{Said}
use Rattle.c_named.specs.Said.{IsSaid}
use Rattle.c_initials.specs.declared.storage.Scope.{Scope}
use Rattle.c_initials.specs.Scope.{IsTold}
use Rattle.c_initials.specs.Filling.{Fills}

-- the name of the object whose whole initialiser a node is, by its leaf
abbrev pub object_at : Source → (ℕ → Sense) → ℕ → Option ℕ
object_at s sense at =
    elim (parent_of s at) [
      | None ↦ None
      | Some p ↦ if is_a s p_rest p
          then option_and_then (λ d. name_within (sense d)) (initialised_by s sense at) else None
    ]

-- what is asked of a world around a list of initialisers
pub record IsList (w : World) (u : Unit) (scope : Scope) : Type 0 where
  pub told : IsTold w u scope
  pub fills : Fills w u
  pub limited : AreLimited w (senses_made u scope.results.now)

-- and around an initialiser, of whose object what is said holds
pub record IsInit (w : World) (u : Unit) (uses : List (ℕ × ℕ)) (scope : Scope) (said : Said) (at : ℕ) : Type 0 where
  pub list : IsList w u scope
  pub holds :
      (leaf : ℕ)
      → object_at (source_in scope.syntax.now uses) (sense_in (senses_made u scope.results.now)) at ≡ Some leaf
      → IsSaid w (source_in scope.syntax.now uses) (sense_in (senses_made u scope.results.now)) leaf said
