-- That initialisers which stand under no compound literal are those of declared names.
use Rattle.std.specs.Prelude.{ℕ, ◌≡◌, true, List, Some, take}
use Rattle.c_grammar.specs.Productions.{p_rest, p_init}
use Rattle.core_nodes.specs.passed.c_senses.Tree.{Source, is_a, parent_of}
use Rattle.core_nodes.specs.passed.c_senses.Entities.{entity_of, initialised_by}
use Rattle.core_nodes.specs.passed.c_senses.Initialised.{name_of_declarator}
use Rattle.core_nodes.specs.passed.c_senses.Rows.{AreSenses, world_at}
use Rattle.core_nodes.specs.passed.c_senses.Sense.{Sense, sense_in}
use Rattle.core_node_laws.specs.literal_initials.Holding.{OfSense}

-- an initialiser in the rest of a declaration initialises it: it is the entity of the declarator's name, as seen
-- there
pub record IsInitialised (s : Source) (senses : List Sense) (entity : ℕ) : Type 0 where
  pub at : ℕ
  pub above : ℕ
  pub declarator : ℕ
  pub leaf : ℕ
  pub is : is_a s p_init at ≡ true
  pub parent : parent_of s at ≡ Some above
  pub rest : is_a s p_rest above ≡ true
  pub by_it : initialised_by s (sense_in (take at senses)) at ≡ Some declarator
  pub named : name_of_declarator (world_at s (take at senses) at) s (sense_in (take at senses))
      (sense_in (take at senses) declarator)
      ≡ Some leaf
  pub same : entity ≡ entity_of s (sense_in (take at senses)) leaf

-- whatever the senses are
abbrev pub InitialsPlaced : Type 0
InitialsPlaced =
    (s : Source) (senses : List Sense)
    → AreSenses s senses
    → (i : ℕ)
    → OfSense (IsInitialised s senses) (sense_in senses i)
