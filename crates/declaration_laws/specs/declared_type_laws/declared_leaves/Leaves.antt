-- Names in declarators.
use Rattle.std.specs.Prelude.{ℕ, ◌≡◌, ◌<◌, true, take, length, List, Some}
use Rattle.c_grammar.specs.Terminals.{contains}
use Rattle.c_senses.specs.Tree.{Source, is_name, children_at}
use Rattle.c_senses.specs.Declarators.{is_declarator, is_outermost, outermost_of}
use Rattle.c_senses.specs.Entities.{specified_of}
use Rattle.c_senses.specs.Sense.{Sense, IsDeclarator, Derivation, Specified, sense_in}
use Rattle.c_senses.specs.Rows.{AreSenses}
use Rattle.core_node_laws.proofs.count_laws.passed.parsed_tree_laws.placed_laws.Climbing.{Grown}
use Rattle.core_node_laws.specs.built_unit_laws.run_laws.PassedOn.{IsBrought}

-- the name of a declarator of any form: a part of it, or the name of a declarator within its parentheses
pub data IsNamed (s : Source) : ℕ → ℕ → Type 0 where
  Own : {m leaf : ℕ} → contains (children_at s m) leaf ≡ true → is_name s leaf ≡ true → IsNamed s m leaf
  Inner : {m leaf : ℕ} (c : ℕ)
      → contains (children_at s m) c ≡ true
      → is_declarator s c ≡ true
      → IsNamed s c leaf
      → IsNamed s m leaf

-- an outermost declarator with that name
pub record IsDeclaredBy (s : Source) (senses : List Sense) (m leaf : ℕ) : Type 0 where
  pub named : IsNamed s m leaf
  pub derives : List Derivation
  pub is : sense_in senses m ≡ IsDeclarator (Some leaf) derives
  pub outermost : outermost_of s leaf ≡ Some m
  pub words : Specified
  pub told : specified_of s (sense_in (take m senses)) leaf ≡ Some words

pub record LeavesDeclared : Type 0 where
  -- by the tree, and by the senses
  pub by_tree : (s : Source) (senses : List Sense)
      → AreSenses s senses
      → Grown s
      → IsBrought s
      → (m leaf : ℕ)
      → m < length senses
      → is_outermost s m ≡ true
      → IsNamed s m leaf
      → IsDeclaredBy s senses m leaf
  pub by_sense : (s : Source) (senses : List Sense)
      → AreSenses s senses
      → Grown s
      → IsBrought s
      → (m leaf : ℕ) (ds : List Derivation)
      → m < length senses
      → is_outermost s m ≡ true
      → sense_in senses m ≡ IsDeclarator (Some leaf) ds → IsDeclaredBy s senses m leaf
