-- The bodies of automatic objects, by their leaves.
use Rattle.std.specs.Prelude.{ℕ, suc, ◌≡◌, Bool, true, false, List, [], ◌∷◌, ◌++◌, map, Option, if◌then◌else◌}
use Rattle.core_tree.specs.declared.node.Node.{Node}
use Rattle.core_tree.specs.declared.node.NodeKind.{NodeKind}
use Rattle.core_tree.specs.declared.node.NodeKind.TheVariants.{Initialise}
use Rattle.core_tree.specs.declared.node.Storage.{Storage}
use Rattle.core_tree.specs.declared.node.Storage.TheVariants.{Automatic}
use Rattle.c_senses.specs.Tree.{paired}
use Rattle.unit_finish.specs.declared.unit_parts.declared.Declared.{Declared}
use Rattle.unit_finish.specs.unit_parts.Entities.{with_body}
use Rattle.unit_finish.specs.unit_parts.Marked.{AreMarked}

abbrev pub is_automatic : Storage → Bool
is_automatic Automatic = true
is_automatic storage = false

-- the bodies of all but automatic objects
abbrev pub lasting_bodies : List Declared → List ℕ
lasting_bodies [] = []
lasting_bodies (x ∷ list) =
    if is_automatic x.storage then lasting_bodies list else with_body x.body (lasting_bodies list)

-- the marked nodes that initialise, from a number on, each by the leaf of its object
abbrev pub initialised_at : ℕ → Bool → NodeKind → List (ℕ × ℕ)
initialised_at k true (Initialise leaf paths) = (leaf, k) ∷ []
initialised_at k marked kind = []

abbrev pub initialises_from : ℕ → List Bool → List Node → List (ℕ × ℕ)
initialises_from k marks [] = []
initialises_from k [] (n ∷ nodes) = []
initialises_from k (m ∷ marks) (n ∷ nodes) = initialised_at k m n.kind ++ initialises_from (suc k) marks nodes

-- with what is found for its leaf as the body of an automatic object
abbrev pub with_own_body : (ℕ → Option ℕ) → Declared → Declared
with_own_body at x = if is_automatic x.storage then record x { body = at x.leaf } else x

-- each automatic object has the first such node for its leaf under the bodies of all others
pub record HaveOwnBodies (nodes : List Node) (list owned : List Declared) : Type 0 where
  pub marks : List Bool
  pub are_marked : AreMarked nodes (lasting_bodies list) marks
  pub owned_are : owned ≡ map (with_own_body (paired (initialises_from 0 marks nodes))) list
