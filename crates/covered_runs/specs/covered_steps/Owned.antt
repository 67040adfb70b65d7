-- The function in whose body a node stands.
use Rattle.std.specs.Prelude.{◌≡◌, ℕ, ◌<◌, Some, length}
use Rattle.c_types.specs.declared.key.ObjectKey.TheVariants.{Entity as EntityKey}
use Rattle.core_tree.specs.declared.node.Storage.TheVariants.{FunctionBody}
use Rattle.core_tree.specs.Rows.{Has}
use Rattle.core_tree.specs.Range.{EachNode, EachEntity, IsChild, ChildOnce}
use Rattle.core_tree.specs.Typed.{CoreTrees}
use Rattle.covering_laws.specs.covered_state.World.{World, trees_of}
use Rattle.covering_laws.specs.covered_state.Items.{IsOwned}

-- a function's body is no node's child
abbrev pub AreTops : CoreTrees → Type 0
AreTops u =
    EachEntity u (λ f function. (b : ℕ) → function.storage ≡ FunctionBody → function.body ≡ Some b
    → EachNode u (λ n node. Has node.children b → ⊥))

-- no two entities have one body
abbrev pub AreSingle : CoreTrees → Type 0
AreSingle u =
    EachEntity u (λ f function. (b : ℕ) → function.body ≡ Some b
    → EachEntity u (λ g other. other.body ≡ Some b → g ≡ f))

-- the children of a node in a function's body stand there too
abbrev pub OwnersPass : Type 0
OwnersPass =
    (world : World) (f n c : ℕ)
    → ChildOnce (trees_of world)
    → AreTops (trees_of world)
    → AreSingle (trees_of world)
    → IsOwned world (EntityKey f) n
    → IsChild (trees_of world) n c
    → c < length (trees_of world).nodes
    → IsOwned world (EntityKey f) c
