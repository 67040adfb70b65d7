-- Places that a pointer leads to.
use Rattle.std.specs.Prelude.{◌≡◌, ℕ, ◌<◌, ◌↔◌, Bool, false, IsTrue, List, [], ◌∷◌, Some, length, slice_get}
use Rattle.std.specs.Prelude.{slice_index_or}
use Rattle.core_tree.specs.declared.node.Node.{Node}
use Rattle.core_tree.specs.declared.node.NodeKind.TheVariants.{Deref, Member}

-- a far place: what a pointer points to, or a member of a far place
pub data IsFar (nodes : List Node) : ℕ → Type 0 where
  pointed : {n : ℕ} {node : Node} → slice_get nodes n ≡ Some node → node.kind ≡ Deref → IsFar nodes n
  part : {n k p : ℕ} {node : Node}
      → slice_get nodes n ≡ Some node
      → node.kind ≡ Member k
      → node.children ≡ p ∷ []
      → IsFar nodes p
      → IsFar nodes n

-- for each of the first so many nodes, whether it is a far place
pub record AreFar (nodes : List Node) (count : ℕ) (far : List Bool) : Type 0 where
  pub each : length far ≡ count
  pub right : (n : ℕ) → n < count → IsTrue (slice_index_or far n false) ↔ IsFar nodes n
