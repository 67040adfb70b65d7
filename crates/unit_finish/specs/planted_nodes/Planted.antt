-- What it is to make nodes anew from the trees under bodies.
use Rattle.std.specs.Prelude.{ℕ, ◌≡◌, ◌<◌, ◌⊎◌, ⊤, List, Option, Some, None, length, map, slice_get, All}
use Rattle.core_tree.specs.declared.node.Node.{Node}
use Rattle.core_tree.specs.declared.node.Storage.TheVariants.{FunctionBody}
use Rattle.core_tree.specs.Range.{child_in}
use Rattle.core_nodes.specs.kept_nodes.Marked.{ChildIn}
use Rattle.unit_finish.specs.declared.unit_parts.declared.Declared.{Declared}
use Rattle.unit_finish.specs.planted_nodes.Copied.{node_of}
use Rattle.unit_finish.specs.declared.planted_nodes.planting.Planted.{Planted}

-- the node of that number is a copy of the one from which it comes, over copies of its children, which have smaller
-- numbers
pub record IsCopy (nodes : List Node) (origin : ℕ → ℕ) (i : ℕ) (y : Node) : Type 0 where
  pub same : y ≡ record (node_of nodes (origin i)) { children = y.children }
  pub children : map origin y.children ≡ (node_of nodes (origin i)).children
  pub first : All (λ c. c < i) y.children

-- a copy of the body, if there is one
abbrev pub IsBodyCopy : (ℕ → ℕ) → ℕ → Option ℕ → Option ℕ → Type 0
IsBodyCopy origin count None None = ⊤
IsBodyCopy origin count (Some b) (Some c) = (c < count) × (origin c ≡ b)
IsBodyCopy origin count b c = ⊥

-- what is declared there is the same, but for the number of its body
pub record IsMoved (origin : ℕ → ℕ) (count : ℕ) (x y : Declared) : Type 0 where
  pub same : y ≡ record x { body = y.body }
  pub body : IsBodyCopy origin count x.body y.body

-- no other one has its body
abbrev pub IsAlone : List Declared → ℕ → ℕ → Type 0
IsAlone list d b = (e : ℕ) (y : Declared) → slice_get list e ≡ Some y → y.body ≡ Some b → d ≡ e

-- a node is the top one, or is reached from it by children
pub data IsUnder (nodes : List Node) (top : ℕ) : ℕ → Type 0 where
  here : IsUnder nodes top top
  below : {parent child : ℕ} → IsUnder nodes top parent → ChildIn nodes parent child → IsUnder nodes top child

-- each node is a copy of one of the nodes, and the child of one at most; of what is declared each body has a copy,
-- which of a function is no child and no other's body, and of another one is no child only where no node before it,
-- which has a greater number, is a copy of it as a child; a body that is no child has a smaller number than all
-- nodes under the bodies before it in the list; and each node is a body, or a child
pub record IsPlanted (nodes : List Node) (list : List Declared) (planted : Planted) : Type 0 where
  pub origin : ℕ → ℕ
  pub copies : (i : ℕ) (y : Node) → slice_get planted.nodes.items i ≡ Some y → IsCopy nodes origin i y
  pub child_once : (a b i j c : ℕ)
      → child_in (slice_get planted.nodes.items a) i ≡ Some c
      → child_in (slice_get planted.nodes.items b) j ≡ Some c
      → (a ≡ b) × (i ≡ j)
  pub long : length planted.list.items ≡ length list
  pub each : (e : ℕ) (x y : Declared)
      → slice_get list e ≡ Some x
      → slice_get planted.list.items e ≡ Some y
      → IsMoved origin (length planted.nodes.items) x y
  pub tops : (d : ℕ) (x : Declared) (b : ℕ)
      → slice_get planted.list.items d ≡ Some x
      → x.storage ≡ FunctionBody
      → x.body ≡ Some b
      → (p : ℕ)
      → ChildIn planted.nodes.items p b
      → ⊥
  pub alone : (d : ℕ) (x : Declared) (b : ℕ)
      → slice_get planted.list.items d ≡ Some x
      → x.storage ≡ FunctionBody
      → x.body ≡ Some b
      → IsAlone planted.list.items d b
  pub late : (d : ℕ) (x : Declared) (b : ℕ)
      → slice_get planted.list.items d ≡ Some x
      → (x.storage ≡ FunctionBody → ⊥)
      → x.body ≡ Some b
      → origin b < length nodes
      → ((p : ℕ) → ChildIn planted.nodes.items p b → ⊥)
      → (p c : ℕ)
      → ChildIn planted.nodes.items p c
      → origin c ≡ origin b
      → c < b
  pub earlier : (j k a b c : ℕ) (x y : Declared)
      → j < k
      → slice_get planted.list.items j ≡ Some x
      → slice_get planted.list.items k ≡ Some y
      → x.body ≡ Some a
      → y.body ≡ Some b
      → ((p : ℕ) → ChildIn planted.nodes.items p b → ⊥) → IsUnder planted.nodes.items a c → b < c
  pub only : (i : ℕ)
      → i < length planted.nodes.items
      → ((e : ℕ) × (y : Declared) × (slice_get planted.list.items e ≡ Some y) × (y.body ≡ Some i))
      ⊎ ((p : ℕ) × ChildIn planted.nodes.items p i)
