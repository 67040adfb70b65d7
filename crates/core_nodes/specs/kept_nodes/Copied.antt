-- What it is to copy the marked ones of some nodes behind others.
use Rattle.std.specs.Prelude.{ℕ, ◌≡◌, ◌+◌, ◌-◌, ◌<◌, ◌≤◌, nat_lt, Bool, List, length, get_or, [], if◌then◌else◌}
use Rattle.c_types.specs.Table.{Table}
use Rattle.core_tree.specs.declared.node.Node.{Node}
use Rattle.core_tree.specs.declared.node.Unit.{Unit}
use Rattle.core_nodes.specs.PassedOn.{Core}
use Rattle.core_nodes.specs.Standing.{no_core, cores_grown, core_at}
use Rattle.core_nodes.specs.kept_nodes.Marked.{ChildIn, marked}

-- the number of a node's copy; what stood before the copied ones keeps its number
abbrev pub number_of : ℕ → List ℕ → ℕ → ℕ
number_of from numbers node = if nat_lt node from then node else get_or numbers (node - from) 0

-- the tree of a node of a list
unfoldable pub tree_of : Table → List Node → ℕ → Core
tree_of types nodes i = get_or (cores_grown types [] nodes) i no_core

-- the first so many of the nodes from a number on are copied, where they are marked: their copies stand for the
-- same trees, the copy of a child is a child of the copy, and there is no other node
pub record AreCopied (types : Table) (nodes : List Node) (from : ℕ) (marks : List Bool) (count : ℕ)
    (numbers : List ℕ) (u : Unit) : Type 0 where
  pub long : length numbers ≡ count
  pub within : (j : ℕ) → j < count → marked marks j → get_or numbers j 0 < length u.nodes.items
  pub trees : (j : ℕ) → j < count → marked marks j → core_at u (get_or numbers j 0) ≡ tree_of types nodes (from + j)
  pub links : (j c : ℕ)
      → j < count
      → marked marks j
      → from ≤ c
      → ChildIn nodes (from + j) c
      → ChildIn u.nodes.items (get_or numbers j 0) (get_or numbers (c - from) 0)
  pub sources : (m : ℕ)
      → from ≤ m
      → m < length u.nodes.items
      → (j : ℕ) × (j < count) × marked marks j × (get_or numbers j 0 ≡ m)
