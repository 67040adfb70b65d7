-- A core node with all that is under it, as a tree, whatever the nodes' numbers.
use Rattle.std.specs.Prelude.{ℕ, zero, suc, ◌≡◌, ◌+◌, ◌<◌, length, List, [], ◌∷◌, Option, Some, None, slice_get}
use Rattle.std.specs.Prelude.{slice_index, All}
use Rattle.core_tree.specs.PassedOn.{Place}
use Rattle.c_types.specs.Trees.{Ctype}
use Rattle.c_types.specs.Table.{Table, type_of}
use Rattle.core_tree.specs.declared.node.NodeKind.{NodeKind}
use Rattle.core_tree.specs.declared.node.Node.{Node}
use Rattle.core_tree.specs.Typed.{Sort, sort_of}

mutual
  pub data Core : Type 0 where
    Of : (kind : NodeKind) (place : Place) (type : Ctype) (under : Cores) → Core

  pub data Cores : Type 0 where
    NoCores : Cores
    MoreCores : (first : Core) (rest : Cores) → Cores

abbrev pub kind_of : Core → NodeKind
kind_of (Of kind place type under) = kind

abbrev pub place_of : Core → Place
place_of (Of kind place type under) = place

abbrev pub ctype_of : Core → Ctype
ctype_of (Of kind place type under) = type

abbrev pub cores_under : Core → Cores
cores_under (Of kind place type under) = under

abbrev pub core_sort : Core → Sort
core_sort c = sort_of (kind_of c)

abbrev pub leaf : NodeKind → Place → Ctype → Core
leaf kind place type = Of kind place type NoCores

abbrev pub over : NodeKind → Place → Ctype → Core → Core
over kind place type a = Of kind place type (MoreCores a NoCores)

abbrev pub over_two : NodeKind → Place → Ctype → Core → Core → Core
over_two kind place type a b = Of kind place type (MoreCores a (MoreCores b NoCores))

abbrev pub over_three : NodeKind → Place → Ctype → Core → Core → Core → Core
over_three kind place type a b c = Of kind place type (MoreCores a (MoreCores b (MoreCores c NoCores)))

-- the node of that number and what is under it are that tree
abbrev mutual
  pub Stands : Table → List Node → ℕ → Core → Type 0
  Stands types nodes i (Of kind place type under) =
      (node : Node) × (slice_get nodes i ≡ Some node) × (node.kind ≡ kind) × (node.place ≡ place)
      × (type_of types node.ty.0 ≡ type) × StandAll types nodes node.children under

  pub StandAll : Table → List Node → List ℕ → Cores → Type 0
  StandAll types nodes is NoCores = is ≡ []
  StandAll types nodes is (MoreCores c rest) =
      (i : ℕ) × (more : List ℕ) × (is ≡ i ∷ more) × Stands types nodes i c × StandAll types nodes more rest

-- how many nodes a tree has
abbrev mutual
  pub nodes_in : Core → ℕ
  nodes_in (Of kind place type under) = nodes_of under + 1

  pub nodes_of : Cores → ℕ
  nodes_of NoCores = 0
  nodes_of (MoreCores c rest) = nodes_in c + nodes_of rest

-- part k of a node's parts, from 0
abbrev pub core_in : Cores → ℕ → Option Core
core_in NoCores k = None
core_in (MoreCores c rest) zero = Some c
core_in (MoreCores c rest) (suc k) = core_in rest k

-- the part at the end of a way down, a list of such numbers
abbrev pub part_in : Option Core → List ℕ → Option Core
part_in None path = None
part_in (Some c) [] = Some c
part_in (Some c) (k ∷ path) = part_in (core_in (cores_under c) k) path

abbrev pub part_at : Core → List ℕ → Option Core
part_at c path = part_in (Some c) path

abbrev pub children_of : Option Node → List ℕ
children_of None = []
children_of (Some node) = node.children

-- the number of the node at the end of that way down
abbrev pub number_at : List Node → ℕ → List ℕ → ℕ
number_at nodes i [] = i
number_at nodes i (k ∷ path) = number_at nodes (slice_index (children_of (slice_get nodes i)) k) path

-- each node has a type of the table, over nodes of smaller numbers
pub record InOrder (table : Table) (nodes : List Node) : Type 0 where
  pub types : (n : ℕ) (node : Node) → slice_get nodes n ≡ Some node → node.ty.0 < length table.terms
  pub children : (n : ℕ) (node : Node) → slice_get nodes n ≡ Some node → All (λ c. c < n) node.children

-- a table and a list of nodes that have all of others, with more behind
pub record Extends (old new : Table) (before after : List Node) : Type 0 where
  pub nodes : (i : ℕ) (node : Node) → slice_get before i ≡ Some node → slice_get after i ≡ Some node
  pub types : (id : ℕ) → id < length old.terms → type_of new id ≡ type_of old id
