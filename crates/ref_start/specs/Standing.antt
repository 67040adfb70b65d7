-- Objects that live for the whole run are found by number.
use Rattle.std.specs.Prelude.{◌≡◌, ℕ, List, [], Some, slice_get}
use Rattle.std.specs.BTreeMap.{BTreeMap}
use Rattle.c_types.specs.declared.key.ObjectKey.{ObjectKey}
use Rattle.c_types.specs.declared.key.ObjectKey.TheVariants.{Text as TextKey}
use Rattle.core_tree.specs.declared.node.Node.{Node}
use Rattle.core_tree.specs.declared.node.NodeKind.TheVariants.{Named, Text}
use Rattle.core_tree.specs.Typed.{CoreTrees}
use Rattle.obj_space.specs.Found.{kept_for}
use Rattle.row_numbers.specs.Objects.{entity_key}
use Rattle.ref_cells.specs.declared.instance.Instance.{Instance}
use Rattle.ref_places.specs.Places.{first_instance}

-- what is kept for an object is its first instance, none where it has none
abbrev pub AreFirst : BTreeMap (ℕ × ℕ) ℕ → List Instance → Type 0
AreFirst standing memory = (key : ObjectKey) → kept_for standing key ≡ first_instance key 0 memory

-- a node without operands is the name of that object
pub data Names (u : CoreTrees) (n : ℕ) (node : Node) (key : ObjectKey) : Type 0 where
  entity : (e : ℕ)
      → node.kind ≡ Named e
      → node.children ≡ []
      → key ≡ entity_key e (slice_get u.entities e)
      → Names u n node key
  text : (bytes : List ℕ)
      → node.kind ≡ Text bytes
      → node.children ≡ []
      → key ≡ TextKey n
      → Names u n node key

-- a node without operands is the name of an object for which that instance is kept
pub record IsFirstNamed (u : CoreTrees) (standing : BTreeMap (ℕ × ℕ) ℕ) (n i : ℕ) : Type 0 where
  pub node : Node
  pub there : slice_get u.nodes n ≡ Some node
  pub key : ObjectKey
  pub names : Names u n node key
  pub kept : kept_for standing key ≡ Some i
