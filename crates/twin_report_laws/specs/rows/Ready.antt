-- What is known of a linked program besides.
use Rattle.std.specs.Prelude.{ℕ, ◌≡◌, ◌+◌, ◌<◌, ◌^◌, Some, IfSome, Contains, length, slice_get}
use Rattle.std.specs.List.{All}
use Rattle.c_types.specs.declared.key.ObjectKey.{ObjectKey}
use Rattle.c_types.specs.Trees.{Ctype}
use Rattle.c_types.specs.Table.{Table, type_of}
use Rattle.core_tree.specs.declared.node.Program.{Program}
use Rattle.core_tree.specs.Typed.{trees_in}
use Rattle.core_tree.specs.declared.node.Node.{Node}
use Rattle.core_tree.specs.declared.node.Entity.{Entity}
use Rattle.core_tree.specs.Range.{named_by}
use Rattle.linked_laws.specs.embedded_laws.Trees.{AreTreesRight}
use Rattle.linked_laws.specs.row_laws.Rows.{AreRowsRight}
use Rattle.linked_laws.specs.merged_laws.Merged.{TagsFit}
use Rattle.linked_laws.specs.call_laws.Values.{AreCallsOfValues}
use Rattle.linked_laws.specs.initial_laws.Initials.{HasInitials}
use Rattle.linked_laws.specs.return_laws.Returns.{HasReturns}
use Rattle.linked_laws.specs.system_laws.item_laws.Items.{ArePlaced}
use Rattle.obj_space.specs.Space.{locations_in}
use Rattle.obj_space.specs.Spots.{HasWholes}
use Rattle.obj_space.specs.View.{view_of}
use Rattle.row_numbers.specs.Functions.{functions_of, key_type}
use Rattle.call_sites.specs.Signatures.{called_type}

-- all that is known of a valid program but that the types of nodes and entities stand in the table; it has locations,
-- but fewer than numbers of 32 bits
pub record IsReady (p : Program) : Type 0 where
  pub trees : AreTreesRight (trees_in p)
  pub rows : AreRowsRight p
  pub children : (n : ℕ) (node : Node) → slice_get p.nodes.items n ≡ Some node → All (λ c. c < n) node.children
  pub named : (n : ℕ) (node : Node)
      → slice_get p.nodes.items n ≡ Some node
      → IfSome (named_by node.kind) (λ e. e < length p.entities.items)
  pub owners : (e : ℕ) (entity : Entity)
      → slice_get p.entities.items e ≡ Some entity
      → IfSome entity.owner (λ f. f < length p.entities.items)
  pub entries : All (λ e. e < length p.entities.items) p.entries.items
  pub fit : TagsFit p.types
  pub values : AreCallsOfValues p
  pub returns : HasReturns p
  pub initials : HasInitials p
  pub placed : ArePlaced p
  pub wholes : HasWholes p.types (locations_in p)
  pub some : 0 < length (locations_in p)
  pub few : length (locations_in p) < 2 ^ 32

-- a type of a table
pub record HasId (table : Table) (t : Ctype) : Type 0 where
  pub number : ℕ
  pub within : number < length table.terms
  pub same : type_of table number ≡ t

-- The type by which each function is called is one of the table, which has so few types that no signature of one of
-- them is that of the types that it lacks.
pub record HasCalled (p : Program) : Type 0 where
  pub each : (key : ObjectKey) → Contains (functions_of (trees_in p) (view_of (locations_in p))) key
      → HasId p.types (called_type (key_type (trees_in p) key))
  pub room : length p.types.terms + 2 < 2 ^ 32
