-- Units that are written by hand.
use Rattle.std.specs.Prelude.{ℕ, List, Option, None}
use Rattle.std.specs.Global.{Vec}
use Rattle.pta_base.specs.declared.place.Place.{Place}
use Rattle.c_types.specs.declared.term.TypeId.{TypeId}
use Rattle.c_types.specs.Table.{Table}
use Rattle.core_tree.specs.declared.node.NodeKind.{NodeKind}
use Rattle.core_tree.specs.declared.node.Node.{Node}
use Rattle.core_tree.specs.declared.node.Entity.{Entity}
use Rattle.core_tree.specs.declared.node.Linkage.TheVariants.{External}
use Rattle.core_tree.specs.declared.node.Storage.{Storage}
use Rattle.core_tree.specs.declared.node.Unit.{Unit}
use Rattle.sense_cases.specs.Columns.{at}

abbrev pub id : ℕ → TypeId
id n = record { 0 = n }

-- a node in that column of the only line, with the number of its type
abbrev pub node : NodeKind → ℕ → ℕ → List ℕ → Node
node kind column type children = record { kind = kind; place = at column; ty = id type; children = children }

-- an external object or function without an owner
abbrev pub external : List ℕ → ℕ → ℕ → Storage → Option ℕ → Option Place → Entity
external name column type storage body used = record {
  name = name;
  unit = 0;
  place = at column;
  ty = id type;
  linkage = External;
  storage = storage;
  owner = None;
  body = body;
  used = used;
}

-- the three vectors of a unit, whatever memory they have
pub record Vectors : Type 0 where
  pub keys : Vec (Option (List ℕ))
  pub nodes : Vec Node
  pub entities : Vec Entity

abbrev pub unit : List ℕ → Table → Vectors → Unit
unit name types v = record { name = name; types = types; tags = v.keys; nodes = v.nodes; entities = v.entities }
