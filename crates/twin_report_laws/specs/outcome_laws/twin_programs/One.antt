-- Programs that are one, but for the numbers of their nodes, entities, types and tags.
use Rattle.std.specs.Prelude.{ℕ, ◌≡◌, ◌<◌, ◌⊎◌, ⊤, List, [], ◌∷◌, Some, length, map, slice_get}
use Rattle.std.specs.Option.{option_map}
use Rattle.c_types.specs.declared.term.MemberTerm.{MemberTerm}
use Rattle.c_types.specs.Table.{Table, type_of, members_in}
use Rattle.core_tree.specs.declared.node.Node.{Node}
use Rattle.core_tree.specs.declared.node.Entity.{Entity}
use Rattle.core_tree.specs.declared.node.Unit.{Unit}
use Rattle.core_tree.specs.declared.node.Program.{Program}
use Rattle.core_tree.specs.Typed.{trees_of, trees_in}
use Rattle.core_tree.specs.Valid.{IsChild, ChildOnce}
use Rattle.c_senses.specs.Right.{IsBody, InitialisesOnce}
use Rattle.link_model.specs.Renamed.{renamed}
use Rattle.link_names.specs.Externals.{IsExternal}
use Rattle.unit_link.specs.Places.{kind_renamed}
use Rattle.unit_link.specs.Linked.{LinkedAt}
use Rattle.twin_report_laws.specs.outcome_laws.fault_laws.Twins.{AreAllTwins}

-- each node of a unit is a body or a child, and each Initialise is its entity's body
pub record IsRooted (u : Unit) : Type 0 where
  pub nodes : (i : ℕ) → i < length u.nodes.items → IsBody u i ⊎ ((p : ℕ) × IsChild (trees_of u) p i)
  pub initialisers : InitialisesOnce u

pub record AreAllRooted (units : List Unit) : Type 0 where
  pub each : (k : ℕ) (u : Unit) → slice_get units k ≡ Some u → IsRooted u

-- the number that each tag, entity and node of one program has in the other one
pub record Numbers : Type 0 where
  pub tag : ℕ → ℕ
  pub entity : ℕ → ℕ
  pub node : ℕ → ℕ

-- the same members, with other numbers for tags
abbrev pub SameMembers : Table → Table → (ℕ → ℕ) → List MemberTerm → List MemberTerm → Type 0
SameMembers one other tag [] [] = ⊤
SameMembers one other tag (m ∷ ms) (k ∷ ks) =
    (k.name ≡ m.name) × (k.bits ≡ m.bits) × (type_of other k.ty.0 ≡ renamed tag (type_of one m.ty.0))
    × SameMembers one other tag ms ks
SameMembers one other tag ms ks = ⊥

-- an entity is the same, but for the numbers of entities, nodes, types and tags
pub record SameEntity (one other : Table) (to : Numbers) (x y : Entity) : Type 0 where
  pub name : y.name ≡ x.name
  pub unit_is : y.unit ≡ x.unit
  pub place : y.place ≡ x.place
  pub linkage : y.linkage ≡ x.linkage
  pub storage : y.storage ≡ x.storage
  pub type : type_of other y.ty.0 ≡ renamed to.tag (type_of one x.ty.0)
  pub owner : y.owner ≡ option_map to.entity x.owner
  pub body : y.body ≡ option_map to.node x.body
  pub used : y.used ≡ x.used

-- a node is the same, but for the numbers of entities, nodes, types and tags
pub record SameNode (one other : Table) (to : Numbers) (x y : Node) : Type 0 where
  pub kind : y.kind ≡ kind_renamed to.entity x.kind
  pub place : y.place ≡ x.place
  pub type : type_of other y.ty.0 ≡ renamed to.tag (type_of one x.ty.0)
  pub children : y.children ≡ map to.node x.children

-- all that one program has stands in the other under these numbers, which the other ones lead back
pub record LeadsTo (p q : Program) (to back : Numbers) : Type 0 where
  pub names : q.names.items ≡ p.names.items
  pub members : (tag : ℕ) (ms : List MemberTerm) → tag < p.types.tags → members_in p.types tag ≡ Some ms
      → (ks : List MemberTerm) × (members_in q.types (to.tag tag) ≡ Some ks)
      × SameMembers p.types q.types to.tag ms ks
  pub entities : (e : ℕ) (x : Entity) → slice_get p.entities.items e ≡ Some x
      → (y : Entity) × (slice_get q.entities.items (to.entity e) ≡ Some y) × SameEntity p.types q.types to x y
  pub nodes : (n : ℕ) (x : Node) → slice_get p.nodes.items n ≡ Some x
      → (y : Node) × (slice_get q.nodes.items (to.node n) ≡ Some y) × SameNode p.types q.types to x y
  pub tag_back : (tag : ℕ) → tag < p.types.tags → (to.tag tag < q.types.tags) × (back.tag (to.tag tag) ≡ tag)
  pub entity_back : (e : ℕ) → e < length p.entities.items → back.entity (to.entity e) ≡ e
  pub node_back : (n : ℕ) → n < length p.nodes.items → back.node (to.node n) ≡ n
  -- an external name stands once, and each node is a child once at most
  pub external : (d e : ℕ) (x y : Entity)
      → slice_get p.entities.items d ≡ Some x
      → slice_get p.entities.items e ≡ Some y
      → IsExternal x
      → IsExternal y
      → x.name ≡ y.name → d ≡ e
  pub child_once : ChildOnce (trees_in p)
  -- it is entered at the same functions, in the same order
  pub entries : q.entries.items ≡ map to.entity p.entries.items

-- the same entities, nodes and tags, as many of them, under other numbers
pub record AreOne (p q : Program) : Type 0 where
  pub to : Numbers
  pub back : Numbers
  pub forth : LeadsTo p q to back
  pub returned : LeadsTo q p back to

-- Programs that are linked from units which are alike one by one, with the same entries, are one, where each node of
-- the units is a body or stands under one.
abbrev pub TwinPrograms : Type 0
TwinPrograms =
    (entered : List (List ℕ)) (us vs : List Unit) (p q : Program)
    → AreAllTwins us vs
    → AreAllRooted us
    → AreAllRooted vs
    → LinkedAt entered us p
    → LinkedAt entered vs q
    → AreOne p q
