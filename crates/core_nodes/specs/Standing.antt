-- The core trees of a unit's nodes, and what goes on standing while nodes and types are added.
use Rattle.std.specs.Prelude.{ℕ, ◌≡◌, ◌<◌, ◌≤◌, ◌++◌, length, List, [], ◌∷◌, get_or, ⊤, Result, Ok, Err}
use Rattle.pta_base.specs.declared.kind.Kind.TheVariants.{Operand}
use Rattle.c_types.specs.Trees.{Ctype, VoidType}
use Rattle.c_types.specs.Table.{Table, type_of, members_in, extent_in}
use Rattle.c_types.specs.declared.term.TypeId.{TypeId}
use Rattle.core_tree.specs.declared.node.NodeKind.TheVariants.{Skip}
use Rattle.core_tree.specs.declared.node.Node.{Node}
use Rattle.core_tree.specs.declared.node.Unit.{Unit}
use Rattle.c_senses.specs.passed.c_consts.Core.{Core, Cores, Of, NoCores, MoreCores, InOrder}
pub use Rattle.c_senses.specs.PassedOn.{part_with, part_of, parts_in}
use Rattle.c_senses.specs.World.{World, extent}
use Rattle.c_senses.specs.Given.{Given, Fits, Refuses}
use Rattle.core_nodes.specs.Once.{HasOnce}
use Rattle.core_nodes.specs.declared.fault.CheckFault.{CheckFault}
use Rattle.core_nodes.specs.declared.fault.CheckFault.TheVariants.{BadOperand, Unsupported, OutOfMemory}

-- what is read past a list's end
abbrev pub no_core : Core
no_core = Of Skip (record { unit = 0; line = 0; column = 0 }) VoidType NoCores

abbrev pub cores_among : List Core → List ℕ → Cores
cores_among done [] = NoCores
cores_among done (i ∷ is) = MoreCores (get_or done i no_core) (cores_among done is)

-- a node's tree over those of the nodes before it
abbrev pub core_over : Table → List Core → Node → Core
core_over table done n = Of n.kind n.place (type_of table n.ty.0) (cores_among done n.children)

abbrev pub cores_grown : Table → List Core → List Node → List Core
cores_grown table done [] = done
cores_grown table done (n ∷ rest) = cores_grown table (done ++ core_over table done n ∷ []) rest

-- the trees of all nodes, in order
unfoldable pub cores_of : Unit → List Core
cores_of u = cores_grown u.types [] u.nodes.items

-- the tree of a node, and those of some nodes
unfoldable pub core_at : Unit → ℕ → Core
core_at u i = get_or (cores_of u) i no_core

abbrev pub cores_at : Unit → List ℕ → Cores
cores_at u [] = NoCores
cores_at u (i ∷ is) = MoreCores (core_at u i) (cores_at u is)

-- each node has a type of the table and stands over nodes of smaller numbers
abbrev pub IsReady : Unit → Type 0
IsReady u = InOrder u.types u.nodes.items

-- What stands goes on standing, with the same members, layouts and entities; and a table without a type that stands
-- twice goes on being one.
pub record Builds (old new : Unit) : Type 0 where
  pub more : length old.nodes.items ≤ length new.nodes.items
  pub cores : (i : ℕ) → i < length old.nodes.items → core_at new i ≡ core_at old i
  pub terms : length old.types.terms ≤ length new.types.terms
  pub types : (id : ℕ) → id < length old.types.terms → type_of new.types id ≡ type_of old.types id
  pub tags : new.types.tags ≡ old.types.tags
  pub parts : (tag : ℕ)
      → parts_in new.types (members_in new.types tag) ≡ parts_in old.types (members_in old.types tag)
  pub extents : (t : Ctype) → extent_in new.types t ≡ extent_in old.types t
  pub entities : new.entities.items ≡ old.entities.items
  pub once : HasOnce old.types → HasOnce new.types

-- what a call answers of a row: the node of the core tree that the row gives, or its refusal
abbrev pub Made : Unit → Result ℕ CheckFault → Given Core → Type 0
Made u (Ok i) g = g ≡ Fits (core_at u i)
Made u (Err (BadOperand node)) g = g ≡ Refuses Operand node
Made u (Err (Unsupported kind node)) g = g ≡ Refuses kind node
Made u (Err OutOfMemory) g = ⊤

-- a new type is the one that is asked for, and only memory may want
abbrev pub TypeMade : Unit → Result TypeId CheckFault → Ctype → Type 0
TypeMade u (Ok id) t = type_of u.types id.0 ≡ t
TypeMade u (Err (BadOperand node)) t = ⊥
TypeMade u (Err (Unsupported kind node)) t = ⊥
TypeMade u (Err OutOfMemory) t = ⊤

-- two new nodes have the trees that are asked for, and only memory may want
abbrev pub BothMade : Unit → Result (ℕ × ℕ) CheckFault → Core → Core → Type 0
BothMade u (Ok both) a b = (core_at u both.0 ≡ a) × (core_at u both.1 ≡ b)
BothMade u (Err (BadOperand node)) a b = ⊥
BothMade u (Err (Unsupported kind node)) a b = ⊥
BothMade u (Err OutOfMemory) a b = ⊤

-- what a world says of members and sizes is what the unit's types say
pub record Knows (w : World) (u : Unit) : Type 0 where
  pub members : (tag : ℕ) → w.members tag ≡ parts_in u.types (members_in u.types tag)
  pub extents : (t : Ctype) → extent w t ≡ extent_in u.types t
  pub tags : w.tags ≡ u.types.tags
