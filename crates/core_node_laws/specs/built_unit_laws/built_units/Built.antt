-- What a unit is for sure that is made of the senses of a whole tree, before anything is asked of it: what a right
-- unit is, but for its being valid, and what the code that numbers gives beside that.
use Rattle.std.specs.Prelude.{ℕ, ◌≡◌, ◌<◌, true, List, Some, None, length, ◌⊎◌}
use Rattle.c_types.specs.Table.{members_in}
use Rattle.c_inits.specs.Tables.{parts_in}
use Rattle.core_tree.specs.declared.node.Entity.{Entity}
use Rattle.core_tree.specs.declared.node.Unit.{Unit}
use Rattle.core_tree.specs.Typed.{trees_of}
use Rattle.core_tree.specs.declared.node.Storage.TheVariants.{FunctionBody}
use Rattle.core_tree.specs.Range.{IsChild, ChildOnce, EachNode, EachEntity, Has, entity_at}
use Rattle.core_tree.specs.Valid.{OnlyBody}
use Rattle.core_nodes.specs.Standing.{IsReady, Knows}
use Rattle.core_nodes.specs.PassedOn.{Source}
use Rattle.core_nodes.specs.PassedOn.{completed_from, members_under}
use Rattle.core_nodes.specs.PassedOn.{AreSenses, world_at}
use Rattle.core_nodes.specs.PassedOn.{Sense, sense_in}
use Rattle.core_nodes.specs.PassedOn.{Numbering, Declared, IsDeclaredAt, IsEntityOf, TagsDiffer, KeysRight}
use Rattle.core_nodes.specs.PassedOn.{InitialisesOnce, IsBody, is_tag}
use Rattle.unit_finish.specs.unit_parts.Uses.{least_use}

-- each entity has a type of the table, and the least place of its uses
pub record IsEntered (u : Unit) (e : ℕ) (entity : Entity) : Type 0 where
  pub type : entity.ty.0 < length u.types.terms
  pub used : entity.used ≡ least_use None e u.nodes.items

-- a function's body is no node's child
abbrev pub IsTop : Unit → Entity → Type 0
IsTop u entity =
    entity.storage ≡ FunctionBody
    → (b : ℕ)
    → entity.body ≡ Some b
    → EachNode (trees_of u) (λ n node. Has node.children b → ⊥)

-- and no other entity's body
abbrev pub IsAlone : Unit → ℕ → Entity → Type 0
IsAlone u e entity = entity.storage ≡ FunctionBody → (b : ℕ) → entity.body ≡ Some b → OnlyBody (trees_of u) e b

pub record IsBuilt (s : Source) (name : List ℕ) (u : Unit) : Type 0 where
  pub named : u.name ≡ name
  pub senses : List Sense
  pub are_senses : AreSenses s senses
  pub whole : length senses ≡ length s.nodes
  pub numbering : Numbering
  -- entities: each thing that is declared has one, and there are no others
  pub entity_once : (c d e : ℕ) → numbering c ≡ Some e → numbering d ≡ Some e → c ≡ d
  pub each_declared : (d : ℕ) (what : Declared) → IsDeclaredAt s senses d what
      → (e : ℕ) × (entity : Entity) × (numbering d ≡ Some e) × (entity_at (trees_of u) e ≡ Some entity)
      × IsEntityOf numbering u s.unit what entity
  pub no_other_entity : (e : ℕ) → e < length u.entities.items
      → (d : ℕ) × (what : Declared) × IsDeclaredAt s senses d what × (numbering d ≡ Some e)
  -- each number is an entity's, so nothing has a number that isn't declared
  pub numbered : (d e : ℕ) → numbering d ≡ Some e → e < length u.entities.items
  pub entered : EachEntity (trees_of u) (λ e entity. IsEntered u e entity)
  -- tags: each one has a number of its own, with its members and its key, and there are no others
  pub tag_once : TagsDiffer s
  pub each_tag : (d : ℕ) → is_tag s d ≡ true → s.tag_number d < u.types.tags
  pub no_other_tag : (t : ℕ) → t < u.types.tags → (d : ℕ) × (is_tag s d ≡ true) × (s.tag_number d ≡ t)
  pub members : (d : ℕ) → is_tag s d ≡ true
      → parts_in u.types (members_in u.types (s.tag_number d))
      ≡ members_under (completed_from s senses (sense_in senses) 0) (s.tag_number d)
  pub keys : KeysRight s (sense_in senses) u.tags.items
  pub one_key_each : length u.tags.items ≡ u.types.tags
  -- the table knows the members and the sizes at the tree's end
  pub knows : Knows (world_at s senses (length senses)) u
  -- nodes: each one has a type of the table and stands behind its parts, is the child of one at most, is a body or
  -- stands under one, and each initialiser is a body
  pub ready : IsReady u
  pub child_once : ChildOnce (trees_of u)
  pub tops : EachEntity (trees_of u) (λ e entity. IsTop u entity)
  pub alone : EachEntity (trees_of u) (λ e entity. IsAlone u e entity)
  pub initialises_once : InitialisesOnce u
  pub no_other_node : (i : ℕ) → i < length u.nodes.items → IsBody u i ⊎ ((p : ℕ) × IsChild (trees_of u) p i)
