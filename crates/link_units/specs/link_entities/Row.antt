-- The program's entities, one for each leader among the entities of all units.
use Rattle.std.specs.Prelude.{ℕ, ◌≡◌, ◌<◌, ◌+◌, List, Some, length, slice_index}
use Rattle.core_tree.specs.declared.node.Entity.{Entity}
use Rattle.link_model.specs.declared.item.Item.{Item}
use Rattle.link_model.specs.link_types.Leaders.{leaders_below}
use Rattle.link_names.specs.declared.declared.Declared.{Declared}
use Rattle.link_names.specs.Externals.{Joined, IsExternal, entity_at}
use Rattle.unit_link.specs.Linked.{Entities, IsLinkedName, IsLinkedOther, Stands}
use Rattle.unit_link.specs.declared.link_program.numbers.EntityNumbers.{EntityNumbers}
use Rattle.unit_link.specs.link_program.Rows.{entity_in}

-- the numbers in the program
abbrev pub numbers_of : EntityNumbers → Entities
numbers_of n = entity_in n.starts.items n.numbers.items

-- where an entity stands among those of all units
abbrev pub place_of : EntityNumbers → Item → ℕ
place_of n a = slice_index n.starts.items a.unit + a.number

-- what an entity of a unit is in the program; its type stands in the table
pub record IsLinkedAs (j : Joined) (ds : List Declared) (entities : Entities) (a : Item)
    (x e : Entity) : Type 0 where
  pub within : e.ty.0 < length j.table.terms
  pub name : IsExternal x → IsLinkedName j ds entities x.name e
  pub other : (IsExternal x → ⊥) → IsLinkedOther j entities a x e

-- of the first so many entities of the units, the leaders stand in the program, in order
pub record AreLinked (j : Joined) (ds : List Declared) (n : EntityNumbers) (upto : ℕ)
    (list : List Entity) : Type 0 where
  pub count : length list ≡ leaders_below n.leaders.items upto
  pub each : (a : Item) (x : Entity)
      → entity_at j.units a ≡ Some x
      → place_of n a < upto
      → slice_index n.leaders.items (place_of n a) ≡ place_of n a
      → Stands list (leaders_below n.leaders.items (place_of n a)) (IsLinkedAs j ds (numbers_of n) a x)
