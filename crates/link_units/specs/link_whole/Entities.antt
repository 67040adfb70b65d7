-- The entities of the program that units are.
use Rattle.std.specs.Prelude.{ℕ, ◌≡◌, ◌<◌, ◌^◌, List, Some, length, slice_get}
use Rattle.core_tree.specs.declared.node.Unit.{Unit}
use Rattle.core_tree.specs.declared.node.Entity.{Entity}
use Rattle.link_names.specs.declared.declared.Declared.{Declared}
use Rattle.link_names.specs.Externals.{Joined, AreDeclarations}
use Rattle.link_names.specs.Faults.{AreFaultless}
use Rattle.unit_link.specs.declared.link_program.numbers.EntityNumbers.{EntityNumbers}
use Rattle.unit_link.specs.link_program.Rows.{AreEntityNumbers, OneNumber, OnlyNumbers}
use Rattle.link_units.specs.link_entities.Row.{AreLinked, numbers_of}

-- the declarations are without fault where those entries are named, and the entities are the program's
pub record AreEntitiesOf (entered : List (List ℕ)) (j : Joined) (list : List Entity) (n : EntityNumbers) : Type 0 where
  pub declarations : List Declared
  pub declared : AreDeclarations j.units declarations
  pub faultless : AreFaultless j declarations entered (length declarations)
  pub numbers : AreEntityNumbers j.units n
  pub one : OneNumber j.units (numbers_of n)
  pub only : OnlyNumbers j.units (numbers_of n) n.count
  pub linked : AreLinked j declarations n (length n.leaders.items) list
  pub few : (u : ℕ) (x : Unit) → slice_get j.units u ≡ Some x → length x.nodes.items < 2 ^ 32
