-- What each linked program keeps.
use Rattle.std.specs.Prelude.{ℕ, ◌≡◌, true, is_some, List, Some, slice_get}
use Rattle.c_types.specs.Table.{type_of}
use Rattle.core_tree.specs.declared.node.Unit.{Unit}
use Rattle.core_tree.specs.declared.node.Program.{Program}
use Rattle.core_tree.specs.declared.node.Entity.{Entity}
use Rattle.link_names.specs.Externals.{IsExternal}
use Rattle.link_names.specs.Faults.{IsMainType, main_name}
use Rattle.unit_link.specs.Linked.{Linked, LinkedAt}

-- no two external entities have one name
pub record NamedOnce (p : Program) : Type 0 where
  pub once : (e f : ℕ) (x y : Entity)
      → slice_get p.entities.items e ≡ Some x
      → slice_get p.entities.items f ≡ Some y
      → IsExternal x
      → IsExternal y
      → x.name ≡ y.name
      → e ≡ f

-- `main` is a function with a body, of external linkage and one of its types
pub record DefinesMain (p : Program) : Type 0 where
  pub number : ℕ
  pub entity : Entity
  pub entity_is : slice_get p.entities.items number ≡ Some entity
  pub external : IsExternal entity
  pub named : entity.name ≡ main_name
  pub body : is_some entity.body ≡ true
  pub type : IsMainType (type_of p.types entity.ty.0)

abbrev pub LinkedOnce : Type 0
LinkedOnce = (names : List (List ℕ)) (units : List Unit) (p : Program) → LinkedAt names units p → NamedOnce p

abbrev pub LinkedMain : Type 0
LinkedMain = (units : List Unit) (p : Program) → Linked units p → DefinesMain p
