-- A declaration's type and the entity's.
use Rattle.std.specs.Prelude.{ℕ, ◌≡◌, ⊤, List, None, Some, slice_get}
use Rattle.c_types.specs.Trees.{Ctype, ArrayOf, FunctionFrom}
use Rattle.c_types.specs.Table.{type_of}
use Rattle.type_rules.specs.Conversions.{result_of}
use Rattle.core_tree.specs.declared.node.Unit.{Unit}
use Rattle.core_tree.specs.declared.node.Program.{Program}
use Rattle.core_tree.specs.declared.node.Entity.{Entity}
use Rattle.link_model.specs.declared.item.Item.{Item}
use Rattle.link_names.specs.Externals.{entity_at, type_in, is_function_type}
use Rattle.unit_link.specs.Linked.{entity_of, joined, LinkedAt}

-- neither a function nor an array without a length
abbrev pub IsClosed : Ctype → Type 0
IsClosed (FunctionFrom result parameters form) = ⊥
IsClosed (ArrayOf of None) = ⊥
IsClosed t = ⊤

-- a declared type and the one that declarations give together
pub record Keeps (own now : Ctype) : Type 0 where
  pub function : is_function_type own ≡ is_function_type now
  pub result : result_of own ≡ result_of now
  pub closed : IsClosed own → own ≡ now

abbrev pub EntityTypes : Type 0
EntityTypes =
    (names : List (List ℕ)) (units : List Unit) (p : Program) (h : LinkedAt names units p)
    (a : Item) (x entity : Entity)
    → entity_at units a ≡ Some x
    → slice_get p.entities.items (entity_of h.entity_numbers a) ≡ Some entity
    → Keeps (type_in (joined units h.numbers p.types) a) (type_of p.types entity.ty.0)
