-- What a linked program begins at.
use Rattle.std.specs.Prelude.{ℕ, ◌≡◌, ◌<◌, ◌↔◌, List, [], Some, All, length, slice_get}
use Rattle.core_tree.specs.declared.node.Unit.{Unit}
use Rattle.core_tree.specs.declared.node.Program.{Program}
use Rattle.core_tree.specs.declared.node.Entity.{Entity}
use Rattle.core_tree.specs.declared.node.Storage.TheVariants.{FunctionBody}
use Rattle.core_tree.specs.Typed.{trees_in}
use Rattle.core_tree.specs.Valid.{IsEntryAt}
use Rattle.c_types.specs.declared.key.ObjectKey.TheVariants.{Entity as EntityKey}
use Rattle.obj_space.specs.Space.{locations_in}
use Rattle.obj_space.specs.View.{first_from}
use Rattle.unit_link.specs.Linked.{LinkedAt}
use Rattle.unit_link.specs.Needs.{AreLinkable}

abbrev pub BodiesLocated : Type 0
BodiesLocated =
    (p : Program) (e : ℕ) (x : Entity)
    → slice_get p.entities.items e ≡ Some x
    → x.storage ≡ FunctionBody
    → 0 < length (locations_in p)

-- such a function's object has a first location
abbrev pub BodiesBegin : Type 0
BodiesBegin =
    (p : Program) (e : ℕ) (x : Entity) → slice_get p.entities.items e ≡ Some x → x.storage ≡ FunctionBody
    → (l : ℕ) × (first_from 0 (locations_in p) (EntityKey e) ≡ Some l)

abbrev pub StartLocated : Type 0
StartLocated =
    (names : List (List ℕ)) (units : List Unit) (p : Program)
    → AreLinkable units
    → LinkedAt names units p
    → 0 < length (locations_in p)

-- functions of external linkage with bodies, of integers and pointers alone; none where no entry is named
pub record AreEntries (names : List (List ℕ)) (p : Program) : Type 0 where
  pub each : All (λ e. IsEntryAt (trees_in p) e) p.entries.items
  pub none : (p.entries.items ≡ []) ↔ (names ≡ [])

abbrev pub LinkedEntries : Type 0
LinkedEntries =
    (names : List (List ℕ)) (units : List Unit) (p : Program)
    → AreLinkable units
    → LinkedAt names units p
    → AreEntries names p
