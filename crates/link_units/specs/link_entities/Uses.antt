-- The first use of each external name.
use Rattle.std.specs.Prelude.{ℕ, ◌≡◌, ◌⊎◌, List, Option, Some, None, length, Contains}
use Rattle.std.specs.List.{slice_index_or}
use Rattle.pta_base.specs.declared.place.Place.{Place}
use Rattle.core_tree.specs.declared.node.Unit.{Unit}
use Rattle.core_tree.specs.declared.node.Entity.{Entity}
use Rattle.core_tree.specs.Valid.{PlaceAtMost}
use Rattle.link_names.specs.declared.declared.Declared.{Declared}
use Rattle.link_names.specs.Externals.{entity_at, item_of}
use Rattle.link_names.specs.Firsts.{first_of}

-- the earlier of two places, where there are any
abbrev pub IsEarlier : Option Place → Option Place → Option Place → Type 0
IsEarlier None one kept = kept ≡ one
IsEarlier (Some p) None kept = kept ≡ Some p
IsEarlier (Some p) (Some q) kept = ((kept ≡ Some p) × PlaceAtMost p q) ⊎ ((kept ≡ Some q) × PlaceAtMost q p)

-- a declaration of that name among some is used first at that place
pub record Uses (units : List Unit) (ds : List Declared) (name : List ℕ) (place : Place) : Type 0 where
  pub declared : Declared
  pub among : Contains ds declared
  pub entity : Entity
  pub entity_is : entity_at units (item_of declared) ≡ Some entity
  pub named : entity.name ≡ name
  pub used : entity.used ≡ Some place

-- the first use of the declarations of that name among some, if there is one
pub record IsFirstUsed (units : List Unit) (ds : List Declared) (name : List ℕ) (place : Place) : Type 0 where
  pub uses : Uses units ds name place
  pub first : (q : Place) → Uses units ds name q → PlaceAtMost place q

abbrev pub FirstUsed : List Unit → List Declared → List ℕ → Option Place → Type 0
FirstUsed units ds name None = (q : Place) → Uses units ds name q → ⊥
FirstUsed units ds name (Some place) = IsFirstUsed units ds name place

-- the first use of each name among the declarations that were seen, at the name's first declaration
pub record AreUses (units : List Unit) (ds seen : List Declared) (list : List (Option Place)) : Type 0 where
  pub all : length list ≡ length ds
  pub each : (name : List ℕ) (first : ℕ)
      → first_of units ds name ≡ Some first
      → FirstUsed units seen name (slice_index_or list first None)
