-- What makes each name's object or function, and where the name is used first.
use Rattle.std.specs.Prelude.{ℕ, ◌≡◌, ◌⊎◌, List, Option, Some, None, length, slice_get}
use Rattle.std.specs.List.{slice_index_or}
use Rattle.std.specs.Option.{option_and_then}
use Rattle.core_tree.specs.declared.node.Unit.{Unit}
use Rattle.core_tree.specs.declared.node.Entity.{Entity}
use Rattle.core_tree.specs.Valid.{PlaceAtMost}
use Rattle.pta_base.specs.declared.place.Place.{Place}
use Rattle.link_names.specs.declared.declared.Declared.{Declared}
use Rattle.link_names.specs.Externals.{Joined, entity_at, item_of}
use Rattle.link_names.specs.Together.{of_name, maker_of}
use Rattle.link_names.specs.Firsts.{first_of}

-- the declaration that makes each name, at the name's first declaration
pub record AreMakers (j : Joined) (ds makers : List Declared) : Type 0 where
  pub all : length makers ≡ length ds
  pub each : (name : List ℕ) (first : ℕ)
      → first_of j.units ds name ≡ Some first
      → slice_get makers first ≡ maker_of j ds name
