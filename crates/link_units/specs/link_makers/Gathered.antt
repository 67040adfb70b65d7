-- What is gathered of each name, at its first declaration.
use Rattle.std.specs.Prelude.{ℕ, ◌≡◌, ◌<◌, Bool, true, false, fold, List, Option, Some, None, length}
use Rattle.std.specs.List.{slice_index_or}
use Rattle.core_tree.specs.declared.node.Unit.{Unit}
use Rattle.pta_base.specs.declared.place.Place.{Place}
use Rattle.link_names.specs.declared.declared.Declared.{Declared}
use Rattle.link_names.specs.Together.{of_name}
use Rattle.link_names.specs.Firsts.{first_of}

-- for each name what its declarations among those that were seen give, step by step
pub record AreGathered {V : Type 0} (units : List Unit) (ds : List Declared) (step : V → Declared → V)
    (start : V) (seen : List Declared) (list : List V) : Type 0 where
  pub all : length list ≡ length ds
  pub each : (name : List ℕ) (first : ℕ)
      → first_of units ds name ≡ Some first
      → slice_index_or list first start ≡ fold step start (of_name units name seen)

-- the first declaration that passes
abbrev pub first_passing : Option Declared → Bool → Declared → Option Declared
first_passing (Some found) passes d = Some found
first_passing None true d = Some d
first_passing None false d = None
