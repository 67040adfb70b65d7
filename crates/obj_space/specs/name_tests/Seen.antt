-- The names of the first so many locations, each with its location.
use Rattle.std.specs.Prelude.{ℕ, ◌≡◌, ◌<◌, List, Some, slice_get}
use Rattle.c_types.specs.Index.{number_at}
use Rattle.obj_space.specs.declared.location.Location.{Location}
use Rattle.obj_space.specs.Found.{HasName}

-- they differ, and each is kept
pub record AreSeen (seen : List (List ℕ × ℕ)) (space : List Location) (n : ℕ) : Type 0 where
  pub found : (q : List ℕ) (l : ℕ) → number_at seen q ≡ Some l → (l < n) × HasName space l q
  pub each : (l : ℕ) (location : Location)
      → l < n
      → slice_get space l ≡ Some location
      → number_at seen location.name ≡ Some l
