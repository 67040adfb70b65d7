-- What has been made, by its place among all that has been.
use Rattle.std.specs.Prelude.{◌≡◌, ◌≤◌, ℕ, zero, suc, List, map, length, get_or, All}
use Rattle.c_results.specs.declared.made.Made.{Made}
use Rattle.c_results.specs.declared.made.Made.TheVariants.{Nothing}

-- nothing stands at place 0, and the list's items at those from 1 on
abbrev pub made_at_place : List Made → ℕ → Made
made_at_place made zero = Nothing
made_at_place made (suc k) = get_or made k Nothing

abbrev pub listed : List Made → List ℕ → List Made
listed made places = map (made_at_place made) places

-- the places are those of the list, and what is lent at place 0 is nothing
pub record ArePlaced (made : List Made) (places : List ℕ) (nothing : Made) : Type 0 where
  pub empty : nothing ≡ Nothing
  pub each : All (λ p. p ≤ length made) places
