-- What one fact needs, where its row and location are known.
use Rattle.std.specs.Prelude.{ℕ}
use Rattle.sol_model.specs.Families.{Family, Has}

-- an edge leads into the row from a row that has the location
abbrev pub IsCarried : (ℕ → ℕ → Type 0) → Family → ℕ → ℕ → Type 0
IsCarried Edge F row location = (from : ℕ) × Edge from row × Has F from location
