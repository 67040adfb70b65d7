-- Leaves that came in rising order, with their numbers.
use Rattle.std.specs.Prelude.{ℕ, ◌<◌, ◌≤◌, List, [], ◌∷◌, length, get_or}

abbrev pub pairs_of : List ℕ → List ℕ → List (ℕ × ℕ)
pairs_of [] numbers = []
pairs_of (leaf ∷ leaves) [] = []
pairs_of (leaf ∷ leaves) (number ∷ numbers) = (leaf, number) ∷ pairs_of leaves numbers

-- each leaf is above those before it, and each has a number
pub record AreRising (leaves numbers : List ℕ) : Type 0 where
  pub long : length leaves ≤ length numbers
  pub rises : (i j : ℕ) → i < j → j < length leaves → get_or leaves i 0 < get_or leaves j 0
