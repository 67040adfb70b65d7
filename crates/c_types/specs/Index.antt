-- Numbers kept for lists of numbers.
use Rattle.std.specs.Prelude.{ℕ, List, Option}
use Rattle.std.specs.Ordering.{nat_cmp, is_eq}
use Rattle.std.specs.Cmp.Lexicographic.{slice_cmp}
use Rattle.std.specs.Map.{lookup}

-- the number that is kept for a list
abbrev pub number_at : List (List ℕ × ℕ) → List ℕ → Option ℕ
number_at entries key = lookup (λ k. is_eq (slice_cmp nat_cmp key k)) entries
