-- Numbers kept for leaves.
use Rattle.std.specs.Prelude.{ℕ, List, Option}
use Rattle.std.specs.Ordering.{nat_cmp, is_eq}
use Rattle.std.specs.Map.{lookup}

-- the number that is kept for a leaf
abbrev pub number_at : List (ℕ × ℕ) → ℕ → Option ℕ
number_at entries leaf = lookup (λ k. is_eq (nat_cmp leaf k)) entries
