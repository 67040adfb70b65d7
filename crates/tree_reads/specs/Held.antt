-- Parents of nodes in four bytes each.
use Rattle.std.specs.Prelude.{ℕ, ◌==◌, List, Option, Some, None, if◌then◌else◌}

-- the parents of nodes, by number
pub record Parents : Type 0 where
  pub items : List (Option ℕ)

-- the number that stands where a node has none: no tree has so many nodes that it is one's own
abbrev pub no_parent : ℕ
no_parent = 4294967295

abbrev pub parent_held : ℕ → Option ℕ
parent_held p = if p == no_parent then None else Some p
