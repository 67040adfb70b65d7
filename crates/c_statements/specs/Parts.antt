-- The core nodes that the parts of a block bring to it.
use Rattle.std.specs.Prelude.{ℕ, List, [], ◌∷◌, ◌++◌, Option, Some, slice_get}
use Rattle.c_results.specs.declared.made.Made.{Made}
use Rattle.c_results.specs.declared.made.Made.TheVariants as made

-- what each of some numbers brings, in order
abbrev pub gathered : (ℕ → List ℕ) → List ℕ → List ℕ
gathered f [] = []
gathered f (c ∷ rest) = f c ++ gathered f rest

-- the core nodes that a part brings: its own, or those that a declaration runs
abbrev pub nodes_of : Option Made → List ℕ
nodes_of (Some (made.Node i)) = i ∷ []
nodes_of (Some (made.Run nodes)) = nodes.items
nodes_of m = []

abbrev pub nodes_made : List Made → ℕ → List ℕ
nodes_made results part = nodes_of (slice_get results part)
