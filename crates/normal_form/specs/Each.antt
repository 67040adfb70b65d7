-- An assignment for each kept node of a type.
use Rattle.std.specs.Prelude.{ℕ, ◌+◌, ◌≤◌, ◌^◌, List, [], ◌∷◌, map, take}
use Rattle.c_types.specs.Trees.{Ctype}
use Rattle.row_numbers.specs.Kept.{kept, kept_count}
use Rattle.normal_form.specs.declared.each.Each.{Each}
use Rattle.normal_form.specs.declared.each.Each.TheVariants.{Copies, Spreads, Loads, Stores, Puts, Gathers}
use Rattle.normal_form.specs.declared.normal.Assignment.{Assignment}
use Rattle.normal_form.specs.declared.normal.Assignment.TheVariants.{Copy, Load, Store}

-- the one for a node, where so many kept nodes stand before it
abbrev pub made : Each → ℕ → ℕ → Assignment
made (Copies to from) before node = Copy (to + before) (from + before)
made (Spreads to from) before node = Copy (to + before) from
made (Loads to pointer ty) before node = Load (to + before) pointer ty node
made (Stores pointer from ty) before node = Store pointer (from + before) ty node
made (Puts location from) before node = Copy (location + node) (from + before)
made (Gathers location from) before node = Copy location (from + before)

abbrev pub each_made : Each → ℕ → List ℕ → List Assignment
each_made each before [] = []
each_made each before (node ∷ rest) = made each before node ∷ each_made each (before + 1) rest

-- numbers that leave room for all nodes
abbrev pub IsSmall : Each → Type 0
IsSmall (Copies to from) = (to ≤ 2 ^ 25) × (from ≤ 2 ^ 25)
IsSmall (Spreads to from) = to ≤ 2 ^ 25
IsSmall (Loads to pointer ty) = to ≤ 2 ^ 25
IsSmall (Stores pointer from ty) = from ≤ 2 ^ 25
IsSmall (Puts location from) = (location ≤ 2 ^ 25) × (from ≤ 2 ^ 25)
IsSmall (Gathers location from) = from ≤ 2 ^ 25

-- one for each kept node of these
abbrev pub made_for : Each → List Ctype → List Assignment
made_for each nodes = map (λ i. made each (kept_count (take i nodes)) i) (kept nodes)
