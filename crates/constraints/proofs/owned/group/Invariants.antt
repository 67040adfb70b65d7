use Rattle.std.proofs.Common.{◌≡◌, ℕ, take}
use Rattle.std.specs.List.{filter}
use Rattle.core_tree.specs.Typed.{trees_in}
use Rattle.row_numbers.specs.Functions.{is_owned_by, entity_in}
use Rattle.constraints.specs.Owned.{listed}
use Rattle.constraints.proofs.owned.group.Given as goal

-- each function's list has its own among the first keys
abbrev pub invariant-loop-key : goal.invariant-loop-key
invariant-loop-key l = (f : ℕ) → listed l.owned.lists.items f ≡ filter (λ key. is_owned_by f (entity_in (trees_in l.program) key)) (take l.key-index l.keys)
