use Rattle.std.proofs.Common.{◌≡◌, ℕ, ◌<◌, List, None, Some, Contains, slice_get}
use Rattle.sol_model.specs.Families.{members}
use Rattle.mod_ref.specs.Gains.{Gains}
use Rattle.mod_ref.specs.Places.{IsReachedBy}
use Rattle.mod_ref.proofs.library_calls.insert_arguments.Given as goal

-- what the arguments so far lead to was added
abbrev pub invariant-loop-i : goal.invariant-loop-i
invariant-loop-i l = Gains l.fn.touched l.touched (λ r node. (k : ℕ) × (k < l.i) × ((list : List ℕ) × (slice_get l.call.arguments k ≡ Some list) × ((r ≡ l.row) × ((from : ℕ) × Contains list from × IsReachedBy l.ground.system.now (members l.ground.rows.now) None from node))))
