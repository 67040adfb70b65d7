use Rattle.std.proofs.Common.{◌≡◌, ℕ, ◌<◌, None, Some, slice_get}
use Rattle.sol_model.specs.Families.{members}
use Rattle.mod_ref.specs.Gains.{Gains}
use Rattle.mod_ref.specs.Places.{IsReachedBy}
use Rattle.mod_ref.proofs.library_calls.insert_rows.Given as goal

-- what the rows so far lead to was added
abbrev pub invariant-loop-i : goal.invariant-loop-i
invariant-loop-i l = Gains l.fn.touched l.touched (λ r node. (k : ℕ) × (k < l.i) × ((from : ℕ) × (slice_get l.list k ≡ Some from) × ((r ≡ l.row) × IsReachedBy l.ground.system.now (members l.ground.rows.now) None from node)))
