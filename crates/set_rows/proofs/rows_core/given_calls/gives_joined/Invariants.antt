use Rattle.std.proofs.Common.{◌≡◌, ℕ, ◌<◌, List, Some, slice_get, Contains, zip}
use Rattle.sol_model.specs.Families.{members}
use Rattle.set_rows.specs.rows_core.Given.{IsCarried}
use Rattle.set_rows.proofs.rows_core.given_calls.gives_joined.Given as goal

-- none of the lists so far carries it
abbrev pub invariant-loop-i : goal.invariant-loop-i
invariant-loop-i l = (k : ℕ) (from to : List ℕ) → k < l.i → slice_get l.from k ≡ Some from → slice_get l.to k ≡ Some to → IsCarried (λ a b. Contains (zip from to) (a, b)) (members l.rows) l.row l.location → ⊥
