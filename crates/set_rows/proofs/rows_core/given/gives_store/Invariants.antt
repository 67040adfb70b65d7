use Rattle.std.proofs.Common.{◌≡◌, ℕ, ◌<◌, Some}
use Rattle.sol_model.specs.Families.{Has, members}
use Rattle.sol_model.specs.Places.{sub_of}
use Rattle.set_rows.proofs.rows_core.given.gives_store.Given as goal

-- none of the locations so far leads to the row
abbrev pub invariant-loop-pointed : goal.invariant-loop-pointed
invariant-loop-pointed l = (pointed : ℕ) → pointed < l.pointed → Has (members l.rows) l.pointer pointed → sub_of l.system pointed l.ty l.sub ≡ Some l.row → ⊥
