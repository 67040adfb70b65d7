use Rattle.std.proofs.Common.{◌≡◌, ℕ, ◌<◌, Some}
use Rattle.sol_model.specs.Families.{Has, members}
use Rattle.sol_model.specs.Places.{field_of}
use Rattle.set_rows.proofs.rows_core.given.gives_field.Given as goal

-- none of the locations so far has the member there
abbrev pub invariant-loop-whole : goal.invariant-loop-whole
invariant-loop-whole l = (whole : ℕ) → whole < l.whole → Has (members l.rows) l.from whole → field_of l.system whole l.ty l.member ≡ Some l.location → ⊥
