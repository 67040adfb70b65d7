use Rattle.std.proofs.Common.{◌≡◌, ◌<◌, ℕ, true, false, Some, slice_get}
use Rattle.sol_model.specs.Families.{IsContained, members, room_left}
use Rattle.mod_ref.specs.Ways.{Spreads}
use Rattle.mod_ref.proofs.spreading.pass.Given as goal

-- the rows spread along the pairs so far
abbrev pub invariant-loop-i : goal.invariant-loop-i
invariant-loop-i l = record {
  spreads : Spreads l.ways l.fn.rows l.rows;
  same : l.changed ≡ false → l.rows ≡ l.fn.rows;
  closed : l.changed ≡ false → (k key caller callee : ℕ) → k < l.i → slice_get l.ways k ≡ Some (key, caller, callee) → IsContained (members l.rows) callee caller;
  less_room : l.changed ≡ true → room_left l.rows < room_left l.fn.rows;
}
