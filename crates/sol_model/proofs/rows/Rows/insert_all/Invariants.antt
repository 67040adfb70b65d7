use Rattle.std.proofs.Common.{◌≡◌}
use Rattle.sol_model.proofs.Growing.{JoinedBelow}
use Rattle.sol_model.proofs.rows.Rows.insert_all.Given as goal

-- the words before i of the one row were added to the other
abbrev pub invariant-loop-i : goal.invariant-loop-i
invariant-loop-i l = record {
  width : l.self.width ≡ l.fn.self.width;
  joined : JoinedBelow l.fn.self.width l.fn.self.words l.self.words l.from l.to l.i;
}
