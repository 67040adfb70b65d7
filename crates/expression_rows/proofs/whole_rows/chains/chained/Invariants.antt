use Rattle.std.proofs.Common.{◌≡◌, ◌<◌, ◌≤◌, ◌-◌, drop, length, All}
use Rattle.c_senses.specs.World.{World}
use Rattle.c_senses.specs.Sense.{sense_in}
use Rattle.c_senses.specs.Expressions.{chained}
use Rattle.core_nodes.specs.Standing.{core_at, IsReady, Builds, Knows}
use Rattle.c_senses.specs.Operators.{between}
use Rattle.c_conversions.specs.Constants.{HasRows}
use Rattle.expression_rows.specs.whole_rows.Constants.{HaveRowsMade}
use Rattle.c_results.specs.Standing.{senses_made, IsWithin}
use Rattle.tree_reads.specs.Sources.{source_read}
use Rattle.expression_rows.proofs.whole_rows.chains.chained.Given as goal

-- what is left of the chain stands over what was made so far
abbrev pub invariant-loop-i : goal.invariant-loop-i
invariant-loop-i l = record {
  ready : IsReady l.unit;
  builds : Builds l.fn.unit l.unit;
  within : l.i ≤ length l.children;
  left : l.left < length l.unit.nodes.items;
  results : All (IsWithin l.unit) l.results;
  rows : HaveRowsMade l.unit l.results;
  done : HasRows (core_at l.unit l.left);
  chain : (w : World) → Knows w l.fn.unit → chained w (source_read l.syntax) (sense_in (senses_made l.fn.unit l.results)) (between w) l.at l.single (core_at l.fn.unit l.first) l.children ≡ chained w (source_read l.syntax) (sense_in (senses_made l.fn.unit l.results)) (between w) l.at l.single (core_at l.unit l.left) (drop l.i l.children);
}

abbrev pub decreases-loop-i : goal.decreases-loop-i
decreases-loop-i l = length l.children - l.i
