use Rattle.std.proofs.Common.{◌≡◌, ◌<◌, length, drop}
use Rattle.core_nodes.specs.Standing.{core_at, IsReady, Builds, Knows}
use Rattle.c_senses.specs.World.{World}
use Rattle.c_senses.specs.Objects.{along}
use Rattle.c_operators.proofs.members.along.Given as goal

-- the members that are left stand over the one that was reached
abbrev pub invariant-loop-k : goal.invariant-loop-k
invariant-loop-k l = record {
  ready : IsReady l.unit;
  builds : Builds l.fn.unit l.unit;
  within : l.reached < length l.unit.nodes.items;
  way : (w : World) → Knows w l.fn.unit → along w l.place l.at l.way (core_at l.fn.unit l.node) ≡ along w l.place l.at (drop l.k-index l.way) (core_at l.unit l.reached);
}
