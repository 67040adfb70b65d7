use Rattle.std.proofs.Common.{◌≡◌, ◌<◌, ◌-◌, ◌^◌, ℕ, length, get_or}
use Rattle.unit_finish.specs.planted_nodes.Grown.{IsGrown, IsCovered, AreMet, GrowsFrom}
use Rattle.unit_finish.proofs.planted_nodes.growing.grow.Given as goal

-- all positions behind the root so far are those of children
abbrev pub invariant-loop-plan : goal.invariant-loop-plan
invariant-loop-plan l = record {
  grown : IsGrown l.nodes l.plan.origins.items l.plan.starts.items;
  are_met : AreMet l.nodes l.plan.origins.items l.plan.starts.items l.plan.met.items;
  grows : GrowsFrom l.fn.plan.origins.items l.fn.plan.starts.items l.plan.origins.items l.plan.starts.items;
  few : length l.plan.origins.items < 2 ^ 32;
  root : get_or l.plan.origins.items (length l.fn.plan.origins.items) 0 ≡ l.root;
  within : length l.fn.plan.origins.items < length l.plan.origins.items;
  covered : (q : ℕ) → length l.fn.plan.origins.items < q → q < length l.plan.origins.items → IsCovered l.nodes l.plan.origins.items l.plan.starts.items q;
}

abbrev pub decreases-loop-plan : goal.decreases-loop-plan
decreases-loop-plan l = 2 ^ 32 - length l.plan.starts.items
