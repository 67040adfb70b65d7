use Rattle.mod_ref.specs.Ways.{AddsWays}
use Rattle.mod_ref.proofs.Paths.{IsMemberBelow}
use Rattle.mod_ref.proofs.ways.push_members.Given as goal

-- the pairs of the functions so far
abbrev pub invariant-loop-f : goal.invariant-loop-f
invariant-loop-f l = AddsWays l.fn.ways.items l.ways.items (IsMemberBelow l.first l.f)
