use Rattle.std.proofs.Common.{◌≡◌, ℕ, List, length, subst, sym, ◌↔◌}
use Rattle.sol_model.specs.Families.{members}
use Rattle.mod_ref.specs.Ways.{AreBelow, AreWays}
use Rattle.mod_ref.proofs.Touching.{edges_below}
use Rattle.mod_ref.proofs.whole.both.Goals as goal

pub ways-requires : goal.ways-requires
ways-requires c =
    rw c.as_slice-listed.ensures.value (subst (λ n. AreBelow n c.in_ok-edges.edges.items) (sym c.requires.functions)
    (edges_below c.args.ground.now.system.now (members c.args.ground.now.rows.now) c.in_ok-edges.edges.items c.requires.ground.valid c.in_ok-edges.ensures.graph))

pub touched-requires-clause-ways : goal.touched-requires-clause-ways
touched-requires-clause-ways c = (c.in_ok-edges.edges.items, c.in_ok-edges.ensures.graph, rw c.as_slice-ways.ensures.value (rw c.as_slice-listed.ensures.value at c.in_ok-keyed.ensures.ways))

pub touched-requires-clause-below : goal.touched-requires-clause-below
touched-requires-clause-below c = rw c.as_slice-ways.ensures.value c.in_ok-keyed.ensures.below

pub touched-requires-2-clause-ways : goal.touched-requires-2-clause-ways
touched-requires-2-clause-ways c = (c.in_ok-edges.edges.items, c.in_ok-edges.ensures.graph, rw c.as_slice-ways.ensures.value (rw c.as_slice-listed.ensures.value at c.in_ok-keyed.ensures.ways))

pub touched-requires-2-clause-below : goal.touched-requires-2-clause-below
touched-requires-2-clause-below c = rw c.as_slice-ways.ensures.value c.in_ok-keyed.ensures.below
