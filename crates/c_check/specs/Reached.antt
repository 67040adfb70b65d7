-- A walk over the rows of a unit's nodes, up to one of them.
use Rattle.std.specs.Prelude.{ℕ, ◌+◌, ◌<◌}
use Rattle.c_scope.specs.declared.resolving.Bound.{Bound}
use Rattle.c_scope.specs.Resolves.{IsBound}
use Rattle.unit_walk.specs.declared.units.Walked.{Walked}
use Rattle.unit_walk.specs.unit_rows.Standing.{Stand}
use Rattle.unit_walk.specs.Ground.{IsGround, source_ground, nodes_ground}
use Rattle.unit_walk.specs.Stopping.{IsWalkedTo}

-- what is known of the unit stands, and what the rows up to the node gave
pub record Reaches (w : Walked) (bound : Bound) (node : ℕ) : Type 0 where
  pub bound_are : IsBound w.ground.numbered.syntax.tokens.now w.ground.numbered.syntax.tree.now bound
  pub ground : IsGround w.ground bound
  pub stand : Stand (nodes_ground w.ground) w.unit w.results
  pub inside : node < nodes_ground w.ground
  pub walked : IsWalkedTo (source_ground w.ground bound) (node + 1) w.unit w.results

unfoldable pub IsReached : Bound → ℕ → Walked → Type 0
IsReached bound node w = Reaches w bound node
