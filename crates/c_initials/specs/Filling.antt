-- What can be initialised in a world's tags.
use Rattle.std.specs.Prelude.{ℕ, ◌≡◌}
use Rattle.core_tree.specs.declared.node.Unit.{Unit}
use Rattle.c_inits.specs.Tables as tables
use Rattle.c_senses.specs.World.{World}

-- it is what a unit's types say
pub record Fills (w : World) (u : Unit) : Type 0 where
  pub fillable : (tag : ℕ) → w.fillable tag ≡ tables.fillable u.types tag
