use Rattle.std.proofs.Common.{◌≡◌, ◌++◌, ℕ, map, drop}
use Rattle.c_inits.specs.Items.{placed_of}
use Rattle.c_senses.specs.World.{World}
use Rattle.c_senses.specs.Tree.{Source}
use Rattle.c_senses.specs.Sense.{Sense}
use Rattle.c_senses.specs.Initialised as spec
use Rattle.c_initials.proofs.objects.paths_of.Given as goal

-- the paths so far, and those of the items that are left
abbrev pub invariant-loop-item : goal.invariant-loop-item
invariant-loop-item l = (w : World) (s : Source) (sense : ℕ → Sense) → spec.paths_of w s sense (map placed_of l.items) ≡ l.paths ++ spec.paths_of w s sense (map placed_of (drop l.item-index l.items))
