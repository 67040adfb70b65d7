use Rattle.std.proofs.Common.{ℕ, ◌<◌}
use Rattle.sol_model.specs.Families.{members}
use Rattle.mod_ref.specs.Direct.{OwnTouches}
use Rattle.mod_ref.specs.Gains.{Gains}
use Rattle.mod_ref.specs.Ground.{setting_in}
use Rattle.mod_ref.proofs.bodies.add_bodies.Given as goal

-- what the nodes so far read or write was added
abbrev pub invariant-loop-n : goal.invariant-loop-n
invariant-loop-n l = Gains l.fn.touched l.touched (λ f location. (k : ℕ) × (k < l.n) × OwnTouches (setting_in l.ground) l.ground.system.now (members l.ground.rows.now) l.access k f location)
