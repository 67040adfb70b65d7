use Rattle.std.proofs.Common.{◌≡◌, ℕ, ◌<◌, Some, slice_get}
use Rattle.sol_model.specs.declared.system.CallSite.{CallSite}
use Rattle.sol_model.specs.Families.{members}
use Rattle.obj_space.specs.View.{view_of}
use Rattle.mod_ref.specs.Direct.{CallTouches}
use Rattle.mod_ref.specs.Gains.{Gains}
use Rattle.mod_ref.proofs.library_calls.add_calls.Given as goal

-- what the calls so far read or write was added
abbrev pub invariant-loop-i : goal.invariant-loop-i
invariant-loop-i l = Gains l.fn.touched l.touched (λ f node. (k : ℕ) × (k < l.i) × ((call : CallSite) × (slice_get l.ground.system.now.calls k ≡ Some call) × ((f ≡ call.caller) × CallTouches (view_of l.ground.space.now) l.ground.system.now (members l.ground.rows.now) l.access call node)))
