use Rattle.std.proofs.Common.{All, take}
use Rattle.sol_model.specs.Systems.{location_count}
use Rattle.row_share.specs.share_laws.Onward.{LeadsOn}
use Rattle.row_share.proofs.row_classes.onward.copies_lead_on.Given as goal

abbrev pub invariant-loop-i : goal.invariant-loop-i
invariant-loop-i l = All (LeadsOn (location_count l.system)) (take l.i l.system.constraints)
