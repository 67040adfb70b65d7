use Rattle.std.proofs.Common.{Some, refl}
use Rattle.mod_ref.specs.Gains.{In}
use Rattle.mod_ref.specs.Places.{IsReached, IsUnder}
use Rattle.mod_ref.proofs.Gaining.{gains_as, gains_same}
use Rattle.mod_ref.proofs.inserting.insert_accessed.Goals as goal

pub returns-then-leads_from-clause-gains : goal.returns-then-leads_from-clause-gains
returns-then-leads_from-clause-gains c =
    gains_as c.args.touched.now c.insert_under.new.touched (In c.args.row (IsUnder c.args.system.now c.args.location)) (In c.args.row (IsReached c.args.system.now (Some c.args.ty) c.args.location))
    c.insert_under.ensures.gains
    (λ r node h. (h.0, (c.if-leads_from.ensures.yes refl node).1 h.1))
    (λ r node h. (h.0, (c.if-leads_from.ensures.yes refl node).0 h.1))

pub returns-else-leads_from-clause-gains : goal.returns-else-leads_from-clause-gains
returns-else-leads_from-clause-gains c = gains_same _ _ (λ r node h. c.if-leads_from.ensures.no refl node h.1)
