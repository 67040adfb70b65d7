use Rattle.std.proofs.Common.{Contains, ℕ, List, subst, sym}
use Rattle.sol_model.specs.Families.{members}
use Rattle.mod_ref.specs.Gains.{In}
use Rattle.mod_ref.specs.Places.{IsReached, IsReachedBy}
use Rattle.mod_ref.proofs.Calling.{held_known}
use Rattle.mod_ref.proofs.Gaining.{gains_as}
use Rattle.mod_ref.proofs.inserting.insert_by.Goals as goal

pub insert_each-requires-clause-held : goal.insert_each-requires-clause-held
insert_each-requires-clause-held c = held_known c.args.system.now (members c.args.rows.now) c.args.from _ _ c.requires.fits.no_others c.in_ok-held.ensures.has c.as_slice.ensures.value

pub returns-clause-gains : goal.returns-clause-gains
returns-clause-gains c =
    gains_as c.args.touched.now c.insert_each.new.touched
    (In c.args.row (λ node. (location : ℕ) × Contains c.as_slice.result.now location × IsReached c.args.system.now c.args.ty location node))
    (In c.args.row (IsReachedBy c.args.system.now (members c.args.rows.now) c.args.ty c.args.from))
    c.insert_each.ensures.gains
    (λ r node h. let l = h.1 in (h.0, (l.0, (c.in_ok-held.ensures.has l.0).0 (subst (λ (xs : List ℕ). Contains xs l.0) c.as_slice.ensures.value l.1), l.2)))
    (λ r node h. let l = h.1 in (h.0, (l.0, subst (λ (xs : List ℕ). Contains xs l.0) (sym c.as_slice.ensures.value) ((c.in_ok-held.ensures.has l.0).1 l.1), l.2)))
