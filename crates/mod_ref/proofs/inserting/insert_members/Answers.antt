use Rattle.std.proofs.Common.{Contains, ℕ, List, subst, sym}
use Rattle.sol_model.specs.Families.{Has, members}
use Rattle.mod_ref.specs.Gains.{In}
use Rattle.mod_ref.proofs.Calling.{held_known}
use Rattle.mod_ref.proofs.Gaining.{gains_as}
use Rattle.mod_ref.proofs.inserting.insert_members.Goals as goal

pub insert_all-requires-clause-held : goal.insert_all-requires-clause-held
insert_all-requires-clause-held c = held_known c.args.system.now (members c.args.rows.now) c.args.from _ _ c.requires.fits.no_others c.in_ok-held.ensures.has c.as_slice.ensures.value

pub returns-clause-gains : goal.returns-clause-gains
returns-clause-gains c =
    gains_as c.args.touched.now c.insert_all.new.touched (In c.args.row (Contains c.as_slice.result.now)) (In c.args.row (Has (members c.args.rows.now) c.args.from))
    c.insert_all.ensures.gains
    (λ r l h. (h.0, (c.in_ok-held.ensures.has l).0 (subst (λ (xs : List ℕ). Contains xs l) c.as_slice.ensures.value h.1)))
    (λ r l h. (h.0, subst (λ (xs : List ℕ). Contains xs l) (sym c.as_slice.ensures.value) ((c.in_ok-held.ensures.has l).1 h.1)))
