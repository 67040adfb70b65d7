use Rattle.std.proofs.Common.{◌↔◌, ℕ, List, Contains, sym, subst}
use Rattle.sol_model.specs.Families.{Has, members}
use Rattle.stop_places.proofs.Fitting.{misfit_is}
use Rattle.stop_places.proofs.fits.has_misfit.Goals as goal

pub returns : goal.returns
returns c =
    misfit_is c.args.system.now (members c.args.rows.now) c.args.row c.args.number c.as_slice.result.now c.any_misfit.result c.any_misfit.ensures
    (subst (λ (xs : List ℕ). (l : ℕ) → Contains xs l ↔ Has (members c.args.rows.now) c.args.row l) (sym c.as_slice.ensures.value) c.in_ok-list.ensures.has)
