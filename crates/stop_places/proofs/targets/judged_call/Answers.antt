use Rattle.std.proofs.Common.{◌↔◌, ℕ, List, Contains, sym, subst}
use Rattle.sol_model.specs.Families.{Has, members}
use Rattle.stop_places.proofs.Judging.{judged_so}
use Rattle.stop_places.proofs.targets.judged_call.Goals as goal

pub returns : goal.returns
returns c =
    let F = members c.args.rows.now in
    let call = c.args.call.now in
    judged_so c.args.system.now F call c.as_slice.result.now c.requires.valid (λ l h. c.requires.fits.no_others call.callee l h)
    (subst (λ (xs : List ℕ). (l : ℕ) → Contains xs l ↔ Has F call.callee l) (sym c.as_slice.ensures.value) c.in_ok-held.ensures.has)
    c.judge.result c.judge.ensures
