use Rattle.std.proofs.Common.{arith, ◌≡◌, ℕ, suc, ◌-◌, Bool, false, List, [], ◌∷◌, length, Option, Some, None, slice_get, ap, ◌∙◌}
use Rattle.c_types.specs.Table.{Table}
use Rattle.c_results.specs.declared.derivation.Derivation.{Derivation}
use Rattle.c_results.specs.Standing.{derivation_seen, derivations_seen}
use Rattle.c_senses.specs.Entities.{takes_further, ends_further}
use Rattle.name_places.proofs.around.ends_further.Goals as goal

abbrev last_takes : Table → Option Derivation → Bool
last_takes table None = false
last_takes table (Some d) = takes_further (derivation_seen table d)

by_last : (table : Table) (steps : List Derivation) (o : Option Derivation) → o ≡ slice_get steps (length steps - 1) → last_takes table o ≡ ends_further (derivations_seen table steps)
by_last table [] o h = ap (last_takes table) h
by_last table (d ∷ []) o h = ap (last_takes table) h
by_last table (d ∷ e ∷ rest) o h =
    let k : length (d ∷ e ∷ rest) - 1 ≡ suc (length (e ∷ rest) - 1) = omega arith in
    by_last table (e ∷ rest) o (h ∙ ap (slice_get (d ∷ e ∷ rest)) k)

pub returns-in-Some : goal.returns-in-Some
returns-in-Some c = λ u. c.takes_further.ensures u ∙ by_last u.types c.args.steps.now (Some c.in-Some.step.now) c.in-Some.ensures.value

pub returns-in-None : goal.returns-in-None
returns-in-None c = λ u. by_last u.types c.args.steps.now None c.in-None.ensures.value
