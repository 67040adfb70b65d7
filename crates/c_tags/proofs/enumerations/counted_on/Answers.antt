use Rattle.std.proofs.Common.{rules, arith, ◌≡◌, ◌∙◌, ap, subst, to_z-of_z, to_z, of_z, FitsSigned, ℤ, pos, false}
use Rattle.std.specs.Prelude.{◌+ℤ◌}
use Rattle.std.specs.Int.{w128}
use Rattle.std.proofs.lemmas.Int.{ints}
use lib.Signed.{lt_z}
use Rattle.c_senses.specs.Tags.{enumerator_of}
use Rattle.c_results.specs.Standing.{Rowed}
use Rattle.c_tags.proofs.enumerations.counted_on.Goals as goal

next_fits : (n : ℤ) → FitsSigned w128 n → lt_z (pos 2147483646) n ≡ false → FitsSigned w128 (n +ℤ pos 1)
next_fits n f below = record { sfits = grind (arith, ints, f.sfits) }

pub returns-clause-row : goal.returns-clause-row
returns-clause-row c = λ u w s sense at.
    let fits : FitsSigned w128 c.args.before = search rules in
    let same : to_z w128 (of_z w128 c.args.before) ≡ c.args.before = to_z-of_z fits in
    let more : FitsSigned w128 (c.args.before +ℤ pos 1) = next_fits c.args.before fits (subst (λ (n : ℤ). lt_z (pos 2147483646) n ≡ false) same c.if-before-gt2147483646.false) in
    subst (λ (n : ℤ). Rowed u c.enumerator_of.result (enumerator_of w s sense at c.args.leaf n)) (ap (λ (n : ℤ). to_z w128 (of_z w128 (n +ℤ pos 1))) same ∙ to_z-of_z more) (c.enumerator_of.ensures.row u w s sense at)
