use Rattle.std.proofs.Common.{rules, ◌≡◌, ◌∙◌, ap, sym, subst, None, Err, ℤ, pos, to_z-of_z, FitsSigned}
use Rattle.std.specs.Prelude.{◌+ℤ◌}
use Rattle.std.specs.Int.{w128}
use Rattle.c_senses.specs.Given.{Given}
use Rattle.c_senses.specs.Sense.{Sense, sense_in}
use Rattle.c_senses.specs.Tags.{enumerator_named, enumerator_of, value_before}
use Rattle.c_results.specs.Standing.{senses_made, Rowed}
use Rattle.tree_reads.specs.Sources.{source_in}
use Rattle.c_tags.proofs.Enumerating.{by_value, by_fault, counts_on}
use Rattle.c_tags.proofs.enumerations.enumerator_named.Goals as goal

pub returns-in_default-clause-within : goal.returns-in_default-clause-within
returns-in_default-clause-within c = c.counted_on.ensures.within c.args.unit.now

pub returns-in_default-clause-row : goal.returns-in_default-clause-row
returns-in_default-clause-row c = λ w uses k.
    let u = c.args.unit.now in
    let s = source_in c.args.syntax.now uses in
    let sense = sense_in (senses_made u c.args.results.now) in
    let fits : FitsSigned w128 c.value_before.result = search rules in
    let none : c.args.expression ≡ None = c.in_default.is in
    let h = c.counted_on.ensures.row u w s sense c.args.at in
    let before = c.value_before.ensures u w s ∙ ap (value_before w s sense) (c.before_enumerator.ensures w sense) in
    subst (λ (g : Given Sense). Rowed u c.counted_on.result g) (ap (λ (n : ℤ). enumerator_of w s sense c.args.at c.args.leaf (n +ℤ pos 1)) (to_z-of_z fits) ∙ counts_on w s sense c.args.at c.args.leaf c.value_before.result before ∙ ap (enumerator_named w s sense c.args.at c.args.leaf) (sym none)) h

pub returns-in-Ok-clause-within : goal.returns-in-Ok-clause-within
returns-in-Ok-clause-within c = c.enumerator_of.ensures.within c.args.unit.now

pub returns-in-Ok-clause-row : goal.returns-in-Ok-clause-row
returns-in-Ok-clause-row c = λ w uses k.
    let u = c.args.unit.now in
    let s = source_in c.args.syntax.now uses in
    let sense = sense_in (senses_made u c.args.results.now) in
    let fits : FitsSigned w128 c.in-Ok.value = search rules in
    let named = by_value w s sense c.args.at c.args.leaf c.in-Some.expression c.in-Ok.value (c.in-Ok.ensures.value w uses k) in
    subst (λ (g : Given Sense). Rowed u c.enumerator_of.result g) (ap (enumerator_of w s sense c.args.at c.args.leaf) (to_z-of_z fits) ∙ (sym named ∙ ap (enumerator_named w s sense c.args.at c.args.leaf) (sym c.in-Some.is))) (c.enumerator_of.ensures.row u w s sense c.args.at)

pub returns-in-Err-clause-row : goal.returns-in-Err-clause-row
returns-in-Err-clause-row c = λ w uses k.
    let u = c.args.unit.now in
    let s = source_in c.args.syntax.now uses in
    let sense = sense_in (senses_made u c.args.results.now) in
    subst (λ (g : Given Sense). Rowed u (Err c.in-Err.fault) g) (ap (enumerator_named w s sense c.args.at c.args.leaf) (sym c.in-Some.is)) (by_fault w s sense u c.args.at c.args.leaf c.in-Some.expression c.in-Err.fault (c.in-Err.ensures.value w uses k))
