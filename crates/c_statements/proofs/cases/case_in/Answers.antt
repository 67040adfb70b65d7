use Rattle.std.proofs.Common.{true, false, rules, is_some, to_z-of_z, FitsSigned, sym, ap, ◌∙◌, subst}
use Rattle.std.specs.Prelude.{ℤ}
use Rattle.std.specs.Int.{w128}
use Rattle.core_tree.specs.declared.node.NodeKind.TheVariants.{Case}
use Rattle.c_consts.specs.Core.{Core}
use Rattle.c_senses.specs.Given.{Given, Fits}
use Rattle.c_senses.specs.Tree.{place_at}
use Rattle.c_senses.specs.Sense.{sense_in}
use Rattle.c_senses.specs.Statements as spec
use Rattle.core_nodes.specs.Standing.{core_at, Made}
use Rattle.c_results.specs.Standing.{senses_made}
use Rattle.tree_reads.specs.Sources.{source_in}
use Rattle.c_statements.proofs.Numbering.{case_number, case_alone}
use Rattle.c_statements.proofs.cases.case_in.Goals as goal

pub returns-then-is_some-clause-made : goal.returns-then-is_some-clause-made
returns-then-is_some-clause-made c = λ w uses knows are.
    let s = source_in c.args.syntax.now uses in
    let sense = sense_in (senses_made c.args.unit.now c.args.results.now) in
    let switch = c.args.choice.0 in
    let wanted : FitsSigned w128 c.args.choice.1 = search rules in
    let fits : FitsSigned w128 c.in-Ok-Some.converted = search rules in
    let found = simp (to_z-of_z fits) at c.get.ensures in
    let chosen = simp (to_z-of_z wanted) at (c.in-Ok-Some.ensures.number w uses knows) in
    let again = sym (are switch c.in-Ok-Some.converted) ∙ sym (c.if-is_some.ensures ∙ ap is_some found) in
    case_number w s sense c.args.at switch (core_at c.args.unit.now c.args.inner) c.args.choice.1 c.in-Ok-Some.converted true (sym c.in-Ok-Some.field-0-is ∙ chosen) again

pub returns-else-is_some-clause-made : goal.returns-else-is_some-clause-made
returns-else-is_some-clause-made c = λ w uses knows are.
    let s = source_in c.args.syntax.now uses in
    let sense = sense_in (senses_made c.args.unit.now c.args.results.now) in
    let switch = c.args.choice.0 in
    let u1 = c.number_for.new.unit in
    let u2 = c.case_over.new.unit in
    let inner = c.args.inner in
    let p = place_at s c.args.at in
    let body = core_at c.args.unit.now inner in
    let wanted : FitsSigned w128 c.args.choice.1 = search rules in
    let fits : FitsSigned w128 c.in-Ok-Some.converted = search rules in
    let found = simp (to_z-of_z fits) at c.get.ensures in
    let chosen = simp (to_z-of_z wanted) at (c.in-Ok-Some.ensures.number w uses knows) in
    let again = sym (are switch c.in-Ok-Some.converted) ∙ sym (c.if-is_some.ensures ∙ ap is_some found) in
    let is = case_number w s sense c.args.at switch body c.args.choice.1 c.in-Ok-Some.converted false (sym c.in-Ok-Some.field-0-is ∙ chosen) again in
    let same =
    ap (λ (z : ℤ). spec.statement (Case z) p (spec.one (core_at u1 inner))) (to_z-of_z fits) ∙ ap (λ (b : Core). spec.statement (Case c.in-Ok-Some.converted) p (spec.one b)) (c.in-Ok-Some.ensures.builds.cores inner c.requires.inner) in
    subst (λ (g : Given Core). Made u2 c.case_over.result g) (ap Fits same ∙ sym is) (c.case_over.ensures.made uses)

pub returns-in-Ok-None-clause-made : goal.returns-in-Ok-None-clause-made
returns-in-Ok-None-clause-made c = λ w uses knows are.
    let s = source_in c.args.syntax.now uses in
    let sense = sense_in (senses_made c.args.unit.now c.args.results.now) in
    let u1 = c.number_for.new.unit in
    let u2 = c.case_over-in-Ok-None.new.unit in
    let inner = c.args.inner in
    let p = place_at s c.args.at in
    let body = core_at c.args.unit.now inner in
    let wanted : FitsSigned w128 c.args.choice.1 = search rules in
    let chosen = simp (to_z-of_z wanted) at (c.in-Ok-None.ensures.number w uses knows) in
    let is = case_alone w s sense c.args.at c.args.choice.0 body c.args.choice.1 (sym c.in-Ok-None.field-0-is ∙ chosen) in
    let same =
    ap (λ (z : ℤ). spec.statement (Case z) p (spec.one (core_at u1 inner))) (to_z-of_z wanted) ∙ ap (λ (b : Core). spec.statement (Case c.args.choice.1) p (spec.one b)) (c.in-Ok-None.ensures.builds.cores inner c.requires.inner) in
    subst (λ (g : Given Core). Made u2 c.case_over-in-Ok-None.result g) (ap Fits same ∙ sym is) (c.case_over-in-Ok-None.ensures.made uses)
