use Rattle.std.proofs.Common.{ℕ, List, sym, ◌∙◌, subst}
use Rattle.c_senses.specs.Tree.{production_at, children_at}
use Rattle.c_senses.specs.Sense.{sense_in}
use Rattle.c_results.specs.Standing.{senses_made}
use Rattle.expression_rows.specs.Fitting.{FitsAround}
use Rattle.tree_reads.specs.Sources.{source_in}
use Rattle.name_uses.specs.Built.{names_strangely}
use Rattle.name_uses.specs.Looked.{Looked}
use Rattle.name_uses.proofs.Looking.{primary_looked, post_looked}
use Rattle.name_uses.proofs.around.around_of.Goals as goal

pub returns-then-production-eq-PRIMARY-clause-looked : goal.returns-then-production-eq-PRIMARY-clause-looked
returns-then-production-eq-PRIMARY-clause-looked c = λ w uses pairs is.
    let s = source_in c.args.syntax.now uses in
    let new = c.around_primary.new.unit in
    let p = production_at s c.args.at in
    let xs = c.children_of-children.result.now in
    let r = c.around_primary.result in
    let sense = sense_in (senses_made new c.args.results.now) in
    let found = primary_looked w new s sense xs p c.args.at r (sym c.production_of-production.ensures ∙ c.if-production-eq-PRIMARY.true) (c.around_primary.ensures.looked w uses pairs is) in
    subst (λ (list : List ℕ). Looked (FitsAround w new s sense p list) (names_strangely w s p list) c.args.at r) c.children_of-children.ensures found

pub returns-then-production-eq-POST-clause-within : goal.returns-then-production-eq-POST-clause-within
returns-then-production-eq-POST-clause-within c = c.nothing.ensures.within c.args.unit.now

pub returns-then-production-eq-POST-clause-looked : goal.returns-then-production-eq-POST-clause-looked
returns-then-production-eq-POST-clause-looked c = λ w uses pairs is.
    let s = source_in c.args.syntax.now uses in
    post_looked w c.args.unit.now s (sense_in (senses_made c.args.unit.now c.args.results.now)) (children_at s c.args.at) (production_at s c.args.at) c.nothing.result (sym c.production_of-production.ensures ∙ c.if-production-eq-POST.true)
    (is.may_call ∙ (sym (c.may_call.ensures c.args.unit.now uses) ∙ sym c.nothing.ensures.calls))

pub returns-clause-within : goal.returns-clause-within
returns-clause-within c = c.nothing-2.ensures.within c.args.unit.now
