use Rattle.std.proofs.Common.{◌≡◌, List, ℕ, drop, arith, subst}
use Rattle.c_senses.specs.Sense.{sense_in}
use Rattle.c_results.specs.Standing.{senses_made}
use Rattle.tree_reads.specs.Sources.{source_in}
use Rattle.expression_rows.specs.c_rows.Lists.{FurtherFits}
use Rattle.name_uses.proofs.Looking.{alone_looked, parts_looked}
use Rattle.name_uses.proofs.around.around_identifier.Goals as goal

pub returns-then-children-lt2-clause-looked : goal.returns-then-children-lt2-clause-looked
returns-then-children-lt2-clause-looked c = λ w uses pairs is.
    let new = c.around_name.new.unit in
    let s = source_in c.args.syntax.now uses in
    alone_looked w new s (sense_in (senses_made new c.args.results.now)) c.args.children.now c.args.at c.around_name.result c.requires.some c.if-children-lt2.true (c.around_name.ensures.looked w uses pairs is)

pub returns-clause-looked : goal.returns-clause-looked
returns-clause-looked c = λ w uses pairs is.
    let u = c.args.unit.now in
    let s = source_in c.args.syntax.now uses in
    let sense = sense_in (senses_made u c.args.results.now) in
    let fits = c.further_named.ensures w uses is.further in
    let rest : c.split_at.result.1.now ≡ drop 1 c.args.children.now = grind arith in
    parts_looked w u s sense c.args.children.now _ (omega arith) (subst (λ (l : List ℕ). FurtherFits w s sense l c.further_named.result) rest fits)
