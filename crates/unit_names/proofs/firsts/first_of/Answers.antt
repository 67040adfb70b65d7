use Rattle.std.proofs.Common.{◌≡◌, Some, refl, sym, ◌∙◌}
use Rattle.c_senses.specs.Sense.{sense_in}
use Rattle.c_results.specs.Standing.{senses_made}
use Rattle.tree_reads.specs.Sources.{source_in}
use Rattle.name_chains.specs.symbol_lists.Symbols.{kept_at}
use Rattle.unit_names.proofs.Known.{entity_same, firsts_more}
use Rattle.unit_names.proofs.firsts.first_of.Goals as goal

pub returns-in-Some-kept_first-clause-first : goal.returns-in-Some-kept_first-clause-first
returns-in-Some-kept_first-clause-first c = λ u uses.
    let d = c.in-Some.declared in
    let at : kept_at c.args.firsts.now d.symbol ≡ Some c.in-Some-kept_first.first = sym c.kept_first.ensures ∙ c.in-Some-kept_first.is in
    c.requires.firsts.each d.symbol c.in-Some-kept_first.first at u uses c.args.leaf d (sym (c.declared_at.ensures uses) ∙ c.in-Some.is) refl (c.requires.internal u uses)

pub returns-clause-firsts : goal.returns-clause-firsts
returns-clause-firsts c =
    let d = c.in-Some.declared in
    firsts_more c.args.syntax.now c.args.results.now c.args.firsts.now c.keep_first.new.firsts d.symbol c.entity_of-first.result c.in_ok-keep_first.ensures.kept c.requires.firsts
    (λ u uses other e there same internal.
    c.entity_of-first.ensures u uses
    ∙ entity_same (source_in c.args.syntax.now uses) (sense_in (senses_made u c.args.results.now)) c.args.leaf other d e (sym (c.declared_at.ensures uses) ∙ c.in-Some.is) there same (c.requires.internal u uses) internal)
