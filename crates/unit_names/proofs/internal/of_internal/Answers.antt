use Rattle.std.proofs.Common.{sym, ◌∙◌}
use Rattle.c_results.specs.Standing.{senses_made}
use Rattle.tree_reads.specs.Sources.{source_in}
use Rattle.std.proofs.lemmas.Result.{IfOk-weaker}
use Rattle.unit_names.proofs.Symbols.{internal_is, internal_none}
use Rattle.unit_names.proofs.internal.of_internal.Goals as goal

pub returns-in-Some-clause-leaves : goal.returns-in-Some-clause-leaves
returns-in-Some-clause-leaves c = λ u uses.
    let s = source_in c.args.syntax.now uses in
    let senses = senses_made u c.args.results.now in
    IfOk-weaker c.of_symbol.result _ _ (λ list h. h ∙ internal_is s senses c.args.leaf c.in-Some.declared (sym (c.in-Some.ensures uses))) (c.of_symbol.ensures.leaves u uses)

pub returns-in-None-clause-leaves : goal.returns-in-None-clause-leaves
returns-in-None-clause-leaves c = λ u uses.
    let s = source_in c.args.syntax.now uses in
    let senses = senses_made u c.args.results.now in
    c.new.ensures.items ∙ internal_none s senses c.args.leaf (sym (c.in-None.ensures uses))
