use Rattle.std.proofs.Common.{cond}
use Rattle.c_grammar.specs.Productions.{p_enumerator}
use Rattle.c_senses.specs.Tree.{is_a}
use Rattle.c_senses.specs.World.{Meaning}
use Rattle.c_senses.specs.Entities.{enumerated, declared_meaning}
use Rattle.std.proofs.Common.{ℕ, Option, Some, None, ap, ◌∙◌}
use Rattle.c_senses.specs.Sense.{sense_in}
use Rattle.c_results.specs.Standing.{senses_made}
use Rattle.tree_reads.specs.Sources.{source_in}
use Rattle.c_meanings.proofs.Tests.{if_then}
use Rattle.c_meanings.proofs.meanings.meaning_of.Goals as goal

pub returns-then-is_a-clause-made : goal.returns-then-is_a-clause-made
returns-then-is_a-clause-made c = λ uses.
    let s = source_in c.args.syntax.now uses in
    let u = c.args.unit.now in
    let sense = sense_in (senses_made u c.args.results.now) in
    if_then _ _ _ _ _ c.is_a.ensures c.if-is_a.true (c.enumerated.ensures.gives u s)
    ∙ ap (λ (o : Option ℕ). elim o as (λ x. Option Meaning) [ None ↦ None | Some p ↦ cond (is_a s p_enumerator p) (enumerated s sense p) (declared_meaning s sense c.args.leaf) ]) c.in-Some.ensures.parent

pub returns-then-is_a-clause-within : goal.returns-then-is_a-clause-within
returns-then-is_a-clause-within c = c.enumerated.ensures.within c.args.unit.now
