use Rattle.std.proofs.Common.{None, List, ap, ◌∙◌}
use Rattle.std.proofs.lemmas.Result.{IfOk-weaker}
use Rattle.c_scope.specs.declared.kinds.Declared.{Declared}
use Rattle.c_senses.specs.Sense.{sense_in}
use Rattle.c_senses.specs.Entities.{all_together, types_of}
use Rattle.c_results.specs.Standing.{senses_made}
use Rattle.tree_reads.specs.Sources.{source_in}
use Rattle.c_meanings.proofs.Thinning.{typing_now}
use Rattle.c_meanings.proofs.Tests.{some_of}
use Rattle.c_meanings.proofs.types.type_thinned.Goals as goal

pub returns-in-Some-clause-made : goal.returns-in-Some-clause-made
returns-in-Some-clause-made c =
    let u = c.args.unit.now in
    let sense = sense_in (senses_made u c.args.results.now) in
    IfOk-weaker c.all_of.result _ _
    (λ t h uses.
    let s = source_in c.args.syntax.now uses in
    h uses ∙ (ap (λ (l : List Declared). all_together None (types_of s sense l)) c.as_slice.ensures.value ∙ (typing_now c.args.syntax.now c.args.results.now c.args.leaf c.in-Some.list.items (some_of _ _ _ c.in-Some.is c.in_ok-list.ensures.thin) u uses).together))
    c.all_of.ensures.made
