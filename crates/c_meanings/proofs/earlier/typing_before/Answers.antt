use Rattle.std.proofs.Common.{List, None, false, ap, ◌∙◌}
use Rattle.c_scope.specs.declared.kinds.Declared.{Declared}
use Rattle.c_senses.specs.Sense.{sense_in}
use Rattle.c_senses.specs.Entities.{all_together, types_of}
use Rattle.c_results.specs.Standing.{senses_made}
use Rattle.name_chains.specs.declared.links.Link.{Link}
use Rattle.name_chains.specs.Links.{listed}
use Rattle.tree_reads.specs.Sources.{source_in}
use Rattle.c_meanings.proofs.Thinning.{thin_now}
use Rattle.c_meanings.proofs.Tests.{some_of}
use Rattle.c_meanings.proofs.earlier.typing_before.Goals as goal

pub returns-in-Some-clause-gives : goal.returns-in-Some-clause-gives
returns-in-Some-clause-gives c = λ u uses.
    let s = source_in c.args.syntax.now uses in
    let sense = sense_in (senses_made u c.args.results.now) in
    (thin_now c.args.syntax.now c.args.results.now false (listed c.as_slice-links.result.now c.args.last) c.in-Some.list.items (some_of _ _ _ c.in-Some.is c.in_ok-list.ensures.list) u uses).together
    ∙ ap (λ (l : List Link). all_together None (types_of s sense (listed l c.args.last))) c.as_slice-links.ensures.value

pub returns-in-Ok-clause-gives : goal.returns-in-Ok-clause-gives
returns-in-Ok-clause-gives c = λ u uses.
    let s = source_in c.args.syntax.now uses in
    let sense = sense_in (senses_made u c.args.results.now) in
    ap (λ (l : List Declared). all_together None (types_of s sense l)) (c.in-Ok.ensures.list ∙ ap (λ (l : List Link). listed l c.args.last) c.as_slice-links.ensures.value)
