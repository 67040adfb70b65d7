use Rattle.std.proofs.Common.{◌≡◌, ◌≤◌, true, false, not, length, arith, sym, ap, ◌∙◌}
use Rattle.c_senses.specs.Sense.{sense_in}
use Rattle.c_results.specs.Standing.{senses_made}
use Rattle.tree_reads.specs.Sources.{source_in}
use Rattle.std.proofs.lemmas.List.{drop_all}
use Rattle.unit_names.specs.Choosing.{first_such, is_tentative}
use Rattle.unit_names.proofs.Places.{first_more, first_here}
use Rattle.unit_names.proofs.choosing.first_tentative.Goals as goal

pub returns-then-not-only_declares-clause-first : goal.returns-then-not-only_declares-clause-first
returns-then-not-only_declares-clause-first c = λ u uses.
    let test = is_tentative (source_in c.args.syntax.now uses) (sense_in (senses_made u c.args.results.now)) in
    let only : c.only_declares.result ≡ false = cc in
    first_here test c.args.other c.args.list.now c.loop-leaf.leaf-index c.loop-leaf-test.true (ap not (sym (c.only_declares.ensures u uses) ∙ only))
    ∙ c.loop-leaf.invariant u uses

pub loop-leaf-preserved : goal.loop-leaf-preserved
loop-leaf-preserved c = λ u uses.
    let test = is_tentative (source_in c.args.syntax.now uses) (sense_in (senses_made u c.args.results.now)) in
    let only : c.only_declares.result ≡ true = cc in
    first_more test c.args.other c.args.list.now c.loop-leaf.leaf-index c.loop-leaf-test.true (ap not (sym (c.only_declares.ensures u uses) ∙ only))
    ∙ c.loop-leaf.invariant u uses

pub returns-clause-first : goal.returns-clause-first
returns-clause-first c = λ u uses.
    let test = is_tentative (source_in c.args.syntax.now uses) (sense_in (senses_made u c.args.results.now)) in
    let past : length c.args.list.now ≤ c.loop-leaf.leaf-index = omega arith in
    sym (ap (first_such test c.args.other) (drop_all c.loop-leaf.leaf-index c.args.list.now past)) ∙ c.loop-leaf.invariant u uses
