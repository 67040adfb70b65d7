use Rattle.std.proofs.Common.{sym, ap, ◌∙◌}
use Rattle.c_types.specs.Trees.{Ctype}
use Rattle.c_senses.specs.Declarators.{adjusted}
use Rattle.c_senses.specs.Entities as spec
use Rattle.core_nodes.proofs.Growing.{knows_on}
use Rattle.c_named.proofs.Judging.{passes_same, place_parameter, place_name}
use Rattle.c_named.proofs.places.by_place.Goals as goal
use Rattle.c_types.specs.Table.{type_of}
use Rattle.c_senses.specs.Sense.{sense_in}
use Rattle.c_results.specs.Standing.{senses_made}
use Rattle.tree_reads.specs.Sources.{source_in}

pub returns-then-is_a-2-clause-row : goal.returns-then-is_a-2-clause-row
returns-then-is_a-2-clause-row c = λ w uses knows completed said.
    let s = source_in c.args.syntax.now uses in
    let old = c.args.unit.now in
    let sense = sense_in (senses_made old c.args.results.now) in
    let mid = c.adjusted.new.unit in
    let at = c.args.declared.at in
    let leaf = c.args.declared.leaf in
    let t = type_of old.types c.args.declared.ty.0 in
    passes_same c.parameter_named.result (spec.parameter_named w s sense at leaf (type_of mid.types c.in_ok-ty.ty.0)) (spec.by_place w s sense at leaf t (adjusted t))
    (λ g. place_parameter w s sense leaf t (adjusted t) at c.in-Some.parent c.in-Some.ensures.parent c.if-is_a.ensures c.if-is_a-2.ensures g ∙ sym (ap (λ (x : Ctype). spec.parameter_named w s sense at leaf x g) c.in_ok-ty.ensures.made))
    (c.parameter_named.ensures old w uses (knows_on w old mid c.in_ok-ty.ensures.builds knows) completed)

pub returns-clause-row : goal.returns-clause-row
returns-clause-row c = λ w uses knows completed said.
    let s = source_in c.args.syntax.now uses in
    let old = c.args.unit.now in
    let sense = sense_in (senses_made old c.args.results.now) in
    let at = c.args.declared.at in
    let leaf = c.args.declared.leaf in
    let t = type_of old.types c.args.declared.ty.0 in
    passes_same c.named_row.result (spec.named_row w s sense at leaf t) (spec.by_place w s sense at leaf t (adjusted t))
    (λ g. place_name w s sense leaf t (adjusted t) at c.in-Some.parent c.in-Some.ensures.parent c.if-is_a.ensures c.if-is_a-2.ensures g)
    (c.named_row.ensures.row w uses knows completed said)
