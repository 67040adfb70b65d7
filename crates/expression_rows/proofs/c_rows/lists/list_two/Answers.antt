use Rattle.std.proofs.Common.{sym, ap, ◌∙◌}
use Rattle.pta_base.specs.declared.place.Place.{Place}
use Rattle.c_senses.specs.Tree.{place_at, spelling_at}
use Rattle.c_senses.specs.Sense.{sense_in}
use Rattle.c_results.specs.Standing.{senses_made}
use Rattle.tree_reads.specs.Sources.{source_read}
use Rattle.core_nodes.proofs.Failing.{made_same}
use Rattle.expression_rows.specs.c_rows.Lists.{next_core, copied_core, started_core}
use Rattle.expression_rows.proofs.c_rows.Inner.{over_type, over_copy, over_start}
use Rattle.expression_rows.proofs.c_rows.lists.list_two.Goals as goal

pub returns-then-is_a-clause-made : goal.returns-then-is_a-clause-made
returns-then-is_a-clause-made c w k fits =
    let s = source_read c.args.syntax.now in
    let sense = sense_in (senses_made c.args.unit.now c.args.results.now) in
    let a = c.args.pair.0 in
    let b = c.args.pair.1 in
    made_same c.next_of.new.unit c.next_of.result _ _
    (ap (λ (p : Place). next_core p c.args.at (sense a) (sense b)) c.place_of-place.ensures
    ∙ sym (over_type w s sense c.args.at (place_at s c.args.first) (spelling_at s c.args.first) a b (sym c.if-is_a.ensures)))
    c.next_of.ensures.made

pub returns-then-is_copy-clause-made : goal.returns-then-is_copy-clause-made
returns-then-is_copy-clause-made c w k fits =
    let s = source_read c.args.syntax.now in
    let sense = sense_in (senses_made c.args.unit.now c.args.results.now) in
    let a = c.args.pair.0 in
    let b = c.args.pair.1 in
    made_same c.copied.new.unit c.copied.result _ _
    (ap (λ (p : Place). copied_core w p c.args.at (sense a) (sense b)) c.place_of-place.ensures
    ∙ sym (over_copy w s sense c.args.at (place_at s c.args.first) (spelling_at s c.args.first) a b (sym c.if-is_a.ensures) (sym c.if-is_copy.ensures)))
    (c.copied.ensures.made w k)

pub returns-clause-made : goal.returns-clause-made
returns-clause-made c w k fits =
    let s = source_read c.args.syntax.now in
    let sense = sense_in (senses_made c.args.unit.now c.args.results.now) in
    let a = c.args.pair.0 in
    let b = c.args.pair.1 in
    made_same c.started.new.unit c.started.result _ _
    (ap (λ (p : Place). started_core w p c.args.at (sense a) (sense b)) c.place_of-place.ensures
    ∙ sym (over_start w s sense c.args.at (place_at s c.args.first) (spelling_at s c.args.first) a b (sym c.if-is_a.ensures) (sym c.if-is_copy.ensures)))
    (c.started.ensures.made w fits)
