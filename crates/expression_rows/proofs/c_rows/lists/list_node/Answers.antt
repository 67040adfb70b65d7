use Rattle.std.proofs.Common.{ℕ, List, sym, ap, subst, ◌∙◌}
use Rattle.pta_base.specs.declared.place.Place.{Place}
use Rattle.c_senses.specs.Tree.{place_at, spelling_at}
use Rattle.c_senses.specs.Expressions.{list_core}
use Rattle.c_senses.specs.Sense.{sense_in}
use Rattle.c_results.specs.Standing.{senses_made}
use Rattle.tree_reads.specs.Sources.{source_read}
use Rattle.core_nodes.proofs.Failing.{made_same}
use Rattle.expression_rows.specs.c_rows.Lists.{SecondFits, ended_core}
use Rattle.expression_rows.proofs.c_rows.Inner.{over_none, over_one, over_two}
use Rattle.expression_rows.proofs.c_rows.lists.list_node.Goals as goal

pub returns-in-One-clause-made : goal.returns-in-One-clause-made
returns-in-One-clause-made c w inner k e fits =
    let s = source_read c.args.syntax.now in
    let sense = sense_in (senses_made c.args.unit.now c.args.results.now) in
    let part = c.in-One.part in
    made_same c.ended.new.unit c.ended.result _ _
    (ap (λ (p : Place). ended_core w p c.args.at (sense part)) c.place_of-place.ensures
    ∙ sym (ap (list_core w s sense c.args.at (place_at s c.args.first) (spelling_at s c.args.first)) (over_one inner part (e ∙ c.in-One.is))))
    (c.ended.ensures.made w k)

pub returns-in-Two-clause-made : goal.returns-in-Two-clause-made
returns-in-Two-clause-made c w inner k e fits =
    let s = source_read c.args.syntax.now in
    let sense = sense_in (senses_made c.args.unit.now c.args.results.now) in
    let there = over_two inner c.in-Two.part c.in-Two.other (e ∙ c.in-Two.is) in
    made_same c.list_two.new.unit c.list_two.result _ _
    (sym (ap (list_core w s sense c.args.at (place_at s c.args.first) (spelling_at s c.args.first)) there))
    (c.list_two.ensures.made w k (subst (λ (l : List ℕ). SecondFits w sense l c.args.further) there fits))

pub returns-in-Other-clause-made : goal.returns-in-Other-clause-made
returns-in-Other-clause-made c w inner k e fits =
    let s = source_read c.args.syntax.now in
    let sense = sense_in (senses_made c.args.unit.now c.args.results.now) in
    over_none w s sense c.args.at (place_at s c.args.first) (spelling_at s c.args.first) inner (e ∙ c.in-Other.is)
