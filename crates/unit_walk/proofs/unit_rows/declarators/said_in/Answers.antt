use Rattle.std.proofs.Common.{◌≡◌, ℕ, Some, None, length, subst, ◌∙◌}
use Rattle.std.proofs.lemmas.Result.{IfOk-weaker}
use Rattle.c_senses.specs.Sense.{sense_in}
use Rattle.c_results.specs.Standing.{senses_made}
use Rattle.tree_reads.specs.Sources.{source_in}
use Rattle.c_named.specs.Said.{IsSaid}
use Rattle.unit_walk.proofs.unit_rows.declarators.said_in.Goals as goal

pub returns-in-Some-clause-said : goal.returns-in-Some-clause-said
returns-in-Some-clause-said c =
    IfOk-weaker c.said_of.result _ _
    (λ said h u w uses leaf is.
    let s = source_in c.args.syntax.now uses in
    let sense = sense_in (senses_made u c.args.results.now) in
    let both : Some c.in-Some.leaf ≡ Some leaf = c.in-Some.ensures.name u w ∙ is in
    let same : c.in-Some.leaf ≡ leaf = cc in
    subst (λ (n : ℕ). IsSaid w s sense n said) same (h u w uses))
    c.said_of.ensures.said

pub returns-in-None-clause-said : goal.returns-in-None-clause-said
returns-in-None-clause-said c = λ u w uses leaf is.
    let both : None ≡ Some leaf = c.in-None.ensures.name u w ∙ is in
    absurd (cc)

pub returns-in-None-clause-within : goal.returns-in-None-clause-within
returns-in-None-clause-within c = c.nothing_said.ensures.within (length c.args.syntax.now.tree.now.nodes.items)
