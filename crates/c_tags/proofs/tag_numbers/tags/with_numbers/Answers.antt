use Rattle.std.proofs.Common.{ℕ, length, sym, ap, ◌∙◌, subst, cond}
use Rattle.std.specs.Prelude.{nat_lt, unwrap_or}
use Rattle.tree_reads.specs.leaf_maps.Numbers.{number_at}
use Rattle.c_senses.specs.Tree.{Source}
use Rattle.tree_reads.specs.Sources.{source_in, number_in}
use Rattle.tree_reads.specs.node_roles.Roles.{role_at}
use Rattle.c_tags.specs.tag_numbers.Firsts.{first_for}
use Rattle.c_tags.specs.tag_numbers.Known.{AreTagNumbers}
use Rattle.c_tags.proofs.tag_numbers.Numbering.{tag_numbers}
use Rattle.c_tags.proofs.tag_numbers.tags.with_numbers.Goals as goal

pub returns-clause-numbers : goal.returns-clause-numbers
returns-clause-numbers c = λ uses roles h.
    let old = source_in c.args.syntax uses in
    let source = c.with_tag_numbers.ensures.source uses in
    let numbers = number_at c.in_ok-numbering.numbering.numbers in
    let firsts = c.in_ok-numbering.numbering.firsts.items in
    subst (λ (s : Source). AreTagNumbers s firsts) (sym source)
    (tag_numbers old numbers firsts (number_in (record { numbers = c.in_ok-numbering.numbering.numbers; count = length c.as_slice-nodes.result.now }))
    (c.in_ok-numbering.ensures uses (λ i. roles i ∙ ap (λ (s : Source). role_at s i) source) (record { uses = h.uses; firsts = λ leaf. h.firsts leaf ∙ ap (λ (s : Source). first_for s.declared.tags leaf) source }))
    (λ d. ap (λ (n : ℕ). cond (nat_lt d n) (unwrap_or (numbers d) 0) d) (ap length c.as_slice-nodes.ensures.value)))
