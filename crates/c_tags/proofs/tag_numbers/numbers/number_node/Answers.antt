use Rattle.std.proofs.Common.{arith, sym, ◌∙◌}
use Rattle.c_senses.specs.Tree.{Source}
use Rattle.tree_reads.specs.leaf_maps.Numbers.{number_at}
use Rattle.tree_reads.specs.Sources.{source_in}
use Rattle.c_tags.proofs.tag_numbers.Numbering.{numbered_skip}
use Rattle.c_tags.proofs.tag_numbers.numbers.number_node.Goals as goal

pub returns-then-not-is_structure_at : goal.returns-then-not-is_structure_at
returns-then-not-is_structure_at c = λ uses roles declares are.
    numbered_skip (source_in c.args.syntax.now uses) (number_at c.args.numbering.now.numbers) c.args.numbering.now.firsts.items c.args.node are (sym (c.is_structure_at.ensures (source_in c.args.syntax.now uses) roles) ∙ c.if-not-is_structure_at.true)

pub returns : goal.returns
returns c = λ uses roles declares are.
    let s : Source = source_in c.args.syntax.now uses in
    c.in_ok-number_one.ensures s are (sym (c.is_structure_at.ensures s roles) ∙ c.if-not-is_structure_at.false) (sym (c.tag_declared-declared.ensures uses declares))
    (omega (arith, c.if-declared-len.false, c.len.ensures))
