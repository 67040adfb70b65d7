use Rattle.std.proofs.Common.{sym, ap, ◌∙◌}
use Rattle.c_senses.specs.Tree.{children_at}
use Rattle.tree_reads.specs.Sources.{source_read}
use Rattle.c_structures.specs.Before.{ascends}
use Rattle.c_structures.proofs.lists.at_member.Goals as goal

pub returns-clause-open : goal.returns-clause-open
returns-clause-open c = λ results open_list. record {
  whole = open_list.whole;
  whole_ascends = open_list.whole_ascends;
  part = c.start.ensures.covers results (children_at (source_read c.args.syntax.now) c.args.member);
  part_ascends = ap ascends (sym c.children_of.ensures) ∙ sym c.if-not-is_ascending.ensures;
}
