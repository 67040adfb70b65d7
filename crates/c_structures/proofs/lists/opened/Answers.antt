use Rattle.std.proofs.Common.{sym, ap, ◌∙◌}
use Rattle.c_senses.specs.Tree.{children_at}
use Rattle.tree_reads.specs.Sources.{source_read}
use Rattle.c_structures.specs.Before.{ascends}
use Rattle.c_structures.proofs.lists.opened.Goals as goal

pub returns-then-is_ascending-2-clause-open : goal.returns-then-is_ascending-2-clause-open
returns-then-is_ascending-2-clause-open c = λ results. record {
  whole = c.start.ensures.covers results (children_at (source_read c.args.syntax.now) c.args.list);
  whole_ascends = ap ascends (sym c.children_of.ensures) ∙ sym c.if-is_ascending.ensures;
  part = c.start-then-is_ascending-2.ensures.covers results (children_at (source_read c.args.syntax.now) c.args.member);
  part_ascends = ap ascends (sym c.children_of-then-is_ascending.ensures) ∙ sym c.if-is_ascending-2.ensures;
}
