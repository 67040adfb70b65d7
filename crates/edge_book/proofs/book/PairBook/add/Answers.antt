use Rattle.edge_book.proofs.Targets.{pushed, indexed_push}
use Rattle.edge_book.proofs.book.PairBook.add.Goals as goal

pub invariant_of-self-2 : goal.invariant_of-self-2
invariant_of-self-2 c = (
  c.add.ensures.once,
  indexed_push c.self.inside.leaving.lists.items c.reserve.new.self.lists.items c.push_reserved.new.self.lists.items c.self.inside.pairs c.add.new.self c.args.from c.args.to
      c.self.invariant.1 c.reserve.ensures.same c.push_reserved.ensures
      (pushed c.self.inside.pairs c.add.new.self (c.args.from, c.args.to) c.in_ok-add.field-0 c.in_ok-add.ensures.added c.if-not-branch.false),
)

pub returns-clause-once : goal.returns-clause-once
returns-clause-once c = c.add.ensures.once
