use Rattle.std.proofs.Common.{ℕ, subst}
use Rattle.std.specs.Prelude.{is_ok}
use Rattle.c_structures.specs.Listed.{IsOpen}
use Rattle.c_structures.proofs.Opening.{front_kept, last_kept, put_back}
use Rattle.c_structures.proofs.lists.MemberLists.take.Goals as goal

pub returns-then-last-list-clause-lists : goal.returns-then-last-list-clause-lists
returns-then-last-list-clause-lists c = λ syntax results are.
    front_kept syntax results c.loop-last.self.open.items c.pop.new.self.items c.pop.result c.pop.ensures.items (c.loop-last.invariant syntax results are)

pub returns-then-last-list-clause-open : goal.returns-then-last-list-clause-open
returns-then-last-list-clause-open c = λ syntax results are.
    subst (λ (list : ℕ). IsOpen syntax results list c.in-Some.last.before) c.if-last-list.true
    (last_kept syntax results c.loop-last.self.open.items c.pop.new.self.items c.pop.result c.in-Some.last c.pop.ensures.items c.in-Some.is (c.loop-last.invariant syntax results are))

pub returns-then-last-list-2-clause-lists : goal.returns-then-last-list-2-clause-lists
returns-then-last-list-2-clause-lists c = λ syntax results are.
    put_back syntax results (is_ok c.push.result) c.pop.new.self.items c.push.new.self.items c.in-Some.last c.push.ensures.items
    (front_kept syntax results c.loop-last.self.open.items c.pop.new.self.items c.pop.result c.pop.ensures.items (c.loop-last.invariant syntax results are))
    (last_kept syntax results c.loop-last.self.open.items c.pop.new.self.items c.pop.result c.in-Some.last c.pop.ensures.items c.in-Some.is (c.loop-last.invariant syntax results are))

pub loop-last-preserved : goal.loop-last-preserved
loop-last-preserved c = λ syntax results are.
    front_kept syntax results c.loop-last.self.open.items c.pop.new.self.items c.pop.result c.pop.ensures.items (c.loop-last.invariant syntax results are)
