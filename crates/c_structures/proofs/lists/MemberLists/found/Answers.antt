use Rattle.c_structures.proofs.lists.MemberLists.found.Goals as goal

pub returns-in-Some-clause-lists : goal.returns-in-Some-clause-lists
returns-in-Some-clause-lists c = λ results are. c.take.ensures.lists c.args.syntax.now results are

pub returns-in-None-clause-lists : goal.returns-in-None-clause-lists
returns-in-None-clause-lists c = λ results are. c.take.ensures.lists c.args.syntax.now results are

pub returns-in-Some-clause-open : goal.returns-in-Some-clause-open
returns-in-Some-clause-open c = λ results are. c.at_member.ensures.open results (c.in-Some.ensures.open c.args.syntax.now results are)
