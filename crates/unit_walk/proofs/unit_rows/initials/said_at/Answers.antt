use Rattle.unit_walk.specs.unit_rows.Standing.{nodes_known}
use Rattle.unit_walk.proofs.unit_rows.Saying.{said_some, said_none}
use Rattle.unit_walk.proofs.unit_rows.initials.said_at.Goals as goal

pub said_of-requires-clause-names : goal.said_of-requires-clause-names
said_of-requires-clause-names c = c.requires.known.names c.args.results.now

pub said_of-requires-clause-leaf : goal.said_of-requires-clause-leaf
said_of-requires-clause-leaf c = c.in-Some.ensures.within (nodes_known c.args.known.now) c.requires.named

pub returns-in-Some-clause-said : goal.returns-in-Some-clause-said
returns-in-Some-clause-said c =
    let uses = c.args.known.now.bound.now.uses.items in
    said_some c.args.known.now.numbered.now.syntax uses c.args.results.now c.args.at c.said_of.result c.in-Some.leaf (λ u. c.in-Some.ensures.name u uses) c.said_of.ensures.said

pub returns-in-None-clause-said : goal.returns-in-None-clause-said
returns-in-None-clause-said c =
    said_none c.args.known.now.numbered.now.syntax c.args.known.now.bound.now.uses.items c.args.results.now c.args.at c.nothing_said.result (λ u. c.in-None.ensures.name u c.args.known.now.bound.now.uses.items)

pub returns-in-None-clause-within : goal.returns-in-None-clause-within
returns-in-None-clause-within c = c.nothing_said.ensures.within (nodes_known c.args.known.now)
