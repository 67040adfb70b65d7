use Rattle.std.proofs.Common.{◌∙◌}
use Rattle.c_senses.specs.Sense.{sense_in}
use Rattle.c_results.specs.Standing.{senses_made}
use Rattle.c_entities.proofs.PassedOn.{nothing_some, nothing_none}
use Rattle.name_places.proofs.lists.derives_nothing.Goals as goal

pub returns-in-Some : goal.returns-in-Some
returns-in-Some c = λ u w s.
    c.has_none.ensures ∙ nothing_some w s (sense_in (senses_made u c.args.results.now)) u.types c.args.list.now c.in-Some.steps.now _ (c.in-Some.ensures.seen u)

pub returns-in-None : goal.returns-in-None
returns-in-None c = λ u w s.
    nothing_none w s (sense_in (senses_made u c.args.results.now)) c.args.list.now (c.in-None.ensures.seen u)
