use Rattle.std.proofs.Common.{map}
use Rattle.c_inits.specs.Tables.{part_of}
use Rattle.c_senses.specs.Sense.{sense_in}
use Rattle.c_results.specs.Standing.{senses_made}
use Rattle.c_results.specs.Parts.{parts_in}
use Rattle.c_structures.proofs.Gathering.{nothing_more}
use Rattle.c_structures.proofs.members.add_members.Goals as goal

pub returns-in-None-clause-seen : goal.returns-in-None-clause-seen
returns-in-None-clause-seen c = λ u.
    nothing_more (map (part_of u.types) c.args.list.now.items) (parts_in (sense_in (senses_made u c.args.results.now) c.args.node)) (c.in-None.ensures.seen u)
