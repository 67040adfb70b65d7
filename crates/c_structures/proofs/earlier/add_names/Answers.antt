use Rattle.std.proofs.Common.{map}
use Rattle.c_inits.specs.Tables.{part_of}
use Rattle.c_senses.specs.Sense.{sense_in}
use Rattle.c_results.specs.Standing.{senses_made}
use Rattle.c_structures.proofs.Preceding.{names_some, names_none}
use Rattle.c_structures.proofs.earlier.add_names.Goals as goal

pub returns-in_ok-add_all : goal.returns-in_ok-add_all
returns-in_ok-add_all c = λ u w s parts says.
    names_some w s (sense_in (senses_made u c.args.results.now)) c.args.node c.add_all.new.self parts (map (part_of u.types) c.in-Some.members.now) (c.in-Some.ensures.seen u)
    (c.in_ok-add_all.ensures u.types parts says)

pub returns-in_default : goal.returns-in_default
returns-in_default c = λ u w s parts says.
    names_none w s (sense_in (senses_made u c.args.results.now)) c.args.node c.args.names.now parts (c.in_default.ensures.seen u) says
