use Rattle.std.proofs.Common.{◌∙◌, map, sym}
use Rattle.std.proofs.lemmas.List.{length-map}
use Rattle.c_inits.specs.Tables.{part_of}
use Rattle.c_senses.specs.Sense.{sense_in}
use Rattle.c_results.specs.Standing.{senses_made}
use Rattle.unit_keys.proofs.Counting.{parts_some, parts_none}
use Rattle.unit_keys.proofs.positions.parts_of.Goals as goal

pub returns-in-Some : goal.returns-in-Some
returns-in-Some c = λ u s sense.
    sym (parts_some s sense (sense_in (senses_made u c.args.results.now) c.args.node) (map (part_of u.types) c.in-Some.members.now) (c.in-Some.ensures.seen u) ∙ length-map c.in-Some.members.now (part_of u.types))

pub returns-in-None : goal.returns-in-None
returns-in-None c = λ u s sense. sym (parts_none s sense (sense_in (senses_made u c.args.results.now) c.args.node) (c.in-None.ensures.seen u))
