use Rattle.c_senses.specs.Sense.{sense_in}
use Rattle.c_results.specs.Standing.{senses_made}
use Rattle.c_meanings.proofs.Tests.{or_then, or_else}
use Rattle.c_meanings.proofs.storage.is_static_object.Goals as goal

pub returns-then-is_at_file : goal.returns-then-is_at_file
returns-then-is_at_file c = λ u uses.
    let sense = sense_in (senses_made u c.args.results.now) in
    or_then _ _ _ (c.is_at_file.ensures sense) c.if-is_at_file.true

pub returns-else-is_at_file : goal.returns-else-is_at_file
returns-else-is_at_file c = λ u uses.
    let sense = sense_in (senses_made u c.args.results.now) in
    or_else _ _ _ _ (c.is_at_file.ensures sense) c.if-is_at_file.false (c.has_word.ensures u uses)
