use Rattle.std.proofs.Common.{not, ap}
use Rattle.c_senses.specs.Sense.{sense_in}
use Rattle.c_results.specs.Standing.{senses_made}
use Rattle.c_meanings.proofs.Tests.{and_then, and_else}
use Rattle.unit_names.proofs.declared.is_declared_there.Goals as goal

pub returns-then-stands_in_declaration : goal.returns-then-stands_in_declaration
returns-then-stands_in_declaration c = λ u uses.
    and_then _ _ _ _ (c.stands_in_declaration.ensures u uses) c.if-stands_in_declaration.true (ap not (c.is_typedef.ensures uses (sense_in (senses_made u c.args.results.now))))

pub returns-else-stands_in_declaration : goal.returns-else-stands_in_declaration
returns-else-stands_in_declaration c = λ u uses. and_else _ _ _ (c.stands_in_declaration.ensures u uses) c.if-stands_in_declaration.false
