use Rattle.linked_laws.proofs.system_laws.filled_laws.Placed.{linked_placed}
use Rattle.linked_laws.proofs.location_laws.named_laws.Whole.{linked_whole}
use Rattle.unit_report.proofs.unit_system.Refused.{program_refused}
use Rattle.unit_report.proofs.unit_system.Rightness.{right_of}
use Rattle.unit_report.proofs.unit_system.systems.linked_system.Goals as goal

pub system_of-requires-clause-right : goal.system_of-requires-clause-right
system_of-requires-clause-right c =
    let told = c.type_count-types.ensures in
    right_of c.args.units.items c.in_ok-program.program c.requires.linkable c.in_ok-program.ensures.tables told.made told.named c.in_ok-program.ensures.linked

pub system_of-requires-clause-placed : goal.system_of-requires-clause-placed
system_of-requires-clause-placed c = linked_placed c.args.units.items c.in_ok-program.program c.requires.linkable c.requires.filled c.in_ok-program.ensures.linked

pub returns-in-Ok-clause-linked : goal.returns-in-Ok-clause-linked
returns-in-Ok-clause-linked c =
    let told = c.type_count-types.ensures in
    record {
      own = record { linked = c.in_ok-program.ensures.linked; made = told.made; named = told.named; room = c.in_ok-program.ensures.room; range = c.in_ok-program.ensures.range };
      system_of = c.in-Ok.ensures;
    }

pub returns-in-Err-clause-linked : goal.returns-in-Err-clause-linked
returns-in-Err-clause-linked c =
    let told = c.type_count-types.ensures in
    program_refused c.args.entries.now c.args.units.items c.in_ok-program.program c.in-Err.fault (record { linked = c.in_ok-program.ensures.linked; made = told.made; named = told.named; room = c.in_ok-program.ensures.room; range = c.in_ok-program.ensures.range }) c.in-Err.ensures

pub returns-in-Ok-clause-whole : goal.returns-in-Ok-clause-whole
returns-in-Ok-clause-whole c named =
    let told = c.type_count-types.ensures in
    linked_whole c.args.units.items c.in_ok-program.program c.requires.linkable named c.in_ok-program.ensures.linked told.made told.named
