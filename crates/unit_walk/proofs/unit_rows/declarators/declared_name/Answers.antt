use Rattle.std.proofs.Common.{subst}
use Rattle.c_senses.specs.Rows.{declarator_row}
use Rattle.c_senses.specs.Sense.{sense_in}
use Rattle.c_results.specs.Standing.{senses_made, Rowed}
use Rattle.unit_worlds.proofs.unit_limits.Flags.{unions_flexible}
use Rattle.unit_walk.specs.unit_rows.Standing.{source_known}
use Rattle.unit_walk.proofs.unit_rows.declarators.declared_name.Goals as goal

pub said_in-requires-clause-names : goal.said_in-requires-clause-names
said_in-requires-clause-names c = c.requires.known.names c.args.results.now

pub returns-clause-named : goal.returns-clause-named
returns-clause-named c w k limits =
    let t = c.type_count-count.ensures in
    c.declarator_row.ensures.named w (record { knows = k; flexible = unions_flexible w c.args.unit.now c.args.unions.now t.made t.named k c.requires.unions; limited = limits })

pub returns-clause-row : goal.returns-clause-row
returns-clause-row c w k limits =
    let t = c.type_count-count.ensures in
    let s = source_known c.args.known.now in
    let uses = c.args.known.now.bound.now.uses.items in
    let S = sense_in (senses_made c.args.unit.now c.args.results.now) in
    subst (λ xs. Rowed c.declarator_row.new.unit c.declarator_row.result (declarator_row w s S c.args.at xs)) c.children_of-children.ensures
    (c.declarator_row.ensures.row w uses (record { knows = k; flexible = unions_flexible w c.args.unit.now c.args.unions.now t.made t.named k c.requires.unions; limited = limits })
    (c.completed_flags.ensures w s S c.requires.known.tags) (c.in-Ok.ensures.said c.args.unit.now w uses))
