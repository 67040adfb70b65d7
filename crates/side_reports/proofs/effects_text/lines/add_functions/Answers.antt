use Rattle.std.proofs.lemmas.Option.{slice_get_within}
use Rattle.sol_model.specs.Families.{members}
use Rattle.side_reports.proofs.effects_text.Lining.{lines_next}
use Rattle.side_reports.proofs.effects_text.lines.add_functions.Goals as goal

pub add_function-requires-clause-reads : goal.add_function-requires-clause-reads
add_function-requires-clause-reads c = c.requires.reads c.loop-row.row (slice_get_within c.args.system.now.functions c.loop-row.row c.function_at-function.result.now c.function_at-function.ensures.value)

pub add_function-requires-clause-writes : goal.add_function-requires-clause-writes
add_function-requires-clause-writes c = c.requires.writes c.loop-row.row (slice_get_within c.args.system.now.functions c.loop-row.row c.function_at-function.result.now c.function_at-function.ensures.value)

pub loop-row-preserved : goal.loop-row-preserved
loop-row-preserved c =
    lines_next c.args.space.now c.args.system.now (members c.args.made.now.reads) (members c.args.made.now.writes) c.args.system.now.functions c.loop-row.row c.function_at-function.result.now c.args.text.now.items c.loop-row.text.items c.add_function.new.text.items
    c.function_at-function.ensures.value c.loop-row.invariant c.in_ok-add_function.ensures
