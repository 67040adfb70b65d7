use Rattle.mod_ref.proofs.Touching.{count_is}
use Rattle.side_reports.proofs.effects_text.Lining.{listable}
use Rattle.side_reports.proofs.effects_text.lines.effects_text.Goals as goal

pub add_functions-requires-clause-count : goal.add_functions-requires-clause-count
add_functions-requires-clause-count c = count_is c.args.program.now c.args.space.now c.args.system.now c.requires.system

pub add_functions-requires-clause-reads : goal.add_functions-requires-clause-reads
add_functions-requires-clause-reads c row lt = let t = c.in_ok-made.ensures.reads in listable c.args.system.now c.in_ok-made.made.reads row c.requires.valid t.width t.words t.known lt

pub add_functions-requires-clause-writes : goal.add_functions-requires-clause-writes
add_functions-requires-clause-writes c row lt = let t = c.in_ok-made.ensures.writes in listable c.args.system.now c.in_ok-made.made.writes row c.requires.valid t.width t.words t.known lt
