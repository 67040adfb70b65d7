use Rattle.std.proofs.Common.{sym, true, false}
use Rattle.sol_model.proofs.Pairs.{pairs_length}
use Rattle.sol_model.proofs.locations.count_pairs.Goals as goal

pub returns-in-true-false : goal.returns-in-true-false
returns-in-true-false c to from = rw (c.in-true-false.is-0, c.in-true-false.is-1) (sym (pairs_length true false c.args.one_type to from c.args.to_nodes c.args.from_nodes))

pub returns-in-false-true : goal.returns-in-false-true
returns-in-false-true c to from = rw (c.in-false-true.is-0, c.in-false-true.is-1) (sym (pairs_length false true c.args.one_type to from c.args.to_nodes c.args.from_nodes))

pub returns-then-one_type : goal.returns-then-one_type
returns-then-one_type c to from = rw (c.in-false-false.is-0, c.in-false-false.is-1, c.if-one_type.true) (sym (pairs_length false false true to from c.args.to_nodes c.args.from_nodes))
