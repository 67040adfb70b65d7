use Rattle.std.proofs.Common.{ℕ, get_or, arith}
use Rattle.std.proofs.lemmas.Option.{slice_get-get_or}
use Rattle.sol_model.specs.Rules.{PairEdge}
use Rattle.new_members.proofs.Through.{through_none, through_next, through_all}
use Rattle.new_members.proofs.pairs.put_into.Goals as goal

pub loop-from-init : goal.loop-from-init
loop-from-init c = through_none c.args.froms.now (PairEdge c.args.system.now c.args.to) c.args.pairs.now.items

pub loop-from-preserved : goal.loop-from-preserved
loop-from-preserved c =
    let i : ℕ = c.loop-from.from-index in
    through_next c.args.froms.now (PairEdge c.args.system.now c.args.to) c.args.pairs.now.items c.loop-from.pairs.items c.put_copy.new.pairs.items i (get_or c.args.froms.now i 0) (c.loop-from.invariant) (slice_get-get_or c.args.froms.now i 0 c.loop-from-test.true) (c.in_ok-put_copy.ensures)

pub returns : goal.returns
returns c = (through_all c.args.froms.now (PairEdge c.args.system.now c.args.to) c.args.pairs.now.items c.loop-from.pairs.items c.loop-from.from-index (let n = c.loop-from-test.false in omega arith) (c.loop-from.invariant))
