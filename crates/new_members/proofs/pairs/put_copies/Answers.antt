use Rattle.std.proofs.Common.{ℕ, get_or, arith}
use Rattle.std.proofs.lemmas.Option.{slice_get-get_or}
use Rattle.new_members.specs.News.{FromEach}
use Rattle.new_members.proofs.Through.{through_none, through_next, through_all}
use Rattle.new_members.proofs.pairs.put_copies.Goals as goal

pub loop-to-init : goal.loop-to-init
loop-to-init c = through_none c.args.tos.now (λ (to : ℕ). FromEach c.args.system.now to c.args.froms.now) c.args.pairs.now.items

pub loop-to-preserved : goal.loop-to-preserved
loop-to-preserved c =
    let i : ℕ = c.loop-to.to-index in
    through_next c.args.tos.now (λ (to : ℕ). FromEach c.args.system.now to c.args.froms.now) c.args.pairs.now.items c.loop-to.pairs.items c.put_into.new.pairs.items i (get_or c.args.tos.now i 0) (c.loop-to.invariant) (slice_get-get_or c.args.tos.now i 0 c.loop-to-test.true) (c.in_ok-put_into.ensures)

pub returns : goal.returns
returns c = (through_all c.args.tos.now (λ (to : ℕ). FromEach c.args.system.now to c.args.froms.now) c.args.pairs.now.items c.loop-to.pairs.items c.loop-to.to-index (let n = c.loop-to-test.false in omega arith) (c.loop-to.invariant))
