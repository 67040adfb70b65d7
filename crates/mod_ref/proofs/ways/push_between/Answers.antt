use Rattle.std.proofs.Common.{get_or, arith}
use Rattle.std.proofs.lemmas.Option.{slice_get-get_or}
use Rattle.mod_ref.proofs.Paths.{adds_none, between_all, between_next}
use Rattle.mod_ref.proofs.ways.push_between.Goals as goal

pub bounds-heights-caller : goal.bounds-heights-caller
bounds-heights-caller c = (c.requires c.loop-i.i (0, 0) c.loop-i-test.true).0

pub loop-i-init : goal.loop-i-init
loop-i-init c = adds_none c.args.ways.now.items _ (λ a b h. let lt = h.1 in absurd (omega arith))

pub loop-i-preserved : goal.loop-i-preserved
loop-i-preserved c =
    let pair = get_or c.args.made.now c.loop-i.i (0, 0) in
    between_next c.args.ways.now.items c.loop-i.ways.items c.push.new.self.items c.args.made.now c.loop-i.i _ pair.0 pair.1 (slice_get-get_or c.args.made.now c.loop-i.i (0, 0) c.loop-i-test.true) c.in_ok-push.ensures.items c.loop-i.invariant

pub returns : goal.returns
returns c = between_all c.args.ways.now.items c.loop-i.ways.items c.args.made.now c.loop-i.i c.loop-i-test.false c.loop-i.invariant
