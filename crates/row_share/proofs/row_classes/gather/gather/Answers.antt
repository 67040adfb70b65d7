use Rattle.std.proofs.Common.{ℕ, List, subst}
use Rattle.row_share.specs.share_laws.Gathered.{IsUnderWay}
use Rattle.row_share.proofs.share_laws.Marking.{way_gives, way_take}
use Rattle.row_share.proofs.row_classes.gather.gather.Goals as goal

pub loop-row-init : goal.loop-row-init
loop-row-init c = way_gives c.args.system.now c.args.order.now c.args.last c.args.class c.args.classes.now c.give.new.classes c.args.waiting.now.items c.give.new.waiting.items
    c.requires.order c.requires.last c.requires.sized c.requires.after c.requires.none c.requires.closed c.requires.empty c.in_ok-give.ensures

pub loop-row-preserved : goal.loop-row-preserved
loop-row-preserved c = c.in_ok-mark.ensures.way c.args.order.now c.args.last c.args.classes.now
    (way_take c.args.system.now c.args.order.now c.args.last c.args.class c.in-Some.row c.args.classes.now c.loop-row.classes c.pop.new.self.items
    (subst (λ (waiting : List ℕ). IsUnderWay c.args.system.now c.args.order.now c.args.last c.args.class c.args.classes.now c.loop-row.classes waiting) c.in-Some.ensures.items c.loop-row.invariant))
