use Rattle.c_mentions.proofs.Handing.{hands_more}
use Rattle.c_mentions.proofs.settings.hand_all.Goals as goal

pub loop-child-preserved : goal.loop-child-preserved
loop-child-preserved c = hands_more c.args.children.now c.loop-child.child-index _ c.args.node c.args.place c.args.places.now.items c.loop-child.places.items c.hand_one.new.places.items c.loop-child-test.true c.loop-child.invariant
    c.hand_one.ensures.count c.hand_one.ensures.before c.hand_one.ensures.behind
