use Rattle.link_merge.specs.Kids.{term_kids}
use Rattle.link_merge.specs.Parted.{lists_of}
use Rattle.link_merge.proofs.Kidding.{kids_more}
use Rattle.link_merge.proofs.kids.add_type_kids.Goals as goal

pub loop-id-preserved : goal.loop-id-preserved
loop-id-preserved c =
    kids_more (term_kids c.args.types c.args.tags) (lists_of c.args.lists.now.items) c.loop-id.lists.items c.push.new.self.items c.in_ok-list.list c.args.unit.now.terms c.loop-id.id c.term.result.now c.in_ok-push.ensures.items c.loop-id.invariant c.term.ensures.value c.in_ok-list.ensures
