use Rattle.std.proofs.Common.{get_or, arith}
use Rattle.std.proofs.lemmas.Option.{slice_get-get_or}
use Rattle.link_model.specs.Units.{item}
use Rattle.link_merge.proofs.Firsting.{firsts_more}
use Rattle.link_merge.proofs.counted.first_lists.Goals as goal

pub loop-here-preserved : goal.loop-here-preserved
loop-here-preserved c =
    let tags = c.args.tags.now in
    let leaders = c.args.leaders.now in
    let i = c.loop-here.here in
    let all = c.requires.leaders.all in
    let at = slice_get-get_or tags i (item 0 0) c.loop-here-test.true in
    firsts_more c.args.units.now tags leaders i (get_or tags i (item 0 0)) c.has_list.result c.loop-here.list.items c.keep_first.new.list.items c.loop-here.invariant at (c.requires.leaders.within i (omega arith))
    c.has_list.ensures.0 c.has_list.ensures.1 c.keep_first.ensures
