use Rattle.std.proofs.Common.{get_or}
use Rattle.std.proofs.lemmas.Option.{slice_get-get_or}
use Rattle.mod_ref.proofs.Paths.{both_more, members_all, members_none}
use Rattle.mod_ref.proofs.ways.push_members.Goals as goal

pub loop-f-init : goal.loop-f-init
loop-f-init c = members_none c.args.ways.now.items c.args.first.now

pub loop-f-preserved : goal.loop-f-preserved
loop-f-preserved c =
    both_more c.args.ways.now.items c.loop-f.ways.items c.push_both.new.ways.items c.args.first.now c.loop-f.f (get_or c.args.first.now c.loop-f.f 0) (slice_get-get_or c.args.first.now c.loop-f.f 0 c.loop-f-test.true) c.in_ok-push_both.ensures c.loop-f.invariant

pub returns : goal.returns
returns c = members_all c.args.ways.now.items c.loop-f.ways.items c.args.first.now c.loop-f.f c.loop-f-test.false c.loop-f.invariant
