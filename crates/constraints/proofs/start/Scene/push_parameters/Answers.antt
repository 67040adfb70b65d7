use Rattle.constraints.specs.Start.{trees_of, view_in}
use Rattle.constraints.proofs.StartLemmas.{parameter_more}
use Rattle.constraints.proofs.start.Scene.push_parameters.Goals as goal

pub loop-key-preserved : goal.loop-key-preserved
loop-key-preserved c =
    parameter_more (trees_of c.args.self.now) (view_in c.args.self.now) c.args.outside c.args.self.now.results.now.none c.requires.results.none c.args.parameters.now c.loop-key.key-index _ _ _
    c.args.list.now.items c.loop-key.list.items c.push_taken.new.list.items c.loop-key-test.true c.in_ok-rows.ensures c.as_slice.ensures c.in_ok-push_taken.ensures c.loop-key.invariant
