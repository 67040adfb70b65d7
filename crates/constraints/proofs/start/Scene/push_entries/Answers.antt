use Rattle.normal_form.specs.SystemOf.{entry_constraints}
use Rattle.constraints.specs.Start.{trees_of, view_in}
use Rattle.constraints.proofs.StartLemmas.{added_more}
use Rattle.constraints.proofs.start.Scene.push_entries.Goals as goal

pub loop-e-preserved : goal.loop-e-preserved
loop-e-preserved c =
    added_more (entry_constraints (trees_of c.args.self.now) (view_in c.args.self.now) c.args.outside) c.args.entries.now c.loop-e.e-index 0 c.args.list.now.items c.loop-e.list.items c.push_entry.new.list.items
    c.loop-e-test.true c.in_ok-push_entry.ensures c.loop-e.invariant
