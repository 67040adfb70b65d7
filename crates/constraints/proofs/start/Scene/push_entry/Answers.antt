use Rattle.std.proofs.Common.{◌∙◌}
use Rattle.constraints.specs.Start.{trees_of, view_in}
use Rattle.constraints.proofs.StartLemmas.{entry_written}
use Rattle.constraints.proofs.start.Scene.push_entry.Goals as goal

pub returns : goal.returns
returns c =
    entry_written (trees_of c.args.self.now) (view_in c.args.self.now) c.args.outside c.args.self.now.results.now.none c.requires.results.none c.args.e _ _ _
    c.args.list.now.items c.push_parameters.new.list.items c.push_given.new.list.items (c.of.ensures ∙ c.requires.owned c.args.e) c.in_ok-push_parameters.ensures c.in_ok-rows.ensures c.as_slice.ensures c.in_ok-push_given.ensures
