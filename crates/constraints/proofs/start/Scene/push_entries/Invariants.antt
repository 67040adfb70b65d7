use Rattle.std.proofs.Common.{◌≡◌, ◌++◌, take}
use Rattle.std.specs.List.{flat_map}
use Rattle.normal_form.specs.SystemOf.{entry_constraints}
use Rattle.constraints.specs.Start.{trees_of, view_in}
use Rattle.constraints.proofs.start.Scene.push_entries.Given as goal

abbrev pub invariant-loop-e : goal.invariant-loop-e
invariant-loop-e l = l.list.items ≡ l.fn.list.items ++ flat_map (entry_constraints (trees_of l.self) (view_in l.self) l.outside) (take l.e-index l.entries)
