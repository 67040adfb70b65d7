use Rattle.std.proofs.Common.{◌≡◌, ◌++◌, take}
use Rattle.std.specs.List.{flat_map}
use Rattle.normal_form.specs.Facts.{parameter_rows}
use Rattle.normal_form.specs.SystemOf.{taken_in}
use Rattle.constraints.specs.Start.{trees_of, view_in}
use Rattle.constraints.proofs.start.Scene.push_parameters.Given as goal

abbrev pub invariant-loop-key : goal.invariant-loop-key
invariant-loop-key l =
    l.list.items ≡ l.fn.list.items ++ flat_map (λ key. taken_in (trees_of l.self) (view_in l.self) l.outside (parameter_rows (trees_of l.self) (view_in l.self) key)) (take l.key-index l.parameters)
