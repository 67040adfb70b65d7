use Rattle.std.proofs.Common.{◌≡◌, take, None}
use Rattle.link_names.specs.Together.{of_name, first_body}
use Rattle.link_names.proofs.entry.type_of_body.Given as goal

abbrev pub invariant-loop-here : goal.invariant-loop-here
invariant-loop-here l = first_body l.scene.units.now (of_name l.scene.units.now l.name (take l.here l.scene.declared.now)) ≡ None
