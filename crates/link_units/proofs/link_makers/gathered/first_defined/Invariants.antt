use Rattle.std.proofs.Common.{None, take}
use Rattle.link_names.specs.Externals.{is_defined, item_of}
use Rattle.link_names.specs.Scene.{joined_of}
use Rattle.link_units.specs.link_makers.Gathered.{AreGathered, first_passing}
use Rattle.link_units.proofs.link_makers.gathered.first_defined.Given as goal

abbrev pub invariant-loop-here : goal.invariant-loop-here
invariant-loop-here l = AreGathered l.scene.units.now l.scene.declared.now (λ o d. first_passing o (is_defined (joined_of l.scene) (item_of d)) d) None (take l.here l.scene.declared.now) l.list.items
