use Rattle.std.proofs.Common.{take}
use Rattle.link_units.specs.link_entities.Uses.{AreUses}
use Rattle.link_units.proofs.link_entities.uses.first_uses.Given as goal

abbrev pub invariant-loop-here : goal.invariant-loop-here
invariant-loop-here l = AreUses l.scene.units.now l.scene.declared.now (take l.here l.scene.declared.now) l.list.items
