use Rattle.std.proofs.Common.{take, All}
use Rattle.link_names.specs.Scene.{joined_of}
use Rattle.link_names.specs.Faults.{HasEntry}
use Rattle.link_names.proofs.start.entered.Given as goal

abbrev pub invariant-loop-name : goal.invariant-loop-name
invariant-loop-name l = All (HasEntry (joined_of l.scene) l.scene.declared.now) (take l.name-index l.entries)
