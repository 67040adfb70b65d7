use Rattle.std.proofs.Common.{List, take}
use Rattle.c_scope.specs.Known.{Happening, nothing_known}
use Rattle.c_scope.specs.Binding.{Holds, label_at}
use Rattle.c_scope.specs.Happens.{AreHappenings, known_with}
use Rattle.c_scope.proofs.Passing.{go}
use Rattle.c_scope.proofs.resolving.bind_all.Given as goal

abbrev pub invariant-loop-node : goal.invariant-loop-node
invariant-loop-node l = (all : List Happening) → AreHappenings l.unit all → Holds l.binder (go (known_with l.unit.file (label_at l.labels) all) (take l.node-index l.speaking) nothing_known)
