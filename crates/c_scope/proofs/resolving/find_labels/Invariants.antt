use Rattle.std.proofs.Common.{◌≡◌, ℕ, None, List, take}
use Rattle.c_scope.specs.Known.{Happening}
use Rattle.c_scope.specs.Binding.{label_at}
use Rattle.c_scope.specs.Happens.{AreHappenings, label_with}
use Rattle.c_scope.proofs.Passing.{go}
use Rattle.c_scope.proofs.resolving.find_labels.Given as goal

abbrev pub invariant-loop-node : goal.invariant-loop-node
invariant-loop-node l = (all : List Happening) → AreHappenings l.unit all → (body symbol : ℕ) → label_at l.labels body symbol ≡ go (label_with all body symbol) (take l.node-index l.speaking) None
