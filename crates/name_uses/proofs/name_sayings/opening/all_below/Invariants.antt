use Rattle.std.proofs.Common.{◌<◌, All, take}
use Rattle.c_scope.specs.declared.kinds.Declared.{Declared}
use Rattle.name_uses.proofs.name_sayings.opening.all_below.Given as goal

abbrev pub invariant-loop-declared : goal.invariant-loop-declared
invariant-loop-declared l = All (λ (d : Declared). d.node < l.count) (take l.declared-index l.declarations)
