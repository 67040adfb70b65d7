use Rattle.value_rows.proofs.Arguments.{Passing}
use Rattle.value_rows.proofs.calls.passed.Given as goal

abbrev pub invariant-loop-k : goal.invariant-loop-k
invariant-loop-k l = Passing l.fn.unit l.fn.at l.fn.c l.fn.function l.fn.arguments l.unit l.k l.children
