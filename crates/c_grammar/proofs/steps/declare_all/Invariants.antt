use Rattle.std.proofs.Common.{◌≡◌, take}
use Rattle.c_grammar.specs.Log.{seen_all}
use Rattle.c_grammar.specs.Names.{all_declared}
use Rattle.c_grammar.proofs.steps.declare_all.Given as goal

abbrev pub invariant-loop-declared : goal.invariant-loop-declared
invariant-loop-declared l = l.scopes ≡ all_declared l.fn.scopes (seen_all (take l.declared-index l.scope))
