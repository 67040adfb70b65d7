use Rattle.std.proofs.Common.{◌≤◌, List, length, take}
use Rattle.c_grammar.specs.declared.scopes.Declared.{Declared}
use Rattle.c_grammar.specs.Current.{Indexed}
use Rattle.c_grammar.specs.Log.{Says}
use Rattle.c_grammar.proofs.scopes.forget.Given as goal

abbrev pub invariant-loop-rest : goal.invariant-loop-rest
invariant-loop-rest l = record {
  within : l.rest ≤ length l.scope;
  says : (earlier : List Declared) → Says earlier l.fn.scope l.fn.current → Says earlier (take l.rest l.scope) l.current;
  indexed : Indexed l.current;
}

abbrev pub decreases-loop-rest : goal.decreases-loop-rest
decreases-loop-rest l = l.rest
