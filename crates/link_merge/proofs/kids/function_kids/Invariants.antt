use Rattle.std.proofs.Common.{◌≡◌, ◌+◌, ◌++◌, map, take}
use Rattle.link_merge.proofs.kids.function_kids.Given as goal

abbrev pub invariant-loop-parameter : goal.invariant-loop-parameter
invariant-loop-parameter l = l.list.items ≡ l.initial.list.items ++ map (λ id. l.types + id.0) (take l.parameter-index l.parameters)
