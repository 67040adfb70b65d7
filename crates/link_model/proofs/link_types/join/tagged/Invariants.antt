use Rattle.std.proofs.Common.{◌≡◌, []}
use Rattle.link_model.proofs.link_types.join.tagged.Given as goal

abbrev pub invariant-loop : goal.invariant-loop
invariant-loop l = l.types ≡ record { terms = []; tags = l.counter; completed = [] }
