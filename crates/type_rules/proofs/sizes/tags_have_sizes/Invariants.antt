use Rattle.std.proofs.Common.{ℕ, ◌<◌}
use Rattle.type_rules.specs.Sizes.{TagHasSize}
use Rattle.type_rules.proofs.sizes.tags_have_sizes.Given as goal

abbrev pub invariant-loop-id : goal.invariant-loop-id
invariant-loop-id l = (k : ℕ) → k < l.id → TagHasSize l.types k
