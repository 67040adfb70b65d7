use Rattle.std.proofs.Common.{ℕ, ◌<◌}
use Rattle.link_units.specs.link_whole.Entries.{IsEntryOf}
use Rattle.link_units.proofs.link_whole.entries.entity_named.Given as goal

abbrev pub invariant-loop-e : goal.invariant-loop-e
invariant-loop-e l = (k : ℕ) → k < l.e → IsEntryOf l.entities l.name k → ⊥
