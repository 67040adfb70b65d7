use Rattle.std.proofs.Common.{◌≡◌, length}
use Rattle.unit_keys.proofs.given_keys.given.no_keys.Given as goal

abbrev pub invariant-loop-tag : goal.invariant-loop-tag
invariant-loop-tag l = length l.keys.items ≡ l._tag
