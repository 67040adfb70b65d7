use Rattle.std.proofs.Common.{◌≡◌, ◌<◌, ℕ, length, get_or}
use Rattle.c_types.specs.Table.{type_of, IsFirstOf}
use Rattle.link_merge.proofs.keys.first_ids.Given as goal

abbrev pub invariant-loop-id : goal.invariant-loop-id
invariant-loop-id l = record {
  all : length l.list.items ≡ l.id;
  each : (i : ℕ) → i < l.id → IsFirstOf l.types (type_of l.types i) (get_or l.list.items i 0);
}
