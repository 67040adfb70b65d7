use Rattle.std.proofs.Common.{◌≡◌, ℕ, false, length, take, get_or}
use Rattle.std.specs.List.{list_any}
use Rattle.link_model.specs.Units.{is_union_of}
use Rattle.link_model.proofs.link_types.labels.unions_of.Given as goal

abbrev pub invariant-loop-id : goal.invariant-loop-id
invariant-loop-id l = record {
  all : length l.list.items ≡ l.types.tags;
  each : (tag : ℕ) → get_or l.list.items tag false ≡ list_any (is_union_of tag) (take l.id l.types.terms);
}
