use Rattle.std.proofs.Common.{◌≡◌, ◌+◌, ◌<◌, ℕ, Bool, length, slice_index}
use Rattle.c_types.specs.Table.{type_of}
use Rattle.link_model.specs.link_types.Moved.{Keyed, HasTypes}
use Rattle.link_model.proofs.link_types.join.add_unit.Given as goal

abbrev pub invariant-loop-id : goal.invariant-loop-id
invariant-loop-id l = record {
  added : HasTypes l.types l.unit l.start (λ k. slice_index l.tags k) l.id;
  count : length l.types.terms ≡ l.start + l.id;
  tags : l.types.tags ≡ l.initial.types.tags;
  completed : l.types.completed ≡ l.initial.types.completed;
  keyed : (keyword : ℕ → Bool) → Keyed keyword l.initial.types.terms → Keyed (λ k. keyword (slice_index l.tags k)) l.unit.terms → Keyed keyword l.types.terms;
  kept : (i : ℕ) → i < length l.initial.types.terms → type_of l.types i ≡ type_of l.initial.types i;
}
