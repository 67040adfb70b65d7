use Rattle.std.proofs.Common.{◌≡◌, ℕ, Bool, Some, [], slice_get}
use Rattle.core_tree.specs.declared.node.Unit.{Unit}
use Rattle.link_model.specs.link_types.Moved.{Keyed}
use Rattle.link_model.specs.link_types.Joined.{tag_in, AreJoined}
use Rattle.link_model.proofs.link_types.join.joined.Given as goal

abbrev pub invariant-loop-u : goal.invariant-loop-u
invariant-loop-u l = record {
  joined : AreJoined l.units l.tag_starts l.numbers l.types l.u;
  tags : l.types.tags ≡ l.count;
  completed : l.types.completed ≡ [];
  keyed : (keyword : ℕ → Bool) → ((u : ℕ) (x : Unit) → slice_get l.units u ≡ Some x → Keyed (λ k. keyword (tag_in l.tag_starts l.numbers u k)) x.types.terms) → Keyed keyword l.types.terms;
}
