use Rattle.std.proofs.Common.{◌≡◌, ℕ, []}
use Rattle.sol_model.specs.declared.system.Constraint.{Constraint}
use Rattle.sol_model.specs.declared.system.Constraint.TheVariants.{Copy, Address}
use Rattle.edge_book.specs.Edges.{AreApart, Gains}
use Rattle.new_members.proofs.Through.{Through}
use Rattle.new_members.proofs.starting.start.Given as goal

abbrev pub invariant-loop-i : goal.invariant-loop-i
invariant-loop-i l = record {
  book : Gains l.initial.book l.book (Through l.system.constraints (λ (constraint : Constraint) (a b : ℕ). constraint ≡ Copy a b) l.i);
  facts : Gains [] l.facts.items (Through l.system.constraints (λ (constraint : Constraint) (a b : ℕ). constraint ≡ Address a b) l.i);
  once : AreApart l.initial.book → AreApart l.book;
}
