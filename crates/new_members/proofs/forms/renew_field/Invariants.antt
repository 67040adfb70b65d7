use Rattle.std.proofs.Common.{◌≡◌, ℕ, Some}
use Rattle.sol_model.specs.Places.{field_of}
use Rattle.edge_book.specs.Edges.{Gains}
use Rattle.new_members.proofs.Through.{Through}
use Rattle.new_members.proofs.forms.renew_field.Given as goal

abbrev pub invariant-loop-whole : goal.invariant-loop-whole
invariant-loop-whole l = Gains l.initial.facts.items l.facts.items (Through l.new (λ (whole a b : ℕ). (field_of l.system whole l.ty l.member ≡ Some b) × (a ≡ l.to)) l.whole-index)
