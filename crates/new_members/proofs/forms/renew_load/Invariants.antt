use Rattle.std.proofs.Common.{◌≡◌, ℕ, Some, slice_get}
use Rattle.sol_model.specs.declared.system.Constraint.TheVariants.{Load}
use Rattle.sol_model.specs.Rules.{DemandsEdge}
use Rattle.edge_book.specs.Edges.{only}
use Rattle.new_members.specs.News.{Takes}
use Rattle.new_members.proofs.Through.{Through}
use Rattle.new_members.proofs.forms.renew_load.Given as goal

abbrev pub invariant-loop-location : goal.invariant-loop-location
invariant-loop-location l = (p t y s : ℕ) → slice_get l.system.constraints l.constraint ≡ Some (Load p t y s) → Takes l.initial.book l.book (Through l.new (λ location. DemandsEdge l.system (only p location) (Load p t y s)) l.location-index)
