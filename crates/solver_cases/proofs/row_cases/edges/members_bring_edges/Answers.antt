use Rattle.std.proofs.Common.{List, slice_get, ap}
use Rattle.sol_model.specs.declared.system.Constraint.{Constraint}
use Rattle.solver_cases.proofs.row_cases.edges.members_bring_edges.Goals as goal

pub edges_of_load-requires-clause-load : goal.edges_of_load-requires-clause-load
edges_of_load-requires-clause-load g c = (1, 0, 0, 0, ap (λ (xs : List Constraint). slice_get xs 0) c.in_ok-system.ensures.constraints)

pub edges_of_store-requires-clause-store : goal.edges_of_store-requires-clause-store
edges_of_store-requires-clause-store g c = (0, 1, 0, 0, ap (λ (xs : List Constraint). slice_get xs 1) c.in_ok-system.ensures.constraints)

pub edges_of_load-requires-2-clause-load : goal.edges_of_load-requires-2-clause-load
edges_of_load-requires-2-clause-load g c = (1, 0, 0, 0, ap (λ (xs : List Constraint). slice_get xs 0) c.in_ok-system.ensures.constraints)
