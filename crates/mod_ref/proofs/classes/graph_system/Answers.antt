use Rattle.std.proofs.Common.{◌++◌, List, map, refl, ap, ◌∙◌}
use Rattle.std.specs.List.{range_with_len}
use Rattle.sol_model.specs.declared.system.Constraint.{Constraint}
use Rattle.mod_ref.specs.Ways.{call_copy, own_copy}
use Rattle.mod_ref.proofs.Paths.{graph_valid}
use Rattle.mod_ref.proofs.classes.graph_system.Goals as goal

pub returns-clause-valid : goal.returns-clause-valid
returns-clause-valid c = graph_valid c.args.functions c.args.edges.now _ c.requires record {
  rows = refl;
  locations = c.new.ensures;
  types = c.new-2.ensures;
  constraints = c.in_ok-push_calls.ensures
      ∙ ap (λ (xs : List Constraint). xs ++ map call_copy c.args.edges.now) (c.in_ok-push_own.ensures ∙ ap (λ (xs : List Constraint). xs ++ map own_copy (range_with_len 0 c.args.functions)) c.new-constraints.ensures);
  calls = c.new-3.ensures;
  functions = c.new-4.ensures;
}
