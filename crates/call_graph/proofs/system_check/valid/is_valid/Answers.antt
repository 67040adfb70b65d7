use Rattle.std.proofs.Common.{List, All, subst, arith}
use Rattle.std.proofs.lemmas.Bool.{both_ways, false≢true}
use Rattle.sol_model.specs.declared.system.Constraint.{Constraint}
use Rattle.sol_model.specs.Systems.{IsConstraintValid}
use Rattle.call_graph.proofs.system_check.Owned.{valid_from, placed_from, owned_from}
use Rattle.call_graph.proofs.system_check.valid.is_valid.Goals as goal

pub returns-then-not-are_placed : goal.returns-then-not-are_placed
returns-then-not-are_placed c = (
  (λ z. absurd (false≢true z)),
  (λ valid. absurd (both_ways _ c.if-not-are_placed.true (c.are_placed.ensures.1 (placed_from c.args.system.now valid)))),
)

pub returns-then-not-are_owned : goal.returns-then-not-are_owned
returns-then-not-are_owned c = (
  (λ z. absurd (false≢true z)),
  (λ valid. absurd (both_ways _ c.if-not-are_owned.true (c.are_owned.ensures.1 (owned_from c.args.system.now valid)))),
)

pub returns : goal.returns
returns c = (
  (λ parts. let all = c.are_parts_valid.ensures.0 parts in record {
    rows = omega arith;
    constraints = subst (λ (xs : List Constraint). All (IsConstraintValid c.args.system.now) xs) c.as_slice.ensures (c.are_constraints_valid.ensures.0 c.if-not-are_constraints_valid.false);
    locations = λ location fact known. valid_from c.args.system.now (c.are_owned.ensures.0 c.if-not-are_owned.false) location fact known (c.are_placed.ensures.0 c.if-not-are_placed.false location fact known);
    types = all.0;
    calls = all.1;
    functions = all.2;
    size = c.is_small.ensures.0 c.if-not-is_small.false;
  }),
  (λ valid. c.are_parts_valid.ensures.1 (valid.types, valid.calls, valid.functions)),
)
