use Rattle.std.proofs.Common.{All, AllPairs, List, ℕ, ◌≢◌, ◌<◌, length, subst, sym, arith}
use Rattle.sol_model.specs.Systems.{IsRow, IsLocation}
use Rattle.call_graph.proofs.system_check.calls.is_call_valid.Goals as goal

pub returns : goal.returns
returns c = (
  (λ fresh. let both = c.are_fresh_valid.ensures.0 fresh in record {
    caller = omega arith;
    callee = omega arith;
    arguments = subst (λ (xs : List (List ℕ)). All (λ rows. All (IsRow c.args.system.now) rows) xs) c.as_slice.ensures (c.are_lists_of_rows.ensures.0 c.if-not-are_lists_of_rows.false);
    result = subst (λ (xs : List ℕ). All (IsRow c.args.system.now) xs) c.as_slice-2.ensures (c.are_rows.ensures.0 c.if-not-are_rows.false);
    fresh = subst (λ (xs : List (ℕ × ℕ)). All (λ pair. (pair.0 < length c.args.system.now.functions) × IsLocation c.args.system.now pair.1) xs) c.as_slice-3.ensures both.0;
    once = subst (λ (xs : List (ℕ × ℕ)). AllPairs (λ one other. one.0 ≢ other.0) xs) c.as_slice-3.ensures both.1;
  }),
  (λ valid. c.are_fresh_valid.ensures.1 (
    subst (λ (xs : List (ℕ × ℕ)). All (λ pair. (pair.0 < length c.args.system.now.functions) × IsLocation c.args.system.now pair.1) xs) (sym c.as_slice-3.ensures) valid.fresh,
    subst (λ (xs : List (ℕ × ℕ)). AllPairs (λ one other. one.0 ≢ other.0) xs) (sym c.as_slice-3.ensures) valid.once,
  )),
)
