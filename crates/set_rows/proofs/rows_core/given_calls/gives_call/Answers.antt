use Rattle.std.proofs.Common.{◌≡◌, ℕ, ◌<◌, Some, slice_get, sym, ◌∙◌, subst, arith, inl, inr}
use Rattle.std.proofs.lemmas.Bool.{both_ways}
use Rattle.std.proofs.lemmas.Option.{slice_get_within, same_Some}
use Rattle.sol_model.specs.declared.system.CallSite.{CallSite}
use Rattle.sol_model.specs.declared.system.Function.{Function}
use Rattle.sol_model.specs.Families.{Has, members}
use Rattle.sol_model.specs.Rules.{IsDemanded, IsTarget, TargetEdge, TargetFact}
use Rattle.set_rows.proofs.rows_core.Looking.{ruled_out, none_next}
use Rattle.set_rows.proofs.rows_core.given_calls.gives_call.Goals as goal
use Rattle.set_rows.proofs.rows_core.given_calls.gives_call.Goals.{else-has-via-then-has+then-function-call+else-gives_target, else-has-via-then-has+else-function-call, else-has-via-else-has}

pub loop-target-preserved : goal.loop-target-preserved
loop-target-preserved c k f h at has agrees demanded =
    let S = c.args.system.now in
    let F = members c.args.rows.now in
    let call = c.call_at-call.result.now in
    none_next S.functions (λ target function. Has F call.callee function.location × (function.signature ≡ call.signature) × IsDemanded (TargetEdge S F call target function function.library) (TargetFact call target function function.library) F c.args.row c.args.location)
    c.loop-target.target c.function_at-function.result.now c.function_at-function.ensures.value
    (λ j y lt there p. c.loop-target.invariant j y lt there p.0 p.1 p.2)
    (λ p. elim c.else-has.branch [
      | else-has-via-then-has+then-function-call+else-gives_target w ↦ ruled_out _ _ w.if-gives_target.false w.gives_target.ensures.1 p.2
      | else-has-via-then-has+else-function-call w ↦ w.if-function-call.false p.1
      | else-has-via-else-has w ↦ both_ways _ (sym c.has.ensures ∙ w.if-has.false) p.0
    ])
    k f h at (has, agrees, demanded)

pub returns : goal.returns
returns c =
    let S = c.args.system.now in
    let F = members c.args.rows.now in
    let call = c.call_at-call.result.now in
    let same : (other : CallSite) → slice_get S.calls c.args.number ≡ Some other → other ≡ call = λ other at. same_Some _ _ (sym at ∙ c.call_at-call.ensures.value) in
    let none : (target : ℕ) (function : Function) → IsTarget S F call target function → IsDemanded (TargetEdge S F call target function function.library) (TargetFact call target function function.library) F c.args.row c.args.location → ⊥ = λ target function t demanded.
    let within = slice_get_within S.functions target function t.known in
    let end = c.len-target-end.ensures in
    let here : target < c.loop-target.target = omega arith in
    c.loop-target.invariant target function here t.known t.reached t.agrees demanded in (
      λ e. absurd (cc),
      λ given. absurd (elim given [
        | inl fact ↦ none fact.1 fact.2 (subst (λ (other : CallSite). IsTarget S F other fact.1 fact.2) (same fact.0 fact.3) fact.4)
            (inl (subst (λ (other : CallSite). TargetFact other fact.1 fact.2 (fact.2).library c.args.row c.args.location) (same fact.0 fact.3) fact.5))
        | inr carried ↦
            (let edge = carried.1 in
            none edge.1 edge.2 (subst (λ (other : CallSite). IsTarget S F other edge.1 edge.2) (same edge.0 edge.3) edge.4)
            (inr (carried.0, subst (λ (other : CallSite). TargetEdge S F other edge.1 edge.2 (edge.2).library carried.0 c.args.row) (same edge.0 edge.3) edge.5, carried.2)))
      ]),
    )
