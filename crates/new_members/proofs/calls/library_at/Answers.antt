use Rattle.std.proofs.Common.{◌≡◌, ℕ, ◌<◌, Option, length, IfSome, sym, ◌∙◌, ap, subst, true≢false}
use Rattle.std.proofs.lemmas.Option.{same_Some, none-some}
use Rattle.std.specs.Option.{is_some}
use Rattle.sol_model.specs.declared.system.Function.{Function}
use Rattle.new_members.specs.News.{IsLibraryAt}
use Rattle.new_members.proofs.Answering.{fact_function, one_function}
use Rattle.new_members.proofs.calls.library_at.Goals as goal
use Rattle.new_members.proofs.calls.library_at.Goals.{else-function-location-via-then-function-location+then-function-call+else-is_some, else-function-location-via-then-function-location+else-function-call, else-function-location-via-else-function-location}

pub returns-in_err-number : goal.returns-in_err-number
returns-in_err-number c = record {
  value = λ number. (
    λ d. absurd (none-some number (sym c.in_err-number.was ∙ fact_function c.args.system.now c.requires.valid c.args.location number c.location_fact.result d.0 c.location_fact.ensures.value d.1 d.2)),
    λ e. absurd (none-some number (sym c.from_residual.ensures ∙ e)),
  );
}

pub function_at-function-requires-clause-known : goal.function_at-function-requires-clause-known
function_at-function-requires-clause-known c =
    subst (λ (o : Option ℕ). IfSome o (λ number. number < length c.args.system.now.functions)) c.in_ok-number.was (c.requires.valid.locations c.args.location c.location_fact.result c.location_fact.ensures.value).function

pub returns-then-is_some : goal.returns-then-is_some
returns-then-is_some c = record {
  value = λ number. (
    λ d. sym c.in_ok-number.was ∙ fact_function c.args.system.now c.requires.valid c.args.location number c.location_fact.result d.0 c.location_fact.ensures.value d.1 d.2,
    λ e. subst (IsLibraryAt c.args.system.now c.args.call.now c.args.location) (same_Some c.in_ok-number.number number e)
        (c.function_at-function.result.now, c.function_at-function.ensures.value, c.if-function-location.true, c.if-function-call.true, sym c.is_some.ensures ∙ c.if-is_some.true),
  );
}

pub returns-else-function-location : goal.returns-else-function-location
returns-else-function-location c = record {
  value = λ number. (
    λ d. absurd (
        let S = c.args.system.now in
        let function : Function = c.function_at-function.result.now in
        let other : Function = d.0 in
        let same : c.in_ok-number.number ≡ number = same_Some c.in_ok-number.number number (sym c.in_ok-number.was ∙ fact_function S c.requires.valid c.args.location number c.location_fact.result other c.location_fact.ensures.value d.1 d.2) in
        let one : function ≡ other = one_function S c.in_ok-number.number number function other c.function_at-function.ensures.value d.1 same in
        elim c.else-function-location.branch [
          | else-function-location-via-then-function-location+then-function-call+else-is_some w ↦ true≢false (sym d.4 ∙ ap (λ (f : Function). is_some f.library) (sym one) ∙ sym w.is_some.ensures ∙ w.if-is_some.false)
          | else-function-location-via-then-function-location+else-function-call w ↦ w.if-function-call.false (ap (λ (f : Function). f.signature) one ∙ d.3)
          | else-function-location-via-else-function-location w ↦ w.if-function-location.false (ap (λ (f : Function). f.location) one ∙ d.2)
        ]),
    λ e. absurd (none-some number e),
  );
}
