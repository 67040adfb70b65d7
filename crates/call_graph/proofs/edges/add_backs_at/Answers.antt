use Rattle.std.proofs.Common.{◌≡◌, ℕ, ◌<◌, IfSome, IsSome, length, refl, ap, subst, sym, ◌∙◌}
use Rattle.sol_model.specs.declared.system.Function.{Function}
use Rattle.std.proofs.lemmas.Bool.{false≢true}
use Rattle.sol_model.specs.Families.{Has, members}
use Rattle.call_graph.proofs.Gaining.{back_at, back_edge, no_back_at, same_function}
use Rattle.call_graph.proofs.edges.add_backs_at.Goals as goal

pub returns-in_default : goal.returns-in_default
returns-in_default c =
    no_back_at c.args.system.now (members c.args.rows.now) c.args.call.now c.args.location c.location_fact.result c.args.edges.now.items
    (c.requires.valid.locations c.args.location c.location_fact.result c.location_fact.ensures.value)
    (λ target function is known library agrees. c.in_default.not-Some target is)

pub function_at-function-requires-clause-known : goal.function_at-function-requires-clause-known
function_at-function-requires-clause-known c =
    subst (λ o. IfSome o (λ number. number < length c.args.system.now.functions)) c.in-Some.is
    (c.requires.valid.locations c.args.location c.location_fact.result c.location_fact.ensures.value).function

pub returns-then-is_none : goal.returns-then-is_none
returns-then-is_none c =
    no_back_at c.args.system.now (members c.args.rows.now) c.args.call.now c.args.location c.location_fact.result c.args.edges.now.items
    (c.requires.valid.locations c.args.location c.location_fact.result c.location_fact.ensures.value)
    (λ target function is known library agrees. false≢true (sym c.if-is_none.ensures ∙
    (subst (λ (f : Function). IsSome f.library) (same_function c.args.system.now.functions c.location_fact.result.function target c.in-Some.number function c.function_at-function.result.now is c.in-Some.is known c.function_at-function.ensures.value) library)))

pub returns-then-function-call : goal.returns-then-function-call
returns-then-function-call c =
    no_back_at c.args.system.now (members c.args.rows.now) c.args.call.now c.args.location c.location_fact.result c.args.edges.now.items
    (c.requires.valid.locations c.args.location c.location_fact.result c.location_fact.ensures.value)
    (λ target function is known library agrees. c.if-function-call.true
    (ap (λ (f : Function). f.signature) (same_function c.args.system.now.functions c.location_fact.result.function c.in-Some.number target c.function_at-function.result.now function c.in-Some.is is c.function_at-function.ensures.value known) ∙ agrees))

pub returns : goal.returns
returns c =
    let S = c.args.system.now in
    let F = members c.args.rows.now in
    let call = c.args.call.now in
    let function = c.function_at-function.result.now in
    let number : ℕ = c.in-Some.number in
    let valid = c.requires.valid.locations c.args.location c.location_fact.result c.location_fact.ensures.value in
    let stands : function.location ≡ c.args.location = (valid.own number function c.function_at-function.ensures.value).0 c.in-Some.is in
    back_at S F call number c.args.location function c.location_fact.result c.args.edges.now.items c.add_back_by.new.edges.items valid c.in-Some.is c.function_at-function.ensures.value
    (back_edge S F call number number function c.args.edges.now.items c.add_back_by.new.edges.items
    (record { known = c.function_at-function.ensures.value; reached = subst (λ (l : ℕ). Has F call.callee l) (sym stands) c.requires.location; agrees = c.if-function-call.false })
    c.if-is_none.ensures refl c.in_ok-add_back_by.ensures)
