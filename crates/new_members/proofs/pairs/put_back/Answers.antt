use Rattle.std.proofs.Common.{◌≡◌, ℕ, ◌<◌, Option, length, IfSome, sym, ◌∙◌, ap, subst}
use Rattle.std.proofs.lemmas.Option.{same_Some, none-some}
use Rattle.edge_book.proofs.Gaining.{gains_same, gains_none}
use Rattle.sol_model.specs.declared.system.Function.{Function}
use Rattle.sol_model.specs.Rules.{PassesBack}
use Rattle.new_members.specs.News.{BackEdge}
use Rattle.new_members.proofs.Answering.{fact_function, one_function}
use Rattle.new_members.proofs.pairs.put_back.Goals as goal
use Rattle.new_members.proofs.pairs.put_back.Goals.{else-function-location-via-then-function-location+else-function-back_signature, else-function-location-via-else-function-location}

pub returns-in_default : goal.returns-in_default
returns-in_default c =
    gains_none c.args.pairs.now.items (BackEdge c.args.system.now c.args.call.now c.args.passed c.args.location)
    (λ a b d. none-some d.0 (sym c.in_default.is ∙ fact_function c.args.system.now c.requires.valid c.args.location d.0 c.location_fact.result d.1 c.location_fact.ensures.value d.2 d.3))

pub function_at-function-requires-clause-known : goal.function_at-function-requires-clause-known
function_at-function-requires-clause-known c =
    subst (λ (o : Option ℕ). IfSome o (λ number. number < length c.args.system.now.functions)) c.in-Some.is (c.requires.valid.locations c.args.location c.location_fact.result c.location_fact.ensures.value).function

pub returns-in_ok-put_passed : goal.returns-in_ok-put_passed
returns-in_ok-put_passed c =
    let S = c.args.system.now in
    let call = c.args.call.now in
    let passed = c.args.passed in
    let function : Function = c.function_at-function.result.now in
    let number : ℕ = c.in-Some.number in
    gains_same c.args.pairs.now.items c.put_passed.new.pairs.items (PassesBack call passed function) (BackEdge S call passed c.args.location)
    (λ a b h. (number, function, c.function_at-function.ensures.value, c.if-function-location.true, c.if-function-back_signature.true ∙ c.back_signature.ensures, h))
    (λ a b d.
    let same : number ≡ d.0 = same_Some number d.0 (sym c.in-Some.is ∙ fact_function S c.requires.valid c.args.location d.0 c.location_fact.result d.1 c.location_fact.ensures.value d.2 d.3) in
    subst (λ (f : Function). PassesBack call passed f a b) (sym (one_function S number d.0 function d.1 c.function_at-function.ensures.value d.2 same)) d.5)
    c.in_ok-put_passed.ensures

pub returns-else-function-location : goal.returns-else-function-location
returns-else-function-location c =
    let S = c.args.system.now in
    let function : Function = c.function_at-function.result.now in
    let number : ℕ = c.in-Some.number in
    gains_none c.args.pairs.now.items (BackEdge S c.args.call.now c.args.passed c.args.location)
    (λ a b d.
    let same : number ≡ d.0 = same_Some number d.0 (sym c.in-Some.is ∙ fact_function S c.requires.valid c.args.location d.0 c.location_fact.result d.1 c.location_fact.ensures.value d.2 d.3) in
    let one : function ≡ d.1 = one_function S number d.0 function d.1 c.function_at-function.ensures.value d.2 same in
    elim c.else-function-location.branch [
      | else-function-location-via-then-function-location+else-function-back_signature v ↦ v.if-function-back_signature.false (ap (λ (f : Function). f.signature) one ∙ d.4 ∙ sym v.back_signature.ensures)
      | else-function-location-via-else-function-location v ↦ v.if-function-location.false (ap (λ (f : Function). f.location) one ∙ d.3)
    ])
