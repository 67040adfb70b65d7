use Rattle.std.proofs.Common.{◌≡◌, ℕ, ◌<◌, Option, slice_get, length, IfSome, sym, ◌∙◌, ap, subst}
use Rattle.std.proofs.lemmas.Option.{same_Some, none-some}
use Rattle.edge_book.proofs.Gaining.{gains_same, gains_none}
use Rattle.sol_model.specs.declared.system.CallSite.{CallSite}
use Rattle.sol_model.specs.declared.system.Function.{Function}
use Rattle.sol_model.specs.declared.system.Constraint.TheVariants.{Call}
use Rattle.sol_model.specs.Families.{Has}
use Rattle.sol_model.specs.Rules.{TargetEdge, DemandsEdge}
use Rattle.edge_book.specs.Edges.{only, Gains}
use Rattle.edge_book.proofs.Alone.{call_target, has_only}
use Rattle.edge_book.proofs.effects.put_call.Goals as goal
use Rattle.edge_book.proofs.effects.put_call.Goals.{else-function-location-via-then-function-location+else-function-site, else-function-location-via-else-function-location}

pub returns-in_default : goal.returns-in_default
returns-in_default c site at =
    gains_none c.args.pairs.now.items (DemandsEdge c.args.system.now (only site.callee c.args.location) (Call c.args.call))
    (λ a b d. let w = call_target c.args.system.now c.requires.valid c.args.call c.args.location site c.location_fact.result a b at c.location_fact.ensures.value d in none-some w.0 (sym c.in_default.is ∙ w.2))

pub function_at-function-requires-clause-known : goal.function_at-function-requires-clause-known
function_at-function-requires-clause-known c =
    subst (λ (o : Option ℕ). IfSome o (λ number. number < length c.args.system.now.functions)) c.in-Some.is (c.requires.valid.locations c.args.location c.location_fact.result c.location_fact.ensures.value).function

pub returns-in_ok-put_target : goal.returns-in_ok-put_target
returns-in_ok-put_target c site at =
    let S = c.args.system.now in
    let call : CallSite = c.call_at-site.result.now in
    let function : Function = c.function_at-function.result.now in
    let number : ℕ = c.in-Some.number in
    let l : ℕ = c.args.location in
    let old = c.args.pairs.now.items in
    let new = c.put_target.new.pairs.items in
    let here : Has (only call.callee l) call.callee function.location = subst (λ (x : ℕ). Has (only call.callee l) call.callee x) (sym c.if-function-location.true) (has_only call.callee l) in
    subst (λ (s : CallSite). Gains old new (DemandsEdge S (only s.callee l) (Call c.args.call))) (same_Some call site (sym c.call_at-site.ensures.value ∙ at))
    (gains_same old new (TargetEdge S (only call.callee l) call number function function.library) (DemandsEdge S (only call.callee l) (Call c.args.call))
    (λ a b h. (call, number, function, c.call_at-site.ensures.value, record { known = c.function_at-function.ensures.value; reached = here; agrees = c.if-function-site.true }, h))
    (λ a b d.
    let w = call_target S c.requires.valid c.args.call l call c.location_fact.result a b c.call_at-site.ensures.value c.location_fact.ensures.value d in
    let same : w.0 ≡ number = same_Some w.0 number (sym w.2 ∙ c.in-Some.is) in
    let one : w.1 ≡ function = same_Some w.1 function (sym w.4 ∙ ap (slice_get S.functions) same ∙ c.function_at-function.ensures.value) in
    subst (λ (f : Function). TargetEdge S (only call.callee l) call number f f.library a b) one (subst (λ (n : ℕ). TargetEdge S (only call.callee l) call n w.1 (w.1).library a b) same w.6))
    c.in_ok-put_target.ensures)

pub returns-else-function-location : goal.returns-else-function-location
returns-else-function-location c site at =
    let S = c.args.system.now in
    let call : CallSite = c.call_at-site.result.now in
    let function : Function = c.function_at-function.result.now in
    gains_none c.args.pairs.now.items (DemandsEdge S (only site.callee c.args.location) (Call c.args.call))
    (λ a b d.
    let w = call_target S c.requires.valid c.args.call c.args.location site c.location_fact.result a b at c.location_fact.ensures.value d in
    let same : w.0 ≡ c.in-Some.number = same_Some w.0 c.in-Some.number (sym w.2 ∙ c.in-Some.is) in
    let one : w.1 ≡ function = same_Some w.1 function (sym w.4 ∙ ap (slice_get S.functions) same ∙ c.function_at-function.ensures.value) in
    let calls : site ≡ call = same_Some site call (sym at ∙ c.call_at-site.ensures.value) in
    elim c.else-function-location.branch [
      | else-function-location-via-then-function-location+else-function-site v ↦ v.if-function-site.false (ap (λ (f : Function). f.signature) (sym one) ∙ w.5 ∙ ap (λ (s : CallSite). s.signature) calls)
      | else-function-location-via-else-function-location v ↦ v.if-function-location.false (ap (λ (f : Function). f.location) (sym one) ∙ w.3)
    ])
