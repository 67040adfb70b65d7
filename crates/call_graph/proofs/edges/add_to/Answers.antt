use Rattle.std.proofs.Common.{◌<◌, IfSome, length, ap, subst, ◌∙◌}
use Rattle.sol_model.specs.declared.system.Function.{Function}
use Rattle.call_graph.proofs.Gaining.{same_function, to_none, to_one}
use Rattle.call_graph.proofs.edges.add_to.Goals as goal

pub returns-in_default : goal.returns-in_default
returns-in_default c =
    to_none c.args.system.now c.args.signature c.args.caller c.args.location c.location_fact.result c.args.edges.now.items
    (c.requires.valid.locations c.args.location c.location_fact.result c.location_fact.ensures.value)
    (λ number function is known agrees. c.in_default.not-Some number is)

pub function_at-requires-clause-known : goal.function_at-requires-clause-known
function_at-requires-clause-known c =
    subst (λ o. IfSome o (λ number. number < length c.args.system.now.functions)) c.in-Some.is
    (c.requires.valid.locations c.args.location c.location_fact.result c.location_fact.ensures.value).function

pub returns-then-function_at-signature : goal.returns-then-function_at-signature
returns-then-function_at-signature c =
    to_none c.args.system.now c.args.signature c.args.caller c.args.location c.location_fact.result c.args.edges.now.items
    (c.requires.valid.locations c.args.location c.location_fact.result c.location_fact.ensures.value)
    (λ number function is known agrees. c.if-function_at-signature.true
    (ap (λ (f : Function). f.signature) (same_function c.args.system.now.functions c.location_fact.result.function c.in-Some.number number c.function_at.result.now function c.in-Some.is is c.function_at.ensures.value known) ∙ agrees))

pub returns : goal.returns
returns c =
    to_one c.args.system.now c.args.signature c.args.caller c.args.location c.in-Some.number c.function_at.result.now c.location_fact.result c.args.edges.now.items c.push.new.self.items
    (c.requires.valid.locations c.args.location c.location_fact.result c.location_fact.ensures.value)
    c.in-Some.is c.function_at.ensures.value c.if-function_at-signature.false c.in_ok-push.ensures.items
