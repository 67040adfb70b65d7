use Rattle.std.proofs.Common.{None, sym, ap, ◌∙◌}
use Rattle.c_scope.specs.Known.{earlier}
use Rattle.c_scope.proofs.Steps.{first_fault-push}
use Rattle.c_scope.proofs.binding.take_fault.Goals as goal

pub returns : goal.returns
returns c = λ k h. record {
  names = h.names;
  tags = h.tags;
  declared = h.declared;
  tagged = h.tagged;
  functions = h.functions;
  uses = h.uses;
  labels = h.labels;
  fault = c.earlier-binder.ensures ∙ (ap (λ f. earlier f c.args.fault) h.fault ∙ sym (first_fault-push None k.faults c.args.fault));
}
