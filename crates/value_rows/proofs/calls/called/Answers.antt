use Rattle.std.proofs.Common.{◌≡◌, ◌∙◌, sym, subst}
use Rattle.c_types.specs.Trees.{Ctype}
use Rattle.c_types.specs.Table.{type_of, types_of}
use Rattle.c_senses.specs.Conversions.{typed}
use Rattle.core_nodes.specs.Standing.{core_at}
use Rattle.core_nodes.proofs.Failing.{made_same}
use Rattle.value_rows.proofs.Called.{called_is, typed_plain}
use Rattle.value_rows.proofs.calls.called.Goals as goal

pub returns : goal.returns
returns c = record {
  ready = c.call_over.ensures.ready;
  builds = c.call_over.ensures.builds;
  within = c.call_over.ensures.within;
  made = λ w k.
      let u = c.args.unit.now in
      let t = type_of u.types c.args.function.0 in
      made_same c.call_over.new.unit c.call_over.result _ _
      (sym (
      called_is w c.args.place c.args.at c.args.may_call (core_at u c.args.c) t u c.args.arguments.now
      (λ g. subst (λ (x : Ctype). typed c.args.at x g ≡ g) (sym c.term.ensures.tree ∙ c.result_type-result.ensures.ty) (typed_plain c.args.at g (types_of u.types) c.term.result.now c.in_default.not-Floating)) c.if-not-may_call.false
      (sym c.takes_so_many.ensures ∙ c.if-not-takes_so_many.false)
      ))
      (c.call_over.ensures.made w k);
}
