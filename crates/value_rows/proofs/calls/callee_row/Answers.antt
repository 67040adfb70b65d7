use Rattle.std.proofs.Common.{Bool, map, sym, ap, ◌∙◌}
use Rattle.pta_base.specs.declared.kind.Kind.TheVariants.{Operand}
use Rattle.c_types.specs.Trees.{Ctype}
use Rattle.c_types.specs.Table.{type_of}
use Rattle.c_senses.specs.Given.{given_if}
use Rattle.c_senses.specs.Conversions.{typed}
use Rattle.c_senses.specs.Objects.{callee_row, call_of}
use Rattle.core_nodes.specs.Standing.{core_at}
use Rattle.core_nodes.proofs.Failing.{made_same}
use Rattle.value_rows.specs.Calls.{result_in, parameters_in, form_in}
use Rattle.value_rows.proofs.calls.callee_row.Goals as goal

pub returns-in-Some-clause-made : goal.returns-in-Some-clause-made
returns-in-Some-clause-made c = λ w k may.
    let u = c.args.unit.now in
    let t = type_of u.types c.in-Some.function.0 in
    let callee = core_at u c.args.c in
    let cores = map (λ a. core_at u a) c.args.arguments.now in
    let is = ap (λ (x : Ctype). callee_row w c.args.place c.args.at callee cores x) (sym c.type_of_node-pointer.ensures.tree ∙ c.in-Some.ensures.points)
    ∙ ap (λ (b : Bool). typed c.args.at (result_in t) (given_if b Operand c.args.at (call_of w c.args.place c.args.at callee (result_in t) (parameters_in t) (form_in t) cores))) may in
    made_same c.called.new.unit c.called.result _ _ (sym is) (c.called.ensures.made w k)
