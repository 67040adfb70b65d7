use Rattle.std.proofs.Common.{sym, ◌∙◌, ap, subst, List}
use Rattle.core_nodes.specs.passed.c_senses.Sense.{sense_in}
use Rattle.c_results.specs.Standing.{senses_made}
use Rattle.tree_reads.specs.Sources.{source_read}
use Rattle.std.proofs.Common.{Err, ℤ, pos, ◌<ℤ◌, ◌^◌, to_z-of_z}
use Rattle.core_tree.specs.declared.node.Node.{Node}
use Rattle.core_nodes.specs.passed.c_senses.Declarators.{positive}
use Rattle.c_declarators.specs.Suffixes.{LengthMade}
use Rattle.c_consts.specs.Core.{Stands}
use Rattle.core_nodes.specs.Standing.{core_at}
use Rattle.c_conversions.proofs.constant_values.PassedOn.{core_stands, rows_under}
use Rattle.c_consts.specs.Nodes.{RowsUnder}
use Rattle.c_conversions.proofs.constant_values.Valuing.{holds_below, holds_fits}
use Rattle.c_declarators.proofs.Lengths.{value_made, form_made, range_made, zero_made}
use Rattle.c_declarators.proofs.suffixes.value_length.Goals as goal

pub positive-requires : goal.positive-requires
positive-requires c =
    subst (λ (z : ℤ). z <ℤ pos (2 ^ 64)) (sym (to_z-of_z (holds_fits _ c.in-Ok.value c.in-Ok.ensures.holds))) (holds_below _ c.in-Ok.value c.in-Ok.ensures.holds)

pub returns-in-Ok : goal.returns-in-Ok
returns-in-Ok c = λ w whole.
    let s = source_read c.args.syntax.now in
    let u = c.args.unit.now in
    let sense = sense_in (senses_made u c.args.results.now) in
    let core = core_at u c.args.node in
    let nodes = c.as_slice-nodes.result.now in
    let stands = subst (λ (ns : List Node). Stands u.types ns c.args.node core) (sym c.as_slice-nodes.ensures.value) (core_stands u c.requires.ready c.args.node c.requires.node) in
    value_made w s sense c.args.at u.types nodes c.args.node core stands whole c.in-Ok.value _ (c.in-Ok.ensures.value core stands) (subst (λ (z : ℤ). LengthMade c.positive.result (positive w s sense c.args.at z)) (to_z-of_z (holds_fits _ c.in-Ok.value c.in-Ok.ensures.holds)) (c.positive.ensures w s sense))

pub returns-in-Err-NotConstant : goal.returns-in-Err-NotConstant
returns-in-Err-NotConstant c = λ w whole.
    let s = source_read c.args.syntax.now in
    let u = c.args.unit.now in
    let sense = sense_in (senses_made u c.args.results.now) in
    let core = core_at u c.args.node in
    let nodes = c.as_slice-nodes.result.now in
    let stands = subst (λ (ns : List Node). Stands u.types ns c.args.node core) (sym c.as_slice-nodes.ensures.value) (core_stands u c.requires.ready c.args.node c.requires.node) in
    form_made w s sense c.args.at u.types nodes c.args.node core stands whole _ _ (sym (ap Err c.in-Err-NotConstant.field-0-is) ∙ c.in-Err-NotConstant.ensures.value core stands) (c.unless_constant.ensures u w)

pub returns-in-Err-Range : goal.returns-in-Err-Range
returns-in-Err-Range c = λ w whole.
    let s = source_read c.args.syntax.now in
    let u = c.args.unit.now in
    let sense = sense_in (senses_made u c.args.results.now) in
    let core = core_at u c.args.node in
    let nodes = c.as_slice-nodes.result.now in
    let stands = subst (λ (ns : List Node). Stands u.types ns c.args.node core) (sym c.as_slice-nodes.ensures.value) (core_stands u c.requires.ready c.args.node c.requires.node) in
    range_made w s sense c.args.at u.types nodes c.args.node core stands whole c.in-Err-Range.wrong _ (sym (ap Err c.in-Err-Range.field-0-is) ∙ c.in-Err-Range.ensures.value core stands) c.leaf_of_node.ensures

pub returns-in-Err-DivideByZero : goal.returns-in-Err-DivideByZero
returns-in-Err-DivideByZero c = λ w whole.
    let s = source_read c.args.syntax.now in
    let u = c.args.unit.now in
    let sense = sense_in (senses_made u c.args.results.now) in
    let core = core_at u c.args.node in
    let nodes = c.as_slice-nodes.result.now in
    let stands = subst (λ (ns : List Node). Stands u.types ns c.args.node core) (sym c.as_slice-nodes.ensures.value) (core_stands u c.requires.ready c.args.node c.requires.node) in
    zero_made w s sense c.args.at u.types nodes c.args.node core stands whole c.in-Err-DivideByZero.wrong _ (sym (ap Err c.in-Err-DivideByZero.field-0-is) ∙ c.in-Err-DivideByZero.ensures.value core stands) c.leaf_of_node-in-Err-DivideByZero.ensures

pub constant-requires-clause-rows : goal.constant-requires-clause-rows
constant-requires-clause-rows c =
    let u = c.args.unit.now in
    subst (λ (ns : List Node). RowsUnder u.types ns c.args.node) (sym c.as_slice-nodes.ensures.value) (rows_under u c.requires.ready c.args.node c.requires.rows)
