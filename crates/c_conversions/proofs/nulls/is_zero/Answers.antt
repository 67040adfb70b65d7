use Rattle.std.proofs.Common.{ℤ, pos, List, sym, ◌∙◌, ap, subst, to_z-of_z, FitsSigned, rules}
use Rattle.std.specs.Int.{w128}
use Rattle.std.specs.Ordering.{int_eq}
use Rattle.core_tree.specs.declared.node.Node.{Node}
use Rattle.c_consts.specs.Core.{Stands}
use Rattle.c_consts.specs.Nodes.{RowsUnder}
use Rattle.core_nodes.specs.Standing.{core_at}
use Rattle.c_conversions.proofs.Constants.{core_stands, rows_under, zero_value, zero_fault}
use Rattle.c_conversions.proofs.nulls.is_zero.Goals as goal

pub constant-requires-clause-rows : goal.constant-requires-clause-rows
constant-requires-clause-rows c =
    let u = c.args.unit.now in
    subst (λ (ns : List Node). RowsUnder u.types ns c.args.node) (sym c.as_slice-nodes.ensures.value) (rows_under u c.requires.ready c.args.node c.requires.rows)

pub returns-in-Ok : goal.returns-in-Ok
returns-in-Ok c =
    let u = c.args.unit.now in
    let stands = subst (λ (ns : List Node). Stands u.types ns c.args.node (core_at u c.args.node)) (sym c.as_slice-nodes.ensures.value) (core_stands u c.requires.ready c.args.node c.requires.node) in
    let fits : FitsSigned w128 c.in-Ok.value = search rules in
    c.is_zero_number.ensures ∙ (ap (λ (z : ℤ). int_eq z (pos 0)) (to_z-of_z fits) ∙ zero_value c.as_slice-nodes.result.now c.args.node _ c.in-Ok.value (c.in-Ok.ensures.value (core_at u c.args.node) stands))

pub returns-in-Err : goal.returns-in-Err
returns-in-Err c =
    let u = c.args.unit.now in
    let stands = subst (λ (ns : List Node). Stands u.types ns c.args.node (core_at u c.args.node)) (sym c.as_slice-nodes.ensures.value) (core_stands u c.requires.ready c.args.node c.requires.node) in
    zero_fault c.as_slice-nodes.result.now c.args.node _ c.in-Err.field-0 (c.in-Err.ensures.value (core_at u c.args.node) stands)
