use Rattle.std.proofs.Common.{ℤ, List, sym, ◌∙◌, ap, subst, to_z-of_z}
use Rattle.core_tree.specs.declared.node.Node.{Node}
use Rattle.c_consts.specs.Core.{Stands}
use Rattle.c_consts.specs.Nodes.{RowsUnder}
use Rattle.c_consts.specs.Answer.{answer}
use Rattle.std.proofs.Common.{true, Err}
use Rattle.core_nodes.specs.passed.c_senses.Constants.{valued}
use Rattle.core_nodes.specs.passed.c_senses.Given.{Fits}
use Rattle.core_nodes.specs.declared.fault.CheckFault.{CheckFault}
use Rattle.c_conversions.specs.constant_values.Constants.{ConstantMade}
use Rattle.core_nodes.specs.Standing.{core_at}
use Rattle.tree_reads.specs.Sources.{source_read}
use Rattle.c_conversions.proofs.Constants.{core_stands, rows_under}
use Rattle.c_conversions.proofs.constant_values.Valuing.{value_fits, fault_refused, holds_fits}
use Rattle.c_conversions.proofs.constant_values.constants.constant_of_value.Goals as goal

pub constant-requires-clause-rows : goal.constant-requires-clause-rows
constant-requires-clause-rows c =
    let u = c.args.unit.now in
    subst (λ (ns : List Node). RowsUnder u.types ns c.args.node) (sym c.as_slice-nodes.ensures.value) (rows_under u c.requires.ready c.args.node c.requires.rows)

pub returns-in-Ok-clause-value : goal.returns-in-Ok-clause-value
returns-in-Ok-clause-value c =
    let u = c.args.unit.now in
    let s = source_read c.args.syntax.now in
    let core = core_at u c.args.node in
    let nodes = c.as_slice-nodes.result.now in
    let stands = subst (λ (ns : List Node). Stands u.types ns c.args.node core) (sym c.as_slice-nodes.ensures.value) (core_stands u c.requires.ready c.args.node c.requires.node) in
    value_fits s c.args.at u.types nodes c.args.node core stands c.in-Ok.value (c.in-Ok.ensures.value core stands) ∙ sym (ap (λ (z : ℤ). Fits z) (to_z-of_z (holds_fits _ c.in-Ok.value c.in-Ok.ensures.holds)))

pub returns-in-Err-clause-value : goal.returns-in-Err-clause-value
returns-in-Err-clause-value c =
    let u = c.args.unit.now in
    let s = source_read c.args.syntax.now in
    let core = core_at u c.args.node in
    let nodes = c.as_slice-nodes.result.now in
    let stands = subst (λ (ns : List Node). Stands u.types ns c.args.node core) (sym c.as_slice-nodes.ensures.value) (core_stands u c.requires.ready c.args.node c.requires.node) in
    subst (λ (f : CheckFault). ConstantMade (Err f) (valued s c.args.at core (answer core true))) (sym c.refused.ensures) (fault_refused s c.args.at u.types nodes c.args.node core stands c.in-Err.fault (c.in-Err.ensures.value core stands))
