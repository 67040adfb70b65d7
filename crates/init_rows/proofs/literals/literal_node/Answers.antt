use Rattle.std.proofs.Common.{sym, ap, ◌∙◌}
use Rattle.pta_base.specs.declared.kind.Kind.TheVariants.{Operand}
use Rattle.core_tree.specs.declared.node.NodeKind.TheVariants.{Literal}
use Rattle.c_consts.specs.Core.{Core, over}
use Rattle.c_types.specs.Trees.{Ctype}
use Rattle.c_types.specs.Table.{type_of}
use Rattle.c_senses.specs.World.{extent}
use Rattle.c_senses.specs.Limits.{is_small}
use Rattle.c_senses.specs.Given.{Fits}
use Rattle.c_senses.specs.Entities.{with_length}
use Rattle.core_nodes.specs.Standing.{core_at}
use Rattle.core_nodes.proofs.Growing.{builds_on, knows_on}
use Rattle.core_nodes.proofs.Failing.{made_same}
use Rattle.init_rows.proofs.LiteralLaws.{literal_judged, judged_false, judged_true}
use Rattle.init_rows.proofs.literals.literal_node.Goals as goal

pub returns-then-not-without-clause-made : goal.returns-then-not-without-clause-made
returns-then-not-without-clause-made c = λ w knows limited.
    let old = c.args.unit.now in
    let mid = c.with_length.new.unit in
    let t = type_of old.types c.args.ty.0 in
    let whole = type_of mid.types c.in-Ok.whole.0 in
    let n = c.args.object.length in
    let small = c.is_small-small.ensures ∙ (ap is_small (sym ((knows_on w old mid c.in-Ok.ensures.builds knows).extents whole)) ∙ ap (λ (x : Ctype). is_small (extent w x)) c.in-Ok.ensures.made) in
    judged_false _ Operand c.args.opening _ (sym c.if-not-without.true ∙ literal_judged w t n c.is_small-small.result c.args.refused c.without.result limited small c.without.ensures)

pub returns-clause-builds : goal.returns-clause-builds
returns-clause-builds c = builds_on c.args.unit.now c.with_length.new.unit c.push_over.new.unit c.in-Ok.ensures.builds c.push_over.ensures.builds

pub returns-clause-made : goal.returns-clause-made
returns-clause-made c = λ w knows limited.
    let old = c.args.unit.now in
    let mid = c.with_length.new.unit in
    let t = type_of old.types c.args.ty.0 in
    let whole = type_of mid.types c.in-Ok.whole.0 in
    let n = c.args.object.length in
    let small = c.is_small-small.ensures ∙ (ap is_small (sym ((knows_on w old mid c.in-Ok.ensures.builds knows).extents whole)) ∙ ap (λ (x : Ctype). is_small (extent w x)) c.in-Ok.ensures.made) in
    let may = sym c.if-not-without.false ∙ literal_judged w t n c.is_small-small.result c.args.refused c.without.result limited small c.without.ensures in
    made_same c.push_over.new.unit c.push_over.result _ _
    (ap (λ (x : Ctype). Fits (over (Literal c.args.opening) c.args.place x (core_at mid c.args.object.node))) c.in-Ok.ensures.made
    ∙ (ap (λ (x : Core). Fits (over (Literal c.args.opening) c.args.place (with_length n t) x)) (c.in-Ok.ensures.builds.cores c.args.object.node c.requires.object)
    ∙ sym (judged_true _ Operand c.args.opening (Fits (over (Literal c.args.opening) c.args.place (with_length n t) (core_at old c.args.object.node))) may)))
    c.push_over.ensures.made
