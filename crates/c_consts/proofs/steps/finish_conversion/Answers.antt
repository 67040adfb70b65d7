use Rattle.std.proofs.Common.{◌≡◌, ℤ, get_or, refl, sym, subst, to_z-of_z, FitsSigned, rules, Ok, ◌∙◌}
use Rattle.std.specs.Int.{w128}
use Rattle.core_tree.specs.declared.node.NodeKind.TheVariants.{Convert}
use Rattle.c_types.specs.Table.{type_of}
use Rattle.c_consts.specs.Wrapped.{converted}
use Rattle.c_consts.specs.Operators.{Gives}
use Rattle.c_consts.specs.Answer.{Converted}
use Rattle.c_consts.specs.Spine.{asked_at, IsRest, HeldAt}
use Rattle.c_consts.proofs.Rest.{rest_converted}
use Rattle.c_consts.proofs.Finish.{kind_is, held_here, integer_here, conversion_child, read_here}
use Rattle.c_consts.proofs.Finish.{asked_anywhere}
use Rattle.c_consts.proofs.steps.finish_conversion.Goals as goal

pub returns-clause-value : goal.returns-clause-value
returns-clause-value c =
    let n = get_or c.args.nodes.now c.args.node c.index-nodes-node.result in
    let at = read_here c.args.nodes.now c.args.node c.index-nodes-node.result c.requires.node in
    let is = to_z-of_z c.ranges.start in
    let fits : FitsSigned w128 c.convert_to.result = search rules in
    let same = to_z-of_z fits in
    let integer = integer_here c.args.types.now c.args.nodes.now c.args.node n at Convert Converted c.args.start c.requires.kind (λ t. refl) c.requires.start in
    let (a, child) = conversion_child c.args.types.now c.args.nodes.now c.args.node n at c.requires.rows c.requires.kind in
    let value = subst (λ (z : ℤ). Ok c.convert_to.result ≡ asked_at c.args.live 0 (Gives (converted (type_of c.args.types.now n.ty.0) z))) is c.convert_to.ensures.value in
    subst (λ (z : ℤ). IsRest c.args.types.now c.args.nodes.now c.args.node c.args.live c.args.start (Ok z)) (sym same)
    (rest_converted c.args.types.now c.args.nodes.now c.args.node n at c.args.live c.args.start (Ok c.convert_to.result) a
    (kind_is c.args.types.now c.args.nodes.now c.args.node n at Convert c.requires.kind) integer child
    (value ∙ asked_anywhere c.args.live 0 c.args.node (converted (type_of c.args.types.now n.ty.0) c.args.start)))

pub returns-clause-holds : goal.returns-clause-holds
returns-clause-holds c =
    let n = get_or c.args.nodes.now c.args.node c.index-nodes-node.result in
    let at = read_here c.args.nodes.now c.args.node c.index-nodes-node.result c.requires.node in
    let fits : FitsSigned w128 c.convert_to.result = search rules in
    let same = to_z-of_z fits in
    subst (λ (z : ℤ). HeldAt c.args.types.now c.args.nodes.now c.args.node z) (sym same)
    (held_here c.args.types.now c.args.nodes.now c.args.node n at (Ok c.convert_to.result) c.convert_to.ensures.holds)
