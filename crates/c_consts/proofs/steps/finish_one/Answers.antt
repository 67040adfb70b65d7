use Rattle.std.proofs.Common.{◌≡◌, ℤ, get_or, refl, sym, subst, to_z-of_z}
use Rattle.core_tree.specs.declared.node.NodeKind.TheVariants.{Arith}
use Rattle.c_types.specs.Table.{type_of}
use Rattle.c_consts.specs.Answer.{Operated, unary_in}
use Rattle.c_consts.specs.Spine.{OperandIn, asked_at}
use Rattle.c_consts.proofs.Rest.{rest_one}
use Rattle.c_consts.proofs.Finish.{kind_is, one_is, operand_one, held_here, integer_here, read_here}
use Rattle.c_consts.proofs.steps.finish_one.Goals as goal

pub operate_one-requires-clause-operand : goal.operate_one-requires-clause-operand
operate_one-requires-clause-operand c =
    let n = get_or c.args.nodes.now c.args.node c.index-nodes-node.result in
    let at = read_here c.args.nodes.now c.args.node c.index-nodes-node.result c.requires.node in
    let is = to_z-of_z c.ranges.start in
    subst (λ (z : ℤ). OperandIn c.args.op (type_of c.args.types.now n.ty.0) z) (sym is)
    (operand_one c.args.types.now c.args.nodes.now c.args.node n at c.requires.rows c.args.op c.args.start c.requires.kind c.requires.one c.requires.start)

pub returns-clause-value : goal.returns-clause-value
returns-clause-value c =
    let n = get_or c.args.nodes.now c.args.node c.index-nodes-node.result in
    let at = read_here c.args.nodes.now c.args.node c.index-nodes-node.result c.requires.node in
    let is = to_z-of_z c.ranges.start in
    let integer = integer_here c.args.types.now c.args.nodes.now c.args.node n at (Arith c.args.op) (Operated c.args.op) c.args.start c.requires.kind (λ t. refl) c.requires.start in
    rest_one c.args.types.now c.args.nodes.now c.args.node n at c.args.live c.args.start c.operate_one.result c.args.op c.requires.one.first
    (kind_is c.args.types.now c.args.nodes.now c.args.node n at (Arith c.args.op) c.requires.kind) integer
    (one_is c.args.types.now c.args.nodes.now c.args.node n at c.requires.one)
    (subst (λ (z : ℤ). c.operate_one.result ≡ asked_at c.args.live c.args.node (unary_in c.args.op (type_of c.args.types.now n.ty.0) z)) is c.operate_one.ensures.value)

pub returns-clause-holds : goal.returns-clause-holds
returns-clause-holds c =
    let n = get_or c.args.nodes.now c.args.node c.index-nodes-node.result in
    let at = read_here c.args.nodes.now c.args.node c.index-nodes-node.result c.requires.node in
    held_here c.args.types.now c.args.nodes.now c.args.node n at c.operate_one.result c.operate_one.ensures.holds
