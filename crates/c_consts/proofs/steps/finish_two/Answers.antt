use Rattle.std.proofs.Common.{◌≡◌, ℤ, get_or, refl, sym, subst, to_z-of_z, to_z, of_z}
use Rattle.std.specs.Int.{w128}
use Rattle.core_tree.specs.declared.node.NodeKind.TheVariants.{Arith}
use Rattle.c_types.specs.Table.{type_of}
use Rattle.c_consts.specs.Answer.{Operated, binary_in}
use Rattle.c_consts.specs.Spine.{OperandsIn, asked_at}
use Rattle.c_consts.proofs.Rest.{rest_two}
use Rattle.c_consts.proofs.Finish.{kind_is, two_are, operands_two, held_here, integer_here, read_here}
use Rattle.c_consts.proofs.steps.finish_two.Goals as goal

pub operate_two-requires-clause-operands : goal.operate_two-requires-clause-operands
operate_two-requires-clause-operands c =
    let n = get_or c.args.nodes.now c.args.node c.index-nodes-node.result in
    let at = read_here c.args.nodes.now c.args.node c.index-nodes-node.result c.requires.node in
    let is = to_z-of_z c.ranges.start in
    let same = to_z-of_z c.ranges.second in
    subst (λ (z : ℤ). OperandsIn c.args.op (type_of c.args.types.now n.ty.0) z (to_z w128 (of_z w128 c.args.second))) (sym is)
    (subst (λ (z : ℤ). OperandsIn c.args.op (type_of c.args.types.now n.ty.0) c.args.start z) (sym same)
    (operands_two c.args.types.now c.args.nodes.now c.args.node n at c.requires.rows c.args.op c.args.other c.args.start c.args.second c.requires.kind c.requires.two c.requires.start c.requires.held))

pub returns-clause-value : goal.returns-clause-value
returns-clause-value c =
    let n = get_or c.args.nodes.now c.args.node c.index-nodes-node.result in
    let at = read_here c.args.nodes.now c.args.node c.index-nodes-node.result c.requires.node in
    let is = to_z-of_z c.ranges.start in
    let same = to_z-of_z c.ranges.second in
    let integer = integer_here c.args.types.now c.args.nodes.now c.args.node n at (Arith c.args.op) (Operated c.args.op) c.args.start c.requires.kind (λ t. refl) c.requires.start in
    let value = subst (λ (z : ℤ). c.operate_two.result ≡ asked_at c.args.live c.args.node (binary_in c.args.op (type_of c.args.types.now n.ty.0) z (to_z w128 (of_z w128 c.args.second)))) is c.operate_two.ensures.value in
    rest_two c.args.types.now c.args.nodes.now c.args.node n at c.args.live c.args.start c.operate_two.result c.args.op c.requires.two.first c.args.other c.args.second
    (kind_is c.args.types.now c.args.nodes.now c.args.node n at (Arith c.args.op) c.requires.kind) integer
    (two_are c.args.types.now c.args.nodes.now c.args.node n at c.args.other c.requires.two)
    c.requires.second
    (subst (λ (z : ℤ). c.operate_two.result ≡ asked_at c.args.live c.args.node (binary_in c.args.op (type_of c.args.types.now n.ty.0) c.args.start z)) same value)

pub returns-clause-holds : goal.returns-clause-holds
returns-clause-holds c =
    let n = get_or c.args.nodes.now c.args.node c.index-nodes-node.result in
    let at = read_here c.args.nodes.now c.args.node c.index-nodes-node.result c.requires.node in
    held_here c.args.types.now c.args.nodes.now c.args.node n at c.operate_two.result c.operate_two.ensures.holds
