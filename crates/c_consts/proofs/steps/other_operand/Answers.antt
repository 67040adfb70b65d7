use Rattle.std.proofs.Common.{ℕ, get_or, length, sym, subst, ap, ◌∙◌, List}
use Rattle.c_consts.specs.Spine.{HasTwo}
use Rattle.c_consts.proofs.Finish.{one_here, two_here, read_here}
use Rattle.c_consts.proofs.steps.other_operand.Goals as goal

pub returns-then-children-eq2-clause-two : goal.returns-then-children-eq2-clause-two
returns-then-children-eq2-clause-two c =
    let n = get_or c.args.nodes.now c.args.node c.index-nodes-node.result in
    let at = read_here c.args.nodes.now c.args.node c.index-nodes-node.result c.requires.node in
    let two = sym (ap (λ (xs : List ℕ). length xs) c.as_slice-children.ensures) ∙ c.if-children-eq2.true in
    subst (λ (xs : List ℕ). HasTwo c.args.nodes.now c.args.node (get_or xs 1 0)) (sym c.as_slice-children.ensures) (two_here c.args.types.now c.args.nodes.now c.args.node n at two)

pub returns-else-children-eq2-clause-one : goal.returns-else-children-eq2-clause-one
returns-else-children-eq2-clause-one c _ =
    let n = get_or c.args.nodes.now c.args.node c.index-nodes-node.result in
    let at = read_here c.args.nodes.now c.args.node c.index-nodes-node.result c.requires.node in
    one_here c.args.types.now c.args.nodes.now c.args.node n at c.requires.rows c.args.op c.requires.kind
    (λ two. c.if-children-eq2.false (ap (λ (xs : List ℕ). length xs) c.as_slice-children.ensures ∙ two))
