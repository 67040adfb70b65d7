use Rattle.std.proofs.Common.{ℕ, get_or, length, sym, subst, arith, ap, List}
use Rattle.c_consts.specs.Spine.{HasThree}
use Rattle.c_consts.proofs.Finish.{three_here, length_three, read_here}
use Rattle.c_consts.proofs.steps.branches.Goals as goal

pub bounds-children-1 : goal.bounds-children-1
bounds-children-1 c =
    let n = get_or c.args.nodes.now c.args.node c.index-nodes-node.result in
    let at = read_here c.args.nodes.now c.args.node c.index-nodes-node.result c.requires.node in
    let three = length_three c.args.types.now c.args.nodes.now c.args.node n at c.requires.rows c.requires.kind in
    omega (arith, three, ap (λ (xs : List ℕ). length xs) c.as_slice-children.ensures)

pub bounds-children-2 : goal.bounds-children-2
bounds-children-2 c =
    let n = get_or c.args.nodes.now c.args.node c.index-nodes-node.result in
    let at = read_here c.args.nodes.now c.args.node c.index-nodes-node.result c.requires.node in
    let three = length_three c.args.types.now c.args.nodes.now c.args.node n at c.requires.rows c.requires.kind in
    omega (arith, three, ap (λ (xs : List ℕ). length xs) c.as_slice-children.ensures)

pub returns : goal.returns
returns c =
    let n = get_or c.args.nodes.now c.args.node c.index-nodes-node.result in
    let at = read_here c.args.nodes.now c.args.node c.index-nodes-node.result c.requires.node in
    let has = three_here c.args.types.now c.args.nodes.now c.args.node n at c.requires.rows c.requires.kind in
    subst (λ (xs : List ℕ). HasThree c.args.nodes.now c.args.node (get_or xs 1 0) (get_or xs 2 0)) (sym c.as_slice-children.ensures) has
