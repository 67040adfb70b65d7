use Rattle.std.proofs.Common.{arith, ◌<◌, length, refl, below_more}
use Rattle.std.proofs.lemmas.Option.{slice_get_read}
use Rattle.core_tree.specs.Seen.{core_of}
use Rattle.core_tree.specs.Range.{Has}
use Rattle.core_tree.proofs.Climb.{child_has, has_child, parent_within}
use Rattle.core_tree.proofs.under.parent_of.Goals as goal

pub loop-p-preserved : goal.loop-p-preserved
loop-p-preserved c =
    let lt : c.loop-p.p < length c.args.trees.now.nodes.now = omega arith in
    let at = slice_get_read c.args.trees.now.nodes.now (length c.args.trees.now.nodes.now) c.loop-p.p c.index-trees-p.result refl lt c.index-trees-p.is in
    below_more _ _ c.loop-p.invariant (λ child. let h = c.has.ensures.1 (rw (c.as_slice.ensures, ← c.index-trees-p.is) (child_has (core_of c.args.trees.now) c.loop-p.p c.args.node c.index-trees-p.result at child)) in cc)

pub returns-clause-none : goal.returns-clause-none
returns-clause-none c e p child =
    let lt = parent_within (core_of c.args.trees.now) p c.args.node child in
    c.loop-p.invariant p (omega arith) child

pub returns-then-has-clause-found : goal.returns-then-has-clause-found
returns-then-has-clause-found c =
    let lt : c.loop-p.p < length c.args.trees.now.nodes.now = omega arith in
    let at = slice_get_read c.args.trees.now.nodes.now (length c.args.trees.now.nodes.now) c.loop-p.p c.index-trees-p.result refl lt c.index-trees-p.is in
    let there : Has c.index-trees-p.result.children c.args.node = rw (← c.index-trees-p.is) at (rw c.as_slice.ensures at (c.has.ensures.0 c.if-has.true)) in
    has_child (core_of c.args.trees.now) c.loop-p.p c.args.node c.index-trees-p.result at there
