-- The literals of one node more, and where jumps go.
use Rattle.std.proofs.Common.{List, Option, ℕ, sym, subst}
use Rattle.core_tree.specs.Seen.{core_of}
use Rattle.ref_blocks.specs.Parents.{AreParents}
use Rattle.ref_blocks.proofs.Marked.{all_marks}
use Rattle.ref_blocks.proofs.Objects.{all_own, all_parts}
use Rattle.ref_blocks.proofs.plan.Plan.of.Goals as goal

pub put_literal-requires : goal.put_literal-requires
put_literal-requires c = record {
  parents = subst (λ (w : List (Option ℕ)). AreParents c.args.trees.now.nodes.now w) (sym c.as_slice.ensures.value) c.in_ok-parents.ensures;
  node = c.loop-n-test.true;
  own = c.loop-n.invariant.own;
  parts = c.loop-n.invariant.parts;
}

pub put_mark-requires : goal.put_mark-requires
put_mark-requires c = record {
  parents = subst (λ (w : List (Option ℕ)). AreParents c.args.trees.now.nodes.now w) (sym c.as_slice-in-loop-n.ensures.value) c.in_ok-parents.ensures;
  node = c.loop-n-test.true;
  marks = c.loop-n.invariant.marks;
}

pub loop-n-preserved : goal.loop-n-preserved
loop-n-preserved c = record {
  own = c.in_ok-put_literal.ensures.own;
  parts = c.in_ok-put_literal.ensures.parts;
  marks = c.in_ok-put_mark.ensures;
}

pub returns : goal.returns
returns c = record {
  parents = c.in_ok-parents.ensures;
  own = all_own (core_of c.args.trees.now) c.loop-n.n c.loop-n.own.items c.loop-n-test.false c.loop-n.invariant.own;
  parts = all_parts (core_of c.args.trees.now) c.loop-n.n c.loop-n.parts.items c.loop-n-test.false c.loop-n.invariant.parts;
  marks = all_marks c.args.trees.now.nodes.now c.loop-n.n c.loop-n.marks.items c.loop-n-test.false c.loop-n.invariant.marks;
}
