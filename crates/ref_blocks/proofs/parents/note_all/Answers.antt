-- One node more is looked at.
use Rattle.std.proofs.Common.{arith, ℕ, List, Option, None, length, get_or, ap, ◌∙◌}
use Rattle.std.proofs.lemmas.List.{take_all, length-replicate, get_or-replicate}
use Rattle.core_tree.specs.declared.node.Node.{Node}
use Rattle.ref_blocks.specs.Ways.{parent_from}
use Rattle.ref_blocks.specs.Parents.{noted}
use Rattle.ref_blocks.proofs.Kept.{parent_more, parents_found}
use Rattle.ref_blocks.proofs.parents.note_all.Goals as goal

pub loop-p-init : goal.loop-p-init
loop-p-init c = record {
  count = ap length c.requires.none ∙ length-replicate (length c.args.nodes.now) None;
  each = λ n l. ap (λ (w : List (Option ℕ)). get_or w n None) c.requires.none ∙ get_or-replicate (length c.args.nodes.now) n None None l;
}

pub loop-p-preserved : goal.loop-p-preserved
loop-p-preserved c =
    let nodes = c.args.nodes.now in
    let p = c.loop-p.p in
    let node = c.index-nodes-p.result in
    let e = c.as_slice.ensures ∙ ap (λ (k : Node). k.children) c.index-nodes-p.is in
    record {
      count = c.note_children.auto.parents ∙ c.loop-p.invariant.count;
      each = λ n l. c.note_children.ensures n (omega arith)
          ∙ ap (λ (w : List ℕ). noted p w n (get_or c.loop-p.parents n None)) e
          ∙ ap (noted p (get_or nodes p node).children n) (c.loop-p.invariant.each n l)
          ∙ parent_more n p nodes node c.loop-p-test.true;
    }

pub returns : goal.returns
returns c = parents_found c.args.nodes.now c.loop-p.parents c.requires.count c.loop-p.invariant.count
    (λ n l. c.loop-p.invariant.each n l ∙ ap (parent_from n 0) (take_all c.loop-p.p c.args.nodes.now c.loop-p-test.false))
