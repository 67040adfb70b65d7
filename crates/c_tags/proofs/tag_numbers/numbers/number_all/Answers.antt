use Rattle.std.proofs.Common.{◌≡◌, ◌+◌, ℕ, arith, length, subst}
use Rattle.tree_reads.specs.leaf_maps.Numbers.{number_at}
use Rattle.tree_reads.specs.Sources.{source_in}
use Rattle.c_tags.specs.tag_numbers.Numbers.{AreNumbered}
use Rattle.c_tags.proofs.tag_numbers.Skipping.{numbered_none, numbered_over}
use Rattle.c_tags.proofs.tag_numbers.numbers.number_all.Goals as goal

pub loop-node-init : goal.loop-node-init
loop-node-init c = record {
  within = c.next_specifier-node.ensures.within;
  numbered = λ uses roles h.
      let s = source_in c.args.syntax.now uses in
      let next = c.next_specifier-node.ensures in
      let numbers = number_at c.new.result in
      let firsts = c.new-2.result.items in
      numbered_over s 0 c.next_specifier-node.result next.after (next.none s roles) numbers firsts (numbered_none s numbers firsts c.new.ensures c.new-2.ensures.items);
}

pub loop-node-preserved : goal.loop-node-preserved
loop-node-preserved c = record {
  within = c.next_specifier-node-in-loop-node.ensures.within;
  numbered = λ uses roles h.
      let s = source_in c.args.syntax.now uses in
      let next = c.next_specifier-node-in-loop-node.ensures in
      let new = c.number_node.new.numbering in
      numbered_over s (c.loop-node.node + 1) c.next_specifier-node-in-loop-node.result next.after (next.none s roles) (number_at new.numbers) new.firsts.items (c.in_ok-number_node.ensures uses roles h (c.loop-node.invariant.numbered uses roles h));
}

pub returns : goal.returns
returns c = λ uses roles h.
    let e : c.loop-node.node ≡ length c.args.syntax.now.tree.now.nodes.items = omega (arith, c.loop-node.invariant.within, c.loop-node-test.false, c.len-count.ensures) in
    subst (λ (i : ℕ). AreNumbered (source_in c.args.syntax.now uses) (number_at c.loop-node.numbering.numbers) c.loop-node.numbering.firsts.items i) e (c.loop-node.invariant.numbered uses roles h)
