use Rattle.std.proofs.Common.{◌≡◌, ◌∙◌, ◌+◌, ℕ, zero, suc, arith, length, replicate, get_or, List, Bool, false, refl, ap, subst}
use Rattle.tree_reads.specs.Sources.{source_in}
use Rattle.c_tags.specs.tag_numbers.Numbers.{MarkedBefore}
use Rattle.c_tags.proofs.tag_numbers.Skipping.{marked_over}
use Rattle.c_tags.proofs.tag_numbers.seen.completed_tags.Goals as goal

unmarked : (n d : ℕ) → get_or (replicate n false) d false ≡ false
unmarked zero d = refl
unmarked (suc n) zero = refl
unmarked (suc n) (suc d) = unmarked n d

pub loop-node-init : goal.loop-node-init
loop-node-init c =
    let none : c.in_ok-flags.flags.items ≡ replicate c.args.count false = c.in_ok-flags.ensures.items_if_clones_equal (λ y e. e) in
    record {
      within = c.next_specifier-node.ensures.within;
      marked = λ uses roles h.
          let s = source_in c.args.syntax.now uses in
          let next = c.next_specifier-node.ensures in
          marked_over s 0 c.next_specifier-node.result next.after (next.none s roles) c.in_ok-flags.flags.items (λ d. ap (λ (l : List Bool). get_or l d false) none ∙ unmarked c.args.count d);
    }

pub loop-node-preserved : goal.loop-node-preserved
loop-node-preserved c = record {
  within = c.next_specifier-node-in-loop-node.ensures.within;
  marked = λ uses roles h.
      let s = source_in c.args.syntax.now uses in
      let next = c.next_specifier-node-in-loop-node.ensures in
      marked_over s (c.loop-node.node + 1) c.next_specifier-node-in-loop-node.result next.after (next.none s roles) c.mark_node.new.flags.items (c.in_ok-mark_node.ensures uses roles h (c.loop-node.invariant.marked uses roles h));
}

pub returns : goal.returns
returns c = λ uses roles h.
    let e : c.loop-node.node ≡ length c.args.syntax.now.tree.now.nodes.items = omega (arith, c.loop-node.invariant.within, c.loop-node-test.false, c.len-end.ensures) in
    subst (λ (i : ℕ). MarkedBefore (source_in c.args.syntax.now uses) i c.loop-node.flags.items) e (c.loop-node.invariant.marked uses roles h)
