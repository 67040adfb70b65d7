use Rattle.std.proofs.Common.{◌≡◌, ◌∙◌, ◌+◌, ℕ, zero, suc, arith, length, replicate, get_or, List, Bool, false, refl, ap, subst}
use Rattle.std.proofs.lemmas.List.{length-replicate}
use Rattle.tree_reads.specs.Sources.{source_in}
use Rattle.c_tags.specs.tag_numbers.Numbers.{AreSeen}
use Rattle.c_tags.proofs.tag_numbers.Numbering.{seen_none}
use Rattle.c_tags.proofs.tag_numbers.Skipping.{listed_over, seen_over}
use Rattle.c_tags.proofs.tag_numbers.seen.seen_tags.Goals as goal

unlisted : (n d : ℕ) → get_or (replicate n false) d false ≡ false
unlisted zero d = refl
unlisted (suc n) zero = refl
unlisted (suc n) (suc d) = unlisted n d

pub loop-node-init : goal.loop-node-init
loop-node-init c =
    let none : c.in_ok-listed.listed.items ≡ replicate c.len-count.result false = c.in_ok-listed.ensures.items_if_clones_equal (λ y e. e) in
    let next = c.next_specifier-node.ensures in
    record {
      within = next.within;
      long = omega (arith, ap length none, length-replicate c.len-count.result false, c.len-count.ensures, c.args.syntax.now.tree.now.nodes.ok);
      listed_are = λ uses roles h.
          let s = source_in c.args.syntax.now uses in
          listed_over s 0 c.next_specifier-node.result next.after (next.none s roles) c.in_ok-listed.listed.items (λ d. ap (λ (l : List Bool). get_or l d false) none ∙ unlisted c.len-count.result d);
      seen_are = λ uses roles h.
          let s = source_in c.args.syntax.now uses in
          seen_over s 0 c.next_specifier-node.result next.after (next.none s roles) _ (seen_none s _ c.new.ensures c.new-2.ensures);
    }

pub loop-node-preserved : goal.loop-node-preserved
loop-node-preserved c =
    let next = c.next_specifier-node-in-loop-node.ensures in
    record {
      within = next.within;
      long = c.in_ok-tag.ensures.long ∙ c.loop-node.invariant.long;
      listed_are = λ uses roles h.
          let s = source_in c.args.syntax.now uses in
          listed_over s (c.loop-node.node + 1) c.next_specifier-node-in-loop-node.result next.after (next.none s roles) c.see_node.new.listed.items (c.in_ok-tag.ensures.listed uses roles h (c.loop-node.invariant.listed_are uses roles h));
      seen_are = λ uses roles h.
          let s = source_in c.args.syntax.now uses in
          seen_over s (c.loop-node.node + 1) c.next_specifier-node-in-loop-node.result next.after (next.none s roles) c.keep_seen.new.seen (c.in_ok-keep_seen.ensures s roles (c.loop-node.invariant.seen_are uses roles h) (c.in_ok-tag.ensures.seen uses roles h (c.loop-node.invariant.listed_are uses roles h)));
    }

pub returns : goal.returns
returns c = λ uses roles h.
    let e : c.loop-node.node ≡ length c.args.syntax.now.tree.now.nodes.items = omega (arith, c.loop-node.invariant.within, c.loop-node-test.false, c.len-count.ensures) in
    subst (λ (i : ℕ). AreSeen (source_in c.args.syntax.now uses) c.loop-node.seen i) e (c.loop-node.invariant.seen_are uses roles h)
