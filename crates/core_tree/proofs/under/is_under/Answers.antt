use Rattle.std.proofs.Common.{arith, ℕ, refl, sym, subst}
use Rattle.core_tree.specs.Seen.{core_of}
use Rattle.core_tree.specs.Range.{Under, here, below}
use Rattle.core_tree.proofs.Climb.{parent_within, child_before, under_up, under_none}
use Rattle.core_tree.proofs.under.is_under.Goals as goal

pub loop-at-smaller : goal.loop-at-smaller
loop-at-smaller c =
    let before = child_before (core_of c.args.trees.now) c.requires.range c.in-Some.p c.loop-at.at c.in-Some.ensures.found in
    let within = parent_within (core_of c.args.trees.now) c.in-Some.p c.loop-at.at c.in-Some.ensures.found in
    omega arith

pub loop-at-preserved : goal.loop-at-preserved
loop-at-preserved c =
    let child = c.in-Some.ensures.found in
    record {
      up = λ h. under_up (core_of c.args.trees.now) c.requires.once c.args.top c.loop-at.at c.in-Some.p (c.loop-at.invariant.up h) c.loop-at-test.true child;
      down = λ h. c.loop-at.invariant.down (below h child);
    }

pub returns-in-None : goal.returns-in-None
returns-in-None c =
    (λ t. cc, λ h. absurd (under_none (core_of c.args.trees.now) c.args.top c.loop-at.at (c.loop-at.invariant.up h) c.loop-at-test.true (c.in-None.ensures.none refl)))

pub returns : goal.returns
returns c =
    (λ t. c.loop-at.invariant.down (subst (λ (n : ℕ). Under (core_of c.args.trees.now) c.args.top n) (sym c.loop-at-test.false) here), λ h. refl)
