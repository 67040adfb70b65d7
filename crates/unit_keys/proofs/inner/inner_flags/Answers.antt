use Rattle.std.proofs.Common.{arith, ◌≡◌, ◌∙◌, ◌-◌, ℕ, List, Bool, length, length-append, sym, ap, subst}
use Rattle.tree_reads.specs.Sources.{source_in}
use Rattle.unit_keys.specs.Placed.{AreInner}
use Rattle.unit_keys.proofs.Around.{inner_more}
use Rattle.unit_keys.proofs.inner.inner_flags.Goals as goal

pub loop-left-preserved : goal.loop-left-preserved
loop-left-preserved c =
    let flags = c.loop-left.flags.items in
    let new = c.push.new.self.items in
    let long = ap length c.in_ok-push.ensures.items ∙ length-append flags _ in
    record {
      all = omega (arith, long, c.loop-left.invariant.all, c.loop-left-test.true);
      inner = λ uses sense roles.
          inner_more (source_in c.args.syntax.now uses) c.requires.behind sense flags new (c.loop-left.left - 1) c.is_inner.result (c.loop-left.invariant.inner uses sense roles) (omega (arith, c.loop-left.invariant.all, c.loop-left-test.true))
          (c.is_inner.ensures uses sense roles (subst (λ (l : List Bool). AreInner (source_in c.args.syntax.now uses) sense l (length l)) (sym c.as_slice.ensures.value) (c.loop-left.invariant.inner uses sense roles))) c.in_ok-push.ensures.items;
    }

pub returns : goal.returns
returns c = λ uses sense roles.
    let all : length c.loop-left.flags.items ≡ length c.args.syntax.now.tree.now.nodes.items = omega (arith, c.loop-left.invariant.all, c.loop-left-test.false) in
    subst (λ (n : ℕ). AreInner (source_in c.args.syntax.now uses) sense c.loop-left.flags.items n) all (c.loop-left.invariant.inner uses sense roles)
