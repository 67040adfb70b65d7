use Rattle.std.proofs.Common.{arith, ◌≡◌, ◌+◌, ◌-◌, ℕ, subst}
use Rattle.c_senses.specs.Sense.{sense_in}
use Rattle.c_results.specs.Standing.{senses_made}
use Rattle.tree_reads.specs.Sources.{source_in}
use Rattle.unit_keys.specs.given_keys.Kept.{AreKeys}
use Rattle.unit_keys.proofs.given_keys.placed.keys_of_specifiers.Goals as goal

pub loop-left-preserved : goal.loop-left-preserved
loop-left-preserved c =
    let one : c.loop-left.left ≡ (c.loop-left.left - 1) + 1 = omega (arith, c.loop-left-test.true) in
    record {
      few = omega (arith, c.loop-left.invariant.few);
      keys = λ u uses known.
          c.in_ok-keep_key.ensures u uses known (subst (λ (n : ℕ). AreKeys (source_in c.args.syntax.now uses) (sense_in (senses_made u c.args.results.now)) c.loop-left.list n) one (c.loop-left.invariant.keys u uses known));
    }

pub returns : goal.returns
returns c = λ u uses known.
    let none : c.loop-left.left ≡ 0 = omega (arith, c.loop-left-test.false) in
    subst (λ (n : ℕ). AreKeys (source_in c.args.syntax.now uses) (sense_in (senses_made u c.args.results.now)) c.loop-left.list n) none (c.loop-left.invariant.keys u uses known)
