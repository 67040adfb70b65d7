use Rattle.std.proofs.Common.{ℕ, subst, arith}
use Rattle.row_share.specs.share_laws.Gathered.{HasClass}
use Rattle.row_share.proofs.row_classes.gather.classify_all.Goals as goal

pub returns-clause-all : goal.returns-clause-all
returns-clause-all c row known =
    let w = c.requires.order.all row known in
    subst (λ (r : ℕ). HasClass c.loop-done.classes r) w.2 (c.loop-done.invariant.after w.0 w.1 (let lt = w.1 in omega arith))

pub classify-requires-clause-after : goal.classify-requires-clause-after
classify-requires-clause-after c i behind inside = c.loop-done.invariant.after i inside (omega arith)

pub loop-done-preserved : goal.loop-done-preserved
loop-done-preserved c = record {
  partly = c.in_ok-classify.ensures.partly;
  after = λ i inside le. c.in_ok-classify.ensures.after i (let t = c.loop-done-test.true in omega arith) inside;
  empty = c.in_ok-classify.ensures.empty;
}
