use Rattle.std.proofs.Common.{◌≡◌, length, get_or, subst, arith}
use Rattle.link_merge.specs.Complete.{AreDone}
use Rattle.link_merge.proofs.Listing.{completed_on, done_all}
use Rattle.link_merge.proofs.complete.complete_unit.Goals as goal

pub loop-position-preserved : goal.loop-position-preserved
loop-position-preserved c = record {
  completed = completed_on c.args.types.now c.loop-position.types c.complete_tag.new.types c.args.unit.now c.args.start (λ k. get_or c.args.tags.now k 0) c.loop-position.invariant.completed c.in_ok-complete_tag.ensures.completed;
  done = c.in_ok-complete_tag.ensures.done;
}

pub returns-clause-all : goal.returns-clause-all
returns-clause-all c =
    let count = c.completed_count-position-end.ensures in
    let e : c.loop-position.position ≡ length c.args.unit.now.completed = omega arith in
    done_all c.loop-position.types c.args.unit.now (λ k. get_or c.args.tags.now k 0) (subst (λ n. AreDone c.loop-position.types c.args.unit.now (λ k. get_or c.args.tags.now k 0) n) e c.loop-position.invariant.done)
