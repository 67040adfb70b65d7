use Rattle.std.proofs.Common.{arith, ◌≡◌, ◌∙◌, refl, sym, slice_get}
use Rattle.std.proofs.lemmas.Bool.{false≢true}
use borrow.Author.Count.{below_more}
use Rattle.machine_covers.specs.Bare.{LeavesAt}
use Rattle.machine_covers.proofs.Behind.{leave_all, all_leave}
use Rattle.machine_covers.proofs.bare.items_leave.Goals as goal

pub loop-k-preserved : goal.loop-k-preserved
loop-k-preserved c = below_more (λ j. LeavesAt c.args.i c.args.off j (slice_get c.args.items.now j)) c.loop-k.k c.loop-k.invariant (c.leaves_at.ensures.0 c.if-not-leaves_at.false)

pub returns : goal.returns
returns c = ((λ h. leave_all c.args.i c.args.off c.args.items.now (λ j lt. c.loop-k.invariant j (omega (arith, lt, c.loop-k-test.false, c.len-k-end.ensures)))), (λ all. refl))

pub returns-then-not-leaves_at : goal.returns-then-not-leaves_at
returns-then-not-leaves_at c = ((λ h. absurd (false≢true h)), (λ all. sym c.if-not-leaves_at.true ∙ c.leaves_at.ensures.1 (all_leave c.args.i c.args.off c.args.items.now all c.loop-k.k)))
