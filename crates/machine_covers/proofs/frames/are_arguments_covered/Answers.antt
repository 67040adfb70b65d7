use Rattle.std.proofs.Common.{arith, ◌∙◌, refl, sym}
use Rattle.std.proofs.lemmas.Bool.{false≢true}
use borrow.Author.Count.{below_more}
use Rattle.machine_covers.specs.Frames.{ArgumentAt, ArgumentsBy}
use Rattle.row_covers.specs.Scene.{sight_of}
use Rattle.machine_covers.proofs.frames.are_arguments_covered.Goals as goal

pub loop-k-preserved : goal.loop-k-preserved
loop-k-preserved c =
    below_more (ArgumentAt (sight_of c.args.scene.now) c.args.memory.now c.args.nodes.now c.args.arguments.now) c.loop-k.k c.loop-k.invariant (c.is_argument_at.ensures.0 c.if-not-is_argument_at.false)

pub returns : goal.returns
unfolding ArgumentsBy
returns c = ((λ h k lt. c.loop-k.invariant k (omega (arith, lt, c.loop-k-test.false))), (λ all. refl))

pub returns-then-not-is_argument_at : goal.returns-then-not-is_argument_at
unfolding ArgumentsBy
returns-then-not-is_argument_at c = ((λ h. absurd (false≢true h)), (λ all. sym c.if-not-is_argument_at.true ∙ c.is_argument_at.ensures.1 (all c.loop-k.k c.loop-k-test.true)))
