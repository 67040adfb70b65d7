use Rattle.std.proofs.Common.{arith, ℕ, ◌<◌, ◌≡◌, ◌∙◌, Option, Some, refl, sym, ap, subst}
use Rattle.std.proofs.lemmas.Bool.{false≢true}
use Rattle.std.proofs.lemmas.Option.{slice_get_within, slice_get-get_or, get_or_from_slice_get}
use borrow.Author.Count.{below_more}
use Rattle.ref_cells.specs.declared.instance.Instance.{Instance}
use Rattle.machine_covers.specs.Bare.{AwaitedBy, AwaitedAt, AwaitedAll}
use Rattle.row_covers.specs.Scene.{sight_of}
use Rattle.machine_covers.proofs.bare.are_awaited.Goals as goal

pub loop-i-preserved : goal.loop-i-preserved
loop-i-preserved c =
    below_more (AwaitedAt (sight_of c.args.scene.now) c.args.memory.now c.args.frames.now) c.loop-i.i c.loop-i.invariant
    (λ inst at.
    subst (λ (x : Instance). AwaitedBy (sight_of c.args.scene.now) c.args.memory.now c.args.frames.now c.loop-i.i x)
    (c.index-memory-i.is ∙ get_or_from_slice_get c.args.memory.now c.loop-i.i inst c.index-memory-i.result at) (c.is_awaited.ensures.0 c.if-not-is_awaited.false))

pub returns : goal.returns
unfolding AwaitedAll
returns c = ((λ h i inst at. c.loop-i.invariant i (let within = slice_get_within c.args.memory.now i inst at in omega (arith, within, c.loop-i-test.false)) inst at), (λ all. refl))

pub returns-then-not-is_awaited : goal.returns-then-not-is_awaited
unfolding AwaitedAll
returns-then-not-is_awaited c = (
  (λ h. absurd (false≢true h)),
  (λ all.
      sym c.if-not-is_awaited.true
      ∙ c.is_awaited.ensures.1
      (all c.loop-i.i c.index-memory-i.result
      (slice_get-get_or c.args.memory.now c.loop-i.i c.index-memory-i.result c.loop-i-test.true ∙ ap (λ (x : Instance). let r : Option Instance = Some x in r) (sym c.index-memory-i.is)))),
)
