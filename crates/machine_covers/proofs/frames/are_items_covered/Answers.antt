use Rattle.std.proofs.Common.{arith, ◌≡◌, ◌∙◌, refl, sym, slice_get}
use Rattle.std.proofs.lemmas.Bool.{false≢true}
use borrow.Author.Count.{below_more}
use Rattle.machine_covers.specs.Frames.{ItemAt}
use Rattle.row_covers.specs.Scene.{sight_of}
use Rattle.machine_covers.proofs.Behind.{items_in, in_items}
use Rattle.machine_covers.proofs.frames.are_items_covered.Goals as goal

pub loop-k-preserved : goal.loop-k-preserved
loop-k-preserved c = below_more (λ j. ItemAt (sight_of c.args.scene.now) c.args.memory.now c.args.key (slice_get c.args.items.now j)) c.loop-k.k c.loop-k.invariant (c.is_item_at_covered.ensures.0 c.if-not-is_item_at_covered.false)

pub returns : goal.returns
returns c = ((λ h. items_in (sight_of c.args.scene.now) c.args.memory.now c.args.key c.args.items.now (λ j lt. c.loop-k.invariant j (omega (arith, lt, c.loop-k-test.false, c.len-k-end.ensures)))), (λ all. refl))

pub returns-then-not-is_item_at_covered : goal.returns-then-not-is_item_at_covered
returns-then-not-is_item_at_covered c = ((λ h. absurd (false≢true h)), (λ all. sym c.if-not-is_item_at_covered.true ∙ c.is_item_at_covered.ensures.1 (in_items (sight_of c.args.scene.now) c.args.memory.now c.args.key c.args.items.now all c.loop-k.k)))
