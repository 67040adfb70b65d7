use Rattle.std.proofs.Common.{sym, ap, ◌∙◌, ◌++◌, List, map}
use Rattle.c_inits.specs.Shapes.{Path}
use Rattle.c_inits.specs.Items.{placed_of}
use Rattle.c_senses.specs.Initialised.{paths_of}
use Rattle.c_initials.proofs.ObjectLaws.{path_off, paths_end}
use Rattle.c_initials.proofs.objects.paths_of.Goals as goal

pub loop-item-init : goal.loop-item-init
loop-item-init c = λ w s sense. ap (λ (l : List Path). l ++ paths_of w s sense (map placed_of c.args.items.now)) (sym c.new-paths.ensures)

pub loop-item-preserved : goal.loop-item-preserved
loop-item-preserved c = λ w s sense.
    path_off w s sense c.args.items.now c.loop-item.item-index c.item-item.result c.loop-item.paths c.push.new.self c.of.result c.loop-item-test.true c.item-item.is
    (c.of.ensures ∙ c.in_ok-path.ensures.items ∙ c.as_slice.ensures.value) c.in_ok-push.ensures.ok (c.loop-item.invariant w s sense)

pub returns : goal.returns
returns c = λ w s sense. paths_end w s sense c.args.items.now c.loop-item.item-index c.loop-item.paths c.loop-item-test.false (c.loop-item.invariant w s sense)
