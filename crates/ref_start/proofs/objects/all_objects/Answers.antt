use Rattle.std.proofs.Common.{arith, ◌+◌, ◌++◌, List, Some, None, drop, ap, ◌∙◌}
use Rattle.core_tree.specs.Seen.{core_of}
use Rattle.ref_cells.specs.declared.instance.Instance.{Instance}
use Rattle.ref_start.specs.Objects.{objects_after}
use Rattle.ref_start.proofs.ObjectSteps.{objects_next, objects_end}
use Rattle.ref_start.proofs.objects.all_objects.Goals as goal

pub loop-l-preserved : goal.loop-l-preserved
loop-l-preserved c =
    let u = core_of c.args.trees.now in
    let space = c.args.space.now in
    let l = c.loop-l.l in
    let x = c.location.result.now in
    ap (λ (xs : List Instance). xs ++ objects_after u c.args.types (Some x.key) (drop (l + 1) space)) c.in_ok-put_object.ensures
    ∙ objects_next u c.args.types c.loop-l.before space l x c.loop-l.list.items (objects_after u c.args.types None space) c.location.ensures c.loop-l.invariant

pub returns : goal.returns
returns c =
    objects_end (core_of c.args.trees.now) c.args.types c.loop-l.before c.args.space.now c.loop-l.l c.loop-l.list.items
    (objects_after (core_of c.args.trees.now) c.args.types None c.args.space.now) (omega arith) c.loop-l.invariant
