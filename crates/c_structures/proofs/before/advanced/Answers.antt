use Rattle.std.proofs.Common.{arith, ◌<◌, ◌≤◌, ◌-◌, length, ap, sym, subst}
use Rattle.std.specs.Prelude.{slice_index}
use Rattle.c_structures.specs.declared.before.Cursor.{Cursor}
use Rattle.c_structures.specs.Before.{Covers}
use Rattle.c_structures.proofs.Ascending.{taken_below}
use Rattle.c_structures.proofs.before.advanced.Goals as goal
use Rattle.c_structures.proofs.before.advanced.Goals.{then-is_past, else-is_past, then-loop-cursor-test+else-nodes-cursor, else-loop-cursor-test}

pub loop-cursor-init : goal.loop-cursor-init
loop-cursor-init c = elim c.if-is_past.branch [
  | then-is_past w ↦ record {
    covers = λ covers. subst (λ (x : Cursor). Covers c.args.results.now c.args.nodes.now x) (sym w.cursor2-is) (w.start-cursor.ensures.covers c.args.results.now c.args.nodes.now);
    below = λ some h. absurd (let e = ap (λ (x : Cursor). x.done) w.cursor2-is in omega (arith, e, w.start-cursor.ensures.done));
  }
  | else-is_past w ↦ record {
    covers = λ covers. subst (λ (x : Cursor). Covers c.args.results.now c.args.nodes.now x) (sym w.cursor2-is) covers;
    below = subst (λ (x : Cursor). 0 < x.done → x.done ≤ length c.args.nodes.now → slice_index c.args.nodes.now (x.done - 1) < c.args.below) (sym w.cursor2-is) (c.is_past.ensures w.if-is_past.false);
  }
]

pub returns-clause-below : goal.returns-clause-below
returns-clause-below c = λ covers ascends.
    let now = c.loop-cursor.invariant.covers covers in
    taken_below c.args.nodes.now c.loop-cursor.cursor.done c.args.below ascends now.within
    (λ some. c.loop-cursor.invariant.below some now.within)
    (λ more. elim c.loop-cursor-test.branch [
      | then-loop-cursor-test+else-nodes-cursor w ↦ w.if-nodes-cursor.false
      | else-loop-cursor-test w ↦ absurd (omega (arith, w.loop-cursor-test.false))
    ])
