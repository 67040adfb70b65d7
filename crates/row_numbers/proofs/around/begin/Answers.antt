use Rattle.std.proofs.Common.{refl, sym, ◌∙◌}
use Rattle.row_numbers.proofs.AroundLemmas.{begun_none, begun_step, begun_skip, body_bound}
use Rattle.row_numbers.proofs.around.begin.Goals as goal
use Rattle.row_numbers.proofs.around.begin.Goals.{in-Some, in_default}

pub loop-f-init : goal.loop-f-init
loop-f-init c = begun_none c.args.owners.now.items c.requires.none

pub loop-f-preserved : goal.loop-f-preserved
loop-f-preserved c =
    elim c.match-body_of.branch [
      | in-Some w ↦ begun_step _ _ _ _ c.index-entities-f.result c.loop-f.invariant c.loop-f-test.true c.index-entities-f.is w.in-Some.body _ (sym c.body_of.ensures ∙ w.in-Some.is) (body_bound c.index-entities-f.result _ _ (sym c.body_of.ensures ∙ w.in-Some.is) (rw (c.loop-f.invariant.each) (rw (← c.index-entities-f.is) at (c.requires.bodies c.loop-f.f c.index-entities-f.result c.loop-f-test.true)))) (rw w.owners-is refl)
      | in_default w ↦ begun_skip _ _ _ _ c.index-entities-f.result c.loop-f.invariant c.loop-f-test.true c.index-entities-f.is _ (sym c.body_of.ensures ∙ w.in_default.is) (rw w.owners-is refl)
    ]
