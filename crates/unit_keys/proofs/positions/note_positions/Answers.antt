use Rattle.std.proofs.Common.{◌∙◌, ◌+◌, ℕ, ap}
use Rattle.c_senses.specs.Tree.{Source}
use Rattle.c_senses.specs.Sense.{Sense, sense_in}
use Rattle.c_results.specs.Standing.{senses_made}
use Rattle.tree_reads.specs.leaf_maps.Numbers.{number_at}
use Rattle.tree_reads.specs.Sources.{source_in}
use Rattle.unit_keys.proofs.Counting.{position_more, positions_done}
use Rattle.unit_keys.proofs.positions.note_positions.Goals as goal

pub loop-child-preserved : goal.loop-child-preserved
loop-child-preserved c = record {
  held = λ u uses k on by.
      let s : Source = source_in c.args.syntax.now uses in
      let sense : ℕ → Sense = sense_in (senses_made u c.args.results.now) in
      position_more s sense c.args.children.now c.loop-child.child-index k (number_at c.loop-child.positions k) (number_at c.note_one.new.positions k) _ c.loop-child.before c.in_ok-sum.sum c.loop-child-test.true (c.in_ok-note_one.ensures.held uses k on by)
      (c.in_ok-sum.ensures ∙ ap (λ (n : ℕ). c.loop-child.before + n) (c.parts_of.ensures u s sense)) (c.loop-child.invariant.held u uses k on by);
  others = λ uses k off. c.in_ok-note_one.ensures.others uses k off ∙ c.loop-child.invariant.others uses k off;
}

pub returns-clause-held : goal.returns-clause-held
returns-clause-held c = λ u uses k on by.
    positions_done (source_in c.args.syntax.now uses) (sense_in (senses_made u c.args.results.now)) c.args.children.now c.loop-child.child-index k (number_at c.loop-child.positions k) _ c.loop-child.before c.loop-child-test.false (c.loop-child.invariant.held u uses k on by)
