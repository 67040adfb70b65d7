use Rattle.std.proofs.Common.{arith, ℕ, ◌+◌, Ok, Err, List, get_or, ap, sym, ◌∙◌, subst}
use Rattle.c_senses.specs.Sense.{Sense, sense_in}
use Rattle.c_senses.specs.Expressions.{chained}
use Rattle.core_nodes.specs.Standing.{core_at, Made}
use Rattle.core_nodes.proofs.Growing.{builds_on, knows_on}
use Rattle.core_nodes.proofs.Failing.{made_same}
use Rattle.c_senses.specs.Operators.{between}
use Rattle.c_results.specs.Standing.{senses_made}
use Rattle.c_results.proofs.Keeping.{mades_kept, withins_kept}
use Rattle.tree_reads.specs.Sources.{source_read}
use Rattle.expression_rows.specs.whole_rows.Whole.{linked}
use Rattle.expression_rows.proofs.whole_rows.Linking.{chain_goes_on, chain_fails, drop_none, drop_one}
use Rattle.expression_rows.proofs.whole_rows.Keeping.{rows_on}
use Rattle.expression_rows.proofs.whole_rows.chains.chained.Goals as goal

pub returns-in-Err-clause-made : goal.returns-in-Err-clause-made
returns-in-Err-clause-made c w k =
    let u0 = c.args.unit.now in
    let u = c.loop-i.unit in
    let u1 = c.linked.new.unit in
    let xs = c.args.children.now in
    let i = c.loop-i.i in
    let a = core_at u c.loop-i.left in
    let s = source_read c.args.syntax.now in
    let S = sense_in (senses_made u0 c.args.results.now) in
    let ku = knows_on w u0 u c.loop-i.invariant.builds k in
    let kept = mades_kept u0 u c.loop-i.invariant.builds c.args.results.now c.requires.within in
    let one = subst (λ (l : List Sense). Made u1 (Err c.in-Err.fault) (linked w s (sense_in l) c.named_of-named.result (get_or xs i 0) a (sense_in l (get_or xs (i + 1) 0)))) kept (c.in-Err.ensures.made w ku) in
    let m = subst (λ (n : ℕ). Made u1 (Err c.in-Err.fault) (linked w s S n (get_or xs i 0) a (S (get_or xs (i + 1) 0)))) c.named_of-named.ensures one in
    made_same u1 (Err c.in-Err.fault) _ _ (sym (c.loop-i.invariant.chain w k)) (chain_fails w s S c.args.at c.args.single a xs i c.loop-i-test.true u1 c.in-Err.fault m)

pub loop-i-preserved : goal.loop-i-preserved
loop-i-preserved c =
    let u0 = c.args.unit.now in
    let u = c.loop-i.unit in
    let u1 = c.linked.new.unit in
    let xs = c.args.children.now in
    let i = c.loop-i.i in
    let a = core_at u c.loop-i.left in
    let s = source_read c.args.syntax.now in
    let S = sense_in (senses_made u0 c.args.results.now) in
    let kept = mades_kept u0 u c.loop-i.invariant.builds c.args.results.now c.requires.within in
    record {
      ready = c.in-Ok.ensures.ready;
      builds = builds_on u0 u u1 c.loop-i.invariant.builds c.in-Ok.ensures.builds;
      within = omega arith;
      left = c.in-Ok.ensures.within;
      results = withins_kept u u1 c.in-Ok.ensures.builds c.args.results.now c.loop-i.invariant.results;
      rows = rows_on u u1 c.in-Ok.ensures.builds c.args.results.now c.loop-i.invariant.results c.loop-i.invariant.rows;
      done = c.in-Ok.ensures.rows;
      chain = λ w k.
          let ku = knows_on w u0 u c.loop-i.invariant.builds k in
          let one = subst (λ (l : List Sense). Made u1 (Ok c.in-Ok.node) (linked w s (sense_in l) c.named_of-named.result (get_or xs i 0) a (sense_in l (get_or xs (i + 1) 0)))) kept (c.in-Ok.ensures.made w ku) in
          let m = subst (λ (n : ℕ). Made u1 (Ok c.in-Ok.node) (linked w s S n (get_or xs i 0) a (S (get_or xs (i + 1) 0)))) c.named_of-named.ensures one in
          c.loop-i.invariant.chain w k ∙ chain_goes_on w s S c.args.at c.args.single a xs i c.loop-i-test.true u1 c.in-Ok.node m;
    }

pub returns-then-i-children-clause-made : goal.returns-then-i-children-clause-made
returns-then-i-children-clause-made c w k =
    let xs = c.args.children.now in
    let s = source_read c.args.syntax.now in
    let S = sense_in (senses_made c.args.unit.now c.args.results.now) in
    c.loop-i.invariant.chain w k
    ∙ ap (λ (t : List ℕ). chained w s S (between w) c.args.at c.args.single (core_at c.loop-i.unit c.loop-i.left) t) (drop_none xs c.loop-i.i (omega arith))

pub returns-else-i-children-clause-made : goal.returns-else-i-children-clause-made
returns-else-i-children-clause-made c w k =
    let xs = c.args.children.now in
    let s = source_read c.args.syntax.now in
    let S = sense_in (senses_made c.args.unit.now c.args.results.now) in
    c.loop-i.invariant.chain w k
    ∙ ap (λ (t : List ℕ). chained w s S (between w) c.args.at c.args.single (core_at c.loop-i.unit c.loop-i.left) t) (drop_one xs c.loop-i.i (omega arith)).1
