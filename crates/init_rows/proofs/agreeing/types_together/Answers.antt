use Rattle.core_nodes.proofs.Growing.{builds_on}
use Rattle.tree_reads.specs.Sources.{source_read}
use Rattle.c_named.proofs.Keeping.{together_more}
use Rattle.init_rows.proofs.agreeing.types_together.Goals as goal

pub returns-in_err-found-clause-builds : goal.returns-in_err-found-clause-builds
returns-in_err-found-clause-builds c = builds_on c.args.unit.now c.loop-leaf.unit c.own_type.new.unit c.loop-leaf.invariant.builds c.in_err-found.ensures.builds

pub loop-leaf-preserved : goal.loop-leaf-preserved
loop-leaf-preserved c =
    let inv = c.loop-leaf.invariant in
    record {
      ready = c.in_ok-found.ensures.ready;
      builds = builds_on c.args.unit.now c.loop-leaf.unit c.own_type.new.unit inv.builds c.in_ok-found.ensures.builds;
      within = c.joined-so_far.ensures.within;
      rest = together_more c.args.unit.now c.loop-leaf.unit c.own_type.new.unit inv.builds c.in_ok-found.ensures.builds c.args.results.now c.requires.results (source_read c.args.syntax.now) c.args.leaves.now c.loop-leaf.leaf-index c.loop-leaf.so_far c.in_ok-found.found c.joined-so_far.result c.loop-leaf-test.true inv.within c.joined-so_far.ensures.joined c.in_ok-found.ensures.made inv.rest;
    }
