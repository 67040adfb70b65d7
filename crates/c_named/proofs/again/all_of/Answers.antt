use Rattle.core_nodes.proofs.Growing.{builds_on}
use Rattle.tree_reads.specs.Sources.{source_read}
use Rattle.c_named.proofs.Keeping.{all_stops, all_more}
use Rattle.c_named.proofs.again.all_of.Goals as goal

pub returns-in_err-found-clause-builds : goal.returns-in_err-found-clause-builds
returns-in_err-found-clause-builds c = builds_on c.args.unit.now c.loop-leaf.unit c.own_type.new.unit c.loop-leaf.invariant.builds c.in_err-found.ensures.builds

pub returns-then-not-is_of-clause-builds : goal.returns-then-not-is_of-clause-builds
returns-then-not-is_of-clause-builds c = builds_on c.args.unit.now c.loop-leaf.unit c.own_type.new.unit c.loop-leaf.invariant.builds c.in_ok-found.ensures.builds

pub returns-then-not-is_of-clause-all : goal.returns-then-not-is_of-clause-all
returns-then-not-is_of-clause-all c =
    let inv = c.loop-leaf.invariant in
    all_stops c.args.unit.now c.loop-leaf.unit c.own_type.new.unit inv.builds c.in_ok-found.ensures.builds c.args.results.now c.requires.results (source_read c.args.syntax.now) c.args.leaves.now c.loop-leaf.leaf-index c.args.ty c.in_ok-found.found c.loop-leaf-test.true c.requires.ty c.in_ok-found.ensures.made c.if-not-is_of.ensures inv.rest

pub loop-leaf-preserved : goal.loop-leaf-preserved
loop-leaf-preserved c =
    let inv = c.loop-leaf.invariant in
    record {
      ready = c.in_ok-found.ensures.ready;
      builds = builds_on c.args.unit.now c.loop-leaf.unit c.own_type.new.unit inv.builds c.in_ok-found.ensures.builds;
      rest = all_more c.args.unit.now c.loop-leaf.unit c.own_type.new.unit inv.builds c.in_ok-found.ensures.builds c.args.results.now c.requires.results (source_read c.args.syntax.now) c.args.leaves.now c.loop-leaf.leaf-index c.args.ty c.in_ok-found.found c.loop-leaf-test.true c.requires.ty c.in_ok-found.ensures.made c.if-not-is_of.ensures inv.rest;
    }
