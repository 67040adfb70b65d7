use Rattle.std.proofs.Common.{length, refl, arith}
use Rattle.std.proofs.lemmas.Option.{slice_get_read, slice_get_within}
use Rattle.c_types.specs.Made.{IsMade, AreNamed}
use Rattle.core_tree.specs.declared.node.Unit.{Unit}
use Rattle.link_merge.proofs.Pushing.{each_more}
use Rattle.link_merge.proofs.tags.tables_told.Goals as goal

pub loop-unit-preserved : goal.loop-unit-preserved
loop-unit-preserved c =
    let units = c.args.units.now in
    let i = c.loop-unit.unit-index in
    let x = c.unit-item.result in
    let there = slice_get_read units (length units) i x refl c.loop-unit-test.true c.unit-item.is in
    record {
      made = each_more (λ (y : Unit). IsMade y.types) units i x there c.type_count-count.ensures.made c.loop-unit.invariant.made;
      named = each_more (λ (y : Unit). AreNamed y.types) units i x there c.type_count-count.ensures.named c.loop-unit.invariant.named;
    }

pub returns : goal.returns
returns c =
    let units = c.args.units.now in
    record {
      made = λ u x at. c.loop-unit.invariant.made u x (let lt = slice_get_within units u x at in omega arith) at;
      named = λ u x at. c.loop-unit.invariant.named u x (let lt = slice_get_within units u x at in omega arith) at;
    }
