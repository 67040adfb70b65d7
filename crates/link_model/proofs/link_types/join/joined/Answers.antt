use Rattle.std.proofs.Common.{◌+◌, ◌<◌, ◌∙◌, All, length, refl, sym, subst}
use Rattle.std.proofs.lemmas.Option.{slice_get_read}
use Rattle.std.specs.List.{slice_index, slice_range}
use Rattle.link_model.proofs.link_types.Joining.{joined_more, all_range}
use Rattle.link_model.proofs.link_types.join.joined.Goals as goal

pub add_unit-requires-clause-known : goal.add_unit-requires-clause-known
add_unit-requires-clause-known c =
    let starts = c.args.tag_starts.now in
    subst (λ n. All (λ k. k < n) (slice_range c.args.numbers.now (slice_index starts c.loop-u.u) (slice_index starts (c.loop-u.u + 1)))) (sym c.loop-u.invariant.tags)
    (all_range c.args.count c.args.numbers.now (slice_index starts c.loop-u.u) (slice_index starts (c.loop-u.u + 1)) c.requires.known)

pub add_unit-requires-clause-keyed : goal.add_unit-requires-clause-keyed
add_unit-requires-clause-keyed c =
    let there = slice_get_read c.args.units.now (length c.args.units.now) c.loop-u.u c.index-units-u.result refl c.loop-u-test.true c.index-units-u.is in
    let keyword = c.requires.keyed.keyword in
    (keyword, c.loop-u.invariant.keyed keyword c.requires.keyed.each, c.requires.keyed.each c.loop-u.u c.index-units-u.result there)

pub loop-u-preserved : goal.loop-u-preserved
loop-u-preserved c =
    let units = c.args.units.now in
    let there = slice_get_read units (length units) c.loop-u.u c.index-units-u.result refl c.loop-u-test.true c.index-units-u.is in
    record {
      joined = joined_more units c.args.tag_starts.now c.args.numbers.now c.loop-u.types c.add_unit.new.types c.loop-u.u c.index-units-u.result c.loop-u-test.true there c.loop-u.invariant.joined c.in_ok-add_unit.ensures.count
          c.in_ok-add_unit.ensures.added c.in_ok-add_unit.ensures.kept;
      tags = c.in_ok-add_unit.ensures.tags ∙ c.loop-u.invariant.tags;
      completed = c.in_ok-add_unit.ensures.completed ∙ c.loop-u.invariant.completed;
      keyed = λ keyword all. c.in_ok-add_unit.ensures.keyed keyword (c.loop-u.invariant.keyed keyword all) (all c.loop-u.u c.index-units-u.result there);
    }
