use Rattle.std.proofs.Common.{length, get_or, refl, ◌∙◌}
use Rattle.std.proofs.lemmas.Option.{slice_get_read}
use Rattle.link_model.specs.link_types.Joined.{tag_in}
use Rattle.link_merge.proofs.Listing.{types_kept, listed_more}
use Rattle.link_merge.proofs.complete.complete_all.Goals as goal

pub complete_unit-requires-clause-shown : goal.complete_unit-requires-clause-shown
complete_unit-requires-clause-shown c =
    let units = c.args.units.now in
    let u = c.loop-u.u in
    let x = c.index-units-u.result in
    let at = slice_get_read units (length units) u x refl c.loop-u-test.true c.index-units-u.is in
    types_kept c.args.types.now c.loop-u.types x.types (get_or c.args.type_starts.now u 0) (tag_in c.args.tag_starts.now c.args.numbers.now u) (length x.types.terms) c.loop-u.invariant.terms
    (record { each = λ i lt. c.requires.shown.each u x i at lt })

pub loop-u-preserved : goal.loop-u-preserved
loop-u-preserved c =
    let units = c.args.units.now in
    let u = c.loop-u.u in
    let x = c.index-units-u.result in
    let at = slice_get_read units (length units) u x refl c.loop-u-test.true c.index-units-u.is in
    let done = c.in_ok-complete_unit.ensures in
    record {
      terms = done.completed.terms ∙ c.loop-u.invariant.terms;
      tags = done.completed.tags ∙ c.loop-u.invariant.tags;
      listed = listed_more units c.args.type_starts.now (tag_in c.args.tag_starts.now c.args.numbers.now) c.loop-u.types c.complete_unit.new.types u x at c.loop-u.invariant.listed done.completed done.all;
    }
