use Rattle.std.proofs.Common.{length, refl}
use Rattle.std.proofs.lemmas.Option.{slice_get_read, slice_get_within}
use Rattle.link_merge.proofs.Places.{tag_unit}
use Rattle.link_merge.proofs.Pushing.{key_is, key_within}
use Rattle.link_merge.proofs.labels.tag_key_of.Goals as goal

pub bounds-units-tag : goal.bounds-units-tag
bounds-units-tag c = (let (x, at, lt) = tag_unit c.args.units.now c.args.tag c.requires.tag in slice_get_within c.args.units.now c.args.tag.unit x at)

pub unit_key-requires : goal.unit_key-requires
unit_key-requires c =
    let units = c.args.units.now in
    let (x, at, lt) = tag_unit units c.args.tag c.requires.tag in
    let there = slice_get_read units (length units) c.args.tag.unit c.index-units-tag.result refl (slice_get_within units c.args.tag.unit x at) c.index-units-tag.is in
    key_within units c.args.tag c.index-units-tag.result c.requires.kept c.requires.tag there

pub returns : goal.returns
returns c =
    let units = c.args.units.now in
    let (x, at, lt) = tag_unit units c.args.tag c.requires.tag in
    let there = slice_get_read units (length units) c.args.tag.unit c.index-units-tag.result refl (slice_get_within units c.args.tag.unit x at) c.index-units-tag.is in
    key_is units c.args.tag c.index-units-tag.result c.unit_key.result.now there c.unit_key.ensures
