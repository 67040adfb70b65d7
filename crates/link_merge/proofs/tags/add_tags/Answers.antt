use Rattle.std.proofs.Common.{◌≡◌, length, refl, sym, ap, subst, arith}
use Rattle.std.proofs.lemmas.Option.{slice_get_read}
use Rattle.core_tree.specs.declared.node.Unit.{Unit}
use Rattle.link_merge.specs.Tags.{TagsUpTo}
use Rattle.link_merge.proofs.Places.{tags_next}
use Rattle.link_merge.proofs.tags.add_tags.Goals as goal

pub returns : goal.returns
returns c =
    let units = c.args.units.now in
    let u = c.args.unit in
    let x = c.index-units-unit.result in
    let at = slice_get_read units (length units) u x refl c.requires.unit c.index-units-unit.is in
    let same = ap (λ (y : Unit). y.types.tags) (sym c.index-units-unit.is) in
    let count = c.tag_count-count.ensures in
    let e : c.loop-number.number ≡ x.types.tags = omega arith in
    tags_next units c.args.starts.now u x c.loop-number.list.items c.requires.starts at (subst (λ n. TagsUpTo units c.args.starts.now u n c.loop-number.list.items) e c.loop-number.invariant)
