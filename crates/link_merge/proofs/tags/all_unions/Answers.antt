use Rattle.std.proofs.Common.{◌≡◌, Bool, false, List, length, refl, ap, subst, ◌∙◌, arith}
use Rattle.std.specs.List.{slice_index_or}
use Rattle.std.proofs.lemmas.Option.{slice_get_read}
use Rattle.link_merge.specs.Tags.{UnionsUpTo}
use Rattle.link_merge.proofs.Pushing.{unions_more, unions_all}
use Rattle.link_merge.proofs.tags.all_unions.Goals as goal

pub loop-unit-preserved : goal.loop-unit-preserved
loop-unit-preserved c =
    let units = c.args.units.now in
    let i = c.loop-unit.unit-index in
    let x = c.unit-item.result in
    let at = slice_get_read units (length units) i x refl c.loop-unit-test.true c.unit-item.is in
    let own = c.as_slice.ensures.value in
    unions_more units c.args.starts.now i x c.loop-unit.list.items c.as_slice.result.now c.extend_from_slice.new.self.items c.requires.starts at c.loop-unit.invariant c.in_ok-extend_from_slice.ensures.items
    (ap (length {A = Bool}) own ∙ c.in_ok-own.ensures.all)
    (λ tag. ap (λ (bs : List Bool). slice_index_or bs tag false) own ∙ c.in_ok-own.ensures.each tag)

pub returns : goal.returns
returns c =
    let units = c.args.units.now in
    let e : c.loop-unit.unit-index ≡ length units = omega arith in
    unions_all units c.args.starts.now c.loop-unit.list.items c.requires.starts (subst (λ n. UnionsUpTo units c.args.starts.now n c.loop-unit.list.items) e c.loop-unit.invariant)
