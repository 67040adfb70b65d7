use Rattle.std.proofs.Common.{◌≡◌, ◌∙◌, length, refl, sym, arith}
use Rattle.std.proofs.lemmas.Option.{slice_get_read}
use Rattle.link_units.proofs.link_whole.Entering.{found_at, none_more, none_at}
use Rattle.link_units.proofs.link_whole.entries.entity_named.Goals as goal

pub returns-then-is_of_name : goal.returns-then-is_of_name
returns-then-is_of_name c =
    let list = c.args.entities.now in
    let e = c.loop-e.e in
    let x = c.index-entities-e.result in
    let at = slice_get_read list (length list) e x refl c.loop-e-test.true c.index-entities-e.is in
    found_at list c.args.name.now e x at (sym c.is_of_name.ensures ∙ c.if-is_of_name.true)

pub loop-e-preserved : goal.loop-e-preserved
loop-e-preserved c =
    let list = c.args.entities.now in
    let e = c.loop-e.e in
    let x = c.index-entities-e.result in
    let at = slice_get_read list (length list) e x refl c.loop-e-test.true c.index-entities-e.is in
    none_more list c.args.name.now e x at (sym c.is_of_name.ensures ∙ c.if-is_of_name.false) c.loop-e.invariant

pub unreachable-requires : goal.unreachable-requires
unreachable-requires c = none_at c.args.entities.now c.args.name.now c.loop-e.e (omega (arith, c.loop-e-test.false)) c.loop-e.invariant c.requires.stands
