use Rattle.std.proofs.Common.{◌≡◌, ◌∙◌, ◌+◌, suc, sym, ap, Some, None, add-one}
use Rattle.c_types.specs.Table.{type_of}
use Rattle.c_senses.specs.World.{World, way_within, way_to}
use Rattle.c_operators.specs.c_members.Worlds.{IsWorldOf}
use Rattle.c_operators.proofs.c_members.Found.{ways_are_ways}
use Rattle.c_operators.proofs.c_members.Nesting.{none_is_none}
use Rattle.c_operators.proofs.c_members.ways.way_to.Goals as goal

pub returns-in-Some : goal.returns-in-Some
returns-in-Some c =
    let name = c.args.name.now in
    let whole = type_of c.args.types.now c.args.whole.0 in
    let way : (w : World) → IsWorldOf w c.args.types.now → way_to w name whole ≡ Some c.reverse.new.self.items = λ w h.
    let deep : c.from-depth.result + 1 ≡ suc w.tags = add-one c.from-depth.result ∙ ap suc (c.from-depth.ensures ∙ (c.tag_count.ensures ∙ sym h.tags)) in
    let found = rw c.in-Some.is at (c.in_ok-way.ensures w h) in
    ap (λ n. way_within w n name whole) (sym deep) ∙ (found ∙ ap Some (sym c.reverse.ensures.items))
    in
    record { way = way; member = λ w h. ways_are_ways w name whole c.reverse.new.self.items (way w h) }

pub returns-in-None : goal.returns-in-None
returns-in-None c =
    let table = c.args.types.now in
    let name = c.args.name.now in
    let whole = type_of table c.args.whole.0 in
    let way : (w : World) → IsWorldOf w table → way_to w name whole ≡ None = λ w h.
    let deep : c.from-depth.result + 1 ≡ suc w.tags = add-one c.from-depth.result ∙ ap suc (c.from-depth.ensures ∙ (c.tag_count.ensures ∙ sym h.tags)) in
    let none = rw c.in-None.is at (c.in_ok-way.ensures w h) in
    ap (λ n. way_within w n name whole) (sym deep) ∙ none
    in
    record { way = way; member = λ w h other i. none_is_none table w name whole other c.type_count-count.ensures.made c.type_count-count.ensures.named h (way w h) i }
