use Rattle.std.proofs.Common.{◌≡◌, ◌<◌, length, ap, sym, subst, ◌∙◌, arith}
use Rattle.std.proofs.lemmas.List.FromFn.{length-map-range_with_len}
use Rattle.c_types.specs.Table.{type_of, types_of, IsAfter}
use Rattle.c_types.specs.Trees.{grow}
use Rattle.row_numbers.specs.Numbers.{type_number}
use Rattle.stop_places.proofs.Pushed.{read_map}
use Rattle.stop_places.proofs.tables.number_after.Goals as goal

pub bounds-numbers-of : goal.bounds-numbers-of
bounds-numbers-of c =
    let before : c.in-Array.of.0 < c.args.id.0 = subst (IsAfter c.args.id.0) c.in-Array.is c.term.ensures.types in
    let long : length c.args.numbers.now ≡ c.args.id.0 = ap length c.requires.numbers ∙ length-map-range_with_len (λ i. type_number (type_of c.args.types.now i)) 0 c.args.id.0 in
    omega arith

pub returns-in-Array : goal.returns-in-Array
returns-in-Array c =
    let before : c.in-Array.of.0 < c.args.id.0 = subst (IsAfter c.args.id.0) c.in-Array.is c.term.ensures.types in
    read_map (λ i. type_number (type_of c.args.types.now i)) c.args.id.0 c.in-Array.of.0 c.args.numbers.now _ c.requires.numbers before
    ∙ sym (ap type_number (c.term.ensures.tree ∙ ap (grow (types_of c.args.types.now)) c.in-Array.is))
