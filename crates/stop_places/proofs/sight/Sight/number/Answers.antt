use Rattle.std.proofs.Common.{◌≡◌, length, ap, ◌∙◌, arith}
use Rattle.std.proofs.lemmas.List.FromFn.{length-map-range_with_len}
use Rattle.c_types.specs.Table.{type_of}
use Rattle.row_numbers.specs.Numbers.{type_number}
use Rattle.stop_places.proofs.Pushed.{read_map}
use Rattle.stop_places.proofs.sight.Sight.number.Goals as goal

pub bounds-self-id : goal.bounds-self-id
bounds-self-id c =
    let types = c.args.self.now.program.now.types in
    let long : length c.args.self.now.numbers.now ≡ length types.terms = ap length c.requires.sight.numbers ∙ length-map-range_with_len (λ i. type_number (type_of types i)) 0 (length types.terms) in
    omega (arith, long, c.requires.id)

pub returns : goal.returns
returns c =
    let types = c.args.self.now.program.now.types in
    read_map (λ i. type_number (type_of types i)) (length types.terms) c.args.id.0 c.args.self.now.numbers.now _ c.requires.sight.numbers c.requires.id
