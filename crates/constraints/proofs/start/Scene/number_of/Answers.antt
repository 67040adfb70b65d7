use Rattle.std.proofs.Common.{arith, ap, sym, ◌∙◌, Option, ℕ}
use Rattle.std.specs.Option.{option_map_or}
use Rattle.row_numbers.specs.Functions.{number_at}
use Rattle.row_numbers.proofs.FrameLemmas.{read_map, length_map}
use Rattle.constraints.specs.Start.{trees_of, view_in}
use Rattle.constraints.proofs.start.Scene.number_of.Goals as goal

pub index-requires : goal.index-requires
index-requires c =
    let u = trees_of c.args.self.now in
    let s = view_in c.args.self.now in
    omega (arith, c.args.self.now.results.now.before.ok.0, length_map (number_at u s) _ _ c.requires.results.before, c.in-Some.ensures.within)

pub returns-in-Some : goal.returns-in-Some
returns-in-Some c =
    let u = trees_of c.args.self.now in
    let s = view_in c.args.self.now in
    let e = read_map (number_at u s) _ _ _ _ c.requires.results.before c.in-Some.ensures.within c.index.ensures in
    e ∙ ap (λ (o : Option ℕ). option_map_or (number_at u s) o 0) (sym (sym c.first.ensures.value ∙ c.in-Some.is))
