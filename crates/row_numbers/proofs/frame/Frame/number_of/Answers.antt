use Rattle.std.proofs.Common.{arith, ap, sym, ◌∙◌, Option, ℕ}
use Rattle.std.specs.Option.{option_map_or}
use Rattle.core_tree.specs.Typed.{trees_in}
use Rattle.obj_space.specs.View.{view_of}
use Rattle.row_numbers.specs.Functions.{number_at}
use Rattle.row_numbers.proofs.FrameLemmas.{read_map, length_map}
use Rattle.row_numbers.proofs.frame.Frame.number_of.Goals as goal

pub index-requires : goal.index-requires
index-requires c =
    let u = trees_in c.args.self.now.program.now in
    let s = view_of c.args.self.now.space.now in
    omega (arith, c.args.self.now.numbering.now.before.ok.0, length_map (number_at u s) _ _ c.requires.numbers.before, c.in-Some.ensures.within)

pub returns-in-Some : goal.returns-in-Some
returns-in-Some c =
    let u = trees_in c.args.self.now.program.now in
    let s = view_of c.args.self.now.space.now in
    let e = read_map (number_at u s) _ _ _ _ c.requires.numbers.before c.in-Some.ensures.within c.index.ensures in
    e ∙ ap (λ (o : Option ℕ). option_map_or (number_at u s) o 0) (sym (sym c.first.ensures.value ∙ c.in-Some.is))
