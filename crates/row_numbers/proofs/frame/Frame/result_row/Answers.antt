use Rattle.std.proofs.Common.{arith, ◌≤◌, length, sym, ◌∙◌}
use Rattle.core_tree.specs.Typed.{trees_in}
use Rattle.obj_space.specs.View.{view_of}
use Rattle.row_numbers.specs.Functions.{functions_of}
use Rattle.row_numbers.specs.Setting.{result_row}
use Rattle.row_numbers.proofs.FrameLemmas.{read_zero, length_map}
use Rattle.row_numbers.proofs.frame.Frame.result_row.Goals as goal

pub returns-then-number-results-clause-value : goal.returns-then-number-results-clause-value
returns-then-number-results-clause-value c =
    let u = trees_in c.args.self.now.program.now in
    let s = view_of c.args.self.now.space.now in
    let here = c.as_slice-results.ensures.value ∙ c.requires.numbers.results in
    read_zero (result_row u s) _ c.args.number c.as_slice-results.result.now here (omega (arith, length_map (result_row u s) _ _ here))

pub returns-then-number-results-clause-small : goal.returns-then-number-results-clause-small
returns-then-number-results-clause-small c =
    let u = trees_in c.args.self.now.program.now in
    let s = view_of c.args.self.now.space.now in
    let here = c.as_slice-results.ensures.value ∙ c.requires.numbers.results in
    let e = read_zero (result_row u s) _ c.args.number c.as_slice-results.result.now here (omega (arith, length_map (result_row u s) _ _ here)) in
    omega (arith, e, c.requires.numbers.result_rows c.args.number, c.requires.numbers.small)

pub returns-else-number-results-clause-value : goal.returns-else-number-results-clause-value
returns-else-number-results-clause-value c =
    let u = trees_in c.args.self.now.program.now in
    let s = view_of c.args.self.now.space.now in
    let here = c.as_slice-results.ensures.value ∙ c.requires.numbers.results in
    let many : length (functions_of u s) ≤ c.args.number = omega (arith, length_map (result_row u s) _ _ here) in
    c.requires.numbers.none ∙ sym (c.requires.numbers.past c.args.number many)
