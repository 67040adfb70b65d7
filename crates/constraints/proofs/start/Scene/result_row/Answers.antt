use Rattle.std.proofs.Common.{arith, ◌≤◌, length, sym, ◌∙◌}
use Rattle.row_numbers.specs.Functions.{functions_of}
use Rattle.row_numbers.specs.Setting.{result_row}
use Rattle.row_numbers.proofs.FrameLemmas.{read_zero, length_map, past_is}
use Rattle.constraints.specs.Start.{trees_of, view_in}
use Rattle.constraints.proofs.start.Scene.result_row.Goals as goal

pub returns-then-number-starts-clause-value : goal.returns-then-number-starts-clause-value
returns-then-number-starts-clause-value c =
    let u = trees_of c.args.self.now in
    let s = view_in c.args.self.now in
    let here = c.as_slice-starts.ensures.value ∙ c.requires.results.starts in
    read_zero (result_row u s) _ c.args.number c.as_slice-starts.result.now here (omega (arith, length_map (result_row u s) _ _ here))

pub returns-then-number-starts-clause-small : goal.returns-then-number-starts-clause-small
returns-then-number-starts-clause-small c =
    let u = trees_of c.args.self.now in
    let s = view_in c.args.self.now in
    let here = c.as_slice-starts.ensures.value ∙ c.requires.results.starts in
    let e = read_zero (result_row u s) _ c.args.number c.as_slice-starts.result.now here (omega (arith, length_map (result_row u s) _ _ here)) in
    omega (arith, e, c.requires.results.result_rows c.args.number, c.requires.results.small)

pub returns-else-number-starts-clause-value : goal.returns-else-number-starts-clause-value
returns-else-number-starts-clause-value c =
    let u = trees_of c.args.self.now in
    let s = view_in c.args.self.now in
    let here = c.as_slice-starts.ensures.value ∙ c.requires.results.starts in
    let many : length (functions_of u s) ≤ c.args.number = omega (arith, length_map (result_row u s) _ _ here) in
    c.requires.results.none ∙ sym (past_is u s c.args.number many)
