use Rattle.std.proofs.Common.{ℕ, List, All, refl, sym, subst, ◌∙◌, ap}
use Rattle.sol_model.specs.Families.{HoldsRow, members, shown}
use Rattle.sol_model.specs.Solutions.{IsLeast}
use Rattle.unit_report.specs.Solved.{IsShared}
use Rattle.unit_report.proofs.SharedProgram.{solved_shared}
use Rattle.side_reports.specs.whole_rows.Expanded.{words_of}
use Rattle.side_reports.proofs.whole_rows.Shown.{all_hold, family_is, whole_fits}
use Rattle.side_reports.proofs.whole_rows.solution.whole_solution.Goals as goal

pub words_of-requires : goal.words_of-requires
words_of-requires g c =
    let rows = c.in_ok-rows.rows in
    let row : List ℕ = c.in_ok-reduced.reduced.row.items in
    subst (All (HoldsRow rows)) (sym c.as_slice.ensures.value)
    (all_hold c.args.system.now c.in_ok-reduced.reduced.system c.in_ok-classes.classes row (words_of rows row) rows c.requires.valid c.in_ok-classes.ensures c.in_ok-reduced.ensures.reduced c.in_ok-rows.ensures.fits refl)

pub returns-clause-fits : goal.returns-clause-fits
returns-clause-fits g c =
    let rows = c.in_ok-rows.rows in
    let row : List ℕ = c.in_ok-reduced.reduced.row.items in
    whole_fits c.args.system.now c.in_ok-reduced.reduced.system c.in_ok-classes.classes row c.in_ok-words.words.items rows c.requires.valid c.in_ok-classes.ensures c.in_ok-reduced.ensures.reduced c.in_ok-rows.ensures.fits
    (c.in_ok-words.ensures ∙ ap (words_of rows) c.as_slice.ensures.value) (record { width = rows.width; words = c.of.result }) refl c.of.ensures

pub returns-clause-least : goal.returns-clause-least
returns-clause-least g c =
    let S = c.args.system.now in
    let rows = c.in_ok-rows.rows in
    let row : List ℕ = c.in_ok-reduced.reduced.row.items in
    subst (IsLeast S)
    (sym (ap (shown rows.width) c.of.ensures
    ∙ family_is S c.in_ok-reduced.reduced.system c.in_ok-classes.classes row c.in_ok-words.words.items rows c.requires.valid c.in_ok-classes.ensures c.in_ok-reduced.ensures.reduced c.in_ok-rows.ensures.fits
    (c.in_ok-words.ensures ∙ ap (words_of rows) c.as_slice.ensures.value)))
    (c.in_ok-reduced.ensures.least (members rows) c.in_ok-rows.ensures.least)

pub returns-clause-solved : goal.returns-clause-solved
returns-clause-solved g c =
    let S = c.args.system.now in
    let T = c.in_ok-reduced.reduced.system in
    let shared : IsShared S T = record { of = c.in_ok-classes.classes; row = c.in_ok-reduced.reduced.row.items; classes = c.in_ok-classes.ensures; reduced = c.in_ok-reduced.ensures.reduced } in
    solved_shared S T c.in_ok-rows.solved shared c.in_ok-rows.ensures.solved
