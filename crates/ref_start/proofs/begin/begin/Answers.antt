use Rattle.std.proofs.Common.{arith, ◌≡◌, ◌<◌, ℕ, List, [], length, None, Some, Result, slice_get, ap, sym, subst, ◌∙◌}
use Rattle.std.proofs.lemmas.Option.{slice_get-get_or}
use Rattle.ref_cells.specs.Answers.{Gives}
use Rattle.ref_cells.specs.declared.cells.Reason.{Reason}
use Rattle.ref_state.specs.declared.state.State.{State}
use Rattle.ref_frames.specs.Made.{seen}
use Rattle.ref_start.specs.Begin.{main_of}
use Rattle.ref_start.proofs.BeginSteps.{begins_alone, begins_called, none_there, some_there}
use Rattle.ref_start.proofs.begin.begin.Goals as goal

pub returns-then-is_empty-clause-row : goal.returns-then-is_empty-clause-row
returns-then-is_empty-clause-row c =
    let w = seen c.args.running.now in
    let st = c.args.state.now in
    let main = c.in-Some.main in
    let lists = c.args.running.now.parameters.now in
    let found : main_of w.trees ≡ Some main = sym c.main_of.ensures.value ∙ c.in-Some.is in
    let lt : main < length lists = omega (arith, c.in-Some.ensures.within, c.requires.running.parameters.many) in
    let list = c.as_slice.result.now in
    let at : slice_get lists main ≡ Some list =
    slice_get-get_or lists main c.index-running-main.result lt ∙ ap (λ (xs : List ℕ). Some xs) (sym c.as_slice.ensures) in
    let none : length list ≡ 0 = none_there list c.is_empty.result c.is_empty.ensures c.if-is_empty.true in
    let P : Result State Reason → Type 0 = λ r. Gives (λ _. record c.begin_alone.new.state { notes = record { target = None; stores = [] } }) c.begin_alone.result r in
    subst P (sym (begins_alone w st c.args.word main list found (c.requires.running.parameters.each main list at) none)) c.begin_alone.ensures.row

pub returns-else-is_empty-clause-row : goal.returns-else-is_empty-clause-row
returns-else-is_empty-clause-row c =
    let w = seen c.args.running.now in
    let st = c.args.state.now in
    let main = c.in-Some.main in
    let lists = c.args.running.now.parameters.now in
    let found : main_of w.trees ≡ Some main = sym c.main_of.ensures.value ∙ c.in-Some.is in
    let lt : main < length lists = omega (arith, c.in-Some.ensures.within, c.requires.running.parameters.many) in
    let list = c.as_slice.result.now in
    let at : slice_get lists main ≡ Some list =
    slice_get-get_or lists main c.index-running-main.result lt ∙ ap (λ (xs : List ℕ). Some xs) (sym c.as_slice.ensures) in
    let some : 0 < length list = some_there list c.is_empty.result c.is_empty.ensures c.if-is_empty.false in
    let P : Result State Reason → Type 0 = λ r. Gives (λ _. record c.begin_with.new.state { notes = record { target = None; stores = [] } }) c.begin_with.result r in
    subst P (sym (begins_called w st c.args.word main list found (c.requires.running.parameters.each main list at) some)) c.begin_with.ensures.row
