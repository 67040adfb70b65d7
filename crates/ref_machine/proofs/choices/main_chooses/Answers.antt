use Rattle.std.proofs.Common.{arith, ◌≡◌, ℕ, List, Some, slice_get, ap, sym, ◌∙◌}
use Rattle.std.proofs.lemmas.Option.{slice_get-get_or}
use Rattle.ref_frames.specs.Made.{seen}
use Rattle.ref_machine.proofs.Stepped.{none_taken, some_taken}
use Rattle.ref_machine.proofs.choices.main_chooses.Goals as goal

pub returns-in-empty : goal.returns-in-empty
returns-in-empty c =
    let lists = c.args.running.now.parameters.now in
    let at : slice_get lists c.in-Some.main ≡ Some c.as_slice.result.now =
    slice_get-get_or lists c.in-Some.main c.index-running-main.result (omega (arith, c.in-Some.ensures.within, c.requires.parameters.many))
    ∙ ap (λ (xs : List ℕ). Some xs) (sym c.as_slice.ensures) in
    none_taken (seen c.args.running.now) lists c.requires.parameters c.in-Some.main c.as_slice.result.now at (sym c.in-Some.ensures.value) c.in-empty.len_below

pub returns-in-len1-up : goal.returns-in-len1-up
returns-in-len1-up c =
    let lists = c.args.running.now.parameters.now in
    let at : slice_get lists c.in-Some.main ≡ Some c.as_slice.result.now =
    slice_get-get_or lists c.in-Some.main c.index-running-main.result (omega (arith, c.in-Some.ensures.within, c.requires.parameters.many))
    ∙ ap (λ (xs : List ℕ). Some xs) (sym c.as_slice.ensures) in
    some_taken (seen c.args.running.now) lists c.requires.parameters c.in-Some.main c.as_slice.result.now at (sym c.in-Some.ensures.value) c.in-len1-up.len_at_least
