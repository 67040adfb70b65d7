use Rattle.std.proofs.Common.{rules, arith, ◌≡◌, ◌<◌, ◌++◌, List, length, Some, slice_get, slice_set, ap, ◌∙◌}
use Rattle.std.proofs.lemmas.Grind.{common_steps}
use Rattle.std.proofs.lemmas.Option.{gets}
use Rattle.ref_cells.specs.declared.instance.Instance.{Instance}
use Rattle.ref_mem.specs.Writes.{changed}
use Rattle.ref_state.specs.declared.frames.Frame.{Frame}
use Rattle.ref_start.proofs.BeginSteps.{set_longer}
use Rattle.ref_start.proofs.begin.enter_with.Goals as goal

pub returns-clause-ok : goal.returns-clause-ok
returns-clause-ok c =
    let st = c.args.state.now in
    let i = c.args.instance in
    let made = c.args.made in
    let cells = c.args.cells in
    let inst : Instance = c.in_ok-inst.inst in
    let change : Instance → Instance = λ x. record x { cells = cells } in
    let lt : i < length st.memory = c.requires in
    let there : slice_get st.memory i ≡ Some inst = first_of (search rules, grind (arith, common_steps, gets)) in
    let memory : c.set.new.self ≡ changed st.memory i (slice_get st.memory i) change ++ made.fresh =
    c.set.ensures
    ∙ (ap (λ (m : List Instance). slice_set m i (change inst)) c.in_ok-_stores.ensures.memory
    ∙ set_longer st.memory made.fresh i inst change there lt) in
    ap (λ (m : List Instance). record st { memory = m; frames = c.enter.new.frames }) memory
    ∙ ap (λ (fs : List Frame). record st { memory = changed st.memory i (slice_get st.memory i) change ++ made.fresh; frames = fs })
    c.in_ok-_stores.ensures.frames
