use Rattle.std.proofs.Common.{rules, arith, ◌≡◌, ℕ, ◌∷◌, ◌++◌, List, length, Result, Ok, ap, sym, subst, ◌∙◌}
use Rattle.c_types.specs.declared.key.ObjectKey.{ObjectKey}
use Rattle.core_tree.specs.Seen.{core_of}
use Rattle.ref_cells.specs.declared.cells.Reason.{Reason}
use Rattle.ref_cells.specs.Answers.{Gives}
use Rattle.ref_elements.specs.declared.outcome.Next.{Next}
use Rattle.ref_state.specs.declared.frames.Frame.{Frame}
use Rattle.ref_state.specs.declared.state.State.{State}
use Rattle.ref_state.specs.Items.{below_filled, below_shut}
use Rattle.ref_frames.specs.Tops.{items_at}
use Rattle.ref_frames.specs.Made.{seen}
use Rattle.ref_frames.proofs.OpenedItems.{shut_frames}
use Rattle.ref_calls.specs.Library.{comparison_of, kept_of, goes_by}
use Rattle.ref_calls.proofs.PendingSteps.{count_same, is_given, is_kept, calls_one}
use Rattle.ref_calls.proofs.library.goes_on.Goals as goal

pub calls_back-requires-clause-frames : goal.calls_back-requires-clause-frames
calls_back-requires-clause-frames c =
    omega (arith, ap length c.shut-in-Calls.ensures, count_same below_shut c.args.state.now.frames, c.requires.frames)

pub returns-in-Done-clause-row : goal.returns-in-Done-clause-row
returns-in-Done-clause-row c =
    λ f rest e.
    let st = c.args.state.now in
    let w = seen c.args.running.now in
    let o = c.args.outcome in
    ap (λ (next : Next). goes_by w (record st { frames = f ∷ rest }) f rest c.args.n c.args.k o.value o.stores next) c.in-Done.is
    ∙ is_given w st f rest c.args.n c.args.k o.value o.stores e c.is_done.new.state c.is_done.result c.is_done.ensures.state c.is_done.ensures.notes

pub returns-in_ok-key-in-Calls-clause-row : goal.returns-in_ok-key-in-Calls-clause-row
returns-in_ok-key-in-Calls-clause-row c =
    λ f rest e.
    let st = c.args.state.now in
    let w = seen c.args.running.now in
    let o = c.args.outcome in
    let key = c.in_ok-key-in-Calls.key in
    let new : State = record st { frames = c.shut-in-Calls.new.frames } in
    let made : new ≡ record st { frames = items_at below_shut 0 st.frames } = ap (λ (fs : List Frame). record st { frames = fs }) c.shut-in-Calls.ensures in
    let is : comparison_of (core_of c.args.running.now.trees) c.in-Calls.callee ≡ Ok key = search rules in
    let same =
    ap (λ (next : Next). goes_by w (record st { frames = f ∷ rest }) f rest c.args.n c.args.k o.value o.stores next) c.in-Calls.is
    ∙ calls_one w st f rest c.args.n c.args.k o.value o.stores e c.in-Calls.callee c.in-Calls.arguments key new is made in
    let P : Result State Reason → Type 0 = λ r. Gives (λ notes. record c.calls_back.new.state { notes = notes }) c.calls_back.result r in
    subst P (sym same) (c.calls_back.ensures.row f rest (c.shut-in-Calls.ensures ∙ (ap (items_at below_shut 0) e ∙ shut_frames c.args.n f rest)))

pub returns-in-Ok-clause-row : goal.returns-in-Ok-clause-row
returns-in-Ok-clause-row c =
    λ f rest e.
    let st = c.args.state.now in
    let w = seen c.args.running.now in
    let o = c.args.outcome in
    let new = c.is_done-in-Ok.new.state in
    let made : new ≡ record st { kept = st.kept ++ kept_of c.in-Keeps.cell c.args.n; frames = items_at (below_filled o.value) 0 st.frames } =
    c.is_done-in-Ok.ensures.state
    ∙ ap (λ (ks : List (ObjectKey × ℕ)). record st { kept = ks; frames = items_at (below_filled o.value) 0 st.frames }) c.in-Ok.ensures.ok in
    ap (λ (next : Next). goes_by w (record st { frames = f ∷ rest }) f rest c.args.n c.args.k o.value o.stores next) c.in-Keeps.is
    ∙ is_kept w st f rest c.args.n c.args.k o.value o.stores e c.in-Keeps.cell new c.is_done-in-Ok.result made c.is_done-in-Ok.ensures.notes
