use Rattle.std.proofs.Common.{arith, ◌≡◌, List, ◌∷◌, length, Result, Ok, IfOk, ap, sym, subst, ◌∙◌}
use Rattle.ref_cells.specs.declared.cells.Reason.{Reason}
use Rattle.ref_cells.specs.declared.instance.Instance.{Instance}
use Rattle.ref_cells.specs.Answers.{Gives}
use Rattle.covering_laws.specs.calm_effects.Calm.{IsCalm}
use Rattle.ref_elements.specs.Outcomes.{Effected}
use Rattle.ref_state.specs.declared.frames.Frame.{Frame}
use Rattle.ref_state.specs.declared.items.Item.TheVariants.{Library}
use Rattle.ref_state.specs.declared.state.State.{State}
use Rattle.ref_state.specs.Items.{opened, deliver}
use Rattle.ref_state.specs.Values.{no_value}
use Rattle.ref_frames.specs.Tops.{items_at}
use Rattle.ref_frames.specs.Made.{seen}
use Rattle.ref_calls.specs.Library.{performed, goes_by}
use Rattle.ref_calls.proofs.Performed.{performed_calm}
use Rattle.ref_calls.proofs.PendingSteps.{count_same, row_goes, row_fails, both_err}
use Rattle.ref_calls.proofs.library.library_row.Goals as goal

pub goes_on-requires-clause-frames : goal.goes_on-requires-clause-frames
goes_on-requires-clause-frames c =
    omega (arith, ap length c.in_ok-open.ensures.ok, count_same (opened c.args.n) c.args.state.now.frames, c.requires.frames)

pub shut-requires : goal.shut-requires
shut-requires c =
    omega (arith, ap length c.in_ok-open.ensures.ok, count_same (opened c.args.n) c.args.state.now.frames, c.requires.frames)

pub returns-in-Ok-clause-row : goal.returns-in-Ok-clause-row
returns-in-Ok-clause-row c =
    λ f rest arguments items e h.
    let st = c.args.state.now in
    let w = seen c.args.running.now in
    let n = c.args.n in
    let k = c.args.k in
    let o = c.in-Ok.outcome in
    let m = c.performed_on.new.memory in
    let fr : c.open.new.frames ≡ items_at (opened n) 0 (f ∷ rest) = c.in_ok-open.ensures.ok ∙ ap (items_at (opened n) 0) e in
    let its : opened n f.items ≡ Library n k arguments ∷ deliver n no_value items = ap (opened n) h in
    let done : performed w st.memory n k arguments c.args.word ≡ Ok (record { memory = m; outcome = o }) =
    c.in-Ok.ensures.value (record f { items = opened n f.items }) rest arguments (deliver n no_value items) fr its in
    let P : Result State Reason → Type 0 = λ r. Gives (λ notes. record c.goes_on.new.state { notes = notes }) c.goes_on.result r in
    subst P
    (sym (row_goes w st f rest n k arguments c.args.word (record { memory = m; outcome = o }) done
    ∙ ap (λ (fs : List Frame). goes_by w (record st { memory = m; frames = fs }) f rest n k o.value o.stores o.next) e))
    (c.goes_on.ensures.row f rest fr)

pub returns-in-Ok-clause-err : goal.returns-in-Ok-clause-err
returns-in-Ok-clause-err c =
    λ f rest arguments items e h.
    let st = c.args.state.now in
    let w = seen c.args.running.now in
    let n = c.args.n in
    let k = c.args.k in
    let o = c.in-Ok.outcome in
    let m = c.performed_on.new.memory in
    let fr : c.open.new.frames ≡ items_at (opened n) 0 (f ∷ rest) = c.in_ok-open.ensures.ok ∙ ap (items_at (opened n) 0) e in
    let its : opened n f.items ≡ Library n k arguments ∷ deliver n no_value items = ap (opened n) h in
    let done : performed w st.memory n k arguments c.args.word ≡ Ok (record { memory = m; outcome = o }) =
    c.in-Ok.ensures.value (record f { items = opened n f.items }) rest arguments (deliver n no_value items) fr its in
    let Q : Result Effected Reason → Type 0 = λ r. IfOk r (λ e. IsCalm st.memory e.memory e.outcome.next) in
    let calm : IsCalm st.memory m o.next = subst Q done (performed_calm w st.memory n k arguments c.args.word) in
    both_err c.goes_on.result
    (λ p q.
    p
    ∙ (ap (λ (ms : List Instance). record st { memory = ms; frames = f ∷ rest }) q
    ∙ ap (λ (fs : List Frame). record st { frames = fs }) (sym e)))
    (c.goes_on.ensures.err f rest fr)
    (c.goes_on.ensures.calm st.memory calm)

pub returns-in-Err-clause-row : goal.returns-in-Err-clause-row
returns-in-Err-clause-row c =
    λ f rest arguments items e h.
    let st = c.args.state.now in
    let w = seen c.args.running.now in
    let n = c.args.n in
    let k = c.args.k in
    let fr : c.open.new.frames ≡ items_at (opened n) 0 (f ∷ rest) = c.in_ok-open.ensures.ok ∙ ap (items_at (opened n) 0) e in
    let its : opened n f.items ≡ Library n k arguments ∷ deliver n no_value items = ap (opened n) h in
    row_fails w st f rest n k arguments c.args.word c.in-Err.fault
    (c.in-Err.ensures.value (record f { items = opened n f.items }) rest arguments (deliver n no_value items) fr its)
