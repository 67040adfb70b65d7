use Rattle.std.proofs.Common.{◌≡◌, ℕ, List, Option, Some, None, slice_get, ap, sym, ◌∙◌}
use Rattle.core_tree.specs.Seen.{core_of}
use Rattle.ref_cells.specs.declared.cells.Value.{Value}
use Rattle.ref_cells.specs.declared.instance.Instance.{Instance}
use Rattle.ref_state.specs.declared.frames.Frame.{Frame}
use Rattle.ref_state.specs.Changes.{ended_all}
use Rattle.ref_frames.specs.Frames.{caller_given, given_by, left_with}
use Rattle.ref_frames.proofs.ChangedFrames.{on_ok, some_is}
use Rattle.ref_frames.proofs.leaving.leave.Goals as goal

pub returns-in-Some-default-clause-ok : goal.returns-in-Some-default-clause-ok
returns-in-Some-default-clause-ok c =
    λ f rest e.
    let st = c.args.state.now in
    let u = core_of c.args.trees.now in
    let n = c.in-Some-default.n in
    let given = c.in_ok-given-in-Some-default.given in
    let top : c.in-Some.frame.now ≡ f =
    some_is c.in-Some.frame.now f (c.in-Some.ensures ∙ ap (λ (fs : List Frame). slice_get fs 0) e) in
    let called : f.call ≡ Some n = sym (ap (λ (g : Frame). g.call) top) ∙ c.in-Some-default.is-0 in
    let gives : given ≡ given_by u f.function c.args.value =
    c.in_ok-given-in-Some-default.ensures ∙ ap (λ (g : Frame). given_by u g.function c.args.value) top in
    on_ok c.give_back.result
    (λ p.
    ap (λ (m : List Instance). record st { memory = m; frames = c.give_back.new.frames }) p.0
    ∙ (ap (λ (fs : List Frame). record st { memory = ended_all st.memory f.instances; frames = fs })
    (p.1 ∙ ap (λ (v : Value). caller_given n v rest) gives)
    ∙ sym (ap (λ (o : Option ℕ). left_with u c.args.entries.now st f rest c.args.value o f.by) called)))
    (c.give_back.ensures.ok f rest e)

pub returns-clause-ok : goal.returns-clause-ok
returns-clause-ok c =
    λ f rest e.
    let st = c.args.state.now in
    let u = core_of c.args.trees.now in
    let entries = c.args.entries.now in
    let top : c.in-Some.frame.now ≡ f =
    some_is c.in-Some.frame.now f (c.in-Some.ensures ∙ ap (λ (fs : List Frame). slice_get fs 0) e) in
    let called : f.call ≡ None = sym (ap (λ (g : Frame). g.call) top) ∙ c.in-None-None.is-0 in
    let by : f.by ≡ None = sym (ap (λ (g : Frame). g.by) top) ∙ c.in-None-None.is-1 in
    on_ok c.leave_start.result
    (λ p.
    p
    ∙ sym (ap (λ (o : Option ℕ). left_with u entries st f rest c.args.value o f.by) called
    ∙ ap (λ (o : Option ℕ). left_with u entries st f rest c.args.value None o) by))
    (c.leave_start.ensures.ok f rest e (sym (ap (λ (g : Frame). g.function) top)))
