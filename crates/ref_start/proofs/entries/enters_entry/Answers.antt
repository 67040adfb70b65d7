use Rattle.std.proofs.Common.{rules, arith, ◌≡◌, ℕ, ◌≤◌, List, [], length, map, Some, Result, slice_get, ap, sym, subst, ◌∙◌}
use Rattle.std.proofs.lemmas.Grind.{common_steps}
use Rattle.std.proofs.lemmas.Option.{gets, slice_get_past, slice_get-get_or}
use Rattle.c_types.specs.declared.key.ObjectKey.TheVariants.{Entity as EntityKey}
use Rattle.c_types.specs.declared.term.TypeId.{TypeId}
use Rattle.ref_cells.specs.declared.cells.Cell.{Cell}
use Rattle.ref_cells.specs.declared.cells.Reason.{Reason}
use Rattle.ref_cells.specs.declared.instance.Instance.{Instance}
use Rattle.ref_cells.specs.Answers.{Gives}
use Rattle.ref_state.specs.declared.state.State.{State}
use Rattle.ref_frames.specs.Made.{seen}
use Rattle.ref_frames.specs.OnTop.{only}
use Rattle.ref_start.specs.Entries.{given_all, given_with}
use Rattle.ref_start.proofs.EntrySteps.{not_entered, given_listed}
use Rattle.ref_start.proofs.entries.enters_entry.Goals as goal

pub returns-in_default-clause-row : goal.returns-in_default-clause-row
returns-in_default-clause-row c =
    let w = seen c.args.running.now in
    let e = c.args.e in
    let past : length c.args.running.now.parameters.now ≤ e = first_of (search rules, grind (arith, common_steps, gets)) in
    not_entered w c.args.state.now e c.args.h (slice_get_past w.trees.entities e (omega (arith, past, c.requires.running.parameters.many)))

pub returns-clause-row : goal.returns-clause-row
returns-clause-row c =
    let w = seen c.args.running.now in
    let st = c.args.state.now in
    let e = c.args.e in
    let h = c.args.h in
    let list = c.in-Some.parameters.now in
    let given = c.in_ok-given.given in
    let at : slice_get c.args.running.now.parameters.now e ≡ Some list =
    slice_get-get_or c.args.running.now.parameters.now e list c.in-Some.ensures.lookup.3.0
    ∙ ap (λ (xs : List ℕ). Some xs) (sym c.in-Some.ensures.lookup.1) in
    let Q : List (TypeId × Cell) → ℕ → List ℕ → Type 0 = λ handed count xs.
    given_with handed given ≡ given_all w.trees count h (record { fresh = []; handed = handed; arguments = [] }) (map EntityKey xs) in
    let is : Q st.handed (length st.memory) list =
    subst (λ (m : List Instance). Q st.handed (length m) list) c.instances-count.ensures
    (subst (λ (handed : List (TypeId × Cell)). Q handed (length c.instances-count.result.now) list) c.as_slice.ensures
    (subst (λ (xs : List ℕ). Q c.as_slice.result.now (length c.instances-count.result.now) xs) c.as_slice-2.ensures
    c.in_ok-given.ensures.made)) in
    let P : Result State Reason → Type 0 = λ r. Gives (λ stores. record c.enter_given.new.state { notes = only stores }) c.enter_given.result r in
    subst P (given_listed w st e h list (given_with st.handed given) (c.requires.running.parameters.each e list at) is) c.enter_given.ensures.row
