use Rattle.std.proofs.Common.{◌≡◌, ◌∙◌, ℕ, List, [], ◌∷◌, Some, Result, Ok, get_or, slice_get, sym, ap, subst}
use Rattle.std.proofs.lemmas.Option.{slice_get-get_or}
use Rattle.c_types.specs.Trees.{Ctype}
use Rattle.c_types.specs.Table.{type_of}
use Rattle.core_tree.specs.Typed.{type_in, type_at}
use Rattle.ref_cells.specs.declared.cells.Cell.{Cell}
use Rattle.ref_cells.specs.declared.cells.MemFault.{MemFault}
use Rattle.ref_cells.specs.declared.cells.MemFault.TheVariants.{Stop, OutOfMemory}
use Rattle.ref_cells.specs.declared.cells.Reason.{Reason}
use Rattle.ref_cells.specs.Answers.{Fails, Gives}
use Rattle.ref_elements.specs.Runs.{◌>>=◌}
use Rattle.ref_state.specs.declared.frames.Frame.{Frame}
use Rattle.ref_state.specs.declared.state.State.{State}
use Rattle.ref_state.specs.Items.{top_values}
use Rattle.ref_state.specs.Values.{cell_in}
use Rattle.ref_frames.specs.Made.{seen}
use Rattle.ref_frames.specs.Running.{Running}
use Rattle.ref_calls.specs.declared.lists.Taken.{Taken}
use Rattle.ref_calls.specs.Lists.{taken, taken_over, put_back, settled_by}
use Rattle.ref_calls.proofs.lists.next_over.Goals as goal

module _ (w : Running) (st : State) (f : Frame) (rest : List Frame) (n p : ℕ) (t s : Ctype) (place : Cell) (e : st.frames ≡ f ∷ rest)
    (is : place ≡ cell_in (top_values f.items) p) (typed : type_at w.trees p ≡ s) where
  -- the row, by what the list gives
  abbrev by : Result Taken Reason → Result State Reason
  by r = settled_by st f rest n (r >>= λ next. put_back w.trees.types st.memory (type_at w.trees p) next)

  abbrev row : Result State Reason
  row = settled_by st f rest n (taken_over w st.memory (f ∷ rest) t (p ∷ []) (top_values f.items))

  by_taken : row ≡ by (taken w st.memory st.frames place s t)
  by_taken =
      ap (λ (fs : List Frame). by (taken w st.memory fs (cell_in (top_values f.items) p) (type_at w.trees p) t)) (sym e)
      ∙ (ap (λ (c : Cell). by (taken w st.memory st.frames c (type_at w.trees p) t)) (sym is)
      ∙ ap (λ (x : Ctype). by (taken w st.memory st.frames place x t)) typed)

  is_next : (next : Taken) → taken w st.memory st.frames place s t ≡ Ok next → row ≡ settled_by st f rest n (put_back w.trees.types st.memory s next)
  is_next next h = by_taken ∙ (ap by h ∙ ap (λ (x : Ctype). settled_by st f rest n (put_back w.trees.types st.memory x next)) typed)

  next_fails : (fault : MemFault) → Fails fault (taken w st.memory st.frames place s t) → Fails fault row
  next_fails OutOfMemory h = tt
  next_fails (Stop reason) h = by_taken ∙ ap by h

pub returns-in-Ok-clause-row : goal.returns-in-Ok-clause-row
returns-in-Ok-clause-row c =
    λ f rest e.
    let w = seen c.args.running.now in
    let st = c.args.state.now in
    let u = w.trees in
    let p = c.args.p in
    let x = get_or u.nodes p c.index-running-p.result in
    let at : slice_get u.nodes p ≡ Some x = slice_get-get_or u.nodes p c.index-running-p.result c.requires.place in
    let P : Result State Reason → Type 0 = λ r. Gives (λ notes. record c.put_back.new.state { notes = notes }) c.put_back.result r in
    subst P
    (sym (is_next w st f rest c.args.n p (type_of u.types c.args.ty.0) (type_of u.types x.ty.0) c.in_ok-place.place e (c.in_ok-place.ensures f rest e)
    (ap (type_in u.types) at) c.in-Ok.next c.in-Ok.ensures))
    (c.put_back.ensures.row f rest e)

pub returns-in-Err-clause-row : goal.returns-in-Err-clause-row
returns-in-Err-clause-row c =
    λ f rest e.
    let w = seen c.args.running.now in
    let st = c.args.state.now in
    let u = w.trees in
    let p = c.args.p in
    let x = get_or u.nodes p c.index-running-p.result in
    let at : slice_get u.nodes p ≡ Some x = slice_get-get_or u.nodes p c.index-running-p.result c.requires.place in
    next_fails w st f rest c.args.n p (type_of u.types c.args.ty.0) (type_of u.types x.ty.0) c.in_ok-place.place e (c.in_ok-place.ensures f rest e)
    (ap (type_in u.types) at) c.in-Err.fault c.in-Err.ensures
