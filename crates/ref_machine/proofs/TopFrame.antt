-- The top frame is taken out, changed and put back.
use Rattle.std.proofs.Common.{◌≡◌, ℕ, List, [], ◌∷◌, ◌<◌, ◌++◌, Bool, true, false, cond, Option, Some, None, Result, Ok, length, slice_get, slice_set, refl, ap, sym, subst, arith, ◌∙◌}
use Rattle.std.proofs.lemmas.Option.{slice_get_within}
use Rattle.c_types.specs.declared.key.ObjectKey.{ObjectKey}
use Rattle.c_types.specs.declared.key.ObjectKey.TheVariants.{Entity as EntityKey, Function as FunctionKey}
use Rattle.core_tree.specs.declared.node.Node.{Node}
use Rattle.core_tree.specs.Typed.{CoreTrees}
use Rattle.ref_cells.specs.declared.cells.Cell.{Cell}
use Rattle.ref_cells.specs.declared.cells.MemFault.{MemFault}
use Rattle.ref_cells.specs.declared.cells.MemFault.TheVariants.{Stop, OutOfMemory}
use Rattle.ref_cells.specs.declared.cells.Reason.{Reason}
use Rattle.ref_cells.specs.declared.cells.Value.{Value}
use Rattle.ref_cells.specs.declared.instance.Instance.{Instance}
use Rattle.ref_cells.specs.Answers.{Fails}
use Rattle.ref_elements.specs.Runs.{◌>>=◌}
use Rattle.ref_state.specs.declared.frames.Frame.{Frame}
use Rattle.ref_state.specs.declared.items.Item.{Item}
use Rattle.ref_state.specs.declared.items.Item.TheVariants.{Library}
use Rattle.ref_state.specs.declared.notes.Notes.{Notes}
use Rattle.ref_state.specs.declared.state.State.{State}
use Rattle.ref_state.specs.Items.{replaced}
use Rattle.ref_frames.specs.declared.entering.Activation.{Activation}
use Rattle.ref_frames.specs.Running.{Running}
use Rattle.ref_frames.specs.Frames.{entered}
use Rattle.ref_frames.specs.OnTop.{only, on_top}
use Rattle.ref_frames.specs.Tops.{items_at, with_top}
use Rattle.ref_statements.specs.Rows.{Row}
use Rattle.ref_statements.specs.Nodes.{wait_row}
use Rattle.ref_calls.specs.declared.reached.Target.{Target}
use Rattle.ref_calls.specs.Reached.{reached}
use Rattle.ref_calls.specs.Lists.{next_row}
use Rattle.ref_machine.specs.Step.{top_items, placed, is_direct, target_of, noted, called, call_row, is_call_at, calls, takes, waited}

some_one : {X : Type 0} (x y : X) → ◌≡◌ {A = Option X} (Some x) (Some y) → x ≡ y
some_one x y h = cc

pub top_is : (frames : List Frame) (frame f : Frame) (rest : List Frame) → frames ≡ f ∷ rest → slice_get frames 0 ≡ Some frame → frame ≡ f
top_is frames frame f rest e h = some_one frame f (sym h ∙ ap (λ (fs : List Frame). slice_get fs 0) e)

pub items_of_top : (frames : List Frame) (frame : Frame) → slice_get frames 0 ≡ Some frame → top_items frames ≡ frame.items
items_of_top [] frame h = cc
items_of_top (f ∷ rest) frame h = ap (λ (x : Frame). x.items) (some_one f frame h)

module _ (st : State) (one two : List Frame) (x g frame : Frame) (there : slice_get st.frames 0 ≡ Some frame)
    (out : one ≡ slice_set st.frames 0 x) (back : two ≡ slice_set one 0 g) where
  put_back : (f : Frame) (rest : List Frame) → st.frames ≡ f ∷ rest → two ≡ g ∷ rest
  put_back f rest e = back ∙ ap (λ (fs : List Frame). slice_set fs 0 g) (out ∙ ap (λ (fs : List Frame). slice_set fs 0 x) e)

  put_same : (frames : List Frame) → st.frames ≡ frames → g ≡ frame → two ≡ st.frames
  put_same [] e same = let h : ◌≡◌ {A = Option Frame} (slice_get [] 0) (Some frame) = ap (λ (fs : List Frame). slice_get fs 0) (sym e) ∙ there in cc
  put_same (f ∷ rest) e same =
      put_back f rest e ∙ (ap (λ (y : Frame). y ∷ rest) (same ∙ top_is st.frames frame f rest e there) ∙ sym e)

  -- a row that is refused leaves the state
  pub state_same : (memory : List Instance) → (memory ≡ st.memory) × (g ≡ frame) → record st { memory = memory; frames = two } ≡ st
  state_same memory h =
      ap (λ (m : List Instance). record st { memory = m; frames = two }) h.0
      ∙ ap (λ (fs : List Frame). record st { frames = fs }) (put_same st.frames refl h.1)

  -- a row is over the frame that was taken out
  pub row_placed : (memory : List Instance) (stores : List (Cell × Cell)) (m : Notes) (row : Frame → Row) (f : Frame) (rest : List Frame)
      → st.frames ≡ f ∷ rest → row frame ≡ Ok (record { memory = memory; frame = g; stores = stores }) → m ≡ only stores
      → placed st rest (row f) ≡ Ok (record st { memory = memory; frames = two; notes = m })
  row_placed memory stores m row f rest e done noted =
      ap (λ (y : Frame). placed st rest (row y)) (sym (top_is st.frames frame f rest e there))
      ∙ (ap (placed st rest) done
      ∙ (ap (λ (fs : List Frame). let r : Result State Reason = Ok (record st { memory = memory; frames = fs; notes = only stores }) in r) (sym (put_back f rest e))
      ∙ ap (λ (n : Notes). let r : Result State Reason = Ok (record st { memory = memory; frames = two; notes = n }) in r) (sym noted)))

pub row_failed : (st : State) (frame : Frame) (row : Frame → Row) (fault : MemFault) (f : Frame) (rest : List Frame)
    → slice_get st.frames 0 ≡ Some frame → st.frames ≡ f ∷ rest → Fails fault (row frame) → Fails fault (placed st rest (row f))
row_failed st frame row OutOfMemory f rest there e h = tt
row_failed st frame row (Stop reason) f rest there e h =
    ap (λ (y : Frame). placed st rest (row y)) (sym (top_is st.frames frame f rest e there)) ∙ ap (placed st rest) h

-- An item in place of the top one.

topped : (item : Item) (items : List Item) → 0 < length items → with_top item items ≡ replaced 1 (item ∷ []) items
topped item [] less = absurd (omega arith)
topped item (top ∷ rest) less = refl

pub frames_topped : (item : Item) (frames : List Frame) (f : Frame) (rest : List Frame) → frames ≡ f ∷ rest → 0 < length (top_items frames)
    → items_at (with_top item) 0 frames ≡ record f { items = replaced 1 (item ∷ []) f.items } ∷ rest
frames_topped item frames f rest e less =
    ap (λ (fs : List Frame). items_at (with_top item) 0 fs) e
    ∙ ap (λ (xs : List Item). record f { items = xs } ∷ rest)
    (topped item f.items (subst (λ (fs : List Frame). 0 < length (top_items fs)) e less))

-- A call.

module _ (w : Running) (st : State) (f : Frame) (rest : List Frame) (n : ℕ) where
  -- a defined function is entered
  pub called_in : (function : ℕ) (arguments : List Value) (made : Activation) (memory : List Instance) (frames : List Frame) (t : Option (ℕ × ObjectKey)) (s : List (Cell × Cell))
      → st.frames ≡ f ∷ rest
      → entered w (length st.memory) (record { function = function; call = Some n; by = None }) arguments ≡ Ok made
      → memory ≡ st.memory ++ made.fresh → frames ≡ made.frame ∷ st.frames
      → t ≡ target_of (is_direct w.trees (slice_get w.trees.nodes n)) n (EntityKey function) → s ≡ made.stores
      → called w st f rest n (EntityKey function) arguments ≡ Ok (record st { memory = memory; frames = frames; notes = record { target = t; stores = s } })
  called_in function arguments made memory frames t s e done ms fs ts ss =
      let key : ObjectKey = EntityKey function in
      let notes : Notes = noted w.trees n key made.stores in
      let same : ◌≡◌ {A = Notes} (record { target = t; stores = s }) notes = noted_as t s key made.stores ts ss in
      ap (λ (r : Result Activation Reason). r >>= λ made. Ok (on_top st (f ∷ rest) (noted w.trees n key made.stores) made)) done
      ∙ (ap (λ (below : List Frame). let r : Result State Reason = Ok (on_top st below notes made) in r) (sym e)
      ∙ (ap (λ (xs : List Instance). let r : Result State Reason = Ok (record st { memory = xs; frames = made.frame ∷ st.frames; notes = notes }) in r) (sym ms)
      ∙ (ap (λ (xs : List Frame). let r : Result State Reason = Ok (record st { memory = memory; frames = xs; notes = notes }) in r) (sym fs)
      ∙ ap (λ (m : Notes). let r : Result State Reason = Ok (record st { memory = memory; frames = frames; notes = m }) in r) (sym same))))
    where
      noted_as : (t : Option (ℕ × ObjectKey)) (s : List (Cell × Cell)) (key : ObjectKey) (stores : List (Cell × Cell))
          → t ≡ target_of (is_direct w.trees (slice_get w.trees.nodes n)) n key → s ≡ stores
          → ◌≡◌ {A = Notes} (record { target = t; stores = s }) (noted w.trees n key stores)
      noted_as t s key stores ts ss =
          ap (λ (x : Option (ℕ × ObjectKey)). let m : Notes = record { target = x; stores = s } in m) ts
          ∙ ap (λ (x : List (Cell × Cell)). noted w.trees n key x) ss

  -- one of the library is pending
  pub called_pending : (k : ℕ) (arguments : List Value) (frames : List Frame) (t : Option (ℕ × ObjectKey)) (s : List (Cell × Cell))
      → frames ≡ record f { items = replaced 1 (Library n k arguments ∷ []) f.items } ∷ rest
      → t ≡ target_of (is_direct w.trees (slice_get w.trees.nodes n)) n (FunctionKey k) → s ≡ []
      → called w st f rest n (FunctionKey k) arguments ≡ Ok (record st { frames = frames; notes = record { target = t; stores = s } })
  called_pending k arguments frames t s fs ts ss =
      let key : ObjectKey = FunctionKey k in
      ap (λ (xs : List Frame). let r : Result State Reason = Ok (record st { frames = xs; notes = noted w.trees n key [] }) in r) (sym fs)
      ∙ (ap (λ (x : Option (ℕ × ObjectKey)). let r : Result State Reason = Ok (record st { frames = frames; notes = record { target = x; stores = [] } }) in r) (sym ts)
      ∙ ap (λ (x : List (Cell × Cell)). let r : Result State Reason = Ok (record st { frames = frames; notes = record { target = t; stores = x } }) in r) (sym ss))

  -- the function that a call reaches is called
  pub row_calls : (values : List (ℕ × Value)) (target : Target) → reached w.trees n values ≡ Ok target
      → call_row w st f rest n values ≡ called w st f rest n target.key target.arguments
  row_calls values target h = ap (λ (r : Result Target Reason). r >>= λ target. called w st f rest n target.key target.arguments) h

  pub row_stops : (values : List (ℕ × Value)) (fault : MemFault) → Fails fault (reached w.trees n values) → Fails fault (call_row w st f rest n values)
  row_stops values OutOfMemory h = tt
  row_stops values (Stop reason) h = ap (λ (r : Result Target Reason). r >>= λ target. called w st f rest n target.key target.arguments) h

  pub waits_ready : (operands : List ℕ) (values : List (ℕ × Value)) (word : ℕ) → calls w.trees n operands ≡ true
      → waited w st f rest n operands values word ≡ call_row w st f rest n values
  waits_ready operands values word h =
      ap (λ (b : Bool). cond b (call_row w st f rest n values)
      (cond (takes w.trees n operands) (next_row w st f rest n values) (placed st rest (wait_row w.trees st.memory f n operands values word)))) h

  -- the next one of a list is taken
  pub waits_next : (operands : List ℕ) (values : List (ℕ × Value)) (word : ℕ) → calls w.trees n operands ≡ false → takes w.trees n operands ≡ true
      → waited w st f rest n operands values word ≡ next_row w st f rest n values
  waits_next operands values word h k =
      ap (λ (b : Bool). cond b (call_row w st f rest n values)
      (cond (takes w.trees n operands) (next_row w st f rest n values) (placed st rest (wait_row w.trees st.memory f n operands values word)))) h
      ∙ ap (λ (b : Bool). cond b (next_row w st f rest n values) (placed st rest (wait_row w.trees st.memory f n operands values word))) k

  pub waits_on : (operands : List ℕ) (values : List (ℕ × Value)) (word : ℕ) → calls w.trees n operands ≡ false → takes w.trees n operands ≡ false
      → waited w st f rest n operands values word ≡ placed st rest (wait_row w.trees st.memory f n operands values word)
  waits_on operands values word h k =
      ap (λ (b : Bool). cond b (call_row w st f rest n values)
      (cond (takes w.trees n operands) (next_row w st f rest n values) (placed st rest (wait_row w.trees st.memory f n operands values word)))) h
      ∙ ap (λ (b : Bool). cond b (next_row w st f rest n values) (placed st rest (wait_row w.trees st.memory f n operands values word))) k

-- what calls is a node
pub calls_within : (u : CoreTrees) (n : ℕ) (operands : List ℕ) → calls u n operands ≡ true → n < length u.nodes
calls_within u n [] h = at (slice_get u.nodes n) refl h
  where
    at : (o : Option Node) → slice_get u.nodes n ≡ o → is_call_at o ≡ true → n < length u.nodes
    at None e h = cc
    at (Some node) e h = slice_get_within u.nodes n node e
calls_within u n (c ∷ operands) h = cc
