-- A step is that of the top item of the top frame, or one without a frame.
use Rattle.std.proofs.Common.{arith, ◌≡◌, ℕ, ℤ, ◌<◌, ◌≤◌, true, false, List, [], ◌∷◌, Option, Some, None, Result, length, map, slice_get, refl, ap, sym, subst, ◌∙◌}
use Rattle.c_types.specs.declared.key.ObjectKey.{ObjectKey}
use Rattle.c_types.specs.declared.key.ObjectKey.TheVariants.{Entity as EntityKey}
use Rattle.core_tree.specs.declared.node.Node.{Node}
use Rattle.core_tree.specs.Typed.{CoreTrees}
use Rattle.obj_space.specs.View.{view_of}
use Rattle.ref_cells.specs.declared.cells.Value.{Value}
use Rattle.ref_state.specs.declared.items.Item.{Item}
use Rattle.ref_state.specs.declared.items.Item.TheVariants.{Do, Wait, Library, Result as Returned}
use Rattle.ref_state.specs.declared.frames.Frame.{Frame}
use Rattle.ref_state.specs.declared.state.State.{State}
use Rattle.ref_state.specs.declared.state.StepAnswer.{StepAnswer}
use Rattle.ref_state.specs.Items.{top_left, top_values}
use Rattle.ref_state.specs.Values.{no_value}
use Rattle.ref_statements.specs.Forms.{form_of}
use Rattle.ref_statements.specs.Nodes.{picks, do_row}
use Rattle.ref_frames.specs.Made.{AreParameters}
use Rattle.ref_frames.specs.Running.{Running}
use Rattle.ref_calls.specs.Library.{library_row}
use Rattle.ref_calls.specs.Outcomes.{Goes, outcome, Steps}
use Rattle.ref_machine.specs.Step.{placed, waited, leaves, item_step, outside_step, frames_step, step, has_some, node_chooses, item_chooses, main_chooses, outside_chooses, frames_choose}
use Rattle.ref_start.specs.Begin.{main_of}
use Rattle.ref_machine.proofs.TopFrame.{top_is}

-- the items of a frame are those below its top one, and that
pub split_items : (items : List Item) (item : Item) → slice_get items 0 ≡ Some item → (rest : List Item) × (items ≡ item ∷ rest)
split_items [] item h = cc
split_items (top ∷ rest) item h = let e : top ≡ item = cc in (rest, ap (λ (x : Item). x ∷ rest) e)

pub no_items : (items : List Item) → slice_get items 0 ≡ None → items ≡ []
no_items [] h = refl
no_items (top ∷ rest) h = cc

module _ {E : Type 0} (result : Result StepAnswer E) (old new : State) (w : Running) (word : ℕ) where
  -- With a frame a step is that of its top item.

  abbrev Stepped : Frame → List Frame → List Item → Type 0
  Stepped f rest items = Steps result old new (item_step w old f rest items word)

  over_items : (f : Frame) (rest : List Frame) (items : List Item) → f.items ≡ items → Stepped f rest items → Stepped f rest f.items
  over_items f rest items e h = subst (Stepped f rest) (sym e) h

  pub by_end : (f : Frame) (rest : List Frame) → slice_get f.items 0 ≡ None → Steps result old new (Goes (leaves w old f rest no_value)) → Stepped f rest f.items
  by_end f rest at h = over_items f rest [] (no_items f.items at) h

  pub by_result : (f : Frame) (rest : List Frame) (value : Value) → slice_get f.items 0 ≡ Some (Returned value)
      → Steps result old new (Goes (leaves w old f rest value)) → Stepped f rest f.items
  by_result f rest value at h =
      let s = split_items f.items (Returned value) at in
      over_items f rest (Returned value ∷ s.0) s.1 h

  pub by_do : (f : Frame) (rest : List Frame) (n : ℕ) → slice_get f.items 0 ≡ Some (Do n)
      → Steps result old new (outcome n (placed old rest (do_row w.trees old.memory f n word))) → Stepped f rest f.items
  by_do f rest n at h =
      let s = split_items f.items (Do n) at in
      over_items f rest (Do n ∷ s.0) s.1 h

  pub by_wait : (f : Frame) (rest : List Frame) (n : ℕ) (operands : List ℕ) (values : List (ℕ × Value)) → slice_get f.items 0 ≡ Some (Wait n operands values)
      → Steps result old new (outcome n (waited w old f rest n (top_left f.items) (top_values f.items) word)) → Stepped f rest f.items
  by_wait f rest n operands values at h =
      let s = split_items f.items (Wait n operands values) at in
      over_items f rest (Wait n operands values ∷ s.0) s.1
      (subst (λ (xs : List Item). Steps result old new (outcome n (waited w old f rest n (top_left xs) (top_values xs) word))) s.1 h)

  pub by_library : (f : Frame) (rest : List Frame) (n k : ℕ) (arguments : List Value) → slice_get f.items 0 ≡ Some (Library n k arguments)
      → Steps result old new (outcome n (library_row w old f rest n k arguments word)) → Stepped f rest f.items
  by_library f rest n k arguments at h =
      let s = split_items f.items (Library n k arguments) at in
      over_items f rest (Library n k arguments ∷ s.0) s.1 h

  pub by_top : (frames : List Frame) → 0 < length frames
      → ((f : Frame) (rest : List Frame) → frames ≡ f ∷ rest → Steps result old new (item_step w old f rest f.items word))
      → Steps result old new (frames_step w old frames word)
  by_top [] less h = absurd (omega arith)
  by_top (f ∷ rest) less h = h f rest refl

  pub without_top : (frames : List Frame) → length frames ≤ 0
      → Steps result old new (outside_step w old old.status word)
      → Steps result old new (frames_step w old frames word)
  without_top [] less h = h
  without_top (f ∷ rest) less h = absurd (omega arith)

  pub framed : 0 < length old.frames
      → ((f : Frame) (rest : List Frame) → old.frames ≡ f ∷ rest → Steps result old new (item_step w old f rest f.items word))
      → Steps result old new (step w old word)
  unfolding step
  framed less h = by_top old.frames less h

  pub unframed : length old.frames ≤ 0
      → Steps result old new (outside_step w old old.status word)
      → Steps result old new (step w old word)
  unfolding step
  unframed less h = without_top old.frames less h

pub top_chooses : (w : Running) (status : Option ℤ) (frames : List Frame) (frame : Frame) → slice_get frames 0 ≡ Some frame
    → item_chooses w.trees frame.items ≡ frames_choose w status frames
top_chooses w status [] frame h = cc
top_chooses w status (f ∷ rest) frame h = let e : f ≡ frame = cc in sym (ap (λ (x : Frame). item_chooses w.trees x.items) e)

pub none_chooses : (w : Running) (status : Option ℤ) (frames : List Frame) → slice_get frames 0 ≡ None → outside_chooses w status ≡ frames_choose w status frames
none_chooses w status [] h = refl
none_chooses w status (f ∷ rest) h = cc

-- the item of the frame on top
pub same_item : (frames : List Frame) (frame f : Frame) (rest : List Frame) (o : Option Item) → slice_get frames 0 ≡ Some frame → frames ≡ f ∷ rest
    → slice_get frame.items 0 ≡ o → slice_get f.items 0 ≡ o
same_item frames frame f rest o there e at =
    ap (λ (y : Frame). slice_get y.items 0) (sym (top_is frames frame f rest e there)) ∙ at

pub no_status : (o : Option ℤ) → ((x : ℤ) → o ≡ Some x → ⊥) → o ≡ None
no_status None h = refl
no_status (Some x) h = absurd (h x refl)

-- which of a node's operands are left

pub one_left : (u : CoreTrees) (node : Node) (operands : List ℕ) → 1 ≤ length operands → length operands < 2 → node_chooses u (Some node) operands ≡ false
one_left u node [] h less = absurd (omega arith)
one_left u node (c ∷ []) h less = refl
one_left u node (c ∷ d ∷ rest) h less = absurd (omega arith)

pub more_left : (u : CoreTrees) (node : Node) (operands : List ℕ) → 2 ≤ length operands → node_chooses u (Some node) operands ≡ picks (form_of node.kind)
more_left u node [] h = absurd (omega arith)
more_left u node (c ∷ []) h = absurd (omega arith)
more_left u node (c ∷ d ∷ rest) h = refl

-- what main takes

module _ (w : Running) (lists : List (List ℕ)) (h : AreParameters w.trees (view_of w.space) lists) (main : ℕ) (list : List ℕ)
    (at : slice_get lists main ≡ Some list) (is : main_of w.trees ≡ Some main) where
  taken_by : main_chooses w (main_of w.trees) ≡ has_some (map EntityKey list)
  taken_by = ap (main_chooses w) is ∙ sym (ap (has_some {X = ObjectKey}) (h.each main list at))

  pub none_taken : length list < 1 → false ≡ main_chooses w (main_of w.trees)
  none_taken less = sym (taken_by ∙ none list less)
    where
      none : (xs : List ℕ) → length xs < 1 → has_some (map EntityKey xs) ≡ false
      none [] less = refl
      none (x ∷ rest) less = absurd (omega arith)

  pub some_taken : 1 ≤ length list → true ≡ main_chooses w (main_of w.trees)
  some_taken more = sym (taken_by ∙ some list more)
    where
      some : (xs : List ℕ) → 1 ≤ length xs → has_some (map EntityKey xs) ≡ true
      some [] more = absurd (omega arith)
      some (x ∷ rest) more = refl
