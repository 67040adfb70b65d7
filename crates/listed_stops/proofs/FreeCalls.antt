-- Calls stop with Mismatch only where they reach a function that can't be entered.
use Rattle.std.proofs.Common.{◌≡◌, ◌∙◌, inr, ℕ, Bool, true, false, cond, List, [], ◌∷◌, map, length, Option, Some, None, Result, Ok, Err, slice_get, refl, sym, ap, subst}
use Rattle.c_types.specs.declared.key.ObjectKey.{ObjectKey}
use Rattle.c_types.specs.declared.key.ObjectKey.TheVariants.{Entity as EntityKey, Function as FunctionKey}
use Rattle.c_types.specs.Trees.{Ctype}
use Rattle.c_types.specs.Table.{type_of}
use Rattle.core_tree.specs.declared.node.Entity.{Entity}
use Rattle.core_tree.specs.declared.node.Node.{Node}
use Rattle.core_tree.specs.declared.node.NodeKind.TheVariants.{CallNode}
use Rattle.core_tree.specs.Rows.{RowOf}
use Rattle.core_tree.specs.Typed.{CoreTrees}
use Rattle.obj_space.specs.View.{view_of}
use Rattle.row_numbers.specs.Functions.{parameters_of}
use Rattle.ref_cells.specs.declared.cells.Reason.{Reason}
use Rattle.ref_cells.specs.declared.cells.Reason.TheVariants.{Unset as UnsetUse, BadCall, Mismatch}
use Rattle.ref_cells.specs.declared.cells.Cell.{Cell}
use Rattle.ref_cells.specs.declared.cells.Cell.TheVariants.{Unset, Number, Null, Pointer, Function}
use Rattle.ref_cells.specs.declared.cells.Value.{Value}
use Rattle.ref_state.specs.declared.frames.Frame.{Frame}
use Rattle.ref_state.specs.declared.state.State.{State}
use Rattle.ref_state.specs.Values.{value_in, cell_in}
use Rattle.ref_values.specs.Values.{lacks}
use Rattle.ref_frames.specs.declared.entering.Activation.{Activation}
use Rattle.ref_frames.specs.declared.entering.Entry.{Entry}
use Rattle.ref_frames.specs.Frames.{have_types, called_list, entered_objects, activation, activation_over, activation_by, activation_of, entered}
use Rattle.ref_frames.specs.OnTop.{on_top}
use Rattle.ref_frames.specs.Running.{Running}
use Rattle.ref_calls.specs.declared.reached.Target.{Target}
use Rattle.ref_calls.specs.Calls.{fits, callee_of}
use Rattle.ref_calls.specs.Reached.{reached_by, children_of, reached}
use Rattle.ref_machine.specs.Step.{noted, called, call_row}
use Rattle.listed_stops.specs.Mismatches.{CanEnter}
use Rattle.listed_stops.proofs.Free.{Free, lift_free, after_free, then_free, either_free}
use Rattle.listed_stops.proofs.FreeNodes.{Here}

some_one : {X : Type 0} → {x y : X} → ◌≡◌ {A = Option X} (Some x) (Some y) → x ≡ y
some_one h = cc

none_some : {X : Type 0} → {x : X} → ◌≡◌ {A = Option X} None (Some x) → ⊥
none_some h = cc

true_false : true ≡ false → ⊥
true_false e = cc

-- ---- a function is entered
module _ (w : Running) (count : ℕ) (entry : Entry) (arguments : List Value) where
  abbrev Closed : Type 0
  Closed = CanEnter w entry.function → ⊥

  over_free : (entity : Entity) (body : ℕ) → slice_get w.trees.entities entry.function ≡ Some entity
      → Free Closed (activation_over w count entry arguments (type_of w.trees.types entity.ty.0) (parameters_of w.trees (view_of w.space) entry.function) body)
  over_free entity body there = by (have_types w.trees (parameters_of w.trees (view_of w.space) entry.function) (called_list w.trees entity)) refl
    where
      by : (b : Bool) → have_types w.trees (parameters_of w.trees (view_of w.space) entry.function) (called_list w.trees entity) ≡ b
          → Free Closed
          (let r : Result Activation Reason = cond b (Ok (activation entry count body (entered_objects w.trees (type_of w.trees.types entity.ty.0) entry.function (parameters_of w.trees (view_of w.space) entry.function) arguments))) (Err Mismatch) in r)
      by true is = tt
      by false is = λ c. true_false
          (sym c.typed ∙ (ap (λ (x : Entity). have_types w.trees (parameters_of w.trees (view_of w.space) entry.function) (called_list w.trees x)) (some_one (sym c.there ∙ there)) ∙ is))

  by_free : (entity : Entity) (o : Option ℕ) → slice_get w.trees.entities entry.function ≡ Some entity → entity.body ≡ o → Free Closed (activation_by w count entry arguments (type_of w.trees.types entity.ty.0) o)
  by_free entity None there is = λ c. none_some (sym is ∙ (ap (λ (x : Entity). x.body) (some_one (sym there ∙ c.there)) ∙ c.body_is))
  by_free entity (Some body) there is = over_free entity body there

  of_free : (o : Option Entity) → slice_get w.trees.entities entry.function ≡ o → Free Closed (activation_of w count entry arguments o)
  of_free None is = λ c. none_some (sym is ∙ c.there)
  of_free (Some entity) is = by_free entity entity.body is refl

  entered_free : Free Closed (entered w count entry arguments)
  unfolding entered
  entered_free = of_free (slice_get w.trees.entities entry.function) refl

-- ---- a call
callee_free : (C : Type 0) (u : CoreTrees) (callee : ℕ) (arguments : List ℕ) (cell : Cell) → Free C (callee_of u callee arguments cell)
callee_free C u callee arguments Null = tt
callee_free C u callee arguments Unset = tt
callee_free C u callee arguments (Function key) = either_free C (fits u key callee arguments) (Ok key) (Err BadCall) tt tt
callee_free C u callee arguments (Number k) = tt
callee_free C u callee arguments (Pointer i path past) = tt

module _ (w : Running) (state : State) (f : Frame) (rest : List Frame) (n : ℕ) (node : Node) (values : List (ℕ × Value)) (there : slice_get w.trees.nodes n ≡ Some node) where
  reached_by_free : (C : Type 0) (t : Ctype) (children : List ℕ) → RowOf w.trees CallNode t children → Free C (reached_by w.trees children values)
  reached_by_free C t [] row = absurd row
  reached_by_free C t (c ∷ arguments) row =
      then_free C (callee_of w.trees c arguments (cell_in values c))
      (λ (key : ObjectKey). let r : Result Target Reason = cond (lacks w.trees values arguments) (Err UnsetUse) (Ok (record { key = key; arguments = map (value_in values) arguments })) in r)
      (callee_free C w.trees c arguments (cell_in values c))
      (λ key. either_free C (lacks w.trees values arguments) (Err UnsetUse) (Ok (record { key = key; arguments = map (value_in values) arguments })) tt tt)

  reached_free : (C : Type 0) → RowOf w.trees CallNode (type_of w.trees.types node.ty.0) node.children → Free C (reached w.trees n values)
  unfolding reached
  reached_free C row =
      subst (λ (o : Option Node). Free C (reached_by w.trees (children_of o) values)) (sym there) (reached_by_free C (type_of w.trees.types node.ty.0) node.children row)

  called_free : (children : List ℕ) (target : Target) → reached w.trees n values ≡ Ok target → (key : ObjectKey) → target.key ≡ key
      → Free (Here w state f n CallNode children values) (called w state f rest n key target.arguments)
  called_free children target is (EntityKey e) own =
      then_free (Here w state f n CallNode children values) (entered w (length state.memory) (record { function = e; call = Some n; by = None }) target.arguments)
      (λ (made : Activation). let r : Result State Reason = Ok (on_top state (f ∷ rest) (noted w.trees n (EntityKey e) made.stores) made) in r)
      (lift_free (CanEnter w e → ⊥) (Here w state f n CallNode children values) (entered w (length state.memory) (record { function = e; call = Some n; by = None }) target.arguments)
      (λ h. inr (record { target = target; reaches = is; function = e; is_function = own; closed = h }))
      (entered_free w (length state.memory) (record { function = e; call = Some n; by = None }) target.arguments))
      (λ made. tt)
  called_free children target is (FunctionKey k) own = tt
  called_free children target is key own = tt

  pub call_free : (children : List ℕ) → RowOf w.trees CallNode (type_of w.trees.types node.ty.0) node.children → Free (Here w state f n CallNode children values) (call_row w state f rest n values)
  call_free children row =
      after_free (Here w state f n CallNode children values) (reached w.trees n values) (λ (target : Target). called w state f rest n target.key target.arguments) (reached_free (Here w state f n CallNode children values) row)
      (λ target is. called_free children target is target.key refl)
