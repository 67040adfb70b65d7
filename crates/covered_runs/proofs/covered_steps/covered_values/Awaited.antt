-- Where a conversion is on top with its operand, an object without a type may have the one that it points to.
use Rattle.std.proofs.Common.{◌≡◌, ◌∙◌, ℕ, List, [], ◌∷◌, Some, None, slice_get, refl, sym, ap}
use Rattle.c_types.specs.declared.key.ObjectKey.TheVariants.{Call as CallKey}
use Rattle.c_types.specs.declared.term.TypeId.{TypeId}
use Rattle.c_types.specs.Table.{type_of}
use Rattle.core_tree.specs.declared.node.Node.{Node}
use Rattle.core_tree.specs.declared.node.NodeKind.TheVariants.{Convert}
use Rattle.obj_made.specs.declared.object.Content.{Content}
use Rattle.obj_made.specs.declared.object.Content.TheVariants.{Function as FunctionContent, Blob, Scalar, Scalars, Typed, Elements}
use Rattle.obj_space.specs.declared.location.Location.{Location}
use Rattle.ref_cells.specs.declared.cells.Cell.{Cell}
use Rattle.ref_cells.specs.declared.cells.Cell.TheVariants.{Unset, Number, Null, Pointer, Function}
use Rattle.ref_cells.specs.declared.cells.Value.{Value}
use Rattle.ref_cells.specs.declared.instance.Instance.{Instance}
use Rattle.ref_state.specs.declared.items.Item.{Item}
use Rattle.ref_state.specs.declared.items.Item.TheVariants.{Wait}
use Rattle.ref_state.specs.declared.frames.Frame.{Frame}
use Rattle.ref_state.specs.declared.state.State.{State}
use Rattle.ref_state.specs.Values.{cell_in}
use Rattle.ref_values.specs.Memory.{pointee}
use Rattle.covering_laws.specs.covered_memory.Covered.{InstanceIn}
use Rattle.covering_laws.proofs.covered_memory.Firsts.{is_first}
use Rattle.covering_laws.specs.covered_library.Calls.{Takes}
use Rattle.covering_laws.specs.covered_state.World.{World, trees_of, sets_of}
use Rattle.covering_laws.specs.covered_state.Awaited.{IsBare, AwaitedIn}
use Rattle.covered_runs.specs.covered_steps.covered_values.Values.{MayType}
use Rattle.covered_runs.specs.covered_steps.covered_values.Passed.{AreTypedAbove, TypesAwaited}
use Rattle.covered_runs.proofs.covered_steps.covered_values.Types.{some_one}

pub top_one : {X : Type 0} → {x y : X} → {xs ys : List X} → ◌≡◌ {A = List X} (x ∷ xs) (y ∷ ys) → x ≡ y
top_one h = cc

pub wait_one : {n m : ℕ} → {left other : List ℕ} → {values more : List (ℕ × Value)} → Wait n left values ≡ Wait m other more → n ≡ m
wait_one h = cc

module _ (world : World) (state : State) (f : Frame) (rest : List Frame) (n v : ℕ) (node : Node) (values : List (ℕ × Value)) (items : List Item) (typed : AreTypedAbove world) (awaited : AwaitedIn world state)
    (frames_are : state.frames ≡ f ∷ rest) (items_are : f.items ≡ Wait n [] values ∷ items) (there : slice_get (trees_of world).nodes n ≡ Some node) (kind : node.kind ≡ Convert) where
  takes : (i : ℕ) (inst : Instance) (id : TypeId) → slice_get state.memory i ≡ Some inst → inst.ty ≡ None → pointee (slice_get world.program.types.terms node.ty.0) ≡ Some id
      → (h : InstanceIn (sets_of world) state.memory inst) → Takes world.program.types id h.location.content
  takes i inst id at none points h = by h.location.content refl
    where
      by : (content : Content) → h.location.content ≡ content → Takes world.program.types id content
      by (Elements other) is =
          let bare : IsBare world inst = record { untyped = none; first = h.first; location = h.location; first_is = h.first_is; location_is = h.location_is; id = other; content_is = is } in
          let a = awaited.each i inst at bare in
          let same : a.top ≡ f = top_one (sym a.frames_are ∙ frames_are) in
          let one : a.convert ≡ n = wait_one (top_one (sym a.items_are ∙ (ap (λ (g : Frame). g.items) same ∙ items_are))) in
          let own : a.node ≡ node = some_one (sym a.there ∙ (ap (slice_get (trees_of world).nodes) one ∙ there)) in
          let here = (is_first world.space inst.key h.first h.first_is).here in
          let key : h.location.key ≡ CallKey a.call = ap (λ (x : Location). x.key) (some_one (sym h.location_is ∙ here.1)) ∙ (here.2 ∙ a.key) in
          let found = typed h.first h.location a.call other n node h.location_is key is there kind (ap (λ (x : Node). x.children) (sym own) ∙ a.child) in
          ap (λ (x : TypeId). type_of world.program.types x.0) (some_one (sym points ∙ found))
      by FunctionContent is = tt
      by Blob is = tt
      by (Scalar number) is = tt
      by (Scalars number) is = tt
      by (Typed other) is = tt

  may : (c : Cell) → MayType world state.memory c node.ty
  may (Pointer i path past) = λ inst id at none points h. takes i inst id at none points h
  may Null = tt
  may Unset = tt
  may (Number k) = tt
  may (Function key) = tt

pub types_awaited : TypesAwaited
types_awaited world state f rest n v node values items typed awaited frames_are items_are there kind children = may world state f rest n v node values items typed awaited frames_are items_are there kind (cell_in values v)
