-- What a step reads and writes is in the sets of the functions of all frames.
use Rattle.std.proofs.Common.{arith, ◌≡◌, ◌∙◌, inl, inr, ℕ, zero, suc, Bool, true, false, List, [], ◌∷◌, Option, Some, None, slice_get, Contains, refl, sym, ap, subst}
use Rattle.std.proofs.lemmas.Bool.{false≢true}
use Rattle.c_types.specs.declared.key.ObjectKey.{ObjectKey}
use Rattle.c_types.specs.declared.key.ObjectKey.TheVariants.{Entity as EntityKey, Function as FunctionKey}
use Rattle.c_types.specs.declared.term.PathStep.{PathStep}
use Rattle.c_types.specs.declared.term.TypeId.{TypeId}
use Rattle.core_tree.specs.declared.node.Node.{Node}
use Rattle.sol_model.specs.Families.{Family}
use Rattle.mod_ref.specs.declared.access.Access.{Access}
use Rattle.mod_ref.specs.Direct.{IsWrite}
use Rattle.ref_cells.specs.declared.cells.Cell.TheVariants.{Unset, Pointer}
use Rattle.ref_cells.specs.declared.cells.Value.{Value}
use Rattle.ref_elements.specs.Arguments.{argument}
use Rattle.ref_lib.specs.declared.rows.Making.TheVariants.{Classes}
use Rattle.ref_lib.specs.declared.rows.Row.TheVariants.{Makes}
use Rattle.ref_lib.specs.Effects.{rows}
use Rattle.ref_state.specs.declared.items.Item.{Item}
use Rattle.ref_state.specs.declared.items.Item.TheVariants.{Do, Wait, Library, Result as Returned}
use Rattle.ref_state.specs.declared.frames.Frame.{Frame}
use Rattle.ref_state.specs.declared.state.State.{State}
use Rattle.covering_laws.specs.covered_memory.Spots.{spot}
use Rattle.covering_laws.specs.covered_state.World.{World, trees_of, IsTargetAt}
use Rattle.covering_laws.specs.covered_state.Items.{Each, NodeIn, IsOwned, IsPendingBack, ItemIn}
use Rattle.covering_laws.specs.covered_state.State.{CalledIn, BackIn, FrameIn}
use Rattle.covered_runs.specs.covered_steps.Steps.{NoneBare}
use Rattle.covered_runs.proofs.covered_steps.Steps.{own_frames, own_items, none_bare}
use Rattle.covered_runs.specs.covered_steps.covered_statements.Stacked.{waits_next, PendingOn, Stacked, FramesStand}
use Rattle.covered_runs.proofs.covered_steps.covered_effects.Backed.{row_quiet}
use Rattle.covered_runs.specs.machine_sound.Carried.{IsSteppable}
use Rattle.covered_runs.proofs.machine_sound.Frames.{stays, no_wait}
use Rattle.covered_runs.specs.touched_runs.called_frames.Layers.{IsEntity, StandsOnCall, AreLayered, IsCalling, IsPendingOn, StandsOver, FramesLayered}
use Rattle.covered_runs.specs.touched_runs.called_frames.Laws.{Layered}
use Rattle.covered_runs.specs.touched_runs.Accesses.{NodeAccesses, CallAccesses, MadeBy, ItemAccesses, ItemMakes, MayBeCell, FramesAccess}
use Rattle.covered_runs.specs.touched_runs.Touched.{IsTouchOf, AreNumbered, IsTouchedBy, StepsTouch}
use Rattle.covered_runs.proofs.touched_runs.Numbers.{callers_touch, back_touches, library_touches}
use Rattle.covered_runs.proofs.touched_runs.Own.{node_touches, own_touched}
use Rattle.covered_runs.proofs.touched_runs.Given.{library_owned, looked}
use Rattle.covered_runs.proofs.touched_runs.Calls.{maker_loud, classes_there, argument_touched, made_touched}

library_wait : {n k m : ℕ} → {arguments : List Value} → {left : List ℕ} → {values : List (ℕ × Value)} → Library n k arguments ≡ Wait m left values → ⊥
library_wait h = cc

unset_pointer : {i : ℕ} → {path : List PathStep} → {past : Bool} → Unset ≡ Pointer i path past → ⊥
unset_pointer h = cc

-- a function that owns a node is the program's
owner_of : (world : World) (key : ObjectKey) (n : ℕ) → IsOwned world key n → IsEntity key
owner_of world (EntityKey e) n h = (e, refl)
owner_of world key n h = absurd h

module _ (world : World) (characters : TypeId) (h : IsSteppable world characters) (access : Access) (touch : Family) (numbered : AreNumbered world) (closed : IsTouchOf world access touch) (state : State) (now : Layered world state) where
  -- ---- from a frame to the one below it

  from_call : (key : ObjectKey) (n l : ℕ) (callee : ObjectKey) (items : List Item) → IsCalling n items → Each (ItemIn world state.memory key) items → IsTargetAt world n callee → IsTouchedBy world touch callee l → IsTouchedBy world touch key l
  from_call (EntityKey e) n l callee (Wait m left values ∷ rest) is each target has = callers_touch world access touch closed e n l callee numbered (subst (IsOwned world (EntityKey e)) is each.0.0) target has
  from_call key n l callee (Wait m left values ∷ rest) is each target has = absurd each.0.0
  from_call key n l callee items is each target has = absurd is

  from_library : (e k l : ℕ) (items : List Item) → IsPendingOn k items → Stacked (trees_of world).nodes (PendingOn world state.memory) items → AreLayered (EntityKey e) items → Each (ItemIn world state.memory (EntityKey e)) items
      → IsTouchedBy world touch (FunctionKey k) l → IsTouchedBy world touch (EntityKey e) l
  from_library e k l (Library n j arguments ∷ rest) is stacked layered each has = by stacked.0
    where
      owned : IsOwned world (EntityKey e) n
      owned = library_owned world h.runs state.memory e n j arguments rest stacked layered each

      own : IsTouchedBy world touch (FunctionKey j) l
      own = subst (λ (m : ℕ). IsTouchedBy world touch (FunctionKey m) l) (sym is) has

      by : PendingOn world state.memory n j arguments rest → IsTouchedBy world touch (EntityKey e) l
      by (inl p) = callers_touch world access touch closed e n l (FunctionKey j) numbered owned p.1.target own
      by (inr p) =
          let b = p.1 in
          callers_touch world access touch closed e n l b.called.caller numbered owned b.called.target
          (back_touches world access touch closed b.library b.back l b.called.caller (FunctionKey j) b.called.library_is b.called.back_is b.called.edge own)
  from_library e k l [] is stacked layered each has = absurd is
  from_library e k l (Do n ∷ rest) is stacked layered each has = absurd is
  from_library e k l (Wait n left values ∷ rest) is stacked layered each has = absurd is
  from_library e k l (Returned v ∷ rest) is stacked layered each has = absurd is

  below : (f next : Frame) (more : List Frame) → Each (FrameIn world state.memory) (f ∷ next ∷ more) → FramesStand world state.memory (f ∷ next ∷ more) → FramesLayered (f ∷ next ∷ more) → (l : ℕ) → IsTouchedBy world touch f.function l
      → IsTouchedBy world touch next.function l
  below f next more framed stand layered l has = by f.call f.by layered.1 framed.0.called framed.0.back
    where
      by : (call back : Option ℕ) → StandsOver call back (next ∷ more) → CalledIn world f.function call → BackIn world f.function back → IsTouchedBy world touch next.function l
      by (Some n) back over called graph = from_call next.function n l f.function next.items over framed.1.0.items called.0 has
      by None (Some k) over called graph =
          let e = over.1 in
          subst (λ (key : ObjectKey). IsTouchedBy world touch key l) (sym e.1)
          (from_library e.0 k l next.items over.0 stand.2.0 (subst (λ (key : ObjectKey). AreLayered key next.items) e.1 layered.2.0)
          (subst (λ (key : ObjectKey). Each (ItemIn world state.memory key) next.items) e.1 framed.1.0.items) (library_touches world access touch closed k l f.function graph has))
      by None None over called graph = absurd over

  -- and to all of them
  all_touched : (f : Frame) (rest : List Frame) → Each (FrameIn world state.memory) (f ∷ rest) → FramesStand world state.memory (f ∷ rest) → FramesLayered (f ∷ rest) → (l : ℕ) → IsTouchedBy world touch f.function l
      → (g : Frame) → Contains (f ∷ rest) g → IsTouchedBy world touch g.function l
  all_touched f rest framed stand layered l has g (zero, lt, at) = subst (λ (x : Frame). IsTouchedBy world touch x.function l) at has
  all_touched f [] framed stand layered l has g (suc k, lt, at) = absurd (omega arith)
  all_touched f (next ∷ more) framed stand layered l has g (suc k, lt, at) = all_touched next more framed.1 stand.2 layered.2 l (below f next more framed stand layered l has) g (k, omega arith, at)

  -- ---- the top frame

  module _ (f : Frame) (rest : List Frame) (frames_are : state.frames ≡ f ∷ rest) where
    framed : Each (FrameIn world state.memory) (f ∷ rest)
    framed = own_frames world state f rest now.carried.steady.covered frames_are

    stand : FramesStand world state.memory (f ∷ rest)
    stand = subst (FramesStand world state.memory) frames_are now.carried.steady.stacked

    layered : FramesLayered (f ∷ rest)
    layered = subst FramesLayered frames_are now.layered

    -- a node
    node_touched : (n : ℕ) (values : List (ℕ × Value)) → IsOwned world f.function n → Each (λ v. NodeIn world state.memory v.0 v.1) values → (node : Node) → slice_get (trees_of world).nodes n ≡ Some node
        → (i l : ℕ) (key : ObjectKey) (path : List PathStep) → NodeAccesses (trees_of world) state.memory f.instances access node values i path → MayBeCell world.program.types state.memory i key path
        → spot world.program.types world.space key path ≡ Some l → IsTouchedBy world touch f.function l
    node_touched n values owned each node at i l key path accesses c lands =
        let e = owner_of world f.function n owned in
        subst (λ (k : ObjectKey). IsTouchedBy world touch k l) (sym e.1)
        (own_touched world access touch e.0 n l node numbered closed (subst (λ (k : ObjectKey). IsOwned world k n) e.1 owned) at
        (node_touches world h.runs state.memory now.carried.steady.covered.memory f.instances access n node at values each i l key path accesses c lands))

    -- a library function
    module _ (n k : ℕ) (arguments : List Value) (items : List Item) (items_are : f.items ≡ Library n k arguments ∷ items) where
      stacked : Stacked (trees_of world).nodes (PendingOn world state.memory) (Library n k arguments ∷ items)
      stacked = subst (Stacked (trees_of world).nodes (PendingOn world state.memory)) items_are stand.0

      own_layered : AreLayered f.function (Library n k arguments ∷ items)
      own_layered = subst (AreLayered f.function) items_are layered.0

      each : Each (ItemIn world state.memory f.function) (Library n k arguments ∷ items)
      each = own_items world state f rest now.carried.steady.covered frames_are (Library n k arguments) items items_are

      none : NoneBare world state.memory
      none = none_bare world state f rest now.carried.steady.covered frames_are (Library n k arguments) items items_are (λ m values node same there kind. library_wait same)

      -- one that was given something is pending in a frame of the program's
      entity : (arguments ≡ [] → ⊥) → IsEntity f.function
      entity some = by items own_layered.0 each.1
        where
          by : (xs : List Item) → StandsOnCall f.function n k arguments xs → Each (ItemIn world state.memory f.function) xs → IsEntity f.function
          by [] on own = absurd (some on.1)
          by (Wait m left values ∷ more) on own = owner_of world f.function m own.0.0
          by (Library m j others ∷ more) on own = on.2
          by (Do m ∷ more) on own = absurd on
          by (Returned v ∷ more) on own = absurd on

      looked_touched : (i l : ℕ) (key : ObjectKey) (path : List PathStep) → CallAccesses k arguments i path → MayBeCell world.program.types state.memory i key path → spot world.program.types world.space key path ≡ Some l
          → IsTouchedBy world touch f.function l
      looked_touched i l key path (m, looks, of) c lands =
          let e = entity (λ empty. unset_pointer (sym (ap (λ (xs : List Value). argument xs m) empty) ∙ of.argument_is)) in
          let own = subst (λ (x : ObjectKey). AreLayered x (Library n k arguments ∷ items)) e.1 own_layered in
          let items_in = subst (λ (x : ObjectKey). Each (ItemIn world state.memory x) (Library n k arguments ∷ items)) e.1 each in
          let owned = library_owned world h.runs state.memory e.0 n k arguments items stacked own items_in in
          let through = looked world characters h state f rest now.carried.steady.covered none e.0 n k arguments items stacked own m looks in
          subst (λ (x : ObjectKey). IsTouchedBy world touch x l) (sym e.1)
          (argument_touched world access touch closed numbered e.0 n owned h.runs state.memory now.carried.steady.covered.memory (argument arguments m) through i l key path of c lands)

      made_so : (l : ℕ) (key : ObjectKey) (path : List PathStep) → IsWrite access → MadeBy (trees_of world) n k key → spot world.program.types world.space key path ≡ Some l → IsTouchedBy world touch f.function l
      made_so l key path writes made lands = by stacked.0
        where
          waiting : (xs : List Item) → waits_next xs ≡ true → Each (ItemIn world state.memory f.function) xs → IsEntity f.function
          waiting (Wait m left values ∷ more) is own = owner_of world f.function m own.0.0
          waiting [] is own = absurd (false≢true is)
          waiting (Do m ∷ more) is own = absurd (false≢true is)
          waiting (Library m j others ∷ more) is own = absurd (false≢true is)
          waiting (Returned v ∷ more) is own = absurd (false≢true is)

          -- what a library function calls back makes nothing
          loud : (waits_next items ≡ false) → IsPendingBack world state.memory n k arguments → MadeBy (trees_of world) n k key → ⊥
          loud is back (inl (row, row_is, maker, key_is)) =
              maker_loud row maker
              (row_quiet world h.runs.stands characters h.served state f rest n k arguments items 0 (stays world state now.carried) frames_are items_are back (no_wait items is) row row_is)
          loud is back (inr (number, key_is)) =
              false≢true
              (row_quiet world h.runs.stands characters h.served state f rest n k arguments items 0 (stays world state now.carried) frames_are items_are back (no_wait items is) (Makes Classes)
              (ap (slice_get rows) number ∙ classes_there))

          by : PendingOn world state.memory n k arguments items → IsTouchedBy world touch f.function l
          by (inl p) =
              let e = waiting items p.0 each.1 in
              let own = subst (λ (x : ObjectKey). AreLayered x (Library n k arguments ∷ items)) e.1 own_layered in
              let items_in = subst (λ (x : ObjectKey). Each (ItemIn world state.memory x) (Library n k arguments ∷ items)) e.1 each in
              let owned = library_owned world h.runs state.memory e.0 n k arguments items stacked own items_in in
              subst (λ (x : ObjectKey). IsTouchedBy world touch x l) (sym e.1)
              (made_touched world access touch closed numbered e.0 n owned characters h state f rest now.carried.steady.covered none k arguments p.1 writes key path l made lands)
          by (inr p) = absurd (loud p.0 p.1 made)

    item_touched : (items : List Item) → f.items ≡ items → (i l : ℕ) (key : ObjectKey) (path : List PathStep) → ItemAccesses (trees_of world) state.memory f.instances access items i path → MayBeCell world.program.types state.memory i key path
        → spot world.program.types world.space key path ≡ Some l → IsTouchedBy world touch f.function l
    item_touched (Do n ∷ items) is i l key path (node, at, childless, accesses) c lands = node_touched n [] (own_items world state f rest now.carried.steady.covered frames_are (Do n) items is).0 tt node at i l key path accesses c lands
    item_touched (Wait n [] values ∷ items) is i l key path (node, at, accesses) c lands =
        let own = (own_items world state f rest now.carried.steady.covered frames_are (Wait n [] values) items is).0 in
        node_touched n values own.0 own.2 node at i l key path accesses c lands
    item_touched (Library n k arguments ∷ items) is i l key path accesses c lands = looked_touched n k arguments items is i l key path accesses c lands
    item_touched [] is i l key path accesses c lands = absurd accesses
    item_touched (Wait n (x ∷ left) values ∷ items) is i l key path accesses c lands = absurd accesses
    item_touched (Returned v ∷ items) is i l key path accesses c lands = absurd accesses

    item_made : (items : List Item) → f.items ≡ items → (l : ℕ) (key : ObjectKey) (path : List PathStep) → ItemMakes (trees_of world) access items key → spot world.program.types world.space key path ≡ Some l → IsTouchedBy world touch f.function l
    item_made (Library n k arguments ∷ items) is l key path makes lands = made_so n k arguments items is l key path makes.0 makes.1 lands
    item_made [] is l key path makes lands = absurd makes
    item_made (Do n ∷ items) is l key path makes lands = absurd makes
    item_made (Wait n left values ∷ items) is l key path makes lands = absurd makes
    item_made (Returned v ∷ items) is l key path makes lands = absurd makes

    top_touched : (l : ℕ) (key : ObjectKey) (path : List PathStep) → FramesAccess (trees_of world) state.memory access (f ∷ rest) key path → spot world.program.types world.space key path ≡ Some l → IsTouchedBy world touch f.function l
    top_touched l key path (inl (i, accesses, c)) lands = item_touched f.items refl i l key path accesses c lands
    top_touched l key path (inr makes) lands = item_made f.items refl l key path makes lands

    stack_touched : (l : ℕ) (key : ObjectKey) (path : List PathStep) → FramesAccess (trees_of world) state.memory access (f ∷ rest) key path → spot world.program.types world.space key path ≡ Some l → (g : Frame) → Contains (f ∷ rest) g
        → IsTouchedBy world touch g.function l
    stack_touched l key path accesses lands g has = all_touched f rest framed stand layered l (top_touched l key path accesses lands) g has

  step_touched : (frames : List Frame) → state.frames ≡ frames → (l : ℕ) (key : ObjectKey) (path : List PathStep) → FramesAccess (trees_of world) state.memory access frames key path → spot world.program.types world.space key path ≡ Some l
      → (g : Frame) → Contains frames g → IsTouchedBy world touch g.function l
  step_touched [] is l key path accesses lands g has = absurd accesses
  step_touched (f ∷ rest) is l key path accesses lands g has = stack_touched f rest is l key path accesses lands g has

pub steps_touch : StepsTouch
steps_touch world characters access touch state key path l f h numbered closed now accesses lands has =
    step_touched world characters h access touch numbered closed state now state.frames refl l key path accesses lands f has
