-- A step leaves each instance of memory in its place, but for what it writes.
use Rattle.std.proofs.Common.{◌≡◌, ◌∙◌, ◌⊎◌, inl, inr, ℕ, Bool, true, false, cond, List, [], ◌∷◌, ◌++◌, length, Option, Some, None, Result, Ok, Err, IfOk, IsSome, Contains, slice_get, refl, sym, ap, subst}
use Rattle.std.proofs.lemmas.Bool.{false≢true}
use Rattle.c_types.specs.declared.key.ObjectKey.{ObjectKey}
use Rattle.c_types.specs.declared.key.ObjectKey.TheVariants.{Entity as EntityKey, Function as FunctionKey, Library as LibraryKey}
use Rattle.c_types.specs.declared.term.PathStep.{PathStep}
use Rattle.c_types.specs.declared.term.PathStep.TheVariants.{Index, Member}
use Rattle.c_types.specs.declared.term.TypeId.{TypeId}
use Rattle.c_types.specs.Trees.{Ctype, VoidType, BoolType, IntegerType, FloatingType, VaListType, PointerTo, ArrayOf, FunctionFrom, StructureOf, UnionOf}
use Rattle.c_types.specs.Table.{type_of}
use Rattle.type_rules.specs.Kinds.{IsList}
use Rattle.core_tree.specs.declared.node.Node.{Node}
use Rattle.core_tree.specs.declared.node.NodeKind.{NodeKind}
use Rattle.core_tree.specs.declared.node.NodeKind.TheVariants.{NextArg}
use Rattle.core_tree.specs.Rows.{RowOf}
use Rattle.core_tree.specs.Typed.{CoreTrees, type_at}
use Rattle.obj_space.specs.Spots.{Reached, part_at}
use Rattle.mod_ref.specs.declared.access.Access.TheVariants.{Write}
use Rattle.mod_ref.specs.Direct.{place_of, accessed}
use Rattle.row_numbers.specs.Objects.{library_id}
use Rattle.ref_cells.specs.declared.cells.Reason.{Reason}
use Rattle.ref_cells.specs.declared.cells.Cell.{Cell}
use Rattle.ref_cells.specs.declared.cells.Cell.TheVariants.{Unset, Number, Null, Pointer, Function}
use Rattle.ref_cells.specs.declared.cells.Value.{Value}
use Rattle.ref_cells.specs.declared.instance.Instance.{Instance}
use Rattle.ref_cells.specs.Wholes.{typed_whole, whole_of}
use Rattle.ref_mem.specs.Reads.{read}
use Rattle.ref_mem.specs.Writes.{write}
use Rattle.ref_elements.specs.declared.outcome.Next.{Next}
use Rattle.ref_elements.specs.declared.outcome.Next.TheVariants.{Done, Again, Calls, Keeps as KeepsFunction, Ends as EndsRun}
use Rattle.ref_elements.specs.Arguments.{argument}
use Rattle.ref_elements.specs.Runs.{live_at}
use Rattle.ref_lib.specs.Effects.{effect}
use Rattle.ref_state.specs.declared.items.Item.{Item}
use Rattle.ref_state.specs.declared.items.Item.TheVariants.{Do, Wait, Library, Result as Returned}
use Rattle.ref_state.specs.declared.frames.Frame.{Frame}
use Rattle.ref_state.specs.declared.state.State.{State}
use Rattle.ref_state.specs.Changes.{ended_all}
use Rattle.ref_state.specs.Items.{settled}
use Rattle.ref_state.specs.Values.{no_value, cell_of, cell_in}
use Rattle.ref_frames.specs.Running.{Running, element_type}
use Rattle.ref_frames.specs.Frames.{entered, all_ended, left_start, left_with}
use Rattle.ref_frames.specs.OnTop.{only, on_top}
use Rattle.ref_statements.specs.Rows.{Row}
use Rattle.ref_statements.specs.Nodes.{do_row, wait_row}
use Rattle.ref_calls.specs.declared.lists.Taken.{Taken}
use Rattle.ref_calls.specs.Library.{object_of, result_in, term_in, performed_as, performed, comparison_of, back_by, goes_by, library_row}
use Rattle.ref_calls.specs.Lists.{argument_at, taken_by, taken, put_back, taken_over, taken_at, settled_by, is_next, next_row}
use Rattle.ref_calls.specs.Outcomes.{Goes, Stops, outcome}
use Rattle.ref_calls.specs.Reached.{reached as reached_target}
use Rattle.ref_machine.specs.Step.{placed, noted, called, call_row, calls, is_next_at, takes, waited, leaves, item_step, frames_step, step}
use Rattle.covering_laws.specs.covered_memory.Spots.{whole_part, part_in, room, IsInTree}
use Rattle.covering_laws.specs.covered_state.World.{World, trees_of}
use Rattle.covering_laws.specs.covered_state.Items.{Each, IsOwned, ItemIn}
use Rattle.covered_runs.specs.covered_steps.Steps.{NoneBare}
use Rattle.covered_runs.specs.covered_steps.covered_statements.Rows.{running_in}
use Rattle.covered_runs.specs.covered_steps.covered_statements.Stacked.{PendingOn, Stacked, FramesStand}
use Rattle.covered_runs.proofs.covered_steps.Steps.{own_items, none_bare}
use Rattle.covered_runs.proofs.covered_steps.covered_values.Operands.{went, ok_one, err_ok}
use Rattle.covered_runs.specs.machine_sound.Carried.{IsSteppable}
use Rattle.covered_runs.specs.touched_runs.called_frames.Layers.{IsEntity, StandsOnCall, AreLayered, FramesLayered}
use Rattle.covered_runs.specs.touched_runs.called_frames.Laws.{Layered}
use Rattle.covered_runs.specs.touched_runs.called_frames.Looked.{looked_by}
use Rattle.covered_runs.specs.touched_runs.Accesses.{IsOfPlace, ItemAccesses, MayHold}
use Rattle.covered_runs.proofs.touched_runs.Given.{looked}
use Rattle.changed_cells.specs.Cells.{ItemFills, FramesWrite, IsWritten, StaysBut}
use Rattle.changed_cells.specs.Laws.{StepsWriteOnly}
use Rattle.changed_cells.proofs.Puts.{IsNearWritten}
use Rattle.changed_cells.proofs.Kept.{Same, same_memory, then_same, more_same, Stays, Keeps, same_keeps, keeps_then_same, write_keeps}
use Rattle.changed_cells.proofs.Values.{with_it, Leaves}
use Rattle.changed_cells.proofs.Statements.{ended_all_same}
use Rattle.changed_cells.proofs.Nodes.{RowLeaves, do_leaves, wait_leaves}
use Rattle.changed_cells.proofs.Elements.{IsThrough}
use Rattle.changed_cells.proofs.Library.{effect_leaves}

some_one : {X : Type 0} → {x y : X} → ◌≡◌ {A = Option X} (Some x) (Some y) → x ≡ y
some_one h = cc

goes_one : {a b : State} → Goes a ≡ Goes b → a ≡ b
goes_one h = cc

stops_goes : {reason : Reason} → {n : ℕ} → {s : State} → Stops reason n ≡ Goes s → ⊥
stops_goes h = cc

goes_ok : (n : ℕ) (r : Result State Reason) (next : State) → outcome n r ≡ Goes next → ◌≡◌ {A = Result State Reason} r (Ok next)
goes_ok n (Ok s) next e = ap (λ (x : State). let r : Result State Reason = Ok x in r) (goes_one e)
goes_ok n (Err reason) next e = absurd (stops_goes e)

-- what holds of each answer holds of the one that there is
at_ok : {X : Type 0} (r : Result X Reason) (x : X) (P : X → Type 0) → IfOk r P → ◌≡◌ {A = Result X Reason} r (Ok x) → P x
at_ok (Ok y) x P h e = subst P (ok_one e) h
at_ok (Err reason) x P h e = absurd (err_ok e)

library_wait : {n k m : ℕ} → {arguments : List Value} → {left : List ℕ} → {values : List (ℕ × Value)} → Library n k arguments ≡ Wait m left values → ⊥
library_wait h = cc

unset_pointer : {i : ℕ} → {path : List PathStep} → {past : Bool} → Unset ≡ Pointer i path past → ⊥
unset_pointer h = cc

owner_of : (world : World) (key : ObjectKey) (n : ℕ) → IsOwned world key n → IsEntity key
owner_of world (EntityKey e) n h = (e, refl)
owner_of world key n h = absurd h

-- ---- lists of arguments
the_list : (t : Ctype) → IsList t → t ≡ VaListType
the_list VaListType h = refl
the_list VoidType h = absurd h
the_list BoolType h = absurd h
the_list (IntegerType size rank signed) h = absurd h
the_list FloatingType h = absurd h
the_list (PointerTo to) h = absurd h
the_list (ArrayOf of n) h = absurd h
the_list (FunctionFrom r ps f) h = absurd h
the_list (StructureOf tag) h = absurd h
the_list (UnionOf tag) h = absurd h

is_next_kind : (kind : NodeKind) → is_next kind ≡ true → kind ≡ NextArg
is_next_kind NextArg h = refl
is_next_kind kind h = absurd (false≢true h)

-- what a list gives comes with the place where the list stands
taken_place : (w : Running) (memory : List Instance) (frames : List Frame) (place : Cell) (t : Ctype) (cell : Cell) (x : Taken) → taken_by w memory frames place t cell ≡ Ok x → x.place ≡ place
taken_place w memory frames place t (Pointer i (Index k ∷ []) false) x e =
    let q = went (live_at (slice_get memory i)) _ x e in
    let r = went (argument_at w frames i k t q.0) _ x q.2 in
    ap (λ (y : Taken). y.place) (sym (ok_one r.2))
taken_place w memory frames place t (Pointer i (Index k ∷ []) true) x e = absurd (err_ok e)
taken_place w memory frames place t (Pointer i (Index k ∷ s ∷ rest) past) x e = absurd (err_ok e)
taken_place w memory frames place t (Pointer i (Member k ∷ rest) past) x e = absurd (err_ok e)
taken_place w memory frames place t (Pointer i [] past) x e = absurd (err_ok e)
taken_place w memory frames place t Null x e = absurd (err_ok e)
taken_place w memory frames place t Unset x e = absurd (err_ok e)
taken_place w memory frames place t (Number n) x e = absurd (err_ok e)
taken_place w memory frames place t (Function key) x e = absurd (err_ok e)

-- ---- frames that end
all_ended_same : (memory : List Instance) (frames : List Frame) → Same memory (all_ended memory frames)
all_ended_same memory [] = same_memory memory
all_ended_same memory (f ∷ rest) =
    then_same memory (ended_all memory f.instances) (all_ended (ended_all memory f.instances) rest) (ended_all_same memory f.instances) (all_ended_same (ended_all memory f.instances) rest)

left_same : (u : CoreTrees) (entries : List ℕ) (state : State) (f : Frame) (rest : List Frame) (value : Value) (call by : Option ℕ) → Same state.memory (left_with u entries state f rest value call by).memory
left_same u entries state f rest value (Some n) by = ended_all_same state.memory f.instances
left_same u entries state f rest value None (Some k) = ended_all_same state.memory f.instances
left_same u entries state f rest value None None = start entries
  where
    start : (list : List ℕ) → Same state.memory (left_start u list state f rest value).memory
    start [] = all_ended_same state.memory state.frames
    start (e ∷ more) = ended_all_same state.memory f.instances

-- ---- a function of the library that goes on
module _ (w : Running) (state next : State) (f : Frame) (rest : List Frame) (n : ℕ) where
  same_as : (s : State) → ◌≡◌ {A = Result State Reason} (Ok s) (Ok next) → Same state.memory s.memory → Same state.memory next.memory
  same_as s e h = subst (λ (x : State). Same state.memory x.memory) (ok_one e) h

  backed_same : (by : ℕ) (arguments : List Value) (key : ObjectKey) → back_by w state f rest n by arguments key ≡ Ok next → Same state.memory next.memory
  backed_same by arguments (EntityKey e) h =
      let q = went (entered w (length state.memory) (record { function = e; call = None; by = Some by }) arguments) _ next h in
      same_as (on_top state (f ∷ rest) (only q.0.stores) q.0) q.2 (more_same state.memory q.0.fresh)
  backed_same by arguments (FunctionKey k) h = same_as _ h (same_memory state.memory)
  backed_same by arguments key h = absurd (err_ok h)

  goes_same : (k : ℕ) (value : Value) (stores : List (Cell × Cell)) (how : Next) → goes_by w state f rest n k value stores how ≡ Ok next → Same state.memory next.memory
  goes_same k value stores Done h = same_as _ h (same_memory state.memory)
  goes_same k value stores Again h = same_as _ h (same_memory state.memory)
  goes_same k value stores (Calls callee arguments) h =
      let q = went (comparison_of w.trees callee) _ next h in
      backed_same k arguments q.0 q.2
  goes_same k value stores (KeepsFunction cell) h = same_as _ h (same_memory state.memory)
  goes_same k value stores (EndsRun status at_once) h = same_as _ h (all_ended_same state.memory (f ∷ rest))

-- ---- the step
module _ (world : World) (characters : TypeId) (h : IsSteppable world characters) (state next : State) (word : ℕ) (now : Layered world state) (f : Frame) (rest : List Frame) (frames_are : state.frames ≡ f ∷ rest) where
  abbrev u : CoreTrees
  u = trees_of world

  abbrev w : Running
  w = running_in world characters

  -- the cells of an instance that the step writes
  abbrev IsOwnWrite : ℕ → List PathStep → Type 0
  IsOwnWrite i p =
      ItemAccesses (trees_of world) state.memory f.instances Write f.items i p ⊎ ((inst : Instance) × (slice_get state.memory i ≡ Some inst) × ItemFills f.items inst.key)

  abbrev IsKept : List Instance → Type 0
  IsKept after = Keeps world.program.types IsOwnWrite state.memory after

  kept_as : (s : State) → ◌≡◌ {A = Result State Reason} (Ok s) (Ok next) → IsKept s.memory → IsKept next.memory
  kept_as s e k = subst (λ (x : State). IsKept x.memory) (ok_one e) k

  same_kept : (after : List Instance) → Same state.memory after → IsKept after
  same_kept after k = same_keeps world.program.types IsOwnWrite state.memory after k

  -- ---- nodes
  row_kept : (row : Row) → RowLeaves (trees_of world) state.memory IsOwnWrite f row → placed state rest row ≡ Ok next → IsKept next.memory
  row_kept (Ok x) k e = kept_as _ e k
  row_kept (Err reason) k e = absurd (err_ok e)

  left_kept : (value : Value) → leaves w state f rest value ≡ next → IsKept next.memory
  left_kept value e = subst (λ (x : State). IsKept x.memory) e (same_kept _ (left_same (trees_of world) world.program.entries.items state f rest value f.call f.by))

  do_kept : (n : ℕ) (items : List Item) → f.items ≡ Do n ∷ items → placed state rest (do_row (trees_of world) state.memory f n word) ≡ Ok next → IsKept next.memory
  do_kept n items is e =
      row_kept (do_row (trees_of world) state.memory f n word)
      (do_leaves (trees_of world) state.memory IsOwnWrite f n word
      (λ node at childless i path accesses. inl (subst (λ (xs : List Item). ItemAccesses (trees_of world) state.memory f.instances Write xs i path) (sym is) (node, at, childless, accesses)))) e

  module _ (n : ℕ) (values : List (ℕ × Value)) (items : List Item) where
    wait_kept : (operands : List ℕ) → f.items ≡ Wait n operands values ∷ items → placed state rest (wait_row (trees_of world) state.memory f n operands values word) ≡ Ok next → IsKept next.memory
    wait_kept operands is e =
        row_kept (wait_row (trees_of world) state.memory f n operands values word)
        (wait_leaves (trees_of world) state.memory IsOwnWrite f n operands values word
        (λ none node at i path accesses. inl (subst (λ (xs : List Item). ItemAccesses (trees_of world) state.memory f.instances Write xs i path)
        (sym (is ∙ ap (λ (list : List ℕ). Wait n list values ∷ items) none)) (node, at, accesses)))) e

    -- a call
    called_kept : (key : ObjectKey) (arguments : List Value) → called w state f rest n key arguments ≡ Ok next → IsKept next.memory
    called_kept (EntityKey e) arguments k =
        let q = went (entered w (length state.memory) (record { function = e; call = Some n; by = None }) arguments) _ next k in
        kept_as (on_top state (f ∷ rest) (noted (trees_of world) n (EntityKey e) q.0.stores) q.0) q.2 (same_kept _ (more_same state.memory q.0.fresh))
    called_kept (FunctionKey j) arguments k = kept_as _ k (same_kept state.memory (same_memory state.memory))
    called_kept key arguments k = absurd (err_ok k)

    call_kept : call_row w state f rest n values ≡ Ok next → IsKept next.memory
    call_kept k = (let q = went (reached_target (trees_of world) n values) _ next k in called_kept q.0.key q.0.arguments q.2)

    -- the next argument of a list
    module _ (is : f.items ≡ Wait n [] values ∷ items) (node : Node) (at : slice_get (trees_of world).nodes n ≡ Some node) (kind : node.kind ≡ NextArg) where
      list_type : (q : ℕ) → node.children ≡ q ∷ [] → type_at (trees_of world) q ≡ VaListType
      list_type q children =
          the_list (type_at (trees_of world) q)
          (subst (λ (cs : List ℕ). RowOf (trees_of world) NextArg (type_of world.program.types node.ty.0) cs) children
          (subst (λ (k : NodeKind). RowOf (trees_of world) k (type_of world.program.types node.ty.0) node.children) kind (h.runs.stands.rows n node at))).0.1

      list_written : (q : ℕ) → node.children ≡ q ∷ [] → (i : ℕ) (path : List PathStep) → IsOfPlace world.program.types state.memory (cell_in values q) VaListType i path → IsOwnWrite i path
      list_written q children i path of =
          let place : place_of Write node.kind node.children ≡ Some q = ap (λ (k : NodeKind). place_of Write k node.children) kind ∙ ap (λ (cs : List ℕ). place_of Write NextArg cs) children in
          let type : VaListType ≡ accessed node.kind (type_of world.program.types node.ty.0) = sym (ap (λ (k : NodeKind). accessed k (type_of world.program.types node.ty.0)) kind) in
          inl (subst (λ (xs : List Item). ItemAccesses (trees_of world) state.memory f.instances Write xs i path) (sym is) (
            node,
            at,
            inl (q, place, subst (λ (t : Ctype). IsOfPlace world.program.types state.memory (cell_in values q) t i path) type of),
          ))

      back_leaves : (q : ℕ) → node.children ≡ q ∷ [] → (x : Taken) → x.place ≡ cell_in values q → Leaves (trees_of world) state.memory IsOwnWrite (put_back world.program.types state.memory (type_at (trees_of world) q) x)
      back_leaves q children x place =
          with_it (write world.program.types state.memory x.place (type_at (trees_of world) q) x.list) _ _
          (λ after e. write_keeps world.program.types IsOwnWrite state.memory x.place (type_at (trees_of world) q) x.list after
          (λ i path of. list_written q children i path
          (subst (λ (c : Cell). IsOfPlace world.program.types state.memory c VaListType i path) place (subst (λ (t : Ctype). IsOfPlace world.program.types state.memory x.place t i path) (list_type q children) of))) e)

      taken_leaves : (children : List ℕ) → node.children ≡ children → Leaves (trees_of world) state.memory IsOwnWrite (taken_over w state.memory (f ∷ rest) (type_of world.program.types node.ty.0) children values)
      taken_leaves [] children = tt
      taken_leaves (q ∷ r ∷ more) children = tt
      taken_leaves (q ∷ []) children =
          with_it (taken w state.memory (f ∷ rest) (cell_in values q) (type_at (trees_of world) q) (type_of world.program.types node.ty.0)) _ _
          (λ x e. (let r = went (read world.program.types state.memory (cell_in values q) (type_at (trees_of world) q)) _ x e in
          back_leaves q children x (taken_place w state.memory (f ∷ rest) (cell_in values q) (type_of world.program.types node.ty.0) (cell_of r.0) x r.2)))

    next_kept : f.items ≡ Wait n [] values ∷ items → (o : Option Node) → slice_get (trees_of world).nodes n ≡ o → is_next_at o ≡ true → settled_by state f rest n (taken_at w state.memory (f ∷ rest) o values) ≡ Ok next → IsKept next.memory
    next_kept is None at takes_it e = absurd (false≢true takes_it)
    next_kept is (Some node) at takes_it e =
        let q = went (taken_at w state.memory (f ∷ rest) (Some node) values) _ next e in
        let kept = at_ok (taken_at w state.memory (f ∷ rest) (Some node) values) q.0 (λ x. Keeps world.program.types IsOwnWrite state.memory x.memory) (taken_leaves is node at (is_next_kind node.kind takes_it) node.children refl) q.1 in
        kept_as _ q.2 kept

    row_next : f.items ≡ Wait n [] values ∷ items → is_next_at (slice_get (trees_of world).nodes n) ≡ true → next_row w state f rest n values ≡ Ok next → IsKept next.memory
    unfolding next_row
    row_next is takes_it e = next_kept is (slice_get (trees_of world).nodes n) refl takes_it e

    waited_kept : (operands : List ℕ) → f.items ≡ Wait n operands values ∷ items → waited w state f rest n operands values word ≡ Ok next → IsKept next.memory
    waited_kept operands is e = by (calls (trees_of world) n operands) e
      where
        own : (list : List ℕ) → f.items ≡ Wait n list values ∷ items → takes (trees_of world) n list ≡ true → next_row w state f rest n values ≡ Ok next → IsKept next.memory
        own [] same takes_it k = row_next same takes_it k
        own (c ∷ more) same takes_it k = absurd (false≢true takes_it)

        other : (b : Bool) → takes (trees_of world) n operands ≡ b → cond b (next_row w state f rest n values) (placed state rest (wait_row (trees_of world) state.memory f n operands values word)) ≡ Ok next → IsKept next.memory
        other true b_is k = own operands is b_is k
        other false b_is k = wait_kept operands is k

        by : (b : Bool) → cond b (call_row w state f rest n values)
            (cond (takes (trees_of world) n operands) (next_row w state f rest n values) (placed state rest (wait_row (trees_of world) state.memory f n operands values word))) ≡ Ok next → IsKept next.memory
        by true k = call_kept k
        by false k = other (takes (trees_of world) n operands) refl k

  -- ---- the library
  module _ (n k : ℕ) (arguments : List Value) (items : List Item) (items_are : f.items ≡ Library n k arguments ∷ items) where
    stacked : Stacked (trees_of world).nodes (PendingOn world state.memory) (Library n k arguments ∷ items)
    stacked = subst (Stacked (trees_of world).nodes (PendingOn world state.memory)) items_are (subst (FramesStand world state.memory) frames_are now.carried.steady.stacked).0

    layered : AreLayered f.function (Library n k arguments ∷ items)
    layered = subst (AreLayered f.function) items_are (subst FramesLayered frames_are now.layered).0

    each : Each (ItemIn world state.memory f.function) (Library n k arguments ∷ items)
    each = own_items world state f rest now.carried.steady.covered frames_are (Library n k arguments) items items_are

    none : NoneBare world state.memory
    none = none_bare world state f rest now.carried.steady.covered frames_are (Library n k arguments) items items_are (λ m values node same there kind. library_wait same)

    entity : (arguments ≡ [] → ⊥) → IsEntity f.function
    entity some = by items layered.0 each.1
      where
        by : (xs : List Item) → StandsOnCall f.function n k arguments xs → Each (ItemIn world state.memory f.function) xs → IsEntity f.function
        by [] on own = absurd (some on.1)
        by (Wait m left values ∷ more) on own = owner_of world f.function m own.0.0
        by (Library m j others ∷ more) on own = on.2
        by (Do m ∷ more) on own = absurd on
        by (Returned v ∷ more) on own = absurd on

    argument_tree : (m : ℕ) → Contains (looked_by k) m → (i : ℕ) (path : List PathStep) (past : Bool) → argument arguments m ≡ Pointer i path past → (inst : Instance) → slice_get state.memory i ≡ Some inst
        → IsInTree world.program.types (whole_of world.program.types inst) (room inst) path
    argument_tree m looks i path past is inst at =
        let e = entity (λ empty. unset_pointer (sym (ap (λ (xs : List Value). argument xs m) empty) ∙ is)) in
        let own = subst (λ (x : ObjectKey). AreLayered x (Library n k arguments ∷ items)) e.1 layered in
        let through = looked world characters h state f rest now.carried.steady.covered none e.0 n k arguments items stacked own m looks in
        let point = through.held i path past is in
        subst (λ (x : Instance). IsInTree world.program.types (whole_of world.program.types x) (room x) path) (some_one (sym point.inst_is ∙ at)) point.in_tree

    through : (m : ℕ) → Contains (looked_by k) m → IsThrough world.program.types state.memory IsOwnWrite (argument arguments m)
    through m looks = record {
      tree = argument_tree m looks;
      writes = λ i path past is beside below is_beside.
          inl (subst (λ (xs : List Item). ItemAccesses (trees_of world) state.memory f.instances Write xs i (beside ++ below)) (sym items_are) (
            m,
            looks,
            record { front = path; past = past; argument_is = is; beside = beside; is_beside = is_beside; below = below; path_is = refl },
          ));
    }

    filled : k ≡ 53 → (i : ℕ) (inst : Instance) → slice_get state.memory i ≡ Some inst → inst.key ≡ LibraryKey 8 → (p : List PathStep) → IsOwnWrite i p
    filled number i inst at key p = inr (inst, at, subst (λ (xs : List Item). ItemFills xs inst.key) (sym items_are) (number, key))

    as_leaves : (o : Option TypeId) → IfOk (performed_as w state.memory n k arguments word o) (λ e. IsKept e.memory)
    as_leaves None = tt
    as_leaves (Some result) =
        effect_leaves world.program.types state.memory IsOwnWrite k (object_of (trees_of world) n k) (element_type w (object_of (trees_of world) n k)) result arguments word filled through

    performed_leaves : IfOk (performed w state.memory n k arguments word) (λ e. IsKept e.memory)
    unfolding performed
    performed_leaves = as_leaves (result_in (term_in (trees_of world) (library_id k (trees_of world).entities)))

    library_kept : library_row w state f rest n k arguments word ≡ Ok next → IsKept next.memory
    unfolding library_row
    library_kept e =
        let q = went (performed w state.memory n k arguments word) _ next e in
        keeps_then_same world.program.types IsOwnWrite state.memory q.0.memory next.memory
        (at_ok (performed w state.memory n k arguments word) q.0 (λ x. Keeps world.program.types IsOwnWrite state.memory x.memory) performed_leaves q.1)
        (goes_same w (record state { memory = q.0.memory }) next f rest n k q.0.outcome.value q.0.outcome.stores q.0.outcome.next q.2)

  item_kept : (items : List Item) → f.items ≡ items → item_step w state f rest items word ≡ Goes next → IsKept next.memory
  item_kept [] is e = left_kept no_value (goes_one e)
  item_kept (Do n ∷ items) is e = do_kept n items is (goes_ok n (placed state rest (do_row (trees_of world) state.memory f n word)) next e)
  item_kept (Wait n operands values ∷ items) is e = waited_kept n values items operands is (goes_ok n (waited w state f rest n operands values word) next e)
  item_kept (Library n k arguments ∷ items) is e = library_kept n k arguments items is (goes_ok n (library_row w state f rest n k arguments word) next e)
  item_kept (Returned value ∷ items) is e = left_kept value (goes_one e)

  step_kept : step w state word ≡ Goes next → IsKept next.memory
  unfolding step
  step_kept e = item_kept f.items refl (sym (ap (λ (frames : List Frame). frames_step w state frames word) frames_are) ∙ e)

  -- ---- as cells of the machine
  holds : (o : Option Ctype) (p : List PathStep) (r : Reached) → part_at world.program.types (whole_part o) p ≡ Some r → MayHold world.program.types o p
  holds None p r is = tt
  holds (Some t) p r is = subst (λ (o : Option Reached). IsSome o) (sym is) refl

  module _ (i : ℕ) (old : Instance) (at : slice_get state.memory i ≡ Some old) where
    written : (p : List PathStep) → MayHold world.program.types (whole_of world.program.types old) p → IsOwnWrite i p → FramesWrite (trees_of world) state.memory (f ∷ rest) i old.key p
    written p may (inl accesses) = inl (accesses, record { inst = old; there = at; key_is = refl; may_hold = may })
    written p may (inr (inst, inst_at, fills)) = inr (subst (λ (x : Instance). ItemFills f.items x.key) (some_one (sym inst_at ∙ at)) fills)

    near : (path : List PathStep) (part : Reached) → part_in world.program.types old path ≡ Some part → IsNearWritten world.program.types (IsOwnWrite i) (whole_part (whole_of world.program.types old)) path
        → IsWritten (trees_of world) state.memory (f ∷ rest) i old path
    near path part part_is (inl own) = record { cell = path; written = written path (holds (whole_of world.program.types old) path part part_is) own; same = inl refl }
    near path part part_is (inr (p, own, (r, r_is), union)) = record { cell = p; written = written p (holds (whole_of world.program.types old) p r r_is) own; same = inr union }

    bare_holds : old.ty ≡ None → (p : List PathStep) → MayHold world.program.types (whole_of world.program.types old) p
    bare_holds untyped p = subst (λ (o : Option Ctype). MayHold world.program.types o p) (sym (ap (typed_whole world.program.types old) untyped)) tt

    stays_but : (new : Instance) → Stays world.program.types (IsOwnWrite i) old new → StaysBut (trees_of world) state.memory (f ∷ rest) i old new
    stays_but new s = record {
      key = s.key;
      bytes = s.bytes;
      ty = s.ty;
      cells = λ path part part_is plain. elim (s.cells path part part_is plain) [ inl same ↦ inl same | inr close ↦ inr (near path part part_is close) ];
      bare = λ untyped. elim (s.bare untyped) [
        | inl same ↦ inl same
        | inr own ↦ inr (λ k path. written (Index k ∷ path) (bare_holds untyped (Index k ∷ path)) (own k path))
      ];
    }

    pub step_stays : step w state word ≡ Goes next → (new : Instance) × (slice_get next.memory i ≡ Some new) × StaysBut (trees_of world) state.memory state.frames i old new
    step_stays e =
        let b = step_kept e i old at in
        (b.0, b.1, subst (λ (frames : List Frame). StaysBut (trees_of world) state.memory frames i old b.0) (sym frames_are) (stays_but b.0 b.2))

pub steps_write_only : StepsWriteOnly
steps_write_only world characters state next f rest word i old h now frames_are e at = step_stays world characters h state next word now f rest frames_are i old at e
