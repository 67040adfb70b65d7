-- Where a step stops for a bad call the node is listed, and so in each run.
use Rattle.std.proofs.Common.{◌≡◌, ◌∙◌, ◌⊎◌, inl, inr, ℕ, ◌-◌, Bool, true, false, cond, ℤ, List, [], ◌∷◌, length, map, Option, Some, None, Result, Ok, Err, slice_get, refl, sym, ap, subst}
use Rattle.c_types.specs.declared.key.ObjectKey.{ObjectKey}
use Rattle.c_types.specs.declared.key.ObjectKey.TheVariants.{Entity as EntityKey, Function as FunctionKey}
use Rattle.core_tree.specs.declared.node.Node.{Node}
use Rattle.core_tree.specs.declared.node.NodeKind.{NodeKind}
use Rattle.core_tree.specs.declared.node.NodeKind.TheVariants.{CallNode}
use Rattle.core_tree.specs.declared.node.Program.{Program}
use Rattle.core_tree.specs.Valid.{ValidProgram}
use Rattle.sol_model.specs.declared.system.System.{System}
use Rattle.sol_model.specs.Families.{Family}
use Rattle.obj_space.specs.Space.{locations_in}
use Rattle.stop_places.specs.Sight.{solution_of}
use Rattle.stop_places.specs.Stops.{BadCallBy, Stands}
use Rattle.ref_cells.specs.declared.cells.Reason.{Reason}
use Rattle.ref_cells.specs.declared.cells.Reason.TheVariants.{Unset as UnsetUse, Mismatch, BadCall}
use Rattle.ref_cells.specs.declared.cells.Value.{Value}
use Rattle.ref_elements.specs.Runs.{◌>>=◌}
use Rattle.ref_state.specs.declared.items.Item.{Item}
use Rattle.ref_state.specs.declared.items.Item.TheVariants.{Do, Wait, Library, Result as Returned}
use Rattle.ref_state.specs.declared.frames.Frame.{Frame}
use Rattle.ref_state.specs.declared.state.State.{State}
use Rattle.ref_state.specs.ref_types.Types.{id, types_with}
use Rattle.ref_state.specs.Values.{value_in, cell_in}
use Rattle.ref_values.specs.Values.{lacks}
use Rattle.ref_statements.specs.Rows.{Row}
use Rattle.ref_statements.specs.Nodes.{do_row, wait_row}
use Rattle.ref_frames.specs.declared.entering.Activation.{Activation}
use Rattle.ref_frames.specs.OnTop.{on_top}
use Rattle.ref_frames.specs.Running.{Running}
use Rattle.ref_calls.specs.declared.reached.Target.{Target}
use Rattle.ref_calls.specs.Calls.{callee_of}
use Rattle.ref_calls.specs.Ending.{last_of, kept_called, end_step}
use Rattle.ref_calls.specs.Library.{library_row}
use Rattle.ref_calls.specs.Lists.{next_row}
use Rattle.ref_calls.specs.Outcomes.{Goes, Ends, Stops, outcome}
use Rattle.ref_calls.specs.Reached.{reached_by, children_of, reached}
use Rattle.ref_start.specs.Entries.{starts}
use Rattle.ref_machine.specs.Run.{run}
use Rattle.ref_machine.specs.Step.{placed, noted, called, call_row, calls, takes, waited, item_step, outside_step, frames_step, step}
use Rattle.covering_laws.proofs.grown_programs.Listed.{function_there}
use Rattle.covering_laws.specs.covered_state.World.{World, trees_of, view_in, IsFunctionAt}
use Rattle.covering_laws.specs.covered_state.Items.{Each, NodeIn}
use Rattle.covering_laws.specs.covered_state.State.{KeptIn}
use Rattle.covered_runs.proofs.covered_steps.Steps.{each_at, own_items}
use Rattle.covered_runs.specs.covered_steps.covered_effects.Steps.{HasReached}
use Rattle.covered_runs.proofs.covered_steps.covered_effects.Reaching.{reached_covered}
use Rattle.covered_runs.specs.covered_steps.covered_statements.Rows.{running_in}
use Rattle.covered_runs.specs.machine_sound.covered_start.Objects.{IsSolved}
use Rattle.covered_runs.specs.machine_sound.covered_start.Start.{machine_world}
use Rattle.covered_runs.specs.machine_sound.Carried.{Carried, IsSteppable}
use Rattle.covered_runs.proofs.machine_sound.Rows.{IsCall, call_here}
use Rattle.covered_runs.proofs.machine_sound.Scenes.{solved, steppable, carried}
use Rattle.covered_runs.proofs.covered_programs.Programs.{scene}
use Rattle.listed_stops.specs.Listed.{CallsNumber, TellsTypes, BadCallsListed}
use Rattle.listed_stops.proofs.Fair.{Fair, not_fair, either_fair}
use Rattle.listed_stops.proofs.FairRows.{do_fair, wait_fair}
use Rattle.listed_stops.proofs.FairCalls.{enters_fair, next_fair, starts_fair}
use Rattle.listed_stops.proofs.Ends.{IsBadAt, library_bad, kept_bad}
use Rattle.listed_stops.proofs.Strangers.{callee_bad}

goes_stops : {s : State} → {reason : Reason} → {n : ℕ} → Goes s ≡ Stops reason n → ⊥
goes_stops h = cc

ends_stops : {status : ℤ} → {reason : Reason} → {n : ℕ} → Ends status ≡ Stops reason n → ⊥
ends_stops h = cc

reason_one : {a b : Reason} → {n m : ℕ} → Stops a n ≡ Stops b m → a ≡ b
reason_one h = cc

node_one : {a b : Reason} → {n m : ℕ} → Stops a n ≡ Stops b m → n ≡ m
node_one h = cc

err_one : {X : Type 0} → {a b : Reason} → ◌≡◌ {A = Result X Reason} (Err a) (Err b) → a ≡ b
err_one h = cc

ok_err : {X : Type 0} → {x : X} → {a : Reason} → ◌≡◌ {A = Result X Reason} (Ok x) (Err a) → ⊥
ok_err h = cc

mismatch_bad : Mismatch ≡ BadCall → ⊥
mismatch_bad h = cc

-- a stop is that of a row, at the row's node
outcome_stops : (n m : ℕ) (r : Result State Reason) → outcome n r ≡ Stops BadCall m → (◌≡◌ {A = Result State Reason} r (Err BadCall)) × (n ≡ m)
outcome_stops n m (Ok state) e = absurd (goes_stops e)
outcome_stops n m (Err reason) e = (ap (λ (x : Reason). let r : Result State Reason = Err x in r) (reason_one e), node_one e)

-- one of two things stops
stopped : {A B : Type 0} (r : Result A Reason) (f : A → Result B Reason) → ◌≡◌ {A = Result B Reason} (r >>= f) (Err BadCall)
    → (◌≡◌ {A = Result A Reason} r (Err BadCall)) ⊎ ((x : A) × (◌≡◌ {A = Result A Reason} r (Ok x)) × (◌≡◌ {A = Result B Reason} (f x) (Err BadCall)))
stopped (Ok x) f e = inr (x, refl, e)
stopped {A = A} (Err reason) f e = inl (ap (λ (x : Reason). let r : Result A Reason = Err x in r) (err_one e))

placed_fair : (state : State) (rest : List Frame) (row : Row) → Fair row → Fair (placed state rest row)
placed_fair state rest (Ok next) h = tt
placed_fair state rest (Err reason) h = h

module _ (p : Program) (system : System) (family : Family) (valid : ValidProgram p) (told : TellsTypes p) (s : IsSolved p system family) (h : IsSteppable (machine_world p system family s) (id (length p.types.terms))) (state : State) (word : ℕ)
    (now : Carried (machine_world p system family s) state) where
  abbrev world : World
  world = machine_world p system family s

  abbrev w : Running
  w = running_in world (id (length p.types.terms))

  -- what is said of a node at which the step stops
  abbrev IsListed : ℕ → Type 0
  IsListed n = IsBadAt world n ⊎ CallsNumber p.nodes.items state n

  module _ (f : Frame) (rest : List Frame) (frames_are : state.frames ≡ f ∷ rest) where
    -- a call, all of whose operands are there
    module _ (n : ℕ) (values : List (ℕ × Value)) (items : List Item) (items_are : f.items ≡ Wait n [] values ∷ items) (node : Node) (there : slice_get (trees_of world).nodes n ≡ Some node) (kind : node.kind ≡ CallNode) where
      each : Each (λ v. NodeIn world state.memory v.0 v.1) values
      each = (own_items world state f rest now.steady.covered frames_are (Wait n [] values) items items_are).0.2

      -- it reaches nothing
      unreached : reached (trees_of world) n values ≡ Err BadCall → IsListed n
      unfolding reached
      unreached e = by node.children refl (sym (ap (λ (o : Option Node). reached_by (trees_of world) (children_of o) values) there) ∙ e)
        where
          given : (arguments : List ℕ) (key : ObjectKey)
              → (let r : Result Target Reason = cond (lacks (trees_of world) values arguments) (Err UnsetUse) (Ok (record { key = key; arguments = map (value_in values) arguments })) in r) ≡ Err BadCall → IsListed n
          given arguments key g =
              absurd (not_fair _
              (either_fair (lacks (trees_of world) values arguments) (Err UnsetUse) (Ok (record { key = key; arguments = map (value_in values) arguments })) tt tt) g)

          by : (children : List ℕ) → node.children ≡ children → reached_by (trees_of world) children values ≡ Err BadCall → IsListed n
          by [] is g = absurd (mismatch_bad (err_one g))
          by (c ∷ arguments) is g =
              elim (stopped (callee_of (trees_of world) c arguments (cell_in values c))
              (λ (key : ObjectKey). let r : Result Target Reason = cond (lacks (trees_of world) values arguments) (Err UnsetUse) (Ok (record { key = key; arguments = map (value_in values) arguments })) in r) g) [
                | inl callee ↦
                    elim (callee_bad p system family valid told s h.runs (id (length p.types.terms)) h.served n node there kind state.memory now.steady.covered.memory values each c arguments is callee) [
                      | inl bad ↦ inl bad
                      | inr number ↦
                          inr (record {
                            frame = f;
                            rest = rest;
                            frames_are = frames_are;
                            values = values;
                            items = items;
                            items_are = items_are;
                            node = node;
                            there = there;
                            kind = kind;
                            callee = c;
                            arguments = arguments;
                            children_are = is;
                            number = number.0;
                            called = number.1;
                          })
                    ]
                | inr went ↦ given arguments went.0 went.2
              ]

      -- what it reaches is a function
      reaches : (target : Target) → reached (trees_of world) n values ≡ Ok target → (key : ObjectKey) → target.key ≡ key → called w state f rest n key target.arguments ≡ Err BadCall → IsListed n
      reaches target is (EntityKey e) own g =
          absurd (not_fair (called w state f rest n (EntityKey e) target.arguments)
          (enters_fair w (length state.memory) (record { function = e; call = Some n; by = None }) target.arguments
          (λ (made : Activation). let r : Result State Reason = Ok (on_top state (f ∷ rest) (noted w.trees n (EntityKey e) made.stores) made) in r) (λ made. tt)) g)
      reaches target is (FunctionKey k) own g = absurd (ok_err g)
      reaches target is key own g =
          let has : HasReached world state.memory n node values target = reached_covered world h.runs.stands (id (length p.types.terms)) h.served state.memory n node values target there kind each is in
          absurd (function_there (trees_of world) (view_in world) has.is_target.function key (subst (IsFunctionAt world has.is_target.function) own has.is_target.function_is)).0

      calling : call_row w state f rest n values ≡ Err BadCall → IsListed n
      calling e =
          elim (stopped (reached (trees_of world) n values) (λ (target : Target). called w state f rest n target.key target.arguments) e) [
            | inl none ↦ unreached none
            | inr went ↦ reaches went.0 went.1 went.0.key refl went.2
          ]

    -- a node that waits
    waits : (n : ℕ) (left : List ℕ) (values : List (ℕ × Value)) (items : List Item) → f.items ≡ Wait n left values ∷ items → waited w state f rest n left values word ≡ Err BadCall → IsListed n
    waits n left values items items_are e = by (calls (trees_of world) n left) refl e
      where
        goes_on : (b : Bool) → (let r : Result State Reason = cond b (next_row w state f rest n values) (placed state rest (wait_row (trees_of world) state.memory f n left values word)) in r) ≡ Err BadCall → IsListed n
        goes_on true g = absurd (not_fair (next_row w state f rest n values) (next_fair w state f rest n values) g)
        goes_on false g =
            absurd (not_fair (placed state rest (wait_row (trees_of world) state.memory f n left values word))
            (placed_fair state rest (wait_row (trees_of world) state.memory f n left values word) (wait_fair (trees_of world) state.memory f n left values word)) g)

        at_call : IsCall (trees_of world) n left → call_row w state f rest n values ≡ Err BadCall → IsListed n
        at_call c g = calling n values items (items_are ∙ ap (λ (l : List ℕ). Wait n l values ∷ items) c.none) c.node c.there c.kind g

        by : (b : Bool) → calls (trees_of world) n left ≡ b
            → (let r : Result State Reason = cond b (call_row w state f rest n values) (cond (takes (trees_of world) n left) (next_row w state f rest n values) (placed state rest (wait_row (trees_of world) state.memory f n left values word))) in r) ≡ Err BadCall → IsListed n
        by true is g = at_call (call_here (trees_of world) n left is) g
        by false is g = goes_on (takes (trees_of world) n left) g

    -- the top item
    item_listed : (n : ℕ) (items : List Item) → f.items ≡ items → item_step w state f rest items word ≡ Stops BadCall n → IsListed n
    item_listed n [] items_are e = absurd (goes_stops e)
    item_listed n (Do m ∷ items) items_are e =
        absurd (not_fair (placed state rest (do_row (trees_of world) state.memory f m word))
        (placed_fair state rest (do_row (trees_of world) state.memory f m word) (do_fair (trees_of world) state.memory f m word))
        (outcome_stops m n (placed state rest (do_row (trees_of world) state.memory f m word)) e).0)
    item_listed n (Wait m left values ∷ items) items_are e = (let o = outcome_stops m n (waited w state f rest m left values word) e in subst IsListed o.1 (waits m left values items items_are o.0))
    item_listed n (Library m k arguments ∷ items) items_are e =
        let o = outcome_stops m n (library_row w state f rest m k arguments word) e in
        subst IsListed o.1
        (inl (library_bad world m w state f rest k arguments word (own_items world state f rest now.steady.covered frames_are (Library m k arguments) items items_are).0 o.0))
    item_listed n (Returned value ∷ items) items_are e = absurd (goes_stops e)

  -- without a frame
  end_listed : (n : ℕ) (status : ℤ) (o : Option (ObjectKey × ℕ)) → last_of state.kept ≡ o → end_step w state status o ≡ Stops BadCall n → IsListed n
  end_listed n status None last e = absurd (ends_stops e)
  end_listed n status (Some kept) last e =
      let o = outcome_stops kept.1 n (kept_called w state kept.0 kept.1) e in
      subst IsListed o.1
      (inl (kept_bad world kept.1 kept.0 (each_at (λ (entry : ObjectKey × ℕ). KeptIn world entry.0 entry.1) state.kept (length state.kept - 1) kept last now.steady.covered.kept)))

  outside_listed : (n : ℕ) (status : Option ℤ) → outside_step w state status word ≡ Stops BadCall n → IsListed n
  outside_listed n None e = absurd (not_fair (starts w state word) (starts_fair w state word) (outcome_stops 0 n (starts w state word) e).0)
  outside_listed n (Some status) e = end_listed n status (last_of state.kept) refl e

  frames_listed : (n : ℕ) (frames : List Frame) → state.frames ≡ frames → frames_step w state frames word ≡ Stops BadCall n → IsListed n
  frames_listed n [] is e = outside_listed n state.status e
  frames_listed n (f ∷ rest) is e = item_listed f rest is n f.items refl e

  step_listed : (n : ℕ) → step w state word ≡ Stops BadCall n → IsListed n
  unfolding step
  step_listed n e = frames_listed n state.frames refl e

  -- the node stands as a bad call
  bad_stands : (n : ℕ) → IsBadAt world n → Stands (solution_of p (locations_in p) system family) n true
  bad_stands n b = (
    b.node,
    b.there,
    subst (λ (k : NodeKind). BadCallBy (solution_of p (locations_in p) system family) n k) (sym b.kind)
        (elim b.bad [ inl stranger ↦ inl (b.site, b.site_is, stranger) | inr ender ↦ inr (b.site, b.site_is, ender) ]),
  )

  pub listed : (n : ℕ) → step w state word ≡ Stops BadCall n → Stands (solution_of p (locations_in p) system family) n true ⊎ CallsNumber p.nodes.items state n
  listed n e = elim (step_listed n e) [ inl bad ↦ inl (bad_stands n bad) | inr number ↦ inr number ]

pub bad_calls_listed : BadCallsListed
unfolding types_with
bad_calls_listed units p system family words k word n h told e =
    let sc = scene units p system family h in
    listed p system family h.valid told (solved p system family sc) (steppable p system family sc) (run p words k) word (carried p system family sc words k) n e
