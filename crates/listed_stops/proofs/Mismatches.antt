-- Where a step stops for a type that doesn't fit, the node is listed or there is a cause.
use Rattle.std.proofs.Common.{arith, ◌≡◌, ◌∙◌, ◌⊎◌, inl, inr, ℕ, zero, suc, ◌<◌, Bool, true, false, cond, List, [], ◌∷◌, length, Option, Some, None, Result, Ok, Err, slice_get, refl, sym, ap, subst}
use Rattle.std.proofs.lemmas.Bool.{false≢true}
use Rattle.std.proofs.lemmas.Option.{slice_get_within}
use Rattle.c_types.specs.declared.key.ObjectKey.{ObjectKey}
use Rattle.c_types.specs.declared.key.ObjectKey.TheVariants.{Entity as EntityKey}
use Rattle.c_types.specs.Trees.{Ctype, UnionOf}
use Rattle.c_types.specs.Table.{type_of}
use Rattle.core_tree.specs.declared.node.Node.{Node}
use Rattle.core_tree.specs.declared.node.NodeKind.{NodeKind}
use Rattle.core_tree.specs.declared.node.NodeKind.TheVariants.{CallNode, NextArg, MemberOfValue, Break, Continue, Goto}
use Rattle.core_tree.specs.declared.node.Program.{Program}
use Rattle.core_tree.specs.Rows.{RowOf}
use Rattle.core_tree.specs.Typed.{type_at, type_in, trees_in}
use Rattle.core_tree.specs.Valid.{ValidProgram}
use Rattle.sol_model.specs.declared.system.System.{System}
use Rattle.sol_model.specs.Families.{Family}
use Rattle.normal_form.specs.Assignments.{is_union_type}
use Rattle.obj_space.specs.Space.{locations_in}
use Rattle.call_sites.specs.Calls.{is_call}
use Rattle.stop_places.specs.Sight.{solution_of}
use Rattle.stop_places.specs.Stops.{MismatchBy, Stands}
use Rattle.ref_cells.specs.declared.cells.Reason.{Reason}
use Rattle.ref_cells.specs.declared.cells.Reason.TheVariants.{Mismatch}
use Rattle.ref_cells.specs.declared.cells.Value.{Value}
use Rattle.ref_lib.specs.declared.rows.Row.{Row}
use Rattle.ref_lib.specs.Effects.{rows}
use Rattle.ref_values.specs.Memory.{is_union}
use Rattle.ref_state.specs.declared.items.Item.{Item}
use Rattle.ref_state.specs.declared.items.Item.TheVariants.{Do, Wait, Library, Result as Returned}
use Rattle.ref_state.specs.declared.frames.Frame.{Frame}
use Rattle.ref_state.specs.declared.state.State.{State}
use Rattle.ref_state.specs.ref_types.Types.{id, types_with}
use Rattle.ref_statements.specs.Rows.{Row as NodeRow}
use Rattle.ref_statements.specs.Nodes.{do_row, wait_row}
use Rattle.ref_frames.specs.Running.{Running}
use Rattle.ref_calls.specs.Library.{library_row}
use Rattle.ref_calls.specs.Lists.{is_next, next_row}
use Rattle.ref_calls.specs.Outcomes.{Goes, Stops, outcome}
use Rattle.ref_machine.specs.Run.{run}
use Rattle.ref_machine.specs.Step.{placed, is_call_at, is_next_at, call_row, waited, item_step, frames_step, step}
use Rattle.covering_laws.specs.covered_state.World.{World, trees_of, view_in}
use Rattle.covering_laws.specs.covered_state.Items.{IsOwned, IsPending}
use Rattle.covered_runs.proofs.covered_steps.Steps.{own_items}
use Rattle.covered_runs.specs.covered_steps.covered_statements.Rows.{running_in}
use Rattle.covered_runs.specs.covered_steps.covered_statements.Stacked.{waits_next, PendingOn, Stacked, FramesStand}
use Rattle.covered_runs.specs.machine_sound.covered_start.Objects.{machine_table, IsSolved}
use Rattle.covered_runs.specs.machine_sound.covered_start.Start.{machine_world}
use Rattle.covered_runs.specs.machine_sound.Carried.{Carried, IsSteppable}
use Rattle.covered_runs.proofs.machine_sound.covered_start.Types.{longer}
use Rattle.covered_runs.proofs.machine_sound.Scenes.{solved, steppable, carried}
use Rattle.covered_runs.proofs.covered_programs.Programs.{scene}
use Rattle.listed_stops.specs.Mismatches.{IsTop, HasCause, in_row, pending, outside, MismatchesListed}
use Rattle.listed_stops.proofs.Free.{Free, cause_of}
use Rattle.listed_stops.proofs.FreeNodes.{Known, Here}
use Rattle.listed_stops.proofs.FreeRows.{do_free, wait_free, left_free}
use Rattle.listed_stops.proofs.FreeCalls.{call_free}
use Rattle.listed_stops.proofs.Jumps.{break_lands, continue_lands, jump_lands}
use Rattle.listed_stops.proofs.Walkers.{WalksAt, walker_listed, is_walker, row_named, row_there, library_free}
use Rattle.listed_stops.proofs.Types.{function_low}

goes_stops : {s : State} → {reason : Reason} → {n : ℕ} → Goes s ≡ Stops reason n → ⊥
goes_stops h = cc

reason_one : {a b : Reason} → {n m : ℕ} → Stops a n ≡ Stops b m → a ≡ b
reason_one h = cc

node_one : {a b : Reason} → {n m : ℕ} → Stops a n ≡ Stops b m → n ≡ m
node_one h = cc

some_one : {X : Type 0} → {x y : X} → ◌≡◌ {A = Option X} (Some x) (Some y) → x ≡ y
some_one h = cc

-- a stop is that of a row, at the row's node
outcome_stops : (n m : ℕ) (r : Result State Reason) → outcome n r ≡ Stops Mismatch m → (◌≡◌ {A = Result State Reason} r (Err Mismatch)) × (n ≡ m)
outcome_stops n m (Ok state) e = absurd (goes_stops e)
outcome_stops n m (Err reason) e = (ap (λ (x : Reason). let r : Result State Reason = Err x in r) (reason_one e), node_one e)

placed_free : (C : Type 0) (state : State) (rest : List Frame) (row : NodeRow) → Free C row → Free C (placed state rest row)
placed_free C state rest (Ok next) h = tt
placed_free C state rest (Err Mismatch) h = h
placed_free C state rest (Err reason) h = tt

present : {X : Type 0} (xs : List X) (k : ℕ) → k < length xs → (x : X) × (slice_get xs k ≡ Some x)
present [] k lt = absurd (omega (arith, lt))
present (x ∷ xs) zero lt = (x, refl)
present (x ∷ xs) (suc k) lt = present xs k (omega (arith, lt))

next_kind : (kind : NodeKind) → is_next kind ≡ true → kind ≡ NextArg
next_kind NextArg e = refl
next_kind kind e = absurd (false≢true e)

call_kind : (kind : NodeKind) → is_call kind ≡ true → kind ≡ CallNode
call_kind CallNode e = refl
call_kind kind e = absurd (false≢true e)

union_same : (t : Ctype) → is_union t ≡ true → is_union_type t ≡ true
union_same (UnionOf tag) e = refl
union_same t e = absurd (false≢true e)

module _ (p : Program) (system : System) (family : Family) (valid : ValidProgram p) (s : IsSolved p system family) (h : IsSteppable (machine_world p system family s) (id (length p.types.terms))) (state : State) (word : ℕ)
    (now : Carried (machine_world p system family s) state) where
  abbrev world : World
  world = machine_world p system family s

  abbrev w : Running
  w = running_in world (id (length p.types.terms))

  abbrev Listed : ℕ → Type 0
  Listed n = Stands (solution_of p (locations_in p) system family) n false

  -- what is said of a node at which the step stops
  abbrev IsSaid : ℕ → Type 0
  IsSaid n = Listed n ⊎ HasCause w state n

  row_at : (n : ℕ) (node : Node) → slice_get (trees_of world).nodes n ≡ Some node → RowOf (trees_of world) node.kind (type_of (machine_table p) node.ty.0) node.children
  row_at n node there = h.runs.stands.rows n node there

  -- ---- nodes that are listed
  type_kept : (v : ℕ) → type_at (trees_of world) v ≡ type_at (trees_in p) v
  type_kept v = by (slice_get p.nodes.items v) refl
    where
      by : (o : Option Node) → slice_get p.nodes.items v ≡ o → type_in (machine_table p) o ≡ type_in p.types o
      by None is = refl
      by (Some node) is = (longer p s.made s.named).types node.ty.0 (valid.trees.in_range.types v node is)

  -- a member of a union is listed, and a jump has its target
  known_stands : (n : ℕ) (node : Node) → slice_get (trees_of world).nodes n ≡ Some node → (kind : NodeKind) → node.kind ≡ kind → (children : List ℕ) (t : Ctype) → Known (trees_of world) n kind children
      → MismatchBy (solution_of p (locations_in p) system family) n kind t children
  known_stands n node there (MemberOfValue k) is (v ∷ []) t u = union_same (type_at (trees_in p) v) (ap is_union (sym (type_kept v)) ∙ u)
  known_stands n node there (MemberOfValue k) is [] t u = absurd u
  known_stands n node there (MemberOfValue k) is (v ∷ x ∷ rest) t u = absurd u
  known_stands n node there Break is children t u = absurd (break_lands (trees_in p) valid.trees n node there is u)
  known_stands n node there Continue is children t u = absurd (continue_lands (trees_in p) valid.trees n node there is u)
  known_stands n node there (Goto name) is children t u = absurd (jump_lands (trees_in p) valid.trees n node there name is u)
  known_stands n node there kind is children t u = absurd u

  next_stands : (n : ℕ) (node : Node) → slice_get (trees_of world).nodes n ≡ Some node → node.kind ≡ NextArg → Listed n
  next_stands n node there kind = (
    node,
    there,
    by node.children (subst (λ (k : NodeKind). RowOf (trees_of world) k (type_of (machine_table p) node.ty.0) node.children) kind (row_at n node there)),
  )
    where
      by : (children : List ℕ) → RowOf (trees_of world) NextArg (type_of (machine_table p) node.ty.0) children → MismatchBy (solution_of p (locations_in p) system family) n node.kind (type_of p.types node.ty.0) children
      by (c ∷ rest) row = subst (λ (k : NodeKind). MismatchBy (solution_of p (locations_in p) system family) n k (type_of p.types node.ty.0) (c ∷ rest)) (sym kind) tt
      by [] row = absurd row

  walks_stands : (n : ℕ) → WalksAt world n → Listed n
  walks_stands n a = (
    a.node,
    a.there,
    by a.node.children (subst (λ (k : NodeKind). RowOf (trees_of world) k (type_of (machine_table p) a.node.ty.0) a.node.children) a.kind (row_at n a.node a.there)),
  )
    where
      by : (children : List ℕ) → RowOf (trees_of world) CallNode (type_of (machine_table p) a.node.ty.0) children → MismatchBy (solution_of p (locations_in p) system family) n a.node.kind (type_of p.types a.node.ty.0) children
      by (c ∷ rest) row = subst (λ (k : NodeKind). MismatchBy (solution_of p (locations_in p) system family) n k (type_of p.types a.node.ty.0) (c ∷ rest)) (sym a.kind) (a.site, a.site_is, a.walks)
      by [] row = absurd row

  -- ---- nodes that a function owns are there
  owned_there : (f : ObjectKey) (n : ℕ) → IsOwned world f n → (node : Node) × (slice_get (trees_of world).nodes n ≡ Some node)
  owned_there (EntityKey e) n owned =
      let lt = slice_get_within world.is_system.owners n (Some e) owned in
      let same : length world.is_system.owners ≡ length (trees_of world).nodes = world.is_system.around.each in
      present (trees_of world).nodes n (omega (arith, lt, same))
  owned_there f n owned = absurd owned

  module _ (f : Frame) (rest : List Frame) (frames_are : state.frames ≡ f ∷ rest) where
    -- a node's row has a cause
    here_said : (n : ℕ) (values : List (ℕ × Value)) (items : List Item) → IsTop f n values items → (node : Node) → slice_get (trees_of world).nodes n ≡ Some node → Here w state f n node.kind node.children values → IsSaid n
    here_said n values items top node there (inl known) = inl (node, there, known_stands n node there node.kind refl node.children (type_of p.types node.ty.0) known)
    here_said n values items top node there (inr cause) =
        inr (in_row (record { frame = f; rest = rest; frames_are = frames_are; values = values; items = items; top = top; node = node; there = there; cause = cause }))

    does : (n : ℕ) (items : List Item) → f.items ≡ Do n ∷ items → placed state rest (do_row (trees_of world) state.memory f n word) ≡ Err Mismatch → IsSaid n
    does n items is e =
        let own = (own_items world state f rest now.steady.covered frames_are (Do n) items is).0 in
        let t = owned_there f.function n own in
        here_said n [] items (inl (is, refl)) t.0 t.1
        (cause_of (Here w state f n t.0.kind t.0.children []) (placed state rest (do_row (trees_of world) state.memory f n word))
        (placed_free (Here w state f n t.0.kind t.0.children []) state rest (do_row (trees_of world) state.memory f n word) (do_free w state f n t.0 (row_at n t.0 t.1) word t.1)) e)

    -- a node that waits
    module _ (n : ℕ) (values : List (ℕ × Value)) (items : List Item) (node : Node) (there : slice_get (trees_of world).nodes n ≡ Some node) where
      calling : f.items ≡ Wait n [] values ∷ items → node.kind ≡ CallNode → call_row w state f rest n values ≡ Err Mismatch → IsSaid n
      calling is kind e =
          here_said n values items (inr is) node there
          (subst (λ (k : NodeKind). Here w state f n k node.children values) (sym kind)
          (cause_of (Here w state f n CallNode node.children values) (call_row w state f rest n values)
          (call_free w state f rest n node values there node.children (subst (λ (k : NodeKind). RowOf (trees_of world) k (type_of (machine_table p) node.ty.0) node.children) kind (row_at n node there))) e))

      computing : f.items ≡ Wait n [] values ∷ items → is_call node.kind ≡ false → is_next node.kind ≡ false → placed state rest (wait_row (trees_of world) state.memory f n [] values word) ≡ Err Mismatch → IsSaid n
      computing is unlike none e =
          here_said n values items (inr is) node there
          (cause_of (Here w state f n node.kind node.children values) (placed state rest (wait_row (trees_of world) state.memory f n [] values word))
          (placed_free (Here w state f n node.kind node.children values) state rest (wait_row (trees_of world) state.memory f n [] values word)
          (wait_free w state f n node (row_at n node there) values word (ap waits_next is) unlike none there)) e)

      done : f.items ≡ Wait n [] values ∷ items → waited w state f rest n [] values word ≡ Err Mismatch → IsSaid n
      done is e =
          by (is_call node.kind) (is_next node.kind) refl refl
          (subst (λ (o : Option Node). (let r : Result State Reason = cond (is_call_at o) (call_row w state f rest n values) (cond (is_next_at o) (next_row w state f rest n values) (placed state rest (wait_row (trees_of world) state.memory f n [] values word))) in r) ≡ Err Mismatch) there e)
        where
          by : (b c : Bool) → is_call node.kind ≡ b → is_next node.kind ≡ c
              → (let r : Result State Reason = cond b (call_row w state f rest n values) (cond c (next_row w state f rest n values) (placed state rest (wait_row (trees_of world) state.memory f n [] values word))) in r) ≡ Err Mismatch → IsSaid n
          by true c call next g = calling is (call_kind node.kind call) g
          by false true call next g = inl (next_stands n node there (next_kind node.kind next))
          by false false call next g = computing is call next g

      left : (c : ℕ) (operands : List ℕ) → placed state rest (wait_row (trees_of world) state.memory f n (c ∷ operands) values word) ≡ Err Mismatch → IsSaid n
      left c operands e =
          absurd (cause_of ⊥ (placed state rest (wait_row (trees_of world) state.memory f n (c ∷ operands) values word))
          (placed_free ⊥ state rest (wait_row (trees_of world) state.memory f n (c ∷ operands) values word) (left_free (trees_of world) state.memory f n node c operands values word there)) e)

    waits : (n : ℕ) (operands : List ℕ) (values : List (ℕ × Value)) (items : List Item) → f.items ≡ Wait n operands values ∷ items → waited w state f rest n operands values word ≡ Err Mismatch → IsSaid n
    waits n operands values items is e = by operands is e
      where
        node_of : (o : List ℕ) → f.items ≡ Wait n o values ∷ items → (node : Node) × (slice_get (trees_of world).nodes n ≡ Some node)
        node_of o at = owned_there f.function n (own_items world state f rest now.steady.covered frames_are (Wait n o values) items at).0.0

        by : (o : List ℕ) → f.items ≡ Wait n o values ∷ items → waited w state f rest n o values word ≡ Err Mismatch → IsSaid n
        by [] at g = (let t = node_of [] at in done n values items t.0 t.1 at g)
        by (c ∷ rest_of_them) at g = (let t = node_of (c ∷ rest_of_them) at in left n values items t.0 t.1 c rest_of_them g)

    -- a function of the library is pending
    stacked : Stacked (trees_of world).nodes (PendingOn world state.memory) f.items
    stacked = (subst (FramesStand world state.memory) frames_are now.steady.stacked).0

    module _ (n k : ℕ) (arguments : List Value) (items : List Item) (is : f.items ≡ Library n k arguments ∷ items) where
      pends : PendingOn world state.memory n k arguments items
      pends = (subst (Stacked (trees_of world).nodes (PendingOn world state.memory)) is stacked).0

      called : IsPending world state.memory n k arguments → library_row w state f rest n k arguments word ≡ Err Mismatch → IsSaid n
      called pend e = by r.0 r.1 (is_walker r.0) refl
        where
          r : (row : Row) × (slice_get rows k ≡ Some row)
          r = row_there k (function_low (trees_of world) (view_in world) pend.target.function k pend.target.function_is)

          by : (row : Row) → slice_get rows k ≡ Some row → (b : Bool) → is_walker row ≡ b → IsSaid n
          by row at true walks = inl (walks_stands n (walker_listed world n k pend.target (row_named k row at walks)))
          by row at false other =
              inr (pending (record {
                frame = f;
                rest = rest;
                frames_are = frames_are;
                function = k;
                arguments = arguments;
                items = items;
                items_are = is;
                cause = inr (cause_of _ (library_row w state f rest n k arguments word) (library_free w state f rest n k arguments word row at other) e);
              }))

      library : library_row w state f rest n k arguments word ≡ Err Mismatch → IsSaid n
      library e = elim pends [
        | inl here ↦ called here.1 e
        | inr back ↦
            inr (pending (record { frame = f; rest = rest; frames_are = frames_are; function = k; arguments = arguments; items = items; items_are = is; cause = inl back.0 }))
      ]

    -- the top item
    item_said : (n : ℕ) (items : List Item) → f.items ≡ items → item_step w state f rest items word ≡ Stops Mismatch n → IsSaid n
    item_said n [] is e = absurd (goes_stops e)
    item_said n (Do m ∷ items) is e =
        let o = outcome_stops m n (placed state rest (do_row (trees_of world) state.memory f m word)) e in
        subst IsSaid o.1 (does m items is o.0)
    item_said n (Wait m operands values ∷ items) is e = (let o = outcome_stops m n (waited w state f rest m operands values word) e in subst IsSaid o.1 (waits m operands values items is o.0))
    item_said n (Library m k arguments ∷ items) is e = (let o = outcome_stops m n (library_row w state f rest m k arguments word) e in subst IsSaid o.1 (library m k arguments items is o.0))
    item_said n (Returned value ∷ items) is e = absurd (goes_stops e)

  frames_said : (n : ℕ) (frames : List Frame) → state.frames ≡ frames → frames_step w state frames word ≡ Stops Mismatch n → IsSaid n
  frames_said n [] is e = inr (outside is)
  frames_said n (f ∷ rest) is e = item_said f rest is n f.items refl e

  pub said : (n : ℕ) → step w state word ≡ Stops Mismatch n → Stands (solution_of p (locations_in p) system family) n false ⊎ HasCause w state n
  unfolding step
  said n e = frames_said n state.frames refl e

pub mismatches_listed : MismatchesListed
unfolding types_with
mismatches_listed units p system family words k word n a e =
    let sc = scene units p system family a in
    said p system family a.valid (solved p system family sc) (steppable p system family sc) (run p words k) word (carried p system family sc words k) n e
