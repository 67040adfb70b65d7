-- What a call reaches is among its targets, and where that is the library's the call waits for it.
use Rattle.std.proofs.Common.{arith, ◌≡◌, ◌∙◌, inl, inr, ℕ, zero, suc, ◌+◌, ◌&&◌, Bool, true, false, cond, List, [], ◌∷◌, ◌≤◌, length, map, take, filter_map, Option, Some, None, Result, Ok, Err, slice_get, refl, sym, ap, subst}
use Rattle.std.specs.List.{range_with_len, AllZip}
use Rattle.std.proofs.lemmas.Bool.{false≢true}
use Rattle.std.proofs.lemmas.List.{length-map}
use Rattle.std.proofs.lemmas.Option.{slice_get_within}
use Rattle.c_types.specs.declared.key.ObjectKey.{ObjectKey}
use Rattle.c_types.specs.declared.key.ObjectKey.TheVariants.{Function as FunctionKey}
use Rattle.c_types.specs.declared.term.TypeId.{TypeId}
use Rattle.c_types.specs.Trees.{Ctype, PointerTo, FunctionFrom}
use Rattle.c_types.specs.Table.{type_of}
use Rattle.core_tree.specs.declared.node.Node.{Node}
use Rattle.core_tree.specs.declared.node.NodeKind.{NodeKind}
use Rattle.core_tree.specs.declared.node.NodeKind.TheVariants.{CallNode, Convert}
use Rattle.core_tree.specs.Rows.{RowOf, CallRow}
use Rattle.core_tree.specs.Typed.{type_at}
use Rattle.sol_model.specs.declared.system.CallSite.{CallSite}
use Rattle.obj_space.specs.View.{first_from}
use Rattle.row_numbers.specs.Functions.{number_at, key_type}
use Rattle.call_sites.specs.Signatures.{called_type}
use Rattle.call_sites.specs.Calls.{is_call, call_if, calls_upto, head_of, rest_of, IsCallSite, IsSiteAt}
use Rattle.ref_cells.specs.declared.cells.Reason.{Reason}
use Rattle.ref_cells.specs.declared.cells.Reason.TheVariants.{Unset as UnsetUse, BadCall}
use Rattle.ref_cells.specs.declared.cells.Cell.{Cell}
use Rattle.ref_cells.specs.declared.cells.Cell.TheVariants.{Unset, Number, Null, Pointer, Function as FunctionCell}
use Rattle.ref_cells.specs.declared.cells.Value.{Value}
use Rattle.ref_cells.specs.declared.instance.Instance.{Instance}
use Rattle.ref_mem.specs.Reads.{one_cell}
use Rattle.ref_elements.specs.Types.{same_type}
use Rattle.ref_elements.proofs.SameTypes.{type_true}
use Rattle.ref_state.specs.declared.items.Item.TheVariants.{Wait, Library}
use Rattle.ref_state.specs.Values.{value_in, cell_in}
use Rattle.ref_calls.specs.declared.reached.Target.{Target}
use Rattle.ref_calls.specs.Calls.{is_function, signature_of, fits, callee_of}
use Rattle.ref_calls.specs.Calls.{call_type as call_type_of}
use Rattle.ref_calls.specs.Reached.{reached_by, children_of, reached}
use Rattle.ref_values.specs.Values.{lacks}
use Rattle.covering_laws.specs.covered_memory.Covered.{Lands, ValueIn}
use Rattle.covering_laws.specs.covered_memory.Spots.{spot, spot_from}
use Rattle.covering_laws.specs.covered_rows.Nodes.{HeldIn, node_row}
use Rattle.covering_laws.proofs.covered_rows.Targets.{filtered_at, range_at, function_number, target_in}
use Rattle.covering_laws.specs.covered_types.Calls.{call_type}
use Rattle.covering_laws.proofs.covered_types.Calls.{calls_fit}
use Rattle.covering_laws.proofs.covered_memory.Stays.{same_memory}
use Rattle.covering_laws.specs.covered_state.World.{World, trees_of, view_in, sets_of, setting_in, IsCallAt, IsTargetAt}
use Rattle.covering_laws.specs.covered_state.Items.{Each, NodeIn, ArgumentsIn, ItemIn}
use Rattle.covering_laws.specs.covered_state.State.{TargetNoted}
use Rattle.covered_runs.specs.covered_steps.covered_values.Values.{Stands}
use Rattle.covered_runs.proofs.covered_steps.covered_values.Operands.{went, ok_one, err_ok, value_held, first_held}
use Rattle.covered_runs.proofs.covered_steps.Steps.{own_items, none_bare, steps_moved}
use Rattle.covered_runs.proofs.covered_steps.covered_calls.Activations.{none_some, some_one}
use Rattle.covered_runs.proofs.covered_steps.covered_calls.Entering.{in_row, held_all}
use Rattle.covered_runs.specs.covered_steps.covered_effects.Served.{IsServed}
use Rattle.covered_runs.specs.covered_steps.covered_effects.Steps.{HasReached, ReachedCovered, NotesTarget, StepsPended}

both_true : (a b : Bool) → (a && b) ≡ true → (a ≡ true) × (b ≡ true)
both_true true b e = (refl, e)
both_true false b e = absurd (false≢true e)

zip_of : {A B : Type 0} (R : A → B → Type 0) (xs : List A) (ys : List B) (i : ℕ) (x : A) → AllZip R xs ys → slice_get xs i ≡ Some x → (y : B) × (slice_get ys i ≡ Some y) × R x y
zip_of R [] ys i x h at = absurd (none_some at)
zip_of R (z ∷ xs) [] i x h at = absurd h
zip_of {B = B} R (z ∷ xs) (y ∷ ys) zero x h at = (y, refl, subst (λ (v : _). R v y) (some_one at) h.0)
zip_of R (z ∷ xs) (y ∷ ys) (suc i) x h at = zip_of R xs ys i x h.1 at

-- the number of a call, with the call of that number
pub record IsSiteOf (world : World) (n : ℕ) : Type 0 where
  pub number : ℕ
  pub call_is : IsCallAt world number n
  pub site : CallSite
  pub at : slice_get world.system.calls number ≡ Some site
  pub right : IsSiteAt (setting_in world) n site

pub site_of : (world : World) (n : ℕ) (node : Node) → slice_get (trees_of world).nodes n ≡ Some node → node.kind ≡ CallNode → IsSiteOf world n
site_of world n node there kind =
    let nodes = (trees_of world).nodes in
    let lt = slice_get_within nodes n node there in
    let here : call_if n (slice_get nodes n) ≡ Some n = ap (call_if n) there ∙ ap (λ (k : NodeKind). cond (is_call k) (Some n) None) kind in
    let in_range : slice_get (range_with_len 0 (length nodes)) n ≡ Some n = range_at 0 (length nodes) n lt ∙ ap (λ (m : ℕ). Some m) (let z : 0 + n ≡ n = omega arith in z) in
    let number = length (filter_map (λ (k : ℕ). call_if k (slice_get nodes k)) (take n (range_with_len 0 (length nodes)))) in
    let listed : slice_get (calls_upto nodes (length nodes)) number ≡ Some n = filtered_at (λ (k : ℕ). call_if k (slice_get nodes k)) (range_with_len 0 (length nodes)) n n n in_range here in
    let z = zip_of (IsSiteAt (setting_in world)) (calls_upto nodes (length nodes)) world.system.calls number n world.is_system.calls listed in
    record { number = number; call_is = listed; site = z.0; at = z.1; right = z.2 }

-- a function that a covered cell is has its first location
pub landed : (world : World) (row : Option ℕ) (key : ObjectKey) → Lands world.family row (spot world.program.types world.space key []) → (l : ℕ) × (first_from 0 world.space key ≡ Some l)
landed world row key h = by (first_from 0 world.space key) refl h.found_is
  where
    by : (o : Option ℕ) → first_from 0 world.space key ≡ o → spot_from world.program.types world.space o [] ≡ Some h.location → (l : ℕ) × (first_from 0 world.space key ≡ Some l)
    by (Some l) is e = (l, is)
    by None is e = absurd (none_some e)

-- the function that a callee is
record IsCallee (world : World) (c : ℕ) (args : List ℕ) (cell : Cell) (key : ObjectKey) : Type 0 where
  cell_is : cell ≡ FunctionCell key
  function : is_function (signature_of (trees_of world) key) ≡ true
  type : signature_of (trees_of world) key ≡ call_type_of (trees_of world) c args

module _ (world : World) (c : ℕ) (args : List ℕ) where
  callee_by : (cell : Cell) (key : ObjectKey) → callee_of (trees_of world) c args cell ≡ Ok key → IsCallee world c args cell key
  callee_by Null key e = absurd (err_ok e)
  callee_by Unset key e = absurd (err_ok e)
  callee_by (Number m) key e = absurd (err_ok e)
  callee_by (Pointer i path past) key e = absurd (err_ok e)
  callee_by (FunctionCell own) key e = by (fits (trees_of world) own c args) refl e
    where
      by : (b : Bool) → fits (trees_of world) own c args ≡ b → (let r : Result ObjectKey Reason = cond b (Ok own) (Err BadCall) in r) ≡ Ok key → IsCallee world c args (FunctionCell own) key
      by true is g =
          let same : own ≡ key = ok_one g in
          let two = both_true (is_function (signature_of (trees_of world) own)) (same_type (signature_of (trees_of world) own) (call_type_of (trees_of world) c args)) is in
          subst (λ (k : ObjectKey). IsCallee world c args (FunctionCell own) k) same
          (record { cell_is = refl; function = two.0; type = type_true (signature_of (trees_of world) own) (call_type_of (trees_of world) c args) two.1 })
      by false is g = absurd (err_ok g)

module _ (world : World) (stands : Stands world) (characters : TypeId) (served : IsServed world stands characters) (memory : List Instance) (n : ℕ) (node : Node) (values : List (ℕ × Value)) (target : Target)
    (there : slice_get (trees_of world).nodes n ≡ Some node) (kind : node.kind ≡ CallNode) (each : Each (λ v. NodeIn world memory v.0 v.1) values) where
  row : CallRow (trees_of world) (type_of world.program.types node.ty.0) node.children
  row = subst (λ (k : NodeKind). RowOf (trees_of world) k (type_of world.program.types node.ty.0) node.children) kind (stands.rows n node there)

  pub arguments_held : ArgumentsIn world memory (rest_of node.children) (map (value_in values) (rest_of node.children))
  arguments_held = held_all world memory values each (rest_of node.children) (in_row (trees_of world) (type_of world.program.types node.ty.0) node.children row)

  abbrev head : ℕ
  head = head_of node.children

  pub held_head : HeldIn (sets_of world) (setting_in world) memory head (one_cell (cell_in values head))
  held_head =
      let called = (calls_fit world.program stands.rows).called n node there kind in
      let ty : type_at (trees_of world) head ≡ PointerTo (FunctionFrom called.result called.parameters called.form) = called.callee.1 in
      subst (λ (t : Ctype). ValueIn (sets_of world) memory (node_row (setting_in world) head) t (one_cell (cell_in values head))) (sym ty)
      (first_held (sets_of world) memory (node_row (setting_in world) head) (FunctionFrom called.result called.parameters called.form) (value_in values head)
      (subst (λ (t : Ctype). ValueIn (sets_of world) memory (node_row (setting_in world) head) t (value_in values head)) ty (value_held world memory values each head called.callee.0)))

  target_so : (key : ObjectKey) → cell_in values head ≡ FunctionCell key → is_function (signature_of (trees_of world) key) ≡ true → called_type (key_type (trees_of world) key) ≡ call_type (trees_of world) node → IsTargetAt world n key
  target_so key cell function type =
      let called = (calls_fit world.program stands.rows).called n node there kind in
      let held : HeldIn (sets_of world) (setting_in world) memory head (one_cell (FunctionCell key)) = subst (λ (c : Cell). HeldIn (sets_of world) (setting_in world) memory head (one_cell c)) cell held_head in
      let l = landed world _ key held.0 in
      let listed = served.functions key l.0 l.1 function in
      let site = site_of world n node there kind in
      let own = subst (λ (x : Node). IsCallSite (setting_in world) n x site.site) (some_one (sym site.right.there ∙ there)) site.right.right in
      let t =
      target_in world.program world.space world.system world.is_system world.family stands.closed stands.grounds n node site.site own (FunctionFrom called.result called.parameters called.form) called.callee.1 key l.0 listed l.1 memory held type in
      record {
        call = site.number;
        call_is = site.call_is;
        function = number_at (trees_of world) (view_in world) l.0;
        function_is = function_number (trees_of world) world.space l.0 key listed l.1;
        target = (site.site, t.0, site.at, t.2);
      }

  abbrev given : List ℕ → ObjectKey → Result Target Reason
  given args key = cond (lacks (trees_of world) values args) (Err UnsetUse) (Ok (record { key = key; arguments = map (value_in values) args }))

  given_is : (b : Bool) (args : List ℕ) (key : ObjectKey) → (let r : Result Target Reason = cond b (Err UnsetUse) (Ok (record { key = key; arguments = map (value_in values) args })) in r) ≡ Ok target
      → (target.key ≡ key) × (target.arguments ≡ map (value_in values) args)
  given_is true args key e = absurd (err_ok e)
  given_is false args key e =
      let same : (let r : Target = record { key = key; arguments = map (value_in values) args } in r) ≡ target = ok_one e in
      (sym (ap (λ (t : Target). t.key) same), sym (ap (λ (t : Target). t.arguments) same))

  reached_so : (children : List ℕ) → node.children ≡ children → reached_by (trees_of world) children values ≡ Ok target → HasReached world memory n node values target
  reached_so [] is e = absurd (err_ok e)
  reached_so (c ∷ args) is e =
      let r = went (callee_of (trees_of world) c args (cell_in values c)) (given args) target e in
      let callee = callee_by world c args (cell_in values c) r.0 r.1 in
      let target_is = given_is (lacks (trees_of world) values args) args r.0 r.2 in
      let cell : cell_in values head ≡ FunctionCell r.0 = ap (λ (cs : List ℕ). cell_in values (head_of cs)) is ∙ callee.cell_is in
      let type : called_type (key_type (trees_of world) r.0) ≡ call_type (trees_of world) node = callee.type ∙ ap (λ (cs : List ℕ). call_type_of (trees_of world) (head_of cs) (rest_of cs)) (sym is) in
      let arguments : target.arguments ≡ map (value_in values) (rest_of node.children) = target_is.1 ∙ ap (λ (cs : List ℕ). map (value_in values) (rest_of cs)) (sym is) in
      record {
        is_target = subst (IsTargetAt world n) (sym target_is.0) (target_so r.0 cell callee.function type);
        type = subst (λ (k : ObjectKey). called_type (key_type (trees_of world) k) ≡ call_type (trees_of world) node) (sym target_is.0) type;
        arguments_are = arguments;
        arguments_in = subst (ArgumentsIn world memory (rest_of node.children)) (sym arguments) arguments_held;
      }

pub reached_covered : ReachedCovered
unfolding reached
reached_covered world stands characters served memory n node values target there kind each e =
    reached_so world stands characters served memory n node values target there kind each node.children refl (sym (ap (λ (o : Option Node). reached_by (trees_of world) (children_of o) values) there) ∙ e)

-- a call has no more arguments than operands
pub all_given : (f : ℕ → Value) (nodes : List ℕ) (arguments : List Value) → arguments ≡ map f nodes → length arguments ≤ length nodes
all_given f nodes arguments is = (let long : length arguments ≡ length nodes = ap length is ∙ length-map nodes f in omega arith)

call_convert : CallNode ≡ Convert → ⊥
call_convert h = cc

wait_node : {n m : ℕ} → {left other : List ℕ} → {values more : List (ℕ × Value)} → Wait n left values ≡ Wait m other more → n ≡ m
wait_node h = cc

pub steps_pended : StepsPended
steps_pended world stands characters served state f rest n k node values items target note covered frames_are items_are there kind is key noted =
    steps_moved world state f rest state.memory f.instances (Library n k target.arguments ∷ items) (record { target = note; stores = [] }) covered frames_are
    (record { extends = same_memory (sets_of world) state.memory; covered = covered.memory })
    (inl (record { node = node; there = there; target = at; fits = type; arguments_in = r.arguments_in; all = all_given (value_in values) (rest_of node.children) target.arguments r.arguments_are }), own.1)
    (record { target = noted_in note noted; stores = tt })
    (none_bare world state f rest covered frames_are (Wait n [] values) items items_are
    (λ m vs other same there_m converts.
    call_convert (sym kind ∙ (ap (λ (x : Node). x.kind) (some_one (sym there ∙ (ap (slice_get (trees_of world).nodes) (wait_node same) ∙ there_m))) ∙ converts))))
  where
    own : Each (ItemIn world state.memory f.function) (Wait n [] values ∷ items)
    own = own_items world state f rest covered frames_are (Wait n [] values) items items_are

    r : HasReached world state.memory n node values target
    r = reached_covered world stands characters served state.memory n node values target there kind own.0.2 is

    at : IsTargetAt world n (FunctionKey k)
    at = subst (IsTargetAt world n) key r.is_target

    type : called_type (key_type (trees_of world) (FunctionKey k)) ≡ call_type (trees_of world) node
    type = subst (λ (o : ObjectKey). called_type (key_type (trees_of world) o) ≡ call_type (trees_of world) node) key r.type

    noted_in : (o : Option (ℕ × ObjectKey)) → NotesTarget n (FunctionKey k) o → TargetNoted world o
    noted_in o (inl none) = subst (TargetNoted world) (sym none) tt
    noted_in o (inr some) = subst (TargetNoted world) (sym some) at
