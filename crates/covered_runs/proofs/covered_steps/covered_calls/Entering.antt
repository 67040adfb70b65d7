-- A call enters a function with a body.
use Rattle.std.proofs.Common.{arith, ◌≡◌, ◌∙◌, ℕ, zero, suc, ◌+◌, ◌≤◌, All, List, [], ◌∷◌, ◌++◌, length, map, Some, None, slice_get, refl, sym, ap, subst}
use Rattle.std.proofs.lemmas.Option.{slice_get_within}
use Rattle.c_types.specs.declared.key.ObjectKey.TheVariants.{Entity as EntityKey}
use Rattle.c_types.specs.declared.term.Form.{Form}
use Rattle.c_types.specs.declared.term.Form.TheVariants.{Fixed, Variadic, Unspecified}
use Rattle.c_types.specs.Trees.{Ctype, Ctypes, NoTypes, MoreTypes, PointerTo, FunctionFrom}
use Rattle.c_types.specs.Table.{type_of}
use Rattle.core_tree.specs.declared.node.Node.{Node}
use Rattle.core_tree.specs.declared.node.NodeKind.{NodeKind}
use Rattle.core_tree.specs.declared.node.NodeKind.TheVariants.{CallNode, Convert}
use Rattle.core_tree.specs.Rows.{RowOf, CallRow, Calls, Arguments, IsFurther}
use Rattle.core_tree.specs.Typed.{CoreTrees, ValueNode, sort_at, type_in, type_at}
use Rattle.obj_space.proofs.Preorder.{get_behind}
use Rattle.type_rules.specs.Conversions.{result_of}
use Rattle.row_numbers.specs.Functions.{key_type}
use Rattle.call_sites.specs.Calls.{rest_of}
use Rattle.ref_cells.specs.declared.cells.Value.{Value}
use Rattle.ref_cells.specs.declared.instance.Instance.{Instance}
use Rattle.ref_elements.specs.Outcomes.{pointers_in}
use Rattle.ref_state.specs.declared.items.Item.TheVariants.{Wait}
use Rattle.ref_state.specs.Values.{value_in}
use Rattle.ref_frames.specs.Frames.{pointers_from, frame_over}
use Rattle.covering_laws.specs.covered_memory.Covered.{InstanceIn, Extends, Leaves}
use Rattle.covering_laws.specs.covered_library.Calls.{StoresIn}
use Rattle.covering_laws.proofs.covered_library.Stores.{stores_append, own_stored}
use Rattle.covering_laws.proofs.covered_types.Calls.{calls_fit}
use Rattle.covering_laws.specs.covered_state.World.{World, trees_of, sets_of}
use Rattle.covering_laws.specs.covered_state.Items.{Each, NodeIn, ArgumentsIn}
use Rattle.covering_laws.specs.covered_state.Awaited.{IsBare}
use Rattle.covered_runs.specs.covered_steps.covered_values.Values.{Stands}
use Rattle.covered_runs.proofs.covered_steps.covered_values.Operands.{value_held}
use Rattle.covered_runs.proofs.covered_steps.Made.{made_so}
use Rattle.covered_runs.proofs.covered_steps.Steps.{own_items}
use Rattle.covered_runs.proofs.covered_steps.Frames.{steps_entered}
use Rattle.covered_runs.specs.covered_steps.Frames.{IsOther}
use Rattle.covered_runs.specs.covered_steps.covered_calls.Entering.{ArgumentsHeld, StepsCalled}
use Rattle.covered_runs.specs.covered_steps.covered_calls.Activations.{Reaches, objects_entered}
use Rattle.covered_runs.proofs.covered_steps.covered_calls.Activations.{none_some, some_one, index_is, activations_covered}

call_convert : CallNode ≡ Convert → ⊥
call_convert h = cc

wait_node : {n m : ℕ} → {left other : List ℕ} → {values more : List (ℕ × Value)} → Wait n left values ≡ Wait m other more → n ≡ m
wait_node h = cc

module _ (u : CoreTrees) where
  -- the arguments of a call are values
  further : (args : List ℕ) → All (λ a. IsFurther u a) args → (k a : ℕ) → slice_get args k ≡ Some a → sort_at u a ≡ ValueNode
  further args h k a e = subst (λ (x : ℕ). sort_at u x ≡ ValueNode) (index_is args k a 0 e) (h k 0 (slice_get_within args k a e)).0

  sorted : (ps : Ctypes) (f : Form) (args : List ℕ) → Arguments u ps f args → (k a : ℕ) → slice_get args k ≡ Some a → sort_at u a ≡ ValueNode
  sorted NoTypes Fixed [] h k a e = absurd (none_some e)
  sorted NoTypes Fixed (x ∷ args) h k a e = absurd h
  sorted NoTypes Variadic args h k a e = further args h k a e
  sorted NoTypes Unspecified args h k a e = further args h k a e
  sorted (MoreTypes t rest) Unspecified args h k a e = absurd h
  sorted (MoreTypes t rest) Fixed [] h k a e = absurd h
  sorted (MoreTypes t rest) Fixed (x ∷ args) h zero a e = subst (λ (y : ℕ). sort_at u y ≡ ValueNode) (some_one e) h.0.0
  sorted (MoreTypes t rest) Fixed (x ∷ args) h (suc k) a e = sorted rest Fixed args h.1 k a e
  sorted (MoreTypes t rest) Variadic [] h k a e = absurd h
  sorted (MoreTypes t rest) Variadic (x ∷ args) h zero a e = subst (λ (y : ℕ). sort_at u y ≡ ValueNode) (some_one e) h.0.0
  sorted (MoreTypes t rest) Variadic (x ∷ args) h (suc k) a e = sorted rest Variadic args h.1 k a e

  called : (callee t : Ctype) (args : List ℕ) → Calls u callee t args → (k a : ℕ) → slice_get args k ≡ Some a → sort_at u a ≡ ValueNode
  called (PointerTo (FunctionFrom r ps f)) t args h k a e = sorted ps f args h.1 k a e
  called callee t args h k a e = absurd h

  pub in_row : (t : Ctype) (children : List ℕ) → CallRow u t children → (k a : ℕ) → slice_get (rest_of children) k ≡ Some a → sort_at u a ≡ ValueNode
  in_row t [] h k a e = absurd h
  in_row t (c ∷ args) h k a e = called (type_at u c) t args h.1 k a e

module _ (world : World) (memory : List Instance) (values : List (ℕ × Value)) (each : Each (λ v. NodeIn world memory v.0 v.1) values) where
  pub held_all : (nodes : List ℕ) → ((k a : ℕ) → slice_get nodes k ≡ Some a → sort_at (trees_of world) a ≡ ValueNode) → ArgumentsIn world memory nodes (map (value_in values) nodes)
  held_all [] h = tt
  held_all (a ∷ rest) h = (value_held world memory values each a (h 0 a refl), held_all rest (λ k b e. h (suc k) b e))

pub arguments_held : ArgumentsHeld
arguments_held world memory n node f values stands reaches each = held_all world memory values each (rest_of node.children) (in_row (trees_of world) (type_of world.program.types node.ty.0) node.children row)
  where
    row : CallRow (trees_of world) (type_of world.program.types node.ty.0) node.children
    row = subst (λ (k : NodeKind). RowOf (trees_of world) k (type_of world.program.types node.ty.0) node.children) reaches.kind (stands.rows n node reaches.there)

map_length : (f : ℕ → Value) (xs : List ℕ) → length (map f xs) ≤ length xs
map_length f [] = omega arith
map_length f (x ∷ xs) = (let rest = map_length f xs in omega arith)

-- the pointers of new instances are covered at their places, once these are there
module _ (world : World) (stands : Stands world) (memory fresh : List Instance) (extends : Extends (sets_of world) memory (memory ++ fresh)) where
  pub fresh_stored : (i : ℕ) (xs : List Instance) → ((j : ℕ) (x : Instance) → slice_get xs j ≡ Some x → slice_get (memory ++ fresh) (i + j) ≡ Some x) → Each (InstanceIn (sets_of world) memory) xs
      → StoresIn (sets_of world) (memory ++ fresh) (pointers_from i xs)
  fresh_stored i [] there h = tt
  fresh_stored i (x ∷ rest) there h =
      stores_append (sets_of world) (memory ++ fresh) (pointers_in i x.cells) (pointers_from (i + 1) rest)
      (own_stored (sets_of world) world.system stands.grounds memory x h.0 (memory ++ fresh) extends i x ((let same : i ≡ i + 0 = omega arith in ap (slice_get (memory ++ fresh)) same) ∙ there 0 x refl) refl)
      (fresh_stored (i + 1) rest (λ j y e. (let same : (i + 1) + j ≡ i + suc j = omega arith in ap (slice_get (memory ++ fresh)) same) ∙ there (suc j) y e) h.1)

-- the call gives what the function gives
agrees_so : (world : World) (stands : Stands world) (n : ℕ) (node : Node) (g : ℕ) (reaches : Reaches world n node g) → result_of (key_type (trees_of world) (EntityKey g)) ≡ type_at (trees_of world) n
agrees_so world stands n node g reaches =
    ((calls_fit world.program stands.rows).reached n node (key_type (trees_of world) (EntityKey g)) reaches.there reaches.kind reaches.fits).result
    ∙ sym (ap (type_in world.program.types) reaches.there)

-- a call is no conversion
other_so : (world : World) (n : ℕ) (node : Node) (g : ℕ) (values : List (ℕ × Value)) (reaches : Reaches world n node g) → IsOther world (Wait n [] values)
other_so world n node g values reaches m vs x same at kind =
    call_convert (sym reaches.kind ∙ (ap (λ (y : Node). y.kind) (some_one (sym reaches.there ∙ (ap (slice_get (trees_of world).nodes) (wait_node same) ∙ at))) ∙ kind))

pub steps_called : StepsCalled
steps_called world state f rest n node g body values items target stands covered frames_are items_are reaches met owned noted =
    let arguments : List Value = map (value_in values) (rest_of node.children) in
    let fresh : List Instance = objects_entered world g arguments in
    let held : Each (λ v. NodeIn world state.memory v.0 v.1) values = (own_items world state f rest covered frames_are (Wait n [] values) items items_are).0.2 in
    let made : Each (InstanceIn (sets_of world) state.memory) fresh × Each (λ inst. IsBare world inst → ⊥) fresh =
    activations_covered world state.memory n node g arguments stands reaches met (arguments_held world state.memory n node g values stands reaches held) (map_length (value_in values) (rest_of node.children)) in
    let more : Leaves (sets_of world) state.memory (state.memory ++ fresh) = made_so (sets_of world) state.memory fresh covered.memory made.0 in
    steps_entered world state f rest (Wait n [] values) items fresh (frame_over (record { function = g; call = Some n; by = None }) (length state.memory) body fresh)
    (record { target = target; stores = pointers_from (length state.memory) fresh }) covered frames_are items_are (other_so world n node g values reaches) made.0 made.1
    (record { called = (reaches.target, agrees_so world stands n node g reaches); back = tt; entered = tt; items = (owned, tt) })
    (record { target = noted; stores = fresh_stored world stands state.memory fresh more.extends (length state.memory) fresh (λ j x e. get_behind state.memory fresh (length state.memory + j) j refl ∙ e) made.0 })
