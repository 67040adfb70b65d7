-- What a call gets from the function that it reached is covered at the call.
use Rattle.std.proofs.Common.{arith, ◌≡◌, ◌∙◌, inl, inr, ◌⊎◌, ℕ, zero, suc, ◌+◌, pos, Bool, true, false, cond, eqb, List, [], ◌∷◌, length, map, find, filter_map, Option, Some, None, slice_get, refl, sym, ap, subst}
use Rattle.std.specs.List.{cons_option, range_with_len}
use Rattle.std.specs.Option.{option_map_or}
use Rattle.std.proofs.lemmas.Bool.{false≢true}
use Rattle.std.proofs.lemmas.Bool.Decides.{eqb_tells}
use Rattle.c_types.specs.declared.key.ObjectKey.{ObjectKey}
use Rattle.c_types.specs.declared.key.ObjectKey.TheVariants.{Entity as EntityKey, Text as TextKey, Call as CallKey, Library as LibraryKey, Star as StarKey, Function as FunctionKey}
use Rattle.c_types.specs.declared.key.ObjectKey.TheVariants.{Varargs as VarargsKey, Outside as OutsideKey}
use Rattle.c_types.specs.Trees.{Ctype}
use Rattle.type_rules.specs.Conversions.{result_of}
use Rattle.core_tree.specs.declared.node.Node.{Node}
use Rattle.core_tree.specs.declared.node.NodeKind.TheVariants.{CallNode}
use Rattle.core_tree.specs.Typed.{CoreTrees, type_at}
use Rattle.sol_model.specs.declared.system.Function.{Function}
use Rattle.obj_space.specs.View.{SpaceView}
use Rattle.row_numbers.specs.Functions.{begins_at, object_at, function_keys, functions_below, functions_of, number_at, number_of, key_type}
use Rattle.row_numbers.specs.Kept.{nodes_of, kept_row}
use Rattle.row_numbers.specs.Setting.{result_row}
use Rattle.call_sites.specs.Calls.{calls_upto, IsCallSite, IsSiteAt}
use Rattle.normal_form.specs.Facts.{IsFunctionFact}
use Rattle.ref_cells.specs.declared.cells.Cell.TheVariants.{Number}
use Rattle.ref_cells.specs.declared.cells.Value.{Value}
use Rattle.ref_cells.specs.declared.instance.Instance.{Instance}
use Rattle.ref_mem.specs.Reads.{one_cell}
use Rattle.ref_state.specs.declared.items.Item.{Item}
use Rattle.ref_state.specs.declared.items.Item.TheVariants.{Result as Returned}
use Rattle.ref_state.specs.Values.{no_value}
use Rattle.ref_frames.specs.Frames.{is_main_in, is_empty, given_by, left_with}
use Rattle.row_numbers.specs.Functions.{entity_in}
use Rattle.covering_laws.specs.covered_types.Whole.{IsHeld}
use Rattle.covering_laws.specs.covered_memory.Covered.{ValueIn}
use Rattle.covering_laws.proofs.covered_rows.Calls.{result_in}
use Rattle.covering_laws.proofs.covered_rows.Targets.{function_there}
use Rattle.covering_laws.specs.covered_state.World.{World, trees_of, view_in, sets_of, setting_in}
use Rattle.covering_laws.specs.covered_state.Items.{NodeIn, ReturnedIn}
use Rattle.covering_laws.specs.covered_state.State.{CalledIn, Covered}
use Rattle.covered_runs.specs.covered_steps.covered_values.Values.{Stands}
use Rattle.covered_runs.proofs.covered_steps.covered_values.Operands.{value_node}
use Rattle.covered_runs.specs.covered_steps.Steps.{nothing}
use Rattle.covered_runs.proofs.covered_steps.Steps.{own_frames, own_items}
use Rattle.covered_runs.proofs.covered_steps.Frames.{steps_left}
use Rattle.covered_runs.specs.covered_steps.covered_calls.Results.{IsGivenBy, ResultsGiven, StepsGiven}
use Rattle.covered_runs.proofs.covered_steps.covered_calls.Activations.{none_some, some_one, zip_at}

-- what is kept of the objects at locations, with its place
module _ (h : ℕ → Option ObjectKey) where
  abbrev kept : ℕ → ℕ → List ObjectKey
  kept a n = filter_map (λ found. found) (map h (range_with_len a n))

  pub record IsKept (a k : ℕ) (y : ObjectKey) : Type 0 where
    pub at : ℕ
    pub here : h (a + at) ≡ Some y
    pub count : k ≡ length (kept a at)

  more : (a k : ℕ) (y : ObjectKey) (o : Option ObjectKey) → h a ≡ o → IsKept (a + 1) k y → (m : ℕ) → m ≡ length (cons_option o (kept (a + 1) 0)) + k → IsKept a m y
  more a k y None is r m e = record {
    at = suc r.at;
    here = (let same : a + suc r.at ≡ (a + 1) + r.at = omega arith in ap h same) ∙ r.here;
    count = (let q : m ≡ 0 + k = e in let s : m ≡ k = omega arith in s) ∙ (r.count ∙ sym (ap (λ (o : Option ObjectKey). length (cons_option o (kept (a + 1) r.at))) is));
  }
  more a k y (Some z) is r m e = record {
    at = suc r.at;
    here = (let same : a + suc r.at ≡ (a + 1) + r.at = omega arith in ap h same) ∙ r.here;
    count = (let q : m ≡ 1 + k = e in let s : m ≡ suc k = omega arith in s) ∙ (ap (λ (j : ℕ). suc j) r.count ∙ sym (ap (λ (o : Option ObjectKey). length (cons_option o (kept (a + 1) r.at))) is));
  }

  pub kept_at_place : (a n k : ℕ) (y : ObjectKey) → slice_get (kept a n) k ≡ Some y → IsKept a k y
  kept_at_place a zero k y e = absurd (none_some e)
  kept_at_place a (suc n) k y e = by (h a) refl k e (kept_at_place (a + 1) n)
    where
      by : (o : Option ObjectKey) → h a ≡ o → (k : ℕ) → slice_get (cons_option o (kept (a + 1) n)) k ≡ Some y → ((j : ℕ) (z : ObjectKey) → slice_get (kept (a + 1) n) j ≡ Some z → IsKept (a + 1) j z) → IsKept a k y
      by None is k f next = more a k y None is (next k y f) k (let s : k ≡ 0 + k = omega arith in s)
      by (Some z) is zero f next = record { at = 0; here = (let same : a + 0 ≡ a = omega arith in ap h same) ∙ (is ∙ f); count = refl }
      by (Some z) is (suc k) f next = more a k y (Some z) is (next k y f) (suc k) (let s : suc k ≡ 1 + k = omega arith in s)

-- what is found passes the test
pub found_passes : (test : ObjectKey → Bool) (xs : List ObjectKey) (x : ObjectKey) → find test xs ≡ Some x → test x ≡ true
found_passes test [] x e = absurd (none_some e)
found_passes test (y ∷ rest) x e = by (test y) refl e (found_passes test rest x)
  where
    by : (b : Bool) → test y ≡ b → cond b (Some y) (find test rest) ≡ Some x → (find test rest ≡ Some x → test x ≡ true) → test x ≡ true
    by true is f next = ap test (sym (some_one f)) ∙ is
    by false is f next = next f

pub begins_inv : (o : Option ℕ) (l : ℕ) → option_map_or (λ (first : ℕ). eqb first l) o false ≡ true → o ≡ Some l
begins_inv None l e = absurd (false≢true e)
begins_inv (Some k) l e = elim (eqb_tells k l) [ inl same ↦ ap (λ (j : ℕ). Some j) same.1 | inr other ↦ absurd (false≢true (sym other.0 ∙ e)) ]

-- a function's place among all functions is its number
pub number_is : (u : CoreTrees) (s : SpaceView) (number f : ℕ) → slice_get (functions_of u s) number ≡ Some (EntityKey f) → number ≡ number_of u s f
unfolding functions_below
number_is u s number f e =
    let r = kept_at_place (object_at s (function_keys u)) 0 s.count number (EntityKey f) e in
    let here : object_at s (function_keys u) r.at ≡ Some (EntityKey f) = (let same : r.at ≡ 0 + r.at = omega arith in ap (object_at s (function_keys u)) same) ∙ r.here in
    let first : s.first (EntityKey f) ≡ Some r.at = begins_inv (s.first (EntityKey f)) r.at (found_passes (begins_at s r.at) (function_keys u) (EntityKey f) here) in
    r.count ∙ sym (ap (λ (o : Option ℕ). option_map_or (number_at u s) o 0) first)

module _ (world : World) (stands : Stands world) (n : ℕ) (node : Node) (f : ℕ) (given : IsGivenBy world n node f) where
  of_call : IsCallSite (setting_in world) n node given.target.target.0
  of_call =
      let z = zip_at (IsSiteAt (setting_in world)) (calls_upto (trees_of world).nodes (length (trees_of world).nodes)) world.system.calls given.target.call n given.target.target.0 world.is_system.calls
      given.target.call_is given.target.target.2 in
      subst (λ (x : Node). IsCallSite (setting_in world) n x given.target.target.0) (some_one (sym z.there ∙ given.there)) z.right

  fact : IsFunctionFact (trees_of world) (view_in world) given.target.function (EntityKey f) given.target.target.1
  fact =
      let own = function_there world.program world.space world.system world.is_system given.target.function (EntityKey f) given.target.function_is in
      subst (λ (x : Function). IsFunctionFact (trees_of world) (view_in world) given.target.function (EntityKey f) x) (some_one (sym own.1 ∙ given.target.target.3.known)) own.2

  value_in : (memory : List Instance) (v : Value) → ReturnedIn world memory (EntityKey f) v → NodeIn world memory n v
  value_in memory v h =
      value_node world memory n node given.there CallNode given.kind refl v
      (result_in world.program world.space world.system world.is_system world.family stands.closed stands.grounds given.target.call n node given.target.target.0 given.target.target.2 of_call
      given.target.function given.target.target.1 given.target.target.3 fact.library (EntityKey f) (type_at (trees_of world) n) fact.result given.agrees refl given.held memory v own)
      (inr given.held)
    where
      own : ValueIn (sets_of world) memory (kept_row (result_row (trees_of world) (view_in world) given.target.function) (nodes_of world.program.types (type_at (trees_of world) n))) (type_at (trees_of world) n) v
      own =
          subst (λ (t : Ctype). ValueIn (sets_of world) memory (kept_row (result_row (trees_of world) (view_in world) given.target.function) (nodes_of world.program.types t)) t v) given.agrees
          (subst (λ (k : ℕ). ValueIn (sets_of world) memory (kept_row (result_row (trees_of world) (view_in world) k) (nodes_of world.program.types (result_of (key_type (trees_of world) (EntityKey f)))))
          (result_of (key_type (trees_of world) (EntityKey f))) v) (sym (number_is (trees_of world) (view_in world) given.target.function f given.target.function_is)) h)

pub results_given : ResultsGiven
results_given world memory n node f v stands given h = value_in world stands n node f given memory v h

-- a call of a function: what the function gives, or 0 from main that ends without a value
module _ (world : World) (memory : List Instance) (n : ℕ) (node : Node) (there : slice_get (trees_of world).nodes n ≡ Some node) (kind : node.kind ≡ CallNode) (held : IsHeld world.program.types (type_at (trees_of world) n)) where
  given_in : (key : ObjectKey) (v : Value) → NodeIn world memory n v → NodeIn world memory n (given_by (trees_of world) key v)
  given_in key v h = by (is_empty v.cells) (is_main_in (entity_in (trees_of world) key))
    where
      by : (empty main : Bool) → NodeIn world memory n (cond empty (cond main (one_cell (Number (pos 0))) v) v)
      by true true = value_node world memory n node there CallNode kind refl (one_cell (Number (pos 0))) (tt, tt) (inr held)
      by true false = h
      by false main = h

  none_in : NodeIn world memory n no_value
  none_in = value_node world memory n node there CallNode kind refl no_value tt (inl refl)

pub steps_given : StepsGiven
steps_given world state f rest n node value stands covered frames_are call there kind held done =
    subst (λ (c : Option ℕ). Covered world (record (left_with (trees_of world) world.program.entries.items state f rest value c f.by) { notes = nothing })) (sym call)
    (steps_left world state f rest n (given_by (trees_of world) f.function value) stands.grounds covered frames_are (ended done)
    (given_in world state.memory n node there kind held f.function value (own done)))
  where
    ended : ((f.items ≡ []) × (value ≡ no_value)) ⊎ ((items : List Item) × (f.items ≡ Returned value ∷ items)) → (f.items ≡ []) ⊎ ((v : Value) × (items : List Item) × (f.items ≡ Returned v ∷ items))
    ended (inl e) = inl e.0
    ended (inr r) = inr (value, r.0, r.1)

    called : CalledIn world f.function (Some n)
    called = subst (CalledIn world f.function) call (own_frames world state f rest covered frames_are).0.called

    returned : (key : ObjectKey) → CalledIn world key (Some n) → ReturnedIn world state.memory key value → NodeIn world state.memory n value
    returned (EntityKey g) c h = results_given world state.memory n node g value stands (record { there = there; kind = kind; target = c.0; agrees = c.1; held = held }) h
    returned (TextKey m) c h = absurd h
    returned (CallKey m) c h = absurd h
    returned (LibraryKey m) c h = absurd h
    returned (StarKey m) c h = absurd h
    returned OutsideKey c h = absurd h
    returned (VarargsKey m) c h = absurd h
    returned (FunctionKey m) c h = absurd h

    own : ((f.items ≡ []) × (value ≡ no_value)) ⊎ ((items : List Item) × (f.items ≡ Returned value ∷ items)) → NodeIn world state.memory n value
    own (inl e) = subst (NodeIn world state.memory n) (sym e.1) (none_in world state.memory n node there kind held)
    own (inr r) = returned f.function called (own_items world state f rest covered frames_are (Returned value) r.0 r.1).0
