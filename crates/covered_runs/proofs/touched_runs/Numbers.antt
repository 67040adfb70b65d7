-- The set of a caller has what its callees' sets have.
use Rattle.std.proofs.Common.{arith, ◌≡◌, ◌∙◌, inl, inr, ℕ, ◌+◌, Option, Some, length, slice_get, sym, ap, subst}
use Rattle.std.specs.Option.{option_map_or}
use Rattle.c_types.specs.declared.key.ObjectKey.{ObjectKey}
use Rattle.c_types.specs.declared.key.ObjectKey.TheVariants.{Entity as EntityKey, Function as FunctionKey}
use Rattle.core_tree.specs.Typed.{CoreTrees}
use Rattle.sol_model.specs.declared.system.CallSite.{CallSite}
use Rattle.sol_model.specs.Families.{Family, Has}
use Rattle.sol_model.specs.Targets.{CallsBackIn}
use Rattle.obj_space.specs.View.{SpaceView}
use Rattle.row_numbers.specs.Functions.{begins_at, function_keys, functions_below, functions_of, number_at, number_of, object_at}
use Rattle.call_sites.specs.Calls.{IsSiteAt, calls_upto, caller_by}
use Rattle.mod_ref.specs.declared.access.Access.{Access}
use Rattle.covering_laws.specs.covered_state.World.{World, trees_of, view_in, setting_in, IsFunctionAt, IsTargetAt}
use Rattle.covering_laws.specs.covered_state.Items.{IsOwned}
use Rattle.covering_laws.specs.covered_state.State.{IsInGraph}
use Rattle.covered_runs.proofs.covered_steps.covered_calls.Activations.{zip_at}
use Rattle.covered_runs.proofs.covered_steps.covered_calls.Results.{begins_inv, found_passes, kept_at_place}
use Rattle.covered_runs.specs.touched_runs.Touched.{IsTouchOf, AreNumbered, IsTouchedBy}

-- the number of an object's first location among all functions
abbrev key_number : CoreTrees → SpaceView → ObjectKey → ℕ
key_number u s key = option_map_or (number_at u s) (s.first key) 0

number_known : (u : CoreTrees) (s : SpaceView) (number : ℕ) (key : ObjectKey) → slice_get (functions_of u s) number ≡ Some key → number ≡ key_number u s key
unfolding functions_below
number_known u s number key e =
    let r = kept_at_place (object_at s (function_keys u)) 0 s.count number key e in
    let here : object_at s (function_keys u) r.at ≡ Some key = (let same : r.at ≡ 0 + r.at = omega arith in ap (object_at s (function_keys u)) same) ∙ r.here in
    let first : s.first key ≡ Some r.at = begins_inv (s.first key) r.at (found_passes (begins_at s r.at) (function_keys u) key here) in
    r.count ∙ sym (ap (λ (o : Option ℕ). option_map_or (number_at u s) o 0) first)

-- a function has one number
number_one : (world : World) (a b : ℕ) (key : ObjectKey) → IsFunctionAt world a key → IsFunctionAt world b key → a ≡ b
number_one world a b key h k = number_known (trees_of world) (view_in world) a key h ∙ sym (number_known (trees_of world) (view_in world) b key k)

-- the call at a node, and the function around it
pub site_at : (world : World) (n call : ℕ) (site : CallSite) → slice_get (calls_upto (trees_of world).nodes (length (trees_of world).nodes)) call ≡ Some n → slice_get world.system.calls call ≡ Some site → IsSiteAt (setting_in world) n site
site_at world n call site call_is at = zip_at (IsSiteAt (setting_in world)) (calls_upto (trees_of world).nodes (length (trees_of world).nodes)) world.system.calls call n site world.is_system.calls call_is at

pub caller_is : (world : World) (e n : ℕ) (site : CallSite) → IsSiteAt (setting_in world) n site → IsOwned world (EntityKey e) n → site.caller ≡ number_of (trees_of world) (view_in world) e
caller_is world e n site at owned = at.right.caller ∙ ap (caller_by (setting_in world)) owned

module _ (world : World) (access : Access) (touch : Family) (closed : IsTouchOf world access touch) where
  -- what a target of a call has, the function around the call has
  pub callers_touch : (e n l : ℕ) (callee : ObjectKey) → AreNumbered world → IsOwned world (EntityKey e) n → IsTargetAt world n callee → IsTouchedBy world touch callee l → IsTouchedBy world touch (EntityKey e) l
  callers_touch e n l callee numbered owned target h =
      let site = target.target.0 in
      let at = site_at world n target.call site target.call_is target.target.2 in
      let number = number_of (trees_of world) (view_in world) e in
      record {
        number = number;
        function = numbered e n owned;
        has = closed.called number target.function (inl (target.call, site, target.target.2, caller_is world e n site at owned, target.target)) l
            (subst (λ (k : ℕ). Has touch k l) (number_one world h.number target.function callee h.function target.function_is) h.has);
      }

  -- what a function that the library calls back has, the library's function has
  pub back_touches : (library back l : ℕ) (caller callee : ObjectKey) → IsFunctionAt world library caller → IsFunctionAt world back callee → CallsBackIn world.system world.family library back → IsTouchedBy world touch callee l
      → IsTouchedBy world touch caller l
  back_touches library back l caller callee library_is back_is edge h = record {
    number = library;
    function = library_is;
    has = closed.called library back (inr edge) l (subst (λ (k : ℕ). Has touch k l) (number_one world h.number back callee h.function back_is) h.has);
  }

  pub library_touches : (library l : ℕ) (callee : ObjectKey) → IsInGraph world library callee → IsTouchedBy world touch callee l → IsTouchedBy world touch (FunctionKey library) l
  library_touches library l callee graph h = record {
    number = graph.caller;
    function = graph.caller_is;
    has = closed.called graph.caller graph.callee graph.edge l (subst (λ (k : ℕ). Has touch k l) (number_one world h.number graph.callee callee h.function graph.callee_is) h.has);
  }
