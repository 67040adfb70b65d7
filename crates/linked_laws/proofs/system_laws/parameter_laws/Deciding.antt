-- What is left to decide whether a system is valid.
use Rattle.std.proofs.Common.{arith, ◌≡◌, ℕ, ◌<◌, ◌≤◌, Bool, true, false, if◌then◌else◌, List, [], ◌∷◌, length, map, get_or, unwrap_or, sym, subst}
use Rattle.std.specs.List.{All}
use Rattle.std.proofs.lemmas.List.Elements.{All-nil, All-cons, All-append}
use Rattle.std.proofs.lemmas.Option.{slice_get-get_or}
use Rattle.c_types.specs.declared.key.ObjectKey.{ObjectKey}
use Rattle.c_types.specs.declared.key.ObjectKey.TheVariants.{Entity as EntityKey, Varargs as VarargsKey}
use Rattle.core_tree.specs.declared.node.Program.{Program}
use Rattle.core_tree.specs.Typed.{trees_in}
use Rattle.sol_model.specs.declared.system.System.{System}
use Rattle.sol_model.specs.Systems.{IsRow, IsValid}
use Rattle.obj_space.specs.declared.location.Location.{Location}
use Rattle.obj_space.specs.Space.{locations_in}
use Rattle.obj_space.specs.Spots.{HasWholes}
use Rattle.obj_space.specs.View.{first_from, view_of}
use Rattle.row_numbers.specs.Functions.{key_type, parameters_of}
use Rattle.row_numbers.specs.Setting.{none_row, takes_further}
use Rattle.row_numbers.proofs.FrameLemmas.{locations_within}
use Rattle.normal_form.specs.Facts.{parameter_rows, further_rows, parameters_by}
use Rattle.normal_form.specs.SystemOf.{SystemOf}
use Rattle.constraints.specs.System.{IsSized, AreLocated}
use Rattle.linked_laws.specs.call_laws.Values.{AreCallsOfValues}
use Rattle.linked_laws.proofs.main_laws.Objects.{body_located}
use Rattle.linked_laws.specs.system_laws.Parts.{HasBody}
use Rattle.linked_laws.proofs.system_laws.Functions.{place_of}
use Rattle.linked_laws.proofs.system_laws.Whole.{decided}
use Rattle.linked_laws.specs.system_laws.parameter_laws.Fitting.{AreTypedDemands}
use Rattle.linked_laws.proofs.system_laws.demand_laws.Fitting.{first_or, count_is}
use Rattle.linked_laws.proofs.system_laws.parameter_laws.Fitting.{parameters_fit}

module _ (p : Program) (space : List Location) (is_space : space ≡ locations_in p) (system : System) (of : SystemOf p (view_of space) system) (wholes : HasWholes p.types space) where
  rows_in : (lists : List (List ℕ)) → All (λ rows. All (λ row. row ≤ none_row (trees_in p) (view_of space)) rows) lists → All (λ rows. All (IsRow system) rows) lists
  rows_in lists h = λ k d lt j e less. let le = h k d lt j e less in let many = of.rows in omega arith

  abbrev AreRows : List ℕ → Type 0
  AreRows rows = All (IsRow system) rows

  -- the row of what a function is passed past its parameters
  further_in : 0 < length space → (f : ℕ) (further : Bool) → All AreRows (if further then (unwrap_or (first_from 0 space (VarargsKey f)) 0 ∷ []) ∷ [] else [])
  further_in some f true =
      let first = unwrap_or (first_from 0 space (VarargsKey f)) 0 in
      let less = first_or p space system of some (VarargsKey f) in
      let row : IsRow system first = omega (arith, less, count_is p space system of, locations_within (trees_in p) (view_of space), of.rows) in
      All-cons AreRows (first ∷ []) [] (All-cons (IsRow system) first [] row (All-nil (IsRow system))) (All-nil AreRows)
  further_in some f false = All-nil AreRows

  by_key : 0 < length space → (key : ObjectKey) → All AreRows (parameters_by (trees_in p) (view_of space) key)
  by_key some (EntityKey f) =
      All-append AreRows (map (parameter_rows (trees_in p) (view_of space)) (parameters_of (trees_in p) (view_of space) f)) (further_rows (trees_in p) (view_of space) f)
      (rows_in _ (parameters_fit p space is_space wholes f)) (further_in some f (takes_further (key_type (trees_in p) (EntityKey f))))
  by_key some key = All-nil AreRows

  pub typed_decide : HasBody p → AreCallsOfValues p → IsSized system → AreLocated system → AreTypedDemands system → IsValid system
  typed_decide body values sized located demands = decided p space is_space system of body values sized located (record {
    types = demands.types;
    parameters = λ k d lt.
        let f = place_of (trees_in p) (view_of space) system.functions of.functions k (get_or system.functions k d) (slice_get-get_or system.functions k d lt) in
        let some = subst (λ (s : List Location). 0 < length s) (sym is_space) (body_located p body.number body.entity body.entity_is body.storage) in
        subst (λ (lists : List (List ℕ)). All AreRows lists) (sym f.fact.parameters) (by_key some f.key);
    constraints = demands.constraints;
  })
