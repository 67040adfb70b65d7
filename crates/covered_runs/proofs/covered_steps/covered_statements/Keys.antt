-- Functions and parameters are entities in their roles.
use Rattle.std.proofs.Common.{arith, ◌≡◌, ◌∙◌, ℕ, zero, suc, ◌+◌, Bool, true, false, cond, filter, List, [], ◌∷◌, map, find, Option, Some, None, slice_get, refl, sym, subst}
use Rattle.std.specs.Prelude.{⊤}
use Rattle.std.specs.List.{filter_map, cons_option, enumerate_from, range_with_len}
use Rattle.std.proofs.lemmas.Bool.{false≢true}
use Rattle.c_types.specs.declared.key.ObjectKey.{ObjectKey}
use Rattle.c_types.specs.declared.key.ObjectKey.TheVariants.{Entity as EntityKey, Function as FunctionKey}
use Rattle.core_tree.specs.declared.node.Entity.{Entity}
use Rattle.core_tree.specs.declared.node.Storage.{Storage}
use Rattle.core_tree.specs.declared.node.Storage.TheVariants.{FunctionBody, Parameter}
use Rattle.core_tree.specs.Typed.{CoreTrees}
use Rattle.obj_space.specs.View.{SpaceView}
use Rattle.row_numbers.specs.declared.functions.Role.{Role}
use Rattle.row_numbers.specs.declared.functions.Role.TheVariants.{Defined, Parameter as ParameterRole}
use Rattle.row_numbers.specs.Functions.{has_body, is_parameter, plays, key_if, keys_in, begins_at, object_at, in_order, functions_below, functions_of, function_keys, entity_in, is_owned_by, all_parameters, parameters_of}
use Rattle.covering_laws.proofs.grown_programs.Listed.{kept_from, mapped_from}
use Rattle.covering_laws.specs.covered_state.Items.{Each}
use Rattle.covering_laws.proofs.covered_state.Stays.{each_change, each_append}
use Rattle.covered_runs.proofs.covered_steps.covered_calls.Results.{found_passes, begins_inv}

some_one : {X : Type 0} → {x y : X} → ◌≡◌ {A = Option X} (Some x) (Some y) → x ≡ y
some_one h = cc

none_some : {X : Type 0} → {x : X} → ◌≡◌ {A = Option X} None (Some x) → ⊥
none_some h = cc

-- an entity in a role
abbrev pub IsInRole : CoreTrees → Role → ObjectKey → Type 0
IsInRole u role key = (e : ℕ) × (x : Entity) × (key ≡ EntityKey e) × (slice_get u.entities e ≡ Some x) × (plays role x ≡ true)

roles_from : (u : CoreTrees) (role : Role) (i : ℕ) (xs : List Entity) → ((k : ℕ) (x : Entity) → slice_get xs k ≡ Some x → slice_get u.entities (i + k) ≡ Some x)
    → Each (IsInRole u role) (filter_map (λ entry. key_if role entry.0 entry.1) (enumerate_from i xs))
roles_from u role i [] get = tt
roles_from u role i (x ∷ rest) get =
    by (plays role x) refl
    (roles_from u role (i + 1) rest (λ k y at. subst (λ (j : ℕ). slice_get u.entities j ≡ Some y) (let z : i + suc k ≡ (i + 1) + k = omega arith in z) (get (suc k) y at)))
  where
    by : (b : Bool) → plays role x ≡ b → Each (IsInRole u role) (filter_map (λ entry. key_if role entry.0 entry.1) (enumerate_from (i + 1) rest))
        → Each (IsInRole u role) (cons_option (cond b (Some (EntityKey i)) None) (filter_map (λ entry. key_if role entry.0 entry.1) (enumerate_from (i + 1) rest)))
    by true is h = ((i, x, refl, subst (λ (j : ℕ). slice_get u.entities j ≡ Some x) (let z : i + 0 ≡ i = omega arith in z) (get 0 x refl), is), h)
    by false is h = h

pub in_role : (u : CoreTrees) (role : Role) → Each (IsInRole u role) (keys_in role u.entities)
in_role u role = roles_from u role 0 u.entities (λ j x e. subst (λ (i : ℕ). slice_get u.entities i ≡ Some x) (let z : j ≡ 0 + j = omega arith in z) e)

found_has : {X : Type 0} (P : X → Type 0) (test : X → Bool) (xs : List X) (x : X) → Each P xs → find test xs ≡ Some x → P x
found_has P test [] x h e = absurd (none_some e)
found_has P test (y ∷ ys) x h e = by (test y) e (λ g. found_has P test ys x h.1 g)
  where
    by : (b : Bool) → cond b (Some y) (find test ys) ≡ Some x → (find test ys ≡ Some x → P x) → P x
    by true g next = subst P (some_one g) h.0
    by false g next = next g

-- what stands in a list in the order of locations is one of the list, and begins at a location
pub ordered_from : (s : SpaceView) (P : ObjectKey → Type 0) (keys : List ObjectKey) (locations k : ℕ) (key : ObjectKey) → Each P keys → slice_get (in_order s keys locations) k ≡ Some key → P key × ((l : ℕ) × (s.first key ≡ Some l))
ordered_from s P keys locations k key h at =
    let kept = kept_from (λ (found : Option ObjectKey). found) (map (object_at s keys) (range_with_len 0 locations)) k key at in
    let from = mapped_from (object_at s keys) (range_with_len 0 locations) kept.1 kept.0 kept.2 in
    let found = from.1 ∙ kept.3 in
    (found_has P (begins_at s from.0) keys key h found, (from.0, begins_inv (s.first key) from.0 (found_passes (begins_at s from.0) keys key found)))

-- A function of the program that is an entity has a body.

abbrev pub HasBody : CoreTrees → ObjectKey → Type 0
HasBody u (EntityKey g) = (x : Entity) × (slice_get u.entities g ≡ Some x) × (x.storage ≡ FunctionBody)
HasBody u key = ⊤

body_storage : (s : Storage) → has_body s ≡ true → s ≡ FunctionBody
body_storage FunctionBody h = refl
body_storage s h = absurd (false≢true h)

parameter_storage : (s : Storage) → is_parameter s ≡ true → s ≡ Parameter
parameter_storage Parameter h = refl
parameter_storage s h = absurd (false≢true h)

role_body : (u : CoreTrees) (key : ObjectKey) → IsInRole u Defined key → HasBody u key
role_body u key h = subst (HasBody u) (sym h.2) (h.1, h.3, body_storage h.1.storage h.4)

library_bodies : (u : CoreTrees) (ks : List ℕ) → Each (HasBody u) (map (λ k. FunctionKey k) ks)
library_bodies u [] = tt
library_bodies u (k ∷ ks) = (tt, library_bodies u ks)

pub function_body : (u : CoreTrees) (s : SpaceView) (k : ℕ) (key : ObjectKey) → slice_get (functions_of u s) k ≡ Some key → HasBody u key
unfolding functions_below
function_body u s k key at =
    (ordered_from s (HasBody u) (function_keys u) s.count k key
    (each_append (HasBody u) (keys_in Defined u.entities) (map (λ j. FunctionKey j) (range_with_len 0 55))
    (each_change (IsInRole u Defined) (HasBody u) (role_body u) (keys_in Defined u.entities) (in_role u Defined)) (library_bodies u (range_with_len 0 55))) at).0

-- A parameter is an entity with a location.

filtered_from : {X : Type 0} (test : X → Bool) (xs : List X) (k : ℕ) (x : X) → slice_get (filter test xs) k ≡ Some x → (j : ℕ) × (slice_get xs j ≡ Some x)
filtered_from test [] k x e = absurd (none_some e)
filtered_from {X = X} test (y ∷ ys) k x e = by (test y) k e (λ i g. filtered_from test ys i x g)
  where
    by : (b : Bool) (k : ℕ) → slice_get (cond b (y ∷ filter test ys) (filter test ys)) k ≡ Some x → ((i : ℕ) → slice_get (filter test ys) i ≡ Some x → (j : ℕ) × (slice_get ys j ≡ Some x)) → (j : ℕ) × (slice_get (y ∷ ys) j ≡ Some x)
    by true zero g next = (0, g)
    by true (suc k) g next = let r = next k g in (suc r.0, r.1)
    by false k g next = let r = next k g in (suc r.0, r.1)

-- an entity that is a parameter, and its first location
pub record IsParameterKey (u : CoreTrees) (s : SpaceView) (key : ObjectKey) : Type 0 where
  pub e : ℕ
  pub entity : Entity
  pub key_is : key ≡ EntityKey e
  pub there : slice_get u.entities e ≡ Some entity
  pub storage : entity.storage ≡ Parameter
  pub first : ℕ
  pub first_is : s.first key ≡ Some first

pub parameter_there : (u : CoreTrees) (s : SpaceView) (f k : ℕ) (key : ObjectKey) → slice_get (parameters_of u s f) k ≡ Some key → IsParameterKey u s key
parameter_there u s f k key at =
    let all = filtered_from (λ (x : ObjectKey). is_owned_by f (entity_in u x)) (all_parameters u s) k key at in
    let own = ordered_from s (IsInRole u ParameterRole) (keys_in ParameterRole u.entities) s.count all.0 key (in_role u ParameterRole) all.1 in
    record { e = own.0.0; entity = own.0.1; key_is = own.0.2; there = own.0.3; storage = parameter_storage own.0.1.storage own.0.4; first = own.1.0; first_is = own.1.1 }
