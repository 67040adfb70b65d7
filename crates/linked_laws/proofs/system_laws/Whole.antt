-- What decides whether a system of a program is valid.
use Rattle.std.proofs.Common.{arith, ◌≡◌, ◌∙◌, ℕ, zero, suc, ◌+◌, ◌<◌, ◌≤◌, ◌==◌, Bool, true, false, cond, List, [], ◌∷◌, ◌++◌, Option, Some, None, length, map, take, get_or, slice_get, refl, sym, ap, subst, inl, inr}
use Rattle.std.specs.Prelude.{◌≢◌}
use Rattle.std.specs.List.{All, AllPairs, range_with_len, filter_map, cons_option, find, enumerate_from}
use Rattle.std.specs.Option.{option_map_or}
use Rattle.std.proofs.lemmas.Bool.{false≢true}
use Rattle.std.proofs.lemmas.Bool.Decides.{eqb_tells}
use Rattle.std.proofs.lemmas.List.Elements.{All-nil, All-cons, All-append, All-take, All-map}
use Rattle.std.proofs.lemmas.List.FromFn.{length-map-range_with_len}
use Rattle.std.proofs.lemmas.Option.{slice_get-get_or}
use Rattle.pta_base.specs.declared.effect.Effect.{Effect}
use Rattle.c_types.specs.declared.key.ObjectKey.{ObjectKey}
use Rattle.c_types.specs.declared.key.ObjectKey.TheVariants.{Entity as EntityKey, Function as FunctionKey}
use Rattle.core_tree.specs.declared.node.Program.{Program}
use Rattle.core_tree.specs.declared.node.Node.{Node}
use Rattle.core_tree.specs.declared.node.Entity.{Entity}
use Rattle.core_tree.specs.declared.node.Storage.{Storage}
use Rattle.core_tree.specs.declared.node.Storage.TheVariants.{FunctionBody}
use Rattle.core_tree.specs.declared.node.NodeKind.TheVariants.{CallNode}
use Rattle.core_tree.specs.Typed.{CoreTrees, ValueNode, sort_of, sort_in, sort_at, type_at, trees_in}
use Rattle.sol_model.specs.declared.system.System.{System}
use Rattle.sol_model.specs.declared.system.CallSite.{CallSite}
use Rattle.sol_model.specs.declared.system.Function.{Function}
use Rattle.sol_model.specs.declared.system.LocationFact.{LocationFact}
use Rattle.sol_model.specs.Systems.{location_count, IsRow, IsLocation, IsCallValid, IsFunctionValid, IsEffectValid, IsValid}
use Rattle.obj_space.specs.declared.location.Location.{Location}
use Rattle.obj_space.specs.Space.{locations_in}
use Rattle.obj_space.specs.View.{SpaceView, first_from, view_of}
use Rattle.row_numbers.specs.declared.functions.Role.TheVariants.{Defined}
use Rattle.row_numbers.specs.Functions.{has_body, key_if, keys_in, begins_at, function_keys, functions_of, number_at, number_of}
use Rattle.row_numbers.specs.Setting.{none_row, rest_row, value_rows}
use Rattle.row_numbers.proofs.FrameLemmas.{node_within}
use Rattle.call_sites.specs.Calls.{calls_upto, givers_in, fresh_in, named_library, caller_by, head_of, rest_of, variadic_count, rows_past, argument_rows, IsSiteAt}
use Rattle.normal_form.specs.Facts.{location_fact, effects_by, IsFunctionFact}
use Rattle.normal_form.specs.SystemOf.{setting_of, SystemOf}
use Rattle.constraints.specs.System.{IsSized, AreLocated}
use Rattle.linked_laws.specs.call_laws.Values.{AreCallsOfValues}
use Rattle.linked_laws.proofs.main_laws.Objects.{body_begins}
use Rattle.linked_laws.specs.system_laws.Parts.{HasBody, AreDemandsValid}
use Rattle.linked_laws.proofs.system_laws.Compact.{zip_right, zip_length, numbered_length}
use Rattle.linked_laws.proofs.system_laws.Functions.{place_of, number_within, locations_valid}
use Rattle.linked_laws.proofs.system_laws.Rows.{value_rows_within, rest_fits, result_rows_within}
use Rattle.linked_laws.proofs.system_laws.Effects.{library_valid}
use Rattle.linked_laws.proofs.system_laws.Calls.{call_node, fresh_once, fresh_valid, first_below}

some_one : {X : Type 0} → {x y : X} → ◌≡◌ {A = Option X} (Some x) (Some y) → x ≡ y
some_one h = cc

none_some : {X : Type 0} → {x : X} → ◌≡◌ {A = Option X} None (Some x) → ⊥
none_some h = cc

-- what a filter gives of an element stands in what it gives
pub record Stands {Y : Type 0} (ys : List Y) (y : Y) : Type 0 where
  pub at : ℕ
  pub there : slice_get ys at ≡ Some y

behind_one : {Y : Type 0} (o : Option Y) (ys : List Y) (y : Y) → Stands ys y → Stands (cons_option o ys) y
behind_one None ys y h = h
behind_one (Some z) ys y h = record { at = suc h.at; there = h.there }

goes_by : {Y : Type 0} (o : Option Y) (ys : List Y) (y : Y) → o ≡ Some y → Stands (cons_option o ys) y
goes_by None ys y e = absurd (none_some e)
goes_by (Some z) ys y e = record { at = 0; there = e }

goes_to : {X Y : Type 0} (h : X → Option Y) (xs : List X) (k : ℕ) (x : X) (y : Y) → slice_get xs k ≡ Some x → h x ≡ Some y → Stands (filter_map h xs) y
goes_to h [] k x y at is = absurd (none_some at)
goes_to h (z ∷ xs) zero x y at is = goes_by (h z) (filter_map h xs) y (ap h (some_one at) ∙ is)
goes_to h (z ∷ xs) (suc k) x y at is = behind_one (h z) (filter_map h xs) y (goes_to h xs k x y at is)

numbered_there : {A : Type 0} (n : ℕ) (xs : List A) (k : ℕ) (x : A) → slice_get xs k ≡ Some x → slice_get (enumerate_from n xs) k ≡ Some (n + k, x)
numbered_there n [] k x at = absurd (none_some at)
numbered_there n (y ∷ xs) zero x at = ap (λ (m : ℕ). Some (m, y)) (zero_more n) ∙ ap (λ (z : _). Some (n + 0, z)) (some_one at)
  where
    zero_more : (m : ℕ) → m ≡ m + 0
    zero_more m = omega arith
numbered_there n (y ∷ xs) (suc k) x at = numbered_there (n + 1) xs k x at ∙ ap (λ (m : ℕ). Some (m, x)) (one_more n k)
  where
    one_more : (m j : ℕ) → (m + 1) + j ≡ m + suc j
    one_more m j = omega arith

before_both : {Y : Type 0} (xs ys : List Y) (y : Y) → Stands xs y → Stands (xs ++ ys) y
before_both xs ys y h = record { at = h.at; there = before xs h.at h.there }
  where
    before : (zs : List _) (k : ℕ) → slice_get zs k ≡ Some y → slice_get (zs ++ ys) k ≡ Some y
    before [] k e = absurd (none_some e)
    before (z ∷ zs) zero e = e
    before (z ∷ zs) (suc k) e = before zs k e

find_by : (test : ObjectKey → Bool) (z : ObjectKey) (rest : Option ObjectKey) (b : Bool) → ((b ≡ false) → (y : ObjectKey) × (rest ≡ Some y)) → (y : ObjectKey) × (cond b (Some z) rest ≡ Some y)
find_by test z rest true f = (z, refl)
find_by test z rest false f = f refl

find_some : (test : ObjectKey → Bool) (xs : List ObjectKey) (k : ℕ) (x : ObjectKey) → slice_get xs k ≡ Some x → test x ≡ true → (y : ObjectKey) × (find test xs ≡ Some y)
find_some test [] k x at passes = absurd (none_some at)
find_some test (z ∷ xs) zero x at passes = find_by test z (find test xs) (test z) (λ fails. absurd (false≢true (sym fails ∙ (ap test (some_one at) ∙ passes))))
find_some test (z ∷ xs) (suc k) x at passes = find_by test z (find test xs) (test z) (λ fails. find_some test xs k x at passes)

same_number : (l : ℕ) → (l == l) ≡ true
same_number l = elim (eqb_tells l l) [ inl same ↦ same.0 | inr other ↦ absurd (other.1 refl) ]

module _ (p : Program) (space : List Location) (is_space : space ≡ locations_in p) (system : System) (is : SystemOf p (view_of space) system) where
  s : SpaceView
  s = view_of space

  abbrev u : CoreTrees
  u = trees_in p

  -- a function with a body has a number
  numbered_body : (f : ℕ) (function : Entity) → slice_get p.entities.items f ≡ Some function → function.storage ≡ FunctionBody → number_of u (view_of space) f < length system.functions
  numbered_body f function at storage =
      let (l, first) = body_begins p f function at storage in
      let begins : first_from 0 space (EntityKey f) ≡ Some l = ap (λ (list : List Location). first_from 0 list (EntityKey f)) is_space ∙ first in
      let lt = first_below 0 space (EntityKey f) l begins in
      let plays : key_if Defined f function ≡ Some (EntityKey f) = ap (λ (st : Storage). cond (has_body st) (Some (EntityKey f)) None) storage in
      let entry = numbered_there 0 p.entities.items f function at in
      let zero_is : ◌≡◌ {A = ℕ} (0 + f) f = omega arith in
      let key = goes_to (λ (e : ℕ × Entity). key_if Defined e.0 e.1) (enumerate_from 0 p.entities.items) f (0 + f, function) (EntityKey f) entry (ap (λ (n : ℕ). key_if Defined n function) zero_is ∙ plays) in
      let stands = before_both (keys_in Defined p.entities.items) (map (λ k. FunctionKey k) (range_with_len 0 55)) (EntityKey f) key in
      let passes : begins_at (view_of space) l (EntityKey f) ≡ true = ap (λ (o : Option ℕ). option_map_or (λ first. first == l) o false) begins ∙ same_number l in
      let (found, there) = find_some (begins_at (view_of space) l) (function_keys u) stands.at (EntityKey f) stands.there passes in
      let less = number_within u (view_of space) system.functions is.functions l found (omega arith) there in
      subst (λ (o : Option ℕ). option_map_or (number_at u (view_of space)) o 0 < length system.functions) (sym begins) less

  count_is : location_count system ≡ length space
  count_is = ap (λ (fs : List LocationFact). length fs) is.locations ∙ length-map-range_with_len (location_fact u (view_of space)) 0 (length space)

  rows_in : (rows : List ℕ) → All (λ r. r ≤ none_row u (view_of space)) rows → All (IsRow system) rows
  rows_in rows h = λ k d lt. let le = h k d lt in let many = is.rows in omega arith

  -- functions
  effects_in : (key : ObjectKey) → All IsEffectValid (effects_by key)
  effects_in (FunctionKey k) = library_valid k
  effects_in key = All-nil IsEffectValid

  function_valid : (k : ℕ) (function : Function) → slice_get system.functions k ≡ Some function → All (λ rows. All (IsRow system) rows) function.parameters → IsFunctionValid system function
  function_valid k function at parameters =
      let f = place_of u (view_of space) system.functions is.functions k function at in
      let within = f.within in
      let place = f.location in
      let many = count_is in
      record {
        location = omega arith;
        parameters = parameters;
        result = subst (λ (rows : List ℕ). All (IsRow system) rows) (sym f.fact.result) (rows_in _ (result_rows_within u (view_of space) k f.key f.stands));
        effects = subst (λ (list : List Effect). All IsEffectValid list) (sym f.fact.effects) (effects_in f.key);
      }

  -- calls
  value_at : (c : ℕ) → sort_at u c ≡ ValueNode → All (IsRow system) (value_rows u (view_of space) c)
  value_at c value = by (slice_get p.nodes.items c) refl value
    where
      by : (o : Option Node) → slice_get p.nodes.items c ≡ o → sort_in o ≡ ValueNode → All (IsRow system) (value_rows u (view_of space) c)
      by (Some node) at sort = rows_in (value_rows u (view_of space) c) (value_rows_within u (view_of space) c node at sort)
      by None at sort = cc

  module _ (body : HasBody p) (values : AreCallsOfValues p) where
    abbrev AreRows : List ℕ → Type 0
    AreRows rows = All (IsRow system) rows

    arguments_by : (n : ℕ) (node : Node) → slice_get p.nodes.items n ≡ Some node → node.kind ≡ CallNode → (children : List ℕ) → node.children ≡ children → All (λ c. sort_at u c ≡ ValueNode) (rest_of children)
    arguments_by n node at call [] is = λ k d lt. absurd (omega arith)
    arguments_by n node at call (c ∷ rest) is = λ k d lt. values.each n node at call (suc k) (get_or rest k d) (ap (λ (l : List ℕ). slice_get l (suc k)) is ∙ slice_get-get_or rest k d lt)

    rows_of : (arguments : List ℕ) → All (λ c. sort_at u c ≡ ValueNode) arguments → All AreRows (map (value_rows u (view_of space)) arguments)
    rows_of arguments h = All-map AreRows (value_rows u (view_of space)) arguments (λ k d lt. value_at (get_or arguments k d) (h k d lt))

    -- all arguments past the parameters have one row
    past_in : (n : ℕ) (node : Node) → slice_get p.nodes.items n ≡ Some node → sort_of node.kind ≡ ValueNode → (count : Option ℕ) (arguments : List ℕ) → All (λ c. sort_at u c ≡ ValueNode) arguments → All AreRows (rows_past u (view_of space) n count arguments)
    past_in n node at value None arguments h = rows_of arguments h
    past_in n node at value (Some count) arguments h =
        let rest = rest_row u (view_of space) n in
        let fits = All-cons (λ r. r ≤ none_row u (view_of space)) rest [] (rest_fits u (view_of space) n node at value) (All-nil (λ r. r ≤ none_row u (view_of space))) in
        All-append AreRows (map (value_rows u (view_of space)) (take count arguments)) ((rest ∷ []) ∷ [])
        (rows_of (take count arguments) (All-take (λ c. sort_at u c ≡ ValueNode) count arguments h))
        (All-cons AreRows (rest ∷ []) [] (rows_in (rest ∷ []) fits) (All-nil AreRows))

    arguments_in : (n : ℕ) (node : Node) → slice_get p.nodes.items n ≡ Some node → node.kind ≡ CallNode → All AreRows (argument_rows u (view_of space) n (head_of node.children) (rest_of node.children))
    arguments_in n node at call = past_in n node at (ap sort_of call) (variadic_count (type_at u (head_of node.children))) (rest_of node.children) (arguments_by n node at call node.children refl)

    caller_within : (n : ℕ) (o : Option (Option ℕ)) → slice_get is.owners n ≡ o → caller_by (setting_of p (view_of space) is.owners) o < length system.functions
    caller_within n (Some (Some f)) at = let owner = is.around.right n (Some f) at in numbered_body f owner.0 owner.1 owner.2.0
    caller_within n (Some None) at = let less = numbered_body body.number body.entity body.entity_is body.storage in omega arith
    caller_within n None at = let less = numbered_body body.number body.entity body.entity_is body.storage in omega arith

    call_valid : (k : ℕ) (site : CallSite) → slice_get system.calls k ≡ Some site → IsCallValid system site
    call_valid k site at =
        let w = setting_of p (view_of space) is.owners in
        let z = zip_right (IsSiteAt w) (calls_upto p.nodes.items (length p.nodes.items)) system.calls k site is.calls at in
        let n = z.0 in
        let right = z.2.right in
        let call = call_node p.nodes.items (range_with_len 0 (length p.nodes.items)) k n z.2.node z.1 z.2.there in
        let value = ap sort_of call in
        let callee = node_within u (view_of space) (head_of z.2.node.children) in
        let callee_is = right.callee in
        let many = is.rows in
        let keys = functions_of u (view_of space) in
        let all = zip_length (λ (entry : ℕ × ObjectKey) f. IsFunctionFact u (view_of space) entry.0 entry.1 f) (enumerate_from 0 keys) system.functions is.functions in
        let numbers = numbered_length 0 keys in
        let count = count_is in
        record {
          caller = subst (λ (c : ℕ). c < length system.functions) (sym right.caller) (caller_within n (slice_get is.owners n) refl);
          callee = omega arith;
          arguments = subst (λ (list : List (List ℕ)). All (λ rows. All (IsRow system) rows) list) (sym right.arguments) (arguments_in n z.2.node z.2.there call);
          result = subst (λ (rows : List ℕ). All (IsRow system) rows) (sym right.result) (rows_in _ (value_rows_within u (view_of space) n z.2.node z.2.there value));
          fresh = subst (λ (list : List (ℕ × ℕ)). All (λ pair. (pair.0 < length system.functions) × IsLocation system pair.1) list) (sym right.fresh) (λ i d lt.
              let f = fresh_valid (view_of space) (λ key l e. let less = first_below 0 space key l e in omega arith) n (named_library u z.2.node) keys i _ (slice_get-get_or (fresh_in (view_of space) n (named_library u z.2.node) (givers_in keys)) i d lt) in
              let a = f.0 in
              let b = f.1 in
              (omega arith, omega arith));
          once = subst (λ (list : List (ℕ × ℕ)). AllPairs (λ one other. one.0 ≢ other.0) list) (sym right.fresh) (fresh_once (view_of space) n (named_library u z.2.node) keys);
        }

    pub decided : IsSized system → AreLocated system → AreDemandsValid system → IsValid system
    decided sized located demands = record {
      rows = sized.rows;
      constraints = demands.constraints;
      locations = λ l fact at. locations_valid p (view_of space) system is located l fact at;
      types = demands.types;
      calls = λ k d lt. call_valid k (get_or system.calls k d) (slice_get-get_or system.calls k d lt);
      functions = λ k d lt. function_valid k (get_or system.functions k d) (slice_get-get_or system.functions k d lt) (demands.parameters k d lt);
      size = sized.words;
    }
