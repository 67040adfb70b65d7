-- Calls of functions with bodies: arguments are covered in the parameters, and what is returned at the call.
use Rattle.std.proofs.Common.{arith, ◌≡◌, ◌∙◌, inl, inr, ℕ, zero, suc, ◌+◌, ◌<◌, true, Bool, List, [], ◌∷◌, ◌++◌, take, length, map, Option, Some, None, slice_get, unwrap_or, Contains, refl, sym, ap, subst}
use Rattle.std.specs.Option.{option_map}
use Rattle.std.proofs.lemmas.Bool.{false≢true}
use Rattle.std.proofs.lemmas.Option.{slice_get-map, slice_get_within}
use Rattle.c_types.specs.declared.key.ObjectKey.{ObjectKey}
use Rattle.c_types.specs.declared.key.ObjectKey.TheVariants.{Entity as EntityKey}
use Rattle.c_types.specs.Trees.{Ctype}
use Rattle.type_rules.specs.Conversions.{result_of}
use Rattle.core_tree.specs.declared.node.Node.{Node}
use Rattle.core_tree.specs.declared.node.NodeKind.TheVariants.{Return}
use Rattle.core_tree.specs.declared.node.Program.{Program}
use Rattle.core_tree.specs.Typed.{CoreTrees, trees_in, type_at}
use Rattle.sol_model.specs.declared.system.System.{System}
use Rattle.sol_model.specs.declared.system.CallSite.{CallSite}
use Rattle.sol_model.specs.declared.system.Function.{Function}
use Rattle.sol_model.specs.declared.system.Constraint.TheVariants.{Call}
use Rattle.sol_model.specs.Families.{Family, Has, IsContained}
use Rattle.sol_model.specs.Rules.{IsTarget, TargetEdge, TargetFact}
use Rattle.sol_model.specs.Solutions.{IsClosed}
use Rattle.obj_space.specs.declared.location.Location.{Location}
use Rattle.obj_space.specs.View.{SpaceView, first_from, view_of}
use Rattle.row_numbers.specs.Kept.{nodes_of, kept_at, row_or, kept_row, row_list}
use Rattle.row_numbers.specs.Functions.{number_of, key_type, parameters_of}
use Rattle.row_numbers.specs.Setting.{Setting, row, rest_row, none_row, result_row, result_nodes, value_rows}
use Rattle.ref_cells.specs.declared.cells.Value.{Value}
use Rattle.ref_cells.specs.declared.instance.Instance.{Instance}
use Rattle.call_sites.specs.Calls.{head_of, rest_of, variadic_count, rows_past, argument_rows, IsCallSite}
use Rattle.normal_form.specs.Assignments.{row_in, copies, given_type, returned_by}
use Rattle.normal_form.specs.Facts.{cell_list, parameter_rows, further_rows, parameters_by}
use Rattle.normal_form.specs.SystemOf.{SystemOf, by_call}
use Rattle.covering_laws.specs.covered_types.Whole.{IsHeld}
use Rattle.covering_laws.specs.covered_memory.Covered.{Sets, ValueIn}
use Rattle.covering_laws.specs.covered_memory.Demands.{Grounds, IsWhole}
use Rattle.covering_laws.proofs.covered_memory.Proper.{position_there}
use Rattle.covering_laws.specs.covered_rows.Nodes.{IsNode, HeldIn, IsWithin}
use Rattle.covering_laws.proofs.covered_rows.Lists.{zip_has}
use Rattle.covering_laws.proofs.covered_rows.Demanded.{Copies, satisfied, by_statement, copies_say}
use Rattle.covering_laws.proofs.covered_rows.Values.{sets, w', held, of_held, value_copied, value_passed}

none_some : {X : Type 0} → {x : X} → ◌≡◌ {A = Option X} None (Some x) → ⊥
none_some h = cc

kept_within : (nodes : List Ctype) (i : ℕ) → kept_at (slice_get nodes i) ≡ true → i < length nodes
kept_within [] i h = absurd (false≢true h)
kept_within (t ∷ nodes) zero h = omega arith
kept_within (t ∷ nodes) (suc i) h = (let lt = kept_within nodes i h in omega arith)

-- the row of a kept node in the list of rows
pub row_there : (none first : ℕ) (nodes : List Ctype) (i : ℕ) → kept_at (slice_get nodes i) ≡ true → slice_get (row_list none first nodes) i ≡ Some (kept_row first nodes i)
row_there none first nodes i h =
    position_there (λ (j : ℕ). row_or none (kept_row first nodes j) (kept_at (slice_get nodes j))) (length nodes) i (kept_within nodes i h)
    ∙ ap (λ (b : Bool). Some (row_or none (kept_row first nodes i) b)) h

pub cell_there : (none first : ℕ) (nodes : List Ctype) (i : ℕ) → kept_at (slice_get nodes i) ≡ true → slice_get (cell_list none first nodes) i ≡ Some (first + i)
cell_there none first nodes i h =
    position_there (λ (j : ℕ). row_or none (first + j) (kept_at (slice_get nodes j))) (length nodes) i (kept_within nodes i h)
    ∙ ap (λ (b : Bool). Some (row_or none (first + i) b)) h

get_map : {X Y : Type 0} (f : X → Y) (xs : List X) (k : ℕ) (x : X) → slice_get xs k ≡ Some x → slice_get (map f xs) k ≡ Some (f x)
get_map f xs k x e = slice_get-map f xs k ∙ ap (option_map f) e

get_front : {X : Type 0} (xs ys : List X) (k : ℕ) (x : X) → slice_get xs k ≡ Some x → slice_get (xs ++ ys) k ≡ Some x
get_front [] ys k x h = absurd (none_some h)
get_front (y ∷ xs) ys zero x h = h
get_front (y ∷ xs) ys (suc k) x h = get_front xs ys k x h

get_taken : {X : Type 0} (n : ℕ) (xs : List X) (k : ℕ) (x : X) → k < n → slice_get xs k ≡ Some x → slice_get (take n xs) k ≡ Some x
get_taken zero xs k x lt h = absurd (omega (arith, lt))
get_taken (suc n) [] k x lt h = h
get_taken (suc n) (y ∷ xs) zero x lt h = h
get_taken (suc n) (y ∷ xs) (suc k) x lt h = get_taken n xs k x (omega (arith, lt)) h

-- the rows of an argument that has a parameter
pub argument_there : (u : CoreTrees) (s : SpaceView) (n callee k a : ℕ) (arguments : List ℕ) → IsWithin u callee k → slice_get arguments k ≡ Some a → slice_get (argument_rows u s n callee arguments) k ≡ Some (value_rows u s a)
argument_there u s n callee k a arguments within at = by (variadic_count (type_at u callee)) refl
  where
    by : (o : Option ℕ) → variadic_count (type_at u callee) ≡ o → slice_get (rows_past u s n o arguments) k ≡ Some (value_rows u s a)
    by None e = get_map (value_rows u s) arguments k a at
    by (Some count) e =
        get_front (map (value_rows u s) (take count arguments)) ((rest_row u s n ∷ []) ∷ []) k (value_rows u s a)
        (get_map (value_rows u s) (take count arguments) k a (get_taken count arguments k a (within count e) at))

-- the rows of a parameter
pub parameter_there : (u : CoreTrees) (s : SpaceView) (f k : ℕ) (key : ObjectKey) → slice_get (parameters_of u s f) k ≡ Some key → slice_get (parameters_by u s (EntityKey f)) k ≡ Some (parameter_rows u s key)
parameter_there u s f k key at =
    get_front (map (parameter_rows u s) (parameters_of u s f)) (further_rows u s f) k (parameter_rows u s key) (get_map (parameter_rows u s) (parameters_of u s f) k key at)

module _ (p : Program) (space : List Location) (system : System) (is : SystemOf p (view_of space) system) (F : Family) (closed : IsClosed system F) (grounds : Grounds p.types space system) where
  abbrev g : Sets
  g = sets p space system is F closed grounds

  abbrev w : Setting
  w = w' p space system is F closed grounds

  abbrev u : CoreTrees
  u = trees_in p

  abbrev s : SpaceView
  s = view_of space

  -- the rule of a call, for one of its targets
  pub call_says : (number : ℕ) (site : CallSite) → slice_get system.calls number ≡ Some site → (target : ℕ) (function : Function) → IsTarget system F site target function
      → (a b : ℕ) → TargetEdge system F site target function function.library a b → IsContained F a b
  call_says number site at target function t a b edge =
      (satisfied p s system is F closed (Call number) (by_call {call = number} (slice_get_within system.calls number site at) refl)).edges a b (site, target, function, at, t, edge)

  pub call_gives : (number : ℕ) (site : CallSite) → slice_get system.calls number ≡ Some site → (target : ℕ) (function : Function) → IsTarget system F site target function
      → (a l : ℕ) → TargetFact site target function function.library a l → Has F a l
  call_gives number site at target function t a l fact =
      (satisfied p s system is F closed (Call number) (by_call {call = number} (slice_get_within system.calls number site at) refl)).facts a l (site, target, function, at, t, fact)

  module _ (number n : ℕ) (node : Node) (site : CallSite) (at : slice_get system.calls number ≡ Some site) (of_call : IsCallSite w n node site)
      (target : ℕ) (function : Function) (is_target : IsTarget system F site target function) (body : function.library ≡ None) where
    edge_says : (a b : ℕ) → TargetEdge system F site target function None a b → IsContained F a b
    edge_says a b e = call_says number site at target function is_target a b (subst (λ (o : Option ℕ). TargetEdge system F site target function o a b) (sym body) e)

    -- An argument is covered in the parameter's object.
    pub parameter_in : (f k a l : ℕ) (key : ObjectKey) (t : Ctype) → IsWithin u (head_of node.children) k → function.parameters ≡ parameters_by u s (EntityKey f) → slice_get (rest_of node.children) k ≡ Some a → slice_get (parameters_of u s f) k ≡ Some key
        → key_type u key ≡ t → type_at u a ≡ t → first_from 0 space key ≡ Some l → IsWhole p.types t → (memory : List Instance) (v : Value) → HeldIn g w memory a v → ValueIn g memory (λ i. l + i) t v
    parameter_in f k a l key t within parameters a_is key_is key_ty ty first whole memory v h =
        value_copied g system grounds memory (kept_row (row_in w a) (nodes_of p.types t)) (λ i. l + i) t whole each v (of_held p space system is F closed grounds a t memory v ty h)
      where
        arguments : slice_get site.arguments k ≡ Some (value_rows u s a)
        arguments = ap (λ (rows : List (List ℕ)). slice_get rows k) of_call.arguments ∙ argument_there u s n (head_of node.children) k a (rest_of node.children) within a_is

        own : slice_get function.parameters k ≡ Some (parameter_rows u s key)
        own = ap (λ (rows : List (List ℕ)). slice_get rows k) parameters ∙ parameter_there u s f k key key_is

        each : Copies p.types F (kept_row (row_in w a) (nodes_of p.types t)) (λ i. l + i) t
        each i kept =
            let from : slice_get (value_rows u s a) i ≡ Some (kept_row (row_in w a) (nodes_of p.types t) i) =
            ap (λ (c : Ctype). slice_get (row_list (none_row u s) (row u s a) (nodes_of p.types c)) i) ty ∙ row_there (none_row u s) (row u s a) (nodes_of p.types t) i kept in
            let to : slice_get (parameter_rows u s key) i ≡ Some (l + i) =
            ap (λ (o : Option ℕ). slice_get (cell_list (none_row u s) (unwrap_or o 0) (nodes_of p.types (key_type u key))) i) first
            ∙ (ap (λ (c : Ctype). slice_get (cell_list (none_row u s) l (nodes_of p.types c)) i) key_ty ∙ cell_there (none_row u s) l (nodes_of p.types t) i kept) in
            edge_says (kept_row (row_in w a) (nodes_of p.types t) i) (l + i)
            (inl (
              (value_rows u s a, parameter_rows u s key),
              zip_has site.arguments function.parameters k (value_rows u s a) (parameter_rows u s key) arguments own,
              zip_has (value_rows u s a) (parameter_rows u s key) i (kept_row (row_in w a) (nodes_of p.types t) i) (l + i) from to,
            ))

    -- What a function's result rows cover, the call's cover.
    pub result_in : (key : ObjectKey) (t : Ctype) → function.result ≡ row_list (none_row u s) (result_row u s target) (result_nodes u key) → result_of (key_type u key) ≡ t → type_at u n ≡ t → IsHeld p.types t
        → (memory : List Instance) (v : Value) → ValueIn g memory (kept_row (result_row u s target) (nodes_of p.types t)) t v → HeldIn g w memory n v
    result_in key t result key_ty ty may_hold memory v h =
        held p space system is F closed grounds n t memory v ty
        (value_passed g system grounds memory (kept_row (result_row u s target) (nodes_of p.types t)) (kept_row (row_in w n) (nodes_of p.types t)) t may_hold each v h)
      where
        each : Copies p.types F (kept_row (result_row u s target) (nodes_of p.types t)) (kept_row (row_in w n) (nodes_of p.types t)) t
        each i kept =
            let from : slice_get function.result i ≡ Some (kept_row (result_row u s target) (nodes_of p.types t) i) =
            ap (λ (rows : List ℕ). slice_get rows i) result
            ∙ (ap (λ (c : Ctype). slice_get (row_list (none_row u s) (result_row u s target) (nodes_of p.types c)) i) key_ty ∙ row_there (none_row u s) (result_row u s target) (nodes_of p.types t) i kept) in
            let to : slice_get site.result i ≡ Some (kept_row (row_in w n) (nodes_of p.types t) i) =
            ap (λ (rows : List ℕ). slice_get rows i) of_call.result
            ∙ (ap (λ (c : Ctype). slice_get (row_list (none_row u s) (row u s n) (nodes_of p.types c)) i) ty ∙ row_there (none_row u s) (row u s n) (nodes_of p.types t) i kept) in
            edge_says (kept_row (result_row u s target) (nodes_of p.types t) i) (kept_row (row_in w n) (nodes_of p.types t) i)
            (inr (zip_has function.result site.result i (kept_row (result_row u s target) (nodes_of p.types t) i) (kept_row (row_in w n) (nodes_of p.types t) i) from to))

  -- Return: the value is covered in the result rows of the function around it
  pub return_in : (n v f : ℕ) (t s' : Ctype) → IsNode u n Return s' (v ∷ []) → slice_get is.owners n ≡ Some (Some f) → given_type w f ≡ t → type_at u v ≡ t → IsHeld p.types t
      → (memory : List Instance) (value : Value) → HeldIn g w memory v value → ValueIn g memory (kept_row (result_row u s (number_of u s f)) (nodes_of p.types t)) t value
  return_in n v f t s' node owner given ty may_hold memory value h =
      value_passed g system grounds memory (kept_row (row_in w v) (nodes_of p.types t)) (kept_row (result_row u s (number_of u s f)) (nodes_of p.types t)) t may_hold
      (copies_say p s system is F closed t (result_row u s (number_of u s f)) (row_in w v)
      (λ a c. by_statement p s system is F closed n Return s' (v ∷ []) node a
      (subst (λ (o : Option (Option ℕ)). Contains (returned_by w o v) a) (sym owner)
      (subst (λ (b : Ctype). Contains (copies (nodes_of p.types b) (result_row u s (number_of u s f)) (row_in w v)) a) (sym given) c)))) value
      (of_held p space system is F closed grounds v t memory value ty h)
