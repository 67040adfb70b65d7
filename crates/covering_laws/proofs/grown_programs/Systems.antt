-- The system of a program is that of the program with more types.
use Rattle.std.proofs.Common.{arith, ◌≡◌, ◌∙◌, ◌⊎◌, inl, inr, ℕ, zero, suc, ◌+◌, ◌-◌, ◌<◌, ◌≤◌, List, [], ◌∷◌, ◌++◌, take, map, length, length-append, find, Option, Some, None, slice_get, unwrap_or, refl, sym, ap, subst}
use Rattle.std.specs.Prelude.{if◌then◌else◌, IsPermutation}
use Rattle.std.specs.List.{AllZip, cons_option, enumerate_from, range_with_len}
use Rattle.std.specs.Option.{option_map}
use Rattle.std.proofs.lemmas.Bool.{cases_lt}
use Rattle.c_types.specs.declared.key.ObjectKey.{ObjectKey}
use Rattle.c_types.specs.declared.key.ObjectKey.TheVariants.{Entity as EntityKey, Text as TextKey, Call as CallKey, Library as LibraryKey, Star as StarKey, Function as FunctionKey}
use Rattle.c_types.specs.declared.key.ObjectKey.TheVariants.{Varargs as VarargsKey, Outside as OutsideKey}
use Rattle.c_types.specs.declared.term.Form.TheVariants.{Fixed, Variadic, Unspecified}
use Rattle.c_types.specs.declared.term.Term.{Term}
use Rattle.c_types.specs.declared.term.Term.TheVariants.{Function as FunctionTerm, Structure, Union}
use Rattle.c_types.specs.declared.term.TypeId.{TypeId}
use Rattle.c_types.specs.Trees.{Ctype, Ctypes, MoreTypes, PointerTo, FunctionFrom, trees_at, grow}
use Rattle.c_types.specs.Table.{Table, type_of, types_of, IsNowhere}
use Rattle.c_types.specs.Made.{IsMade, AreNamed}
use Rattle.type_rules.specs.Kinds.{IsFunction}
use Rattle.type_rules.proofs.term_types.Grown.{types_grown}
use Rattle.core_tree.specs.declared.node.Node.{Node}
use Rattle.core_tree.specs.declared.node.Entity.{Entity}
use Rattle.core_tree.specs.declared.node.NodeKind.{NodeKind}
use Rattle.core_tree.specs.declared.node.NodeKind.TheVariants.{CallNode}
use Rattle.core_tree.specs.declared.node.Program.{Program}
use Rattle.core_tree.specs.Typed.{CoreTrees, type_at, trees_in}
use Rattle.core_tree.specs.Range.{Under, here, below}
use Rattle.core_tree.specs.Rows.{RowOf, Calls, CallRow}
use Rattle.core_tree.specs.Valid.{UnderBody, ValidProgram}
use Rattle.sol_model.specs.declared.system.System.{System}
use Rattle.sol_model.specs.declared.system.CallSite.{CallSite}
use Rattle.sol_model.specs.declared.system.Constraint.{Constraint}
use Rattle.sol_model.specs.declared.system.Constraint.TheVariants.{Call}
use Rattle.sol_model.specs.declared.system.Function.{Function}
use Rattle.sol_model.specs.declared.system.LocationFact.{LocationFact}
use Rattle.obj_space.specs.Space.{locations_in}
use Rattle.obj_space.specs.View.{SpaceView, first_from, view_of}
use Rattle.obj_space.proofs.Preorder.{get_behind}
use Rattle.row_numbers.specs.Around.{IsOwner, AreOwners}
use Rattle.row_numbers.specs.Kept.{row_list}
use Rattle.row_numbers.specs.Objects.{is_library}
use Rattle.row_numbers.specs.Functions.{functions_of, function_at, parameters_of, key_id, type_or_void, key_type}
use Rattle.row_numbers.specs.Setting.{Setting, value_rows, takes_further}
use Rattle.call_sites.specs.Signatures.{IsSignature, compares, ends, known, unknown, called_type, calling_type}
use Rattle.call_sites.specs.Calls.{calls_upto, head_of, rest_of, givers_in, fresh_in, caller_by, ids_of, named_library, variadic_count, rows_past, argument_rows, IsCallSite, IsSiteAt, AreCalls}
use Rattle.normal_form.specs.Facts.{location_fact, location_facts, parameter_rows, parameters_by, IsFunctionFact, AreFunctions, number_if}
use Rattle.normal_form.specs.SystemOf.{constraint_of, library_constraints, demands_of, setting_of, SystemOf}
use Rattle.covering_laws.specs.object_contents.Contents.{IsMadeOf}
use Rattle.covering_laws.proofs.object_contents.Contents.{contents_known}
use Rattle.covering_laws.specs.grown_programs.Grown.{with_terms, IsSimple, MayFollow, IsKept, with_types, SystemsGrow}
use Rattle.covering_laws.proofs.grown_programs.Tables.{map_same, tables_grow}
use Rattle.covering_laws.proofs.grown_programs.Types.{both, three, facts_same}
use Rattle.covering_laws.proofs.grown_programs.Numbers.{type_same, key_known, key_type_same, functions_same, number_same, row_same, rest_row_same, result_row_same, none_row_same, total_same, value_rows_same, result_nodes_same}
use Rattle.covering_laws.proofs.grown_programs.Demanded.{assignments_same}
use Rattle.covering_laws.proofs.grown_programs.Starts.{parameter_same, starts_same}
use Rattle.covering_laws.proofs.grown_programs.Listed.{IsFunctionKey, function_there, first_at, library_found, call_there}

none_some : {X : Type 0} → {x : X} → ◌≡◌ {A = Option X} None (Some x) → ⊥
none_some h = cc

some_one : {X : Type 0} → {x y : X} → ◌≡◌ {A = Option X} (Some x) (Some y) → x ≡ y
some_one h = cc

present : {X : Type 0} (xs : List X) (k : ℕ) → k < length xs → (x : X) × (slice_get xs k ≡ Some x)
present [] k lt = absurd (omega arith)
present (x ∷ xs) zero lt = (x, refl)
present (x ∷ xs) (suc k) lt = present xs k (omega arith)

zip_change : {A B : Type 0} (R S : A → B → Type 0) (xs : List A) (ys : List B) → ((k : ℕ) (x : A) (y : B) → slice_get xs k ≡ Some x → R x y → S x y) → AllZip R xs ys → AllZip S xs ys
zip_change R S [] [] f h = tt
zip_change R S [] (y ∷ ys) f h = absurd h
zip_change R S (x ∷ xs) [] f h = absurd h
zip_change R S (x ∷ xs) (y ∷ ys) f h = (f 0 x y refl h.0, zip_change R S xs ys (λ k a b at r. f (suc k) a b at r) h.1)

enumerated : {A : Type 0} (n : ℕ) (xs : List A) (k : ℕ) (entry : ℕ × A) → slice_get (enumerate_from n xs) k ≡ Some entry → slice_get xs k ≡ Some entry.1
enumerated n [] k entry e = absurd (none_some e)
enumerated {A = A} n (x ∷ xs) zero entry e = ap (λ (o : ℕ × A). let r : Option A = Some o.1 in r) (some_one e)
enumerated n (x ∷ xs) (suc k) entry e = enumerated (n + 1) xs k entry e

-- no type that is added is a function's
follow_at : (n : ℕ) (more : List Term) → MayFollow n more → (k : ℕ) (t : Term) → slice_get more k ≡ Some t → IsSimple t
follow_at n [] h k t at = absurd (none_some at)
follow_at n (x ∷ rest) h zero t at = subst IsSimple (some_one at) h.0.2
follow_at n (x ∷ rest) h (suc k) t at = follow_at (n + 1) rest h.1 k t at

simple_grown : (trees : List Ctype) (t : Term) → IsSimple t → IsFunction (grow trees t) → ⊥
simple_grown trees (FunctionTerm r ps f) simple function = simple
simple_grown trees (Structure tag) simple function = simple
simple_grown trees (Union tag) simple function = simple
simple_grown trees t simple function = function

module _ (p : Program) (more : List Term) (valid : ValidProgram p) (made : IsMade p.types) (named : AreNamed p.types) (follow : MayFollow (length p.types.terms) more) where
  abbrev table : Table
  table = p.types

  abbrev new : Table
  new = with_terms p.types more

  abbrev u : CoreTrees
  u = trees_in p

  abbrev u' : CoreTrees
  u' = trees_in (with_types p more)

  kept : IsKept p.types (with_terms p.types more)
  kept = tables_grow p.types more made named follow

  nodes_known : (n : ℕ) (node : Node) → slice_get p.nodes.items n ≡ Some node → node.ty.0 < length p.types.terms
  nodes_known n node at = valid.trees.in_range.types n node at

  entities_known : (e : ℕ) (x : Entity) → slice_get p.entities.items e ≡ Some x → x.ty.0 < length p.types.terms
  entities_known e x at = valid.trees.in_range.entity_types e x at

  simple_type : (j : ℕ) → length table.terms ≤ j → j < length new.terms → IsFunction (type_of new j) → ⊥
  simple_type j ge lt function =
      let long = length-append table.terms more in
      let there = present new.terms j lt in
      let place : j ≡ length table.terms + (j - length table.terms) = omega arith in
      let own : slice_get more (j - length table.terms) ≡ Some there.0 = sym (get_behind table.terms more j (j - length table.terms) place) ∙ there.1 in
      simple_grown (types_of new) there.0 (follow_at (length table.terms) more follow (j - length table.terms) there.0 own)
      (subst IsFunction (types_grown new j there.0 kept.named there.1) function)

  -- a function's type, or one of the table
  abbrev IsCallable : Ctype → Type 0
  IsCallable t = IsFunction t ⊎ ((j : ℕ) × (j < length table.terms) × (type_of table j ≡ t))

  nowhere_more : (t : Ctype) → IsCallable t → IsNowhere table t → IsNowhere new t
  nowhere_more t (inl function) nowhere = record {
    none = λ j lt e. elim (cases_lt j (length table.terms)) [
      | inl less ↦ nowhere.none j less (sym (kept.types j less) ∙ e)
      | inr ge ↦ simple_type j ge lt (subst IsFunction (sym e) function)
    ];
  }
  nowhere_more t (inr there) nowhere = absurd (nowhere.none there.0 there.1 there.2)

  signature_same : (t : Ctype) (signature : ℕ) → IsCallable t → IsSignature table t signature → IsSignature new t signature
  signature_same t signature callable (compares a b) = compares a b
  signature_same t signature callable (ends a b) = ends a b
  signature_same t signature callable (known {id = id} other first is) =
      let long = length-append table.terms more in
      let lt = first.known in
      known {id = id} other
      (record { known = omega arith; same = kept.types id lt ∙ first.same; least = λ j less e. first.least j less (sym (kept.types j (omega arith)) ∙ e) }) is
  signature_same t signature callable (unknown other nowhere is) = unknown other (nowhere_more t callable nowhere) is

  called_callable : (t : Ctype) (j : ℕ) → j < length table.terms → type_of table j ≡ t → IsCallable (called_type t)
  called_callable (FunctionFrom r ps Fixed) j lt is = inl tt
  called_callable (FunctionFrom r ps Variadic) j lt is = inl tt
  called_callable (FunctionFrom r ps Unspecified) j lt is = inl tt
  called_callable t j lt is = inr (j, lt, is)

  abbrev s : SpaceView
  s = view_of (locations_in p)

  -- the type of a listed function is one of the table
  id_callable : (key : ObjectKey) (o : Option TypeId) → key_id u key ≡ o → ((id : TypeId) → o ≡ Some id → id.0 < length table.terms) → ((o ≡ None) → ⊥) → IsCallable (called_type (type_or_void table o))
  id_callable key None is inside some = absurd (some refl)
  id_callable key (Some id) is inside some = called_callable (type_of table id.0) id.0 (inside id refl) refl

  entity_some : (e : ℕ) (x : Entity) → slice_get p.entities.items e ≡ Some x → key_id u (EntityKey e) ≡ None → ⊥
  entity_some e x at none = none_some (sym none ∙ ap (option_map (λ (y : Entity). y.ty)) at)

  library_some : (k : ℕ) (x : Entity) → find (is_library k) p.entities.items ≡ Some x → key_id u (FunctionKey k) ≡ None → ⊥
  library_some k x at none = none_some (sym none ∙ ap (option_map (λ (y : Entity). y.ty)) at)

  key_some : (key : ObjectKey) → IsFunctionKey key → (l : ℕ) → first_from 0 (locations_in p) key ≡ Some l → key_id u key ≡ None → ⊥
  key_some (EntityKey e) function l first =
      let f = first_at 0 (locations_in p) (EntityKey e) l first in
      let right = (contents_known p f.0 f.1 made f.2).0 in
      let own = subst (λ (k : ObjectKey). IsMadeOf p k f.1.content) f.3 right in
      entity_some e own.0 own.1
  key_some (FunctionKey k) function l first =
      let f = first_at 0 (locations_in p) (FunctionKey k) l first in
      let right = (contents_known p f.0 f.1 made f.2).0 in
      let own = subst (λ (key : ObjectKey). IsMadeOf p key f.1.content) f.3 right in
      let x = library_found p.entities.items p.nodes.items k own.1 in
      library_some k x.0 x.1
  key_some (TextKey n) function l first = absurd function
  key_some (CallKey n) function l first = absurd function
  key_some (LibraryKey k) function l first = absurd function
  key_some (StarKey k) function l first = absurd function
  key_some OutsideKey function l first = absurd function
  key_some (VarargsKey k) function l first = absurd function

  function_callable : (k : ℕ) (key : ObjectKey) → slice_get (functions_of u s) k ≡ Some key → IsCallable (called_type (key_type u key))
  function_callable k key at =
      let f = function_there u s k key at in
      id_callable key (key_id u key) refl (λ id h. key_known p more made follow kept nodes_known entities_known key id h) (key_some key f.0 f.1.0 f.1.1)

  -- the type of a call is a function's
  calling_function : (callee t : Ctype) (arguments : List ℕ) (own : Ctypes) → Calls u callee t arguments → IsFunction (calling_type callee own)
  calling_function (PointerTo (FunctionFrom r ps Fixed)) t arguments own h = tt
  calling_function (PointerTo (FunctionFrom r ps Variadic)) t arguments own h = tt
  calling_function (PointerTo (FunctionFrom r ps Unspecified)) t arguments own h = tt
  calling_function callee t arguments own h = absurd h

  call_callable : (t : Ctype) (children : List ℕ) (own : Ctypes) → CallRow u t children → IsCallable (calling_type (type_at u (head_of children)) own)
  call_callable t [] own h = absurd h
  call_callable t (c ∷ arguments) own h = inl (calling_function (type_at u c) t arguments own h.1)

  -- the types of arguments
  ids_by : (o : Option Node) (n : ℕ) → slice_get p.nodes.items n ≡ o → (rest : List TypeId) → trees_at (types_of new) rest ≡ trees_at (types_of table) rest
      → trees_at (types_of new) (cons_option (option_map (λ (x : Node). x.ty) o) rest) ≡ trees_at (types_of table) (cons_option (option_map (λ (x : Node). x.ty) o) rest)
  ids_by None n at rest same = same
  ids_by (Some x) n at rest same = both MoreTypes (kept.types x.ty.0 (nodes_known n x at)) same

  ids_same : (arguments : List ℕ) → trees_at (types_of new) (ids_of p.nodes.items arguments) ≡ trees_at (types_of table) (ids_of p.nodes.items arguments)
  ids_same [] = refl
  ids_same (a ∷ arguments) = ids_by (slice_get p.nodes.items a) a refl (ids_of p.nodes.items arguments) (ids_same arguments)

  module _ (system : System) (is : SystemOf p (view_of (locations_in p)) system) where
    abbrev w : Setting
    w = setting_of p s is.owners

    abbrev w' : Setting
    w' = setting_of (with_types p more) s is.owners

    under_more : {b n : ℕ} → Under u b n → Under u' b n
    under_more here = here
    under_more (below up child) = below (under_more up) child

    under_less : {b n : ℕ} → Under u' b n → Under u b n
    under_less here = here
    under_less (below up child) = below (under_less up) child

    body_more : (o : Option ℕ) (n : ℕ) → UnderBody u o n → UnderBody u' o n
    body_more None n h = h
    body_more (Some b) n h = under_more h

    body_less : (o : Option ℕ) (n : ℕ) → UnderBody u' o n → UnderBody u o n
    body_less None n h = h
    body_less (Some b) n h = under_less h

    owner_more : (n : ℕ) (o : Option ℕ) → IsOwner u n o → IsOwner u' n o
    owner_more n None h = λ f function at around. h f function at (around.0, body_less function.body n around.1)
    owner_more n (Some f) h = (h.0, h.1, (h.2.0, body_more h.0.body n h.2.1))

    owners_more : AreOwners u' is.owners
    owners_more = record { each = is.around.each; right = λ n owner at. owner_more n owner (is.around.right n owner at) }

    facts_more : location_facts u' s ≡ location_facts u s
    facts_more =
        map_same (location_fact u' s) (location_fact u s) (range_with_len 0 s.count)
        (λ k l at. ap (λ (n : ℕ). let r : LocationFact = record { collapsed = s.collapsed l; ty = s.node_type l; function = number_if (function_at u s l) n } in r)
        (ap (λ (ks : List ObjectKey). length ks) (functions_same p more made follow kept nodes_known entities_known s l)))

    demands_same : demands_of w' (length system.calls) ≡ demands_of w (length system.calls)
    demands_same =
        both (λ (nodes begun : List Constraint). nodes ++ map (λ (call : ℕ). Call call) (range_with_len 0 (length system.calls)) ++ library_constraints s ++ begun)
        (ap (map constraint_of) (assignments_same p more made follow kept nodes_known entities_known s is.owners)) (starts_same p more made follow kept nodes_known entities_known s p.entries.items)

    caller_same : (o : Option (Option ℕ)) → caller_by w' o ≡ caller_by w o
    caller_same None = refl
    caller_same (Some None) = refl
    caller_same (Some (Some f)) = number_same p more made follow kept nodes_known entities_known s f

    past_same : (n : ℕ) (o : Option ℕ) (arguments : List ℕ) → rows_past u' s n o arguments ≡ rows_past u s n o arguments
    past_same n None arguments = map_same (value_rows u' s) (value_rows u s) arguments (λ k a at. value_rows_same p more made follow kept nodes_known entities_known s a)
    past_same n (Some count) arguments =
        both (λ (front : List (List ℕ)) (r : ℕ). front ++ (r ∷ []) ∷ [])
        (map_same (value_rows u' s) (value_rows u s) (take count arguments) (λ k a at. value_rows_same p more made follow kept nodes_known entities_known s a))
        (rest_row_same p more made follow kept nodes_known entities_known s n)

    arguments_same : (n callee : ℕ) (arguments : List ℕ) → argument_rows u' s n callee arguments ≡ argument_rows u s n callee arguments
    arguments_same n callee arguments =
        ap (λ (t : Ctype). rows_past u' s n (variadic_count t) arguments) (type_same p more made follow kept nodes_known entities_known callee)
        ∙ past_same n (variadic_count (type_at u callee)) arguments

    site_more : (n : ℕ) (node : Node) → slice_get p.nodes.items n ≡ Some node → node.kind ≡ CallNode → (site : CallSite) → IsCallSite w n node site → IsCallSite w' n node site
    site_more n node there kind site h = record {
      caller = h.caller ∙ sym (caller_same (slice_get is.owners n));
      callee = h.callee ∙ sym (row_same p more made follow kept nodes_known entities_known s (head_of node.children));
      signature = subst (λ (t : Ctype). IsSignature new t site.signature)
          (sym (both calling_type (type_same p more made follow kept nodes_known entities_known (head_of node.children)) (ids_same (rest_of node.children))))
          (signature_same (calling_type (type_at u (head_of node.children)) (trees_at (types_of table) (ids_of p.nodes.items (rest_of node.children)))) site.signature
          (call_callable (type_of table node.ty.0) node.children (trees_at (types_of table) (ids_of p.nodes.items (rest_of node.children)))
          (subst (λ (k : NodeKind). RowOf u k (type_of table node.ty.0) node.children) kind (valid.trees.rows n node there))) h.signature);
      direct = h.direct;
      place = h.place;
      arguments = h.arguments ∙ sym (arguments_same n (head_of node.children) (rest_of node.children));
      result = h.result ∙ sym (value_rows_same p more made follow kept nodes_known entities_known s n);
      fresh = h.fresh ∙ sym (ap (λ (keys : List ObjectKey). fresh_in s n (named_library u node) (givers_in keys)) (functions_same p more made follow kept nodes_known entities_known s s.count));
    }

    calls_more : AreCalls w' system.calls
    calls_more =
        zip_change (IsSiteAt w) (IsSiteAt w') (calls_upto p.nodes.items (length p.nodes.items)) system.calls
        (λ k n site at h. record { node = h.node; there = h.there; right = site_more n h.node h.there (call_there p.nodes.items (length p.nodes.items) k n at h.node h.there) site h.right }) is.calls

    parameters_same : (key : ObjectKey) → parameters_by u' s key ≡ parameters_by u s key
    parameters_same (EntityKey e) =
        both (λ (front rest : List (List ℕ)). front ++ rest) (map_same (parameter_rows u' s) (parameter_rows u s) (parameters_of u s e) (λ k key at. parameter_same p more made follow kept nodes_known entities_known s key))
        (ap (λ (t : Ctype). if takes_further t then (unwrap_or (s.first (VarargsKey e)) 0 ∷ []) ∷ [] else []) (key_type_same p more made follow kept nodes_known entities_known (EntityKey e)))
    parameters_same key = refl

    function_more : (k number : ℕ) (key : ObjectKey) → slice_get (functions_of u s) k ≡ Some key → (function : Function) → IsFunctionFact u s number key function → IsFunctionFact u' s number key function
    function_more k number key at function h = record {
      location = h.location;
      signature = subst (λ (t : Ctype). IsSignature new (called_type t) function.signature) (sym (key_type_same p more made follow kept nodes_known entities_known key))
          (signature_same (called_type (key_type u key)) function.signature (function_callable k key at) h.signature);
      parameters = h.parameters ∙ sym (parameters_same key);
      result = h.result
          ∙ sym (three row_list (none_row_same p more made follow kept nodes_known entities_known s) (result_row_same p more made follow kept nodes_known entities_known s number) (result_nodes_same p more made follow kept nodes_known entities_known key));
      library = h.library;
      effects = h.effects;
    }

    functions_more : AreFunctions u' s system.functions
    functions_more =
        subst (λ (keys : List ObjectKey). AllZip (λ entry function. IsFunctionFact u' s entry.0 entry.1 function) (enumerate_from 0 keys) system.functions)
        (sym (functions_same p more made follow kept nodes_known entities_known s s.count))
        (zip_change (λ entry function. IsFunctionFact u s entry.0 entry.1 function) (λ entry function. IsFunctionFact u' s entry.0 entry.1 function) (enumerate_from 0 (functions_of u s)) system.functions
        (λ k entry function at h. function_more k entry.0 entry.1 (enumerated 0 (functions_of u s) k entry at) function h) is.functions)

    system_more : SystemOf (with_types p more) s system
    system_more = record {
      owners = is.owners;
      around = owners_more;
      rows = is.rows ∙ sym (total_same p more made follow kept nodes_known entities_known s);
      locations = is.locations ∙ sym facts_more;
      types = is.types ∙ sym (facts_same table more made follow kept);
      constraints = subst (λ (list : List Constraint). IsPermutation list system.constraints) (sym demands_same) is.constraints;
      calls = calls_more;
      functions = functions_more;
    }

pub systems_grow : SystemsGrow
systems_grow p more system valid made named follow is = system_more p more valid made named follow system is
