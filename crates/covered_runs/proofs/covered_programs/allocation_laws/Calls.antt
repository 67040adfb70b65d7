-- What calls demand leaves an allocating function's location at its names and at what decays from them.
use Rattle.std.proofs.Common.{arith, ◌≡◌, ◌∙◌, ◌⊎◌, inl, inr, ℕ, zero, suc, Bool, true, false, cond, List, [], ◌∷◌, ◌++◌, length, map, take, zip, Option, Some, None, slice_get, Contains, refl, sym, ap, subst}
use Rattle.std.specs.Prelude.{option_and_then}
use Rattle.std.specs.Option.{option_map}
use Rattle.pta_base.specs.declared.effect.Effect.{Effect}
use Rattle.pta_base.specs.declared.effect.Effect.TheVariants.{Nothing, GivesArgument, GivesNew, GivesObject, Copies, StoresInto, CallsBack}
use Rattle.c_types.specs.declared.key.ObjectKey.TheVariants.{Call as CallKey, Library as LibraryKey, Star as StarKey, Function as FunctionKey}
use Rattle.c_types.specs.declared.term.Form.{Form}
use Rattle.c_types.specs.declared.term.Form.TheVariants.{Fixed, Variadic, Unspecified}
use Rattle.c_types.specs.Trees.{Ctype, PointerTo, FunctionFrom, Ctypes, NoTypes, MoreTypes}
use Rattle.c_types.specs.Table.{type_of}
use Rattle.core_tree.specs.declared.node.Node.{Node}
use Rattle.core_tree.specs.declared.node.NodeKind.{NodeKind}
use Rattle.core_tree.specs.declared.node.NodeKind.TheVariants.{FunctionName, Decay, CallNode}
use Rattle.core_tree.specs.declared.node.Program.{Program}
use Rattle.core_tree.specs.Rows.{RowOf, Arguments, Calls, CallRow, IsFurther}
use Rattle.core_tree.specs.Typed.{CoreTrees, ValueNode, sort_at, type_at, trees_in}
use Rattle.sol_model.specs.declared.system.System.{System}
use Rattle.sol_model.specs.declared.system.CallSite.{CallSite}
use Rattle.sol_model.specs.declared.system.Function.{Function}
use Rattle.sol_model.specs.declared.system.Constraint.TheVariants.{Call}
use Rattle.sol_model.specs.Families.{Family}
use Rattle.sol_model.specs.Rules.{first_row, argument_row, AreJoined, PassesBack, EffectEdge, EffectFact, TargetEdge, TargetFact}
use Rattle.sol_model.specs.Systems.{IsValid}
use Rattle.sol_model.proofs.Members.{All-at, Contains-zip}
use Rattle.sol_model.proofs.InRange.{deep_locations}
use Rattle.obj_made.specs.Uses.{is_starred}
use Rattle.obj_space.specs.declared.location.Location.{Location}
use Rattle.obj_space.specs.View.{first_from, view_of}
use Rattle.lib_summaries.specs.Table.{effects_of}
use Rattle.row_numbers.specs.Functions.{functions_of}
use Rattle.row_numbers.specs.Setting.{Setting, calls_further, none_row, rest_row, result_row, result_nodes, value_rows}
use Rattle.call_sites.specs.Calls.{variadic_count, rows_past, head_of, rest_of, is_named, object_by, fresh_by, fresh_of, givers_in, calls_upto, named_library, IsCallSite, IsSiteAt}
use Rattle.normal_form.specs.SystemOf.{setting_of, SystemOf}
use Rattle.linked_laws.proofs.system_laws.Calls.{comes_from, call_node}
use Rattle.linked_laws.proofs.system_laws.Compact.{zip_right}
use Rattle.linked_laws.proofs.system_laws.Functions.{place_of}
use Rattle.linked_laws.proofs.system_laws.demand_laws.Fitting.{count_is}
use Rattle.covered_runs.specs.covered_programs.allocation_laws.Spread.{IsRight, AreSpaced}
use Rattle.covered_runs.proofs.covered_programs.allocation_laws.Marks.{none_some, some_one, IsMarked, as_name, as_decay, name_of_kind}
use Rattle.covered_runs.proofs.covered_programs.allocation_laws.Ranges.{item_there, mapped_from, list_rows, value_list, IsRowOf, rest_of_call, special_row, location_plain, result_plain, none_plain}
use Rattle.covered_runs.proofs.covered_programs.allocation_laws.Keeping.{IsSpecial, Keeps, key_own, from_child}

decay_call : CallNode ≡ Decay → ⊥
decay_call h = cc

name_call : (e : ℕ) → FunctionName e ≡ CallNode → ⊥
name_call e h = cc

later_first : {j : ℕ} → suc j ≡ 0 → ⊥
later_first h = omega arith

call_function : (n k : ℕ) → CallKey n ≡ FunctionKey k → ⊥
call_function n k h = cc

star_function : (n k : ℕ) → StarKey n ≡ FunctionKey k → ⊥
star_function n k h = cc

library_function : (n k : ℕ) → LibraryKey n ≡ FunctionKey k → ⊥
library_function n k h = cc

module _ (u : CoreTrees) where
  -- the arguments of a call are values
  arguments_values : (ps : Ctypes) (f : Form) (args : List ℕ) → Arguments u ps f args → (j v : ℕ) → slice_get args j ≡ Some v → sort_at u v ≡ ValueNode
  arguments_values NoTypes Fixed [] h j v at = absurd (none_some at)
  arguments_values NoTypes Fixed (a ∷ args) h j v at = absurd h
  arguments_values NoTypes Variadic args h j v at = (All-at (λ a. IsFurther u a) args j v h at).0
  arguments_values NoTypes Unspecified args h j v at = (All-at (λ a. IsFurther u a) args j v h at).0
  arguments_values (MoreTypes t rest) Unspecified args h j v at = absurd h
  arguments_values (MoreTypes t rest) Fixed [] h j v at = absurd (none_some at)
  arguments_values (MoreTypes t rest) Fixed (a ∷ args) h zero v at = subst (λ (x : ℕ). sort_at u x ≡ ValueNode) (some_one at) h.0.0
  arguments_values (MoreTypes t rest) Fixed (a ∷ args) h (suc j) v at = arguments_values rest Fixed args h.1 j v at
  arguments_values (MoreTypes t rest) Variadic [] h j v at = absurd (none_some at)
  arguments_values (MoreTypes t rest) Variadic (a ∷ args) h zero v at = subst (λ (x : ℕ). sort_at u x ≡ ValueNode) (some_one at) h.0.0
  arguments_values (MoreTypes t rest) Variadic (a ∷ args) h (suc j) v at = arguments_values rest Variadic args h.1 j v at

  calls_values : (c t : Ctype) (args : List ℕ) → Calls u c t args → (j v : ℕ) → slice_get args j ≡ Some v → sort_at u v ≡ ValueNode
  calls_values (PointerTo (FunctionFrom r ps f)) t args h j v at = arguments_values ps f args h.1 j v at
  calls_values c t args h j v at = absurd h

  calls_pointer : (c t : Ctype) (args : List ℕ) → Calls u c t args → (to : Ctype) × (c ≡ PointerTo to)
  calls_pointer (PointerTo (FunctionFrom r ps f)) t args h = (FunctionFrom r ps f, refl)
  calls_pointer c t args h = absurd h

  pub row_values : (t : Ctype) (children : List ℕ) → CallRow u t children → (j v : ℕ) → slice_get (rest_of children) j ≡ Some v → sort_at u v ≡ ValueNode
  row_values t [] h j v at = absurd h
  row_values t (c ∷ args) h j v at = calls_values (type_at u c) t args h.1 j v at

  row_listed : (t : Ctype) (children : List ℕ) → CallRow u t children → children ≡ head_of children ∷ rest_of children
  row_listed t [] h = absurd h
  row_listed t (c ∷ args) h = refl

  -- what is called is a pointer
  pub row_callee : (t : Ctype) (children : List ℕ) → CallRow u t children → (sort_at u (head_of children) ≡ ValueNode) × (to : Ctype) × (type_at u (head_of children) ≡ PointerTo to)
  row_callee t [] h = absurd h
  row_callee t (c ∷ args) h = let to = calls_pointer (type_at u c) t args h.1 in (h.0, to.0, to.1)

-- a callee that counts its parameters takes more
counted_further : (t : Ctype) (count : ℕ) → variadic_count t ≡ Some count → calls_further t ≡ true
counted_further (PointerTo (FunctionFrom r ps Variadic)) count h = refl
counted_further t count h = absurd (none_some h)

in_either : {X : Type 0} (xs ys : List X) (j : ℕ) (x : X) → slice_get (xs ++ ys) j ≡ Some x → (slice_get xs j ≡ Some x) ⊎ ((i : ℕ) × (slice_get ys i ≡ Some x))
in_either [] ys j x h = inr (j, h)
in_either (y ∷ xs) ys zero x h = inl h
in_either (y ∷ xs) ys (suc j) x h = in_either xs ys j x h

only_one : {X : Type 0} (x y : X) (i : ℕ) → slice_get (x ∷ []) i ≡ Some y → x ≡ y
only_one x y zero h = some_one h
only_one x y (suc i) h = absurd (none_some h)

taken : (count : ℕ) (xs : List ℕ) (j v : ℕ) → slice_get (take count xs) j ≡ Some v → slice_get xs j ≡ Some v
taken zero xs j v h = absurd (none_some h)
taken (suc count) [] j v h = absurd (none_some h)
taken (suc count) (x ∷ xs) zero v h = h
taken (suc count) (x ∷ xs) (suc j) v h = taken count xs j v h

rest_child : (children : List ℕ) (j v : ℕ) → slice_get (rest_of children) j ≡ Some v → slice_get children (suc j) ≡ Some v
rest_child [] j v at = absurd (none_some at)
rest_child (c ∷ rest) j v at = at

-- the call of a number
pub record IsCallOf (p : Program) (w : Setting) (number : ℕ) (site : CallSite) : Type 0 where
  pub n : ℕ
  pub listed : slice_get (calls_upto p.nodes.items (length p.nodes.items)) number ≡ Some n
  pub node : Node
  pub there : slice_get p.nodes.items n ≡ Some node
  pub kind : node.kind ≡ CallNode
  pub right : IsCallSite w n node site

pub call_there : (p : Program) (space : List Location) (system : System) (is : SystemOf p (view_of space) system) (number : ℕ) (site : CallSite) → slice_get system.calls number ≡ Some site → IsCallOf p (setting_of p (view_of space) is.owners) number site
call_there p space system is number site at =
    let z = zip_right (IsSiteAt (setting_of p (view_of space) is.owners)) (calls_upto p.nodes.items (length p.nodes.items)) system.calls number site is.calls at in
    record { n = z.0; listed = z.1; node = z.2.node; there = z.2.there; kind = call_node p.nodes.items _ number z.0 z.2.node z.1 z.2.there; right = z.2.right }

module _ (p : Program) (space : List Location) (system : System) (is : SystemOf p (view_of space) system) (right : IsRight p) (spaced : AreSpaced p space) (F : Family) (k L : ℕ) (own : first_from 0 space (FunctionKey k) ≡ Some L) (unused : is_starred p.entities.items p.nodes.items k ≡ false) (valid : IsValid system) where
  abbrev w : Setting
  w = setting_of p (view_of space) is.owners

  abbrev Special : ℕ → Type 0
  Special r = IsSpecial p space system is right spaced F k L own unused r

  -- the function is no object that a call gets
  chosen_plain : (n j : ℕ) (b : Bool) → (let o : Option ℕ = cond b (first_from 0 space (CallKey n)) (first_from 0 space (StarKey j)) in o) ≡ Some L → ⊥
  chosen_plain n j true h = call_function n k (key_own p space system is right spaced F k L own unused (CallKey n) h)
  chosen_plain n j false h = star_function j k (key_own p space system is right spaced F k L own unused (StarKey j) h)

  object_plain : (n : ℕ) (named : Option ℕ) (j : ℕ) (effects : List Effect) → object_by (view_of space) n named j effects ≡ Some L → ⊥
  object_plain n named j [] h = none_some h
  object_plain n named j (GivesNew ∷ rest) h = chosen_plain n j (is_named named j) h
  object_plain n named j (GivesObject object ∷ rest) h = library_function object k (key_own p space system is right spaced F k L own unused (LibraryKey object) h)
  object_plain n named j (effect ∷ rest) h = object_plain n named j rest h

  fresh_by_plain : (n : ℕ) (named : Option ℕ) (giver q : ℕ × ℕ) → fresh_by (view_of space) n named giver ≡ Some q → q.1 ≡ L → ⊥
  fresh_by_plain n named giver q h same = by (object_by (view_of space) n named giver.1 (effects_of giver.1)) refl h
    where
      by : (o : Option ℕ) → object_by (view_of space) n named giver.1 (effects_of giver.1) ≡ o → option_map (λ location. (giver.0, location)) o ≡ Some q → ⊥
      by None at g = none_some g
      by (Some l) at g = object_plain n named giver.1 (effects_of giver.1) (at ∙ ap (λ (m : ℕ). Some m) (ap (λ (r : ℕ × ℕ). r.1) (some_one g) ∙ same))

  fresh_plain : (n : ℕ) (named : Option ℕ) (number : ℕ) → Contains (fresh_of (trees_in p) (view_of space) n named) (number, L) → ⊥
  fresh_plain n named number h =
      let at = item_there (fresh_of (trees_in p) (view_of space) n named) (number, L) h in
      let from = comes_from (fresh_by (view_of space) n named) (givers_in (functions_of (trees_in p) (view_of space))) at.0 (number, L) at.1 in
      fresh_by_plain n named from.from (number, L) from.gives refl

  module _ (site : CallSite) (number : ℕ) (call : IsCallOf p (setting_of p (view_of space) is.owners) number site) where
    row_is : CallRow (trees_in p) (type_of p.types call.node.ty.0) call.node.children
    row_is = subst (λ (j : NodeKind). RowOf (trees_in p) j (type_of p.types call.node.ty.0) call.node.children) call.kind (right.rows call.n call.node call.there)

    -- no row of an argument has it
    value_plain : (j v i r : ℕ) → slice_get (rest_of call.node.children) j ≡ Some v → slice_get (value_rows (trees_in p) (view_of space) v) i ≡ Some r → Special r → ⊥
    value_plain j v i r child at special =
        elim (value_list (trees_in p) (view_of space) v i r (row_values (trees_in p) (type_of p.types call.node.ty.0) call.node.children row_is j v child) at) [
          | inl none ↦ none_plain (trees_in p) (view_of space) right.rows k (subst Special none special)
          | inr rows ↦
              elim (from_child p space system is right spaced F k L own unused call.n call.node (suc j) v r call.there (rest_child call.node.children j v child) rows special) [
                | inl d ↦ decay_call (sym call.kind ∙ d.0)
                | inr c ↦ later_first c.1
              ]
        ]

    -- nor has the row of all that is passed past the parameters
    rest_plain : (count : ℕ) → variadic_count (type_at (trees_in p) (head_of call.node.children)) ≡ Some count → Special (rest_row (trees_in p) (view_of space) call.n) → ⊥
    rest_plain count counted special = by (special_row (trees_in p) (view_of space) right.rows k call.n (rest_row (trees_in p) (view_of space) call.n) special rows)
      where
        rows : IsRowOf (trees_in p) (view_of space) call.n (rest_row (trees_in p) (view_of space) call.n)
        rows =
            rest_of_call (trees_in p) (view_of space) call.n call.node (head_of call.node.children) (rest_of call.node.children) call.there call.kind
            (row_listed (trees_in p) (type_of p.types call.node.ty.0) call.node.children row_is) (counted_further (type_at (trees_in p) (head_of call.node.children)) count counted)

        by : IsMarked (trees_in p) k call.n → ⊥
        by (as_name h) =
            let name = name_of_kind (trees_in p) k h.node.kind h.name in
            name_call name.e (sym name.kind_is ∙ (ap (λ (x : Node). x.kind) (some_one (sym h.there ∙ call.there)) ∙ call.kind))
        by (as_decay h) = decay_call (sym call.kind ∙ (ap (λ (x : Node). x.kind) (some_one (sym call.there ∙ h.there)) ∙ h.kind))

    passed_plain : (o : Option ℕ) → variadic_count (type_at (trees_in p) (head_of call.node.children)) ≡ o → (j : ℕ) (rows : List ℕ) (i r : ℕ)
        → slice_get (rows_past (trees_in p) (view_of space) call.n o (rest_of call.node.children)) j ≡ Some rows → slice_get rows i ≡ Some r → Special r → ⊥
    passed_plain None counted j rows i r at there special =
        let v = mapped_from (value_rows (trees_in p) (view_of space)) (rest_of call.node.children) j rows at in
        value_plain j v.0 i r v.1 (ap (λ (ls : List ℕ). slice_get ls i) v.2 ∙ there) special
    passed_plain (Some count) counted j rows i r at there special =
        let rest = rest_row (trees_in p) (view_of space) call.n in
        elim (in_either (map (value_rows (trees_in p) (view_of space)) (take count (rest_of call.node.children))) ((rest ∷ []) ∷ []) j rows at) [
          | inl own ↦
              (let v = mapped_from (value_rows (trees_in p) (view_of space)) (take count (rest_of call.node.children)) j rows own in
              value_plain j v.0 i r (taken count (rest_of call.node.children) j v.0 v.1) (ap (λ (ls : List ℕ). slice_get ls i) v.2 ∙ there) special)
          | inr last ↦
              (let only = only_one (rest ∷ []) rows last.0 last.1 in
              let row = only_one rest r i (ap (λ (ls : List ℕ). slice_get ls i) only ∙ there) in
              rest_plain count counted (subst Special (sym row) special))
        ]

    rows_plain : (j : ℕ) (rows : List ℕ) (i r : ℕ) → slice_get site.arguments j ≡ Some rows → slice_get rows i ≡ Some r → Special r → ⊥
    rows_plain j rows i r at there special =
        passed_plain (variadic_count (type_at (trees_in p) (head_of call.node.children))) refl j rows i r (ap (λ (ls : List (List ℕ)). slice_get ls j) (sym call.right.arguments) ∙ at) there special

    argument_plain : (j r : ℕ) → argument_row site j ≡ Some r → Special r → ⊥
    argument_plain zero r h special = none_some h
    argument_plain (suc j) r h special = by (slice_get site.arguments j) refl h
      where
        by : (o : Option (List ℕ)) → slice_get site.arguments j ≡ o → option_and_then first_row o ≡ Some r → ⊥
        by None at g = none_some g
        by (Some rows) at g = rows_plain j rows 0 r at g special

    joined_plain : (to : List (List ℕ)) (a b : ℕ) → AreJoined site.arguments to a b → Special a → ⊥
    joined_plain to a b h special =
        let outer = Contains-zip site.arguments to h.0.0 h.0.1 h.1 in
        let inner = Contains-zip h.0.0 h.0.1 a b h.2 in
        let one = item_there site.arguments h.0.0 outer.0 in
        let two = item_there h.0.0 a inner.0 in
        rows_plain one.0 h.0.0 two.0 a one.1 two.1 special

    result_rows_plain : (target : ℕ) (function : Function) → slice_get system.functions target ≡ Some function → (a b : ℕ) → Contains (zip function.result site.result) (a, b) → Special a → ⊥
    result_rows_plain target function at a b h special =
        let f = place_of (trees_in p) (view_of space) system.functions is.functions target function at in
        let there = item_there function.result a (Contains-zip function.result site.result a b h).0 in
        elim
        (list_rows (none_row (trees_in p) (view_of space)) (result_row (trees_in p) (view_of space) target) (result_nodes (trees_in p) f.key) there.0 a (ap (λ (rs : List ℕ). slice_get rs there.0) (sym f.fact.result) ∙ there.1)) [
          | inl none ↦ none_plain (trees_in p) (view_of space) right.rows k (subst Special none special)
          | inr rows ↦ result_plain (trees_in p) (view_of space) right.rows k a target rows.0 special
        ]

    passes_plain : (passed : Option (ℕ × ℕ)) (function : Function) (a b : ℕ) → PassesBack site passed function a b → Special a → ⊥
    passes_plain None function a b h special = h
    passes_plain (Some pair) function a b h special = elim h.1 [ inl one ↦ argument_plain pair.0 a one.0 special | inr two ↦ argument_plain pair.1 a two.0 special ]

    effect_plain : (target : ℕ) (effect : Effect) (a b : ℕ) → EffectEdge system F site target effect a b → Special a → ⊥
    effect_plain target Nothing a b h special = h
    effect_plain target (GivesArgument j) a b h special = argument_plain j a h.0 special
    effect_plain target GivesNew a b h special = h
    effect_plain target (GivesObject object) a b h special = h
    effect_plain target (Copies i j) a b h special =
        let pair = deep_locations system valid h.0 h.1 b a h.4 in
        let within = pair.1 in
        let many = count_is p space system is in
        location_plain (trees_in p) (view_of space) right.rows k a (omega arith) special
    effect_plain target (StoresInto i j) a b h special = argument_plain j a h.3 special
    effect_plain target (CallsBack j passed) a b h special = passes_plain passed h.1 a b h.3 special

    target_plain : (target : ℕ) (function : Function) → slice_get system.functions target ≡ Some function → (library : Option ℕ) (a b : ℕ) → TargetEdge system F site target function library a b → Special a → ⊥
    target_plain target function at None a b h special = elim h [ inl joined ↦ joined_plain function.parameters a b joined special | inr result ↦ result_rows_plain target function at a b result special ]
    target_plain target function at (Some library) a b h special = effect_plain target h.0 a b h.2 special

    effect_none : (target : ℕ) (effect : Effect) (r : ℕ) → EffectFact site target effect r L → ⊥
    effect_none target Nothing r h = h
    effect_none target (GivesArgument j) r h = h
    effect_none target GivesNew r h = fresh_plain call.n (named_library (trees_in p) call.node) target (subst (λ (l : List (ℕ × ℕ)). Contains l (target, L)) call.right.fresh h.1)
    effect_none target (GivesObject object) r h = fresh_plain call.n (named_library (trees_in p) call.node) target (subst (λ (l : List (ℕ × ℕ)). Contains l (target, L)) call.right.fresh h.1)
    effect_none target (Copies i j) r h = h
    effect_none target (StoresInto i j) r h = h
    effect_none target (CallsBack j passed) r h = h

    target_none : (target : ℕ) (function : Function) (library : Option ℕ) (r : ℕ) → TargetFact site target function library r L → ⊥
    target_none target function None r h = h
    target_none target function (Some library) r h = effect_none target h.0 r h.2

  pub call_keeps : (number : ℕ) → Keeps p space system is right spaced F k L own unused (Call number)
  call_keeps number = record {
    edges = λ a b ok h special. absurd (target_plain h.0 number (call_there p space system is number h.0 h.3) h.1 h.2 h.4.known (h.2).library a b h.5 special);
    facts = λ r h. absurd (target_none h.0 number (call_there p space system is number h.0 h.3) h.1 h.2 (h.2).library r h.5);
  }
