-- What a call and the function that it reaches are to each other.
use Rattle.std.proofs.Common.{◌≡◌, ◌∙◌, ℕ, zero, suc, List, [], ◌∷◌, Option, Some, None, slice_get, refl, sym, ap, subst}
use Rattle.std.specs.List.{All, cons_option}
use Rattle.std.specs.Option.{option_map}
use Rattle.std.proofs.lemmas.List.Elements.{All-head, All-tail}
use Rattle.c_types.specs.declared.term.Form.{Form}
use Rattle.c_types.specs.declared.term.Form.TheVariants.{Fixed, Variadic, Unspecified}
use Rattle.c_types.specs.declared.term.TypeId.{TypeId}
use Rattle.c_types.specs.Trees.{Ctype, Ctypes, NoTypes, MoreTypes, PointerTo, FunctionFrom, trees_at}
use Rattle.c_types.specs.Table.{type_of, types_of}
use Rattle.type_rules.specs.Conversions.{result_of}
use Rattle.core_tree.specs.declared.node.Node.{Node}
use Rattle.core_tree.specs.declared.node.NodeKind.{NodeKind}
use Rattle.core_tree.specs.declared.node.NodeKind.TheVariants.{CallNode}
use Rattle.core_tree.specs.declared.node.Program.{Program}
use Rattle.core_tree.specs.Typed.{CoreTrees, NoNode, ValueNode, IsValue, sort_in, sort_at, type_in, type_at, trees_in}
use Rattle.core_tree.specs.Rows.{RowOf, Calls, Arguments, IsFurther, CallRow}
use Rattle.core_tree.specs.Valid.{InRows}
use Rattle.call_sites.specs.Signatures.{called_type, calling_type}
use Rattle.call_sites.specs.Calls.{head_of, rest_of, ids_of}
use Rattle.covering_laws.specs.covered_types.Calls.{type_from, parameter_types, CallsFunction, IsCallOf, CallsFit}

none_some : {X : Type 0} → {x : X} → ◌≡◌ {A = Option X} None (Some x) → ⊥
none_some h = cc

some_one : {X : Type 0} → {x y : X} → ◌≡◌ {A = Option X} (Some x) (Some y) → x ≡ y
some_one h = cc

no_value : NoNode ≡ ValueNode → ⊥
no_value h = cc

-- a function with () is called as one without parameters
called_result : (t : Ctype) → result_of (called_type t) ≡ result_of t
called_result (FunctionFrom r ps Fixed) = refl
called_result (FunctionFrom r ps Variadic) = refl
called_result (FunctionFrom r ps Unspecified) = refl
called_result t = refl

module _ (u : CoreTrees) where
  argument_at : (ps : Ctypes) (f : Form) (arguments : List ℕ) → Arguments u ps f arguments → (k a : ℕ) (t : Ctype) → slice_get arguments k ≡ Some a → type_from ps k ≡ Some t → IsValue u a t
  argument_at NoTypes f arguments h k a t at is = absurd (none_some is)
  argument_at (MoreTypes s rest) f [] h k a t at is = absurd (none_some at)
  argument_at (MoreTypes s rest) Fixed (b ∷ arguments) h zero a t at is = subst (λ (c : ℕ). IsValue u c t) (some_one at) (subst (λ (x : Ctype). IsValue u b x) (some_one is) h.0)
  argument_at (MoreTypes s rest) Variadic (b ∷ arguments) h zero a t at is = subst (λ (c : ℕ). IsValue u c t) (some_one at) (subst (λ (x : Ctype). IsValue u b x) (some_one is) h.0)
  argument_at (MoreTypes s rest) Unspecified (b ∷ arguments) h zero a t at is = absurd h
  argument_at (MoreTypes s rest) Fixed (b ∷ arguments) h (suc k) a t at is = argument_at rest Fixed arguments h.1 k a t at is
  argument_at (MoreTypes s rest) Variadic (b ∷ arguments) h (suc k) a t at is = argument_at rest Variadic arguments h.1 k a t at is
  argument_at (MoreTypes s rest) Unspecified (b ∷ arguments) h (suc k) a t at is = absurd h

  abbrev types_listed : Option TypeId → List ℕ → Ctypes
  types_listed o rest = trees_at (types_of u.types) (cons_option o (ids_of u.nodes rest))

  -- through a pointer to a function with (), each argument has its own type
  own_by : (a : ℕ) (o : Option Node) → slice_get u.nodes a ≡ o → sort_in o ≡ ValueNode → (rest : List ℕ) (t : Ctype) → type_from (types_listed (option_map (λ (x : Node). x.ty) o) rest) 0 ≡ Some t → type_at u a ≡ t
  own_by a None is sort rest t at = absurd (no_value sort)
  own_by a (Some x) is sort rest t at = ap (type_in u.types) is ∙ some_one at

  rest_by : (o : Option Node) → sort_in o ≡ ValueNode → (rest : List ℕ) (k : ℕ) (t : Ctype) → type_from (types_listed (option_map (λ (x : Node). x.ty) o) rest) (suc k) ≡ Some t → type_from (trees_at (types_of u.types) (ids_of u.nodes rest)) k ≡ Some t
  rest_by None sort rest k t at = absurd (no_value sort)
  rest_by (Some x) sort rest k t at = at

  own_at : (arguments : List ℕ) → All (λ a. IsFurther u a) arguments → (k a : ℕ) (t : Ctype) → slice_get arguments k ≡ Some a → type_from (trees_at (types_of u.types) (ids_of u.nodes arguments)) k ≡ Some t → IsValue u a t
  own_at [] all k a t at is = absurd (none_some at)
  own_at (b ∷ arguments) all zero a t at is =
      let sort = (All-head (λ c. IsFurther u c) b arguments all).0 in
      subst (λ (c : ℕ). IsValue u c t) (some_one at) (sort, own_by b (slice_get u.nodes b) refl sort arguments t is)
  own_at (b ∷ arguments) all (suc k) a t at is =
      let sort = (All-head (λ c. IsFurther u c) b arguments all).0 in
      own_at arguments (All-tail (λ c. IsFurther u c) b arguments all) k a t at (rest_by (slice_get u.nodes b) sort arguments k t is)

  further : (ps : Ctypes) (arguments : List ℕ) → Arguments u ps Unspecified arguments → All (λ a. IsFurther u a) arguments
  further NoTypes arguments h = h
  further (MoreTypes t rest) arguments h = absurd h

  -- the parameters by which a function is called
  reached_arguments : (r : Ctype) (ps : Ctypes) (f : Form) (arguments : List ℕ) → Arguments u ps f arguments → (k a : ℕ) (t : Ctype) → slice_get arguments k ≡ Some a
      → type_from (parameter_types (calling_type (PointerTo (FunctionFrom r ps f)) (trees_at (types_of u.types) (ids_of u.nodes arguments)))) k ≡ Some t → IsValue u a t
  reached_arguments r ps Fixed arguments h k a t at is = argument_at ps Fixed arguments h k a t at is
  reached_arguments r ps Variadic arguments h k a t at is = argument_at ps Variadic arguments h k a t at is
  reached_arguments r ps Unspecified arguments h k a t at is = own_at arguments (further ps arguments h) k a t at is

  calling_result : (r : Ctype) (ps : Ctypes) (f : Form) (own : Ctypes) → result_of (calling_type (PointerTo (FunctionFrom r ps f)) own) ≡ r
  calling_result r ps Fixed own = refl
  calling_result r ps Variadic own = refl
  calling_result r ps Unspecified own = refl

  module _ (t : Ctype) (c : ℕ) (arguments : List ℕ) (sort : sort_at u c ≡ ValueNode) where
    record Called : Type 0 where
      result : Ctype
      parameters : Ctypes
      form : Form
      type : type_at u c ≡ PointerTo (FunctionFrom result parameters form)
      gives : result ≡ t
      takes : Arguments u parameters form arguments

    called_by : (callee : Ctype) → type_at u c ≡ callee → Calls u callee t arguments → Called
    called_by (PointerTo (FunctionFrom r ps f)) is h = record { result = r; parameters = ps; form = f; type = is; gives = h.0; takes = h.1 }
    called_by callee is h = absurd h

  module _ (node : Node) (row : CallRow u (type_of u.types node.ty.0) node.children) where
    calls_by : (children : List ℕ) → node.children ≡ children → CallRow u (type_of u.types node.ty.0) children → CallsFunction u node
    calls_by [] is h = absurd h
    calls_by (c ∷ arguments) is h =
        let r = called_by (type_of u.types node.ty.0) c arguments h.0 (type_at u c) refl h.1 in
        record {
          result = r.result;
          parameters = r.parameters;
          form = r.form;
          callee = subst (λ (l : List ℕ). IsValue u (head_of l) (PointerTo (FunctionFrom r.result r.parameters r.form))) (sym is) (h.0, r.type);
          gives = r.gives;
        }

    reached_by : (own : Ctype) (children : List ℕ) → node.children ≡ children → CallRow u (type_of u.types node.ty.0) children
        → called_type own ≡ calling_type (type_at u (head_of children)) (trees_at (types_of u.types) (ids_of u.nodes (rest_of children))) → IsCallOf u node own
    reached_by own [] is h same = absurd h
    reached_by own (c ∷ arguments) is h same =
        let r = called_by (type_of u.types node.ty.0) c arguments h.0 (type_at u c) refl h.1 in
        let one : called_type own ≡ calling_type (PointerTo (FunctionFrom r.result r.parameters r.form)) (trees_at (types_of u.types) (ids_of u.nodes arguments)) =
        same ∙ ap (λ (s : Ctype). calling_type s (trees_at (types_of u.types) (ids_of u.nodes arguments))) r.type in
        record {
          result = sym (called_result own) ∙ (ap result_of one ∙ (calling_result r.result r.parameters r.form (trees_at (types_of u.types) (ids_of u.nodes arguments)) ∙ r.gives));
          arguments = λ k a t at from.
              reached_arguments r.result r.parameters r.form arguments r.takes k a t (sym (ap (λ (l : List ℕ). slice_get (rest_of l) k) is) ∙ at) (sym (ap (λ (s : Ctype). type_from (parameter_types s) k) one) ∙ from);
        }

pub calls_fit : CallsFit
calls_fit p rows = record {
  called = λ n node there kind. calls_by (trees_in p) node (by p rows n node there kind) node.children refl (by p rows n node there kind);
  reached = λ n node own there kind same. reached_by (trees_in p) node (by p rows n node there kind) own node.children refl (by p rows n node there kind) same;
}
  where
    by : (p : Program) → InRows (trees_in p) → (n : ℕ) (node : Node) → slice_get p.nodes.items n ≡ Some node → node.kind ≡ CallNode → CallRow (trees_in p) (type_of p.types node.ty.0) node.children
    by p rows n node there kind = subst (λ (k : NodeKind). RowOf (trees_in p) k (type_of p.types node.ty.0) node.children) kind (rows n node there)
