-- The parts of calls in a linked program are values.
use Rattle.std.proofs.Common.{arith, ◌≡◌, ◌∙◌, ℕ, zero, suc, ◌<◌, List, [], ◌∷◌, length, map, Option, Some, None, refl, sym, ap, subst}
use Rattle.std.specs.List.{slice_get, slice_index_or, All}
use Rattle.std.proofs.lemmas.Option.{slice_get_within, slice_get-get_or}
use Rattle.c_types.specs.declared.term.Form.{Form}
use Rattle.c_types.specs.declared.term.Form.TheVariants.{Fixed, Variadic, Unspecified}
use Rattle.c_types.specs.Trees.{Ctype, Ctypes, NoTypes, MoreTypes, PointerTo, FunctionFrom}
use Rattle.c_types.specs.Table.{type_of}
use Rattle.core_tree.specs.declared.node.Unit.{Unit}
use Rattle.core_tree.specs.declared.node.Program.{Program}
use Rattle.core_tree.specs.declared.node.Node.{Node}
use Rattle.core_tree.specs.declared.node.NodeKind.{NodeKind}
use Rattle.core_tree.specs.declared.node.NodeKind.TheVariants.{Named, FunctionName, Literal, VarArgs, Block, For, Initialise, CallNode}
use Rattle.core_tree.specs.Typed.{CoreTrees, ValueNode, sort_of, sort_in, sort_at, type_at, trees_in, trees_of}
use Rattle.core_tree.specs.Rows.{Arguments, Calls, IsFurther, CallRow, RowOf}
use Rattle.unit_link.specs.Linked.{LinkedAt}
use Rattle.unit_link.specs.Needs.{AreLinkable}
use Rattle.unit_link.specs.Places.{node_place, kind_renamed}
use Rattle.linked_laws.specs.call_laws.Values.{AreCallsOfValues}
use Rattle.linked_laws.proofs.Origins.{node_from}

some_one : {X : Type 0} → {x y : X} → ◌≡◌ {A = Option X} (Some x) (Some y) → x ≡ y
some_one h = cc

none_some : {X : Type 0} → {x : X} → ◌≡◌ {A = Option X} None (Some x) → ⊥
none_some h = cc

call_renamed : (f : ℕ → ℕ) (kind : NodeKind) → kind_renamed f kind ≡ CallNode → kind ≡ CallNode
call_renamed f (Named e) h = cc
call_renamed f (FunctionName e) h = cc
call_renamed f (Literal e) h = cc
call_renamed f (VarArgs e) h = cc
call_renamed f (Block es) h = cc
call_renamed f (For es c a) h = cc
call_renamed f (Initialise e paths) h = cc
call_renamed f kind h = h

sort_renamed : (f : ℕ → ℕ) (kind : NodeKind) → sort_of (kind_renamed f kind) ≡ sort_of kind
sort_renamed f (Named e) = refl
sort_renamed f (FunctionName e) = refl
sort_renamed f (Literal e) = refl
sort_renamed f (Block es) = refl
sort_renamed f (For es c a) = refl
sort_renamed f (Initialise e paths) = refl
sort_renamed f kind = refl

all_at : (P : ℕ → Type 0) (xs : List ℕ) (k c : ℕ) → All P xs → slice_get xs k ≡ Some c → P c
all_at P xs k c h at =
    let lt = slice_get_within xs k c at in
    let same : slice_index_or xs k c ≡ c = some_one (sym (slice_get-get_or xs k c lt) ∙ at) in
    subst P same (h k c lt)

arguments_values : (u : CoreTrees) (ps : Ctypes) (f : Form) (args : List ℕ) → Arguments u ps f args → (k c : ℕ) → slice_get args k ≡ Some c → sort_at u c ≡ ValueNode
arguments_values u NoTypes Fixed [] h k c at = absurd (none_some at)
arguments_values u NoTypes Fixed (x ∷ xs) h k c at = absurd h
arguments_values u NoTypes Variadic args h k c at = (all_at (λ a. IsFurther u a) args k c h at).0
arguments_values u NoTypes Unspecified args h k c at = (all_at (λ a. IsFurther u a) args k c h at).0
arguments_values u (MoreTypes t rest) Unspecified args h k c at = absurd h
arguments_values u (MoreTypes t rest) Fixed [] h k c at = absurd h
arguments_values u (MoreTypes t rest) Variadic [] h k c at = absurd h
arguments_values u (MoreTypes t rest) Fixed (x ∷ xs) h zero c at = ap (sort_at u) (sym (some_one at)) ∙ h.0.0
arguments_values u (MoreTypes t rest) Fixed (x ∷ xs) h (suc k) c at = arguments_values u rest Fixed xs h.1 k c at
arguments_values u (MoreTypes t rest) Variadic (x ∷ xs) h zero c at = ap (sort_at u) (sym (some_one at)) ∙ h.0.0
arguments_values u (MoreTypes t rest) Variadic (x ∷ xs) h (suc k) c at = arguments_values u rest Variadic xs h.1 k c at

calls_values : (u : CoreTrees) (callee t : Ctype) (args : List ℕ) → Calls u callee t args → (k c : ℕ) → slice_get args k ≡ Some c → sort_at u c ≡ ValueNode
calls_values u (PointerTo (FunctionFrom r ps f)) t args h k c at = arguments_values u ps f args h.1 k c at
calls_values u callee t args h k c at = absurd h

call_values : (u : CoreTrees) (t : Ctype) (children : List ℕ) → CallRow u t children → (k c : ℕ) → slice_get children k ≡ Some c → sort_at u c ≡ ValueNode
call_values u t [] h k c at = absurd h
call_values u t (x ∷ xs) h zero c at = ap (sort_at u) (sym (some_one at)) ∙ h.0
call_values u t (x ∷ xs) h (suc k) c at = calls_values u (type_at u x) t xs h.1 k c at

mapped_at : (f : ℕ → ℕ) (xs : List ℕ) (k c : ℕ) → slice_get (map f xs) k ≡ Some c → (a : ℕ) × (slice_get xs k ≡ Some a) × (f a ≡ c)
mapped_at f [] k c at = absurd (none_some at)
mapped_at f (x ∷ xs) zero c at = (x, refl, some_one at)
mapped_at f (x ∷ xs) (suc k) c at = mapped_at f xs k c at

present : (xs : List Node) (k : ℕ) → k < length xs → (x : Node) × (slice_get xs k ≡ Some x)
present [] k lt = absurd (omega arith)
present (x ∷ xs) zero lt = (x, refl)
present (x ∷ xs) (suc k) lt = present xs k (omega arith)

pub calls_of_values : {names : List (List ℕ)} (units : List Unit) (p : Program) → AreLinkable units → LinkedAt names units p → AreCallsOfValues p
calls_of_values units p linkable h = record {
  each = λ n node at call k c child.
      let f = node_from units p h n node at in
      let valid = linkable.valid f.unit f.of f.of_is in
      let own_call = call_renamed (h.entity_numbers f.unit) f.own.kind (sym f.moved.kind ∙ call) in
      let row = subst (λ (kind : NodeKind). RowOf (trees_of f.of) kind (type_of f.of.types f.own.ty.0) f.own.children) own_call (valid.trees.rows f.number f.own f.own_is) in
      let (a, there, place) = mapped_at (node_place units f.unit) f.own.children k c (sym (ap (λ (l : List ℕ). slice_get l k) f.moved.children) ∙ child) in
      let value = call_values (trees_of f.of) (type_of f.of.types f.own.ty.0) f.own.children row k a there in
      let before = all_at (λ b. b < f.number) f.own.children k a (valid.trees.in_range.children f.number f.own f.own_is) there in
      let within = slice_get_within f.of.nodes.items f.number f.own f.own_is in
      let (x, x_at) = present f.of.nodes.items a (omega arith) in
      let m = h.nodes.each f.unit a f.of x f.of_is x_at in
      ap (λ (i : ℕ). sort_at (trees_in p) i) (sym place)
      ∙ (ap sort_in m.node_is
      ∙ (ap sort_of m.moved.kind ∙ (sort_renamed (h.entity_numbers f.unit) x.kind ∙ (sym (ap sort_in x_at) ∙ value))));
}
