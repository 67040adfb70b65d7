-- Only a statement has a statement that may be labelled as a child.
use Rattle.std.proofs.Common.{◌≡◌, ◌∙◌, ℕ, Bool, true, false, All, List, [], ◌∷◌, Option, Some, None, slice_get, refl, sym}
use Rattle.std.proofs.lemmas.Bool.{false≢true}
use Rattle.std.proofs.lemmas.List.Elements.{All-head, All-tail}
use Rattle.c_types.specs.declared.term.PathStep.{PathStep}
use Rattle.c_types.specs.declared.term.Form.{Form}
use Rattle.c_types.specs.declared.term.Form.TheVariants.{Fixed, Variadic, Unspecified}
use Rattle.c_types.specs.Trees.{Ctype, PointerTo, FunctionFrom, Ctypes, NoTypes, MoreTypes}
use Rattle.c_types.specs.Table.{type_of}
use Rattle.core_tree.specs.declared.node.Node.{Node}
use Rattle.core_tree.specs.declared.node.NodeKind.{NodeKind}
use Rattle.core_tree.specs.declared.node.NodeKind.TheVariants.{Named, Text, Literal, FunctionName, Deref, Member, Number, NullValue, Fetch, AddressOf, Decay, PointerAdd, Convert, Upcast, Assign, Update, Choose, Sequence, CallNode, MemberOfValue, VarArgs, NextArg, Arith, Expression, Block, If, While, DoWhile, For, Switch, Case, Default, Label, Goto, Break, Continue, Return, Initialise, Skip}
use Rattle.core_tree.specs.Rows.{Has, RowOf, IsFurther, Arguments, Calls, InitialValues, InitialisesEntity, InitialisesIn, Initialises}
use Rattle.core_tree.specs.Typed.{CoreTrees, NoNode, PlaceNode, ValueNode, StatementNode, sort_of, sort_in, sort_at, type_at}
use Rattle.core_tree.specs.Valid.{InRows}
use Rattle.ref_blocks.specs.Ways.{kind_in, kind_at, children_in, children_at}
use Rattle.covering_laws.specs.covered_state.Items.{Each}
use Rattle.covered_runs.proofs.covered_steps.Steps.{each_at}

none_some : {X : Type 0} → {x : X} → ◌≡◌ {A = Option X} None (Some x) → ⊥
none_some h = cc

-- a statement that does not initialise
abbrev pub is_plain : NodeKind → Bool
is_plain Expression = true
is_plain (Block entities) = true
is_plain If = true
is_plain While = true
is_plain DoWhile = true
is_plain (For entities condition after) = true
is_plain Switch = true
is_plain (Case k) = true
is_plain Default = true
is_plain (Label name) = true
is_plain (Goto name) = true
is_plain Break = true
is_plain Continue = true
is_plain Return = true
is_plain Skip = true
is_plain kind = false

value_statement : ValueNode ≡ StatementNode → ⊥
value_statement h = cc

place_statement : PlaceNode ≡ StatementNode → ⊥
place_statement h = cc

none_value : NoNode ≡ ValueNode → ⊥
none_value h = cc

none_place : NoNode ≡ PlaceNode → ⊥
none_place h = cc

other_plain : (kind : NodeKind) → (sort_of kind ≡ StatementNode → ⊥) → is_plain kind ≡ false
other_plain Expression h = absurd (h refl)
other_plain (Block entities) h = absurd (h refl)
other_plain If h = absurd (h refl)
other_plain While h = absurd (h refl)
other_plain DoWhile h = absurd (h refl)
other_plain (For entities condition after) h = absurd (h refl)
other_plain Switch h = absurd (h refl)
other_plain (Case k) h = absurd (h refl)
other_plain Default h = absurd (h refl)
other_plain (Label name) h = absurd (h refl)
other_plain (Goto name) h = absurd (h refl)
other_plain Break h = absurd (h refl)
other_plain Continue h = absurd (h refl)
other_plain Return h = absurd (h refl)
other_plain Skip h = absurd (h refl)
other_plain kind h = refl

-- so such a statement is one
pub plain_sort : (kind : NodeKind) → is_plain kind ≡ true → sort_of kind ≡ ValueNode → ⊥
plain_sort kind plain value = false≢true (sym (other_plain kind (λ statement. value_statement (sym value ∙ statement))) ∙ plain)

initialiser_plain : (kind : NodeKind) (e : ℕ) → InitialisesEntity kind e → is_plain kind ≡ false
initialiser_plain (Initialise o paths) e h = refl
initialiser_plain kind e h = absurd h

module _ (u : CoreTrees) where
  abbrev NotPlain : ℕ → Type 0
  NotPlain x = is_plain (kind_at u.nodes x) ≡ false

  value_child : (x : ℕ) → sort_at u x ≡ ValueNode → NotPlain x
  value_child x h = by (slice_get u.nodes x) h
    where
      by : (o : Option Node) → sort_in o ≡ ValueNode → is_plain (kind_in o) ≡ false
      by None e = absurd (none_value e)
      by (Some node) e = other_plain node.kind (λ statement. value_statement (sym e ∙ statement))

  place_child : (x : ℕ) → sort_at u x ≡ PlaceNode → NotPlain x
  place_child x h = by (slice_get u.nodes x) h
    where
      by : (o : Option Node) → sort_in o ≡ PlaceNode → is_plain (kind_in o) ≡ false
      by None e = absurd (none_place e)
      by (Some node) e = other_plain node.kind (λ statement. place_statement (sym e ∙ statement))

  initial_child : (x e : ℕ) → Initialises u x e → NotPlain x
  initial_child x e h = by (slice_get u.nodes x) h
    where
      by : (o : Option Node) → InitialisesIn o e → is_plain (kind_in o) ≡ false
      by None i = absurd i
      by (Some node) i = initialiser_plain node.kind e i

  further_each : (args : List ℕ) → All (λ a. IsFurther u a) args → Each NotPlain args
  further_each [] h = tt
  further_each (a ∷ args) h = (value_child a (All-head (λ (x : ℕ). IsFurther u x) a args h).0, further_each args (All-tail (λ (x : ℕ). IsFurther u x) a args h))

  arguments_each : (ps : Ctypes) (f : Form) (args : List ℕ) → Arguments u ps f args → Each NotPlain args
  arguments_each NoTypes Fixed [] h = tt
  arguments_each NoTypes Fixed (a ∷ args) h = absurd h
  arguments_each NoTypes Variadic args h = further_each args h
  arguments_each NoTypes Unspecified args h = further_each args h
  arguments_each (MoreTypes t rest) Unspecified args h = absurd h
  arguments_each (MoreTypes t rest) Fixed (a ∷ args) h = (value_child a h.0.0, arguments_each rest Fixed args h.1)
  arguments_each (MoreTypes t rest) Fixed [] h = absurd h
  arguments_each (MoreTypes t rest) Variadic (a ∷ args) h = (value_child a h.0.0, arguments_each rest Variadic args h.1)
  arguments_each (MoreTypes t rest) Variadic [] h = absurd h

  calls_each : (callee t : Ctype) (args : List ℕ) → Calls u callee t args → Each NotPlain args
  calls_each (PointerTo (FunctionFrom r ps f)) t args h = arguments_each ps f args h.1
  calls_each callee t args h = absurd h

  initial_each : (t : Option Ctype) (paths : List (List PathStep)) (values : List ℕ) → InitialValues u t paths values → Each NotPlain values
  initial_each t [] [] h = tt
  initial_each t (path ∷ paths) (v ∷ values) h = (value_child v h.0, initial_each t paths values h.2)
  initial_each t [] (v ∷ values) h = absurd h
  initial_each t (path ∷ paths) [] h = absurd h

  -- the children of what is no such statement are none
  children_each : (kind : NodeKind) (t : Ctype) (cs : List ℕ) → RowOf u kind t cs → is_plain kind ≡ false → Each NotPlain cs
  children_each (Named e) t [] row other = tt
  children_each (Named e) t (c ∷ cs) row other = absurd row
  children_each (Text bytes) t [] row other = tt
  children_each (Text bytes) t (c ∷ cs) row other = absurd row
  children_each (Literal e) t (i ∷ []) row other = (initial_child i e row.1, tt)
  children_each (Literal e) t cs row other = absurd row
  children_each (FunctionName e) t [] row other = tt
  children_each (FunctionName e) t (c ∷ cs) row other = absurd row
  children_each Deref t (v ∷ []) row other = (value_child v row.0.0, tt)
  children_each Deref t cs row other = absurd row
  children_each (Member k) t (p ∷ []) row other = (place_child p row.0, tt)
  children_each (Member k) t cs row other = absurd row
  children_each (Number k) t [] row other = tt
  children_each (Number k) t (c ∷ cs) row other = absurd row
  children_each NullValue t [] row other = tt
  children_each NullValue t (c ∷ cs) row other = absurd row
  children_each Fetch t (p ∷ []) row other = (place_child p row.0.0, tt)
  children_each Fetch t cs row other = absurd row
  children_each AddressOf t (p ∷ []) row other = (place_child p row.0, tt)
  children_each AddressOf t cs row other = absurd row
  children_each Decay t (p ∷ []) row other = (place_child p row.0, tt)
  children_each Decay t cs row other = absurd row
  children_each (PointerAdd minus) t (v ∷ i ∷ []) row other = (value_child v row.0.0, (value_child i row.2.0, tt))
  children_each (PointerAdd minus) t cs row other = absurd row
  children_each Convert t (v ∷ []) row other = (value_child v row.0, tt)
  children_each Convert t cs row other = absurd row
  children_each Upcast t (v ∷ []) row other = (value_child v row.0, tt)
  children_each Upcast t cs row other = absurd row
  children_each Assign t (p ∷ v ∷ []) row other = (place_child p row.0.0, (value_child v row.1.0, tt))
  children_each Assign t cs row other = absurd row
  children_each (Update op post) t (p ∷ v ∷ []) row other = (place_child p row.0.0, (value_child v row.1.0, tt))
  children_each (Update op post) t cs row other = absurd row
  children_each Choose t (c ∷ a ∷ b ∷ []) row other = (value_child c row.0.0, (value_child a row.1.0, (value_child b row.2.0, tt)))
  children_each Choose t cs row other = absurd row
  children_each Sequence t (a ∷ b ∷ []) row other = (value_child a row.0, (value_child b row.1.0, tt))
  children_each Sequence t cs row other = absurd row
  children_each CallNode t (c ∷ args) row other = (value_child c row.0, calls_each (type_at u c) t args row.1)
  children_each CallNode t [] row other = absurd row
  children_each (MemberOfValue k) t (v ∷ []) row other = (value_child v row.0, tt)
  children_each (MemberOfValue k) t cs row other = absurd row
  children_each (Arith op) t (a ∷ []) row other = (value_child a row.0, tt)
  children_each (Arith op) t (a ∷ b ∷ []) row other = (value_child a row.0, (value_child b row.1, tt))
  children_each (Arith op) t cs row other = absurd row
  children_each (VarArgs e) t [] row other = tt
  children_each (VarArgs e) t (c ∷ cs) row other = absurd row
  children_each NextArg t (p ∷ []) row other = (place_child p row.0.0, tt)
  children_each NextArg t cs row other = absurd row
  children_each (Initialise e paths) t cs row other = initial_each _ paths cs row
  children_each kind t cs row other = absurd (false≢true (sym other))

  -- The node above a plain statement is one.
  pub plain_above : InRows u → (p x : ℕ) → is_plain (kind_at u.nodes x) ≡ true → Has (children_at u.nodes p) x → is_plain (kind_at u.nodes p) ≡ true
  plain_above rows p x plain has = by (slice_get u.nodes p) refl has
    where
      in_node : (node : Node) → slice_get u.nodes p ≡ Some node → Has node.children x → (b : Bool) → is_plain node.kind ≡ b → is_plain node.kind ≡ true
      in_node node is h true own = own
      in_node node is h false own = absurd (false≢true (sym (each_at NotPlain node.children h.0 x h.1 (children_each node.kind (type_of u.types node.ty.0) node.children (rows p node is) own)) ∙ plain))

      by : (o : Option Node) → slice_get u.nodes p ≡ o → Has (children_in o) x → is_plain (kind_in o) ≡ true
      by None is h = absurd (none_some h.1)
      by (Some node) is h = in_node node is h (is_plain node.kind) refl
