-- Which nodes have no statements as parts.
use Rattle.std.proofs.Common.{◌≡◌, ℕ, suc, zero, Bool, true, false, List, [], ◌∷◌, slice_get, Option, Some, None, refl, sym, ◌∙◌, subst, All}
use Rattle.std.proofs.lemmas.List.Elements.{All-head, All-tail}
use Rattle.c_types.specs.Trees.{Ctype, Ctypes, NoTypes, MoreTypes, PointerTo, FunctionFrom}
use Rattle.c_types.specs.declared.term.Form.{Form}
use Rattle.c_types.specs.declared.term.Form.TheVariants.{Fixed, Variadic, Unspecified}
use Rattle.c_types.specs.declared.term.PathStep.{PathStep}
use Rattle.core_tree.specs.declared.node.Node.{Node}
use Rattle.core_tree.specs.declared.node.NodeKind.{NodeKind}
use Rattle.core_tree.specs.declared.node.NodeKind.TheVariants.{Named, Text, Literal, FunctionName, Deref, Member, Number, NullValue, Fetch, AddressOf, Decay, PointerAdd, Convert, Upcast, Assign, Update, Choose, Sequence, CallNode, MemberOfValue, Arith, VarArgs, NextArg, Expression, Block, If, While, DoWhile, For, Switch, Case, Default, Label, Goto, Break, Continue, Return, Initialise, Skip}
use Rattle.core_tree.specs.Typed.{CoreTrees, PlaceNode, ValueNode, StatementNode, sort_of, sort_in, sort_at, type_at}
use Rattle.core_tree.specs.Rows.{RowOf, Arguments, Calls, IsFurther, InitialValues, Initialises, InitialisesIn, InitialisesEntity, entity_type}
use Rattle.core_node_laws.proofs.standing_laws.Kept.{opens}

-- the kinds of statements, but for initialisers
abbrev pub acts : NodeKind → Bool
acts Expression = true
acts (Block es) = true
acts If = true
acts While = true
acts DoWhile = true
acts (For es c a) = true
acts Switch = true
acts (Case n) = true
acts Default = true
acts (Label name) = true
acts (Goto name) = true
acts Break = true
acts Continue = true
acts Return = true
acts Skip = true
acts kind = false

abbrev pub acts_in : Option Node → Bool
acts_in None = false
acts_in (Some n) = acts n.kind

pub acts_statement : (kind : NodeKind) → acts kind ≡ true → sort_of kind ≡ StatementNode
acts_statement Expression e = refl
acts_statement (Block es) e = refl
acts_statement If e = refl
acts_statement While e = refl
acts_statement DoWhile e = refl
acts_statement (For es c a) e = refl
acts_statement Switch e = refl
acts_statement (Case n) e = refl
acts_statement Default e = refl
acts_statement (Label name) e = refl
acts_statement (Goto name) e = refl
acts_statement Break e = refl
acts_statement Continue e = refl
acts_statement Return e = refl
acts_statement Skip e = refl
acts_statement kind e = cc

-- what doesn't act opens nothing
pub still_shut : (kind : NodeKind) → acts kind ≡ false → opens kind ≡ false
still_shut (Block es) e = cc
still_shut If e = cc
still_shut While e = cc
still_shut DoWhile e = cc
still_shut (For es c a) e = cc
still_shut Switch e = cc
still_shut (Case n) e = cc
still_shut Default e = cc
still_shut (Label name) e = cc
still_shut kind e = refl

module _ (u : CoreTrees) where
  abbrev Still : ℕ → Type 0
  Still c = acts_in (slice_get u.nodes c) ≡ false

  abbrev AllStill : List ℕ → Type 0
  AllStill children = (k c : ℕ) → slice_get children k ≡ Some c → Still c

  of_bool : (b : Bool) → (b ≡ true → ⊥) → b ≡ false
  of_bool true h = absurd (h refl)
  of_bool false h = refl

  sorted : (o : Option Node) → (sort_in o ≡ StatementNode → ⊥) → acts_in o ≡ false
  sorted None h = refl
  sorted (Some n) h = of_bool (acts n.kind) (λ e. h (acts_statement n.kind e))

  value : (c : ℕ) → sort_at u c ≡ ValueNode → Still c
  value c h = sorted (slice_get u.nodes c) (λ e. let both : ValueNode ≡ StatementNode = sym h ∙ e in cc)

  place : (c : ℕ) → sort_at u c ≡ PlaceNode → Still c
  place c h = sorted (slice_get u.nodes c) (λ e. let both : PlaceNode ≡ StatementNode = sym h ∙ e in cc)

  initial : (c e : ℕ) → Initialises u c e → Still c
  initial c e h = by (slice_get u.nodes c) h
    where
      kinds : (kind : NodeKind) → InitialisesEntity kind e → acts kind ≡ false
      kinds (Initialise o paths) h = refl
      kinds kind h = absurd h

      by : (o : Option Node) → InitialisesIn o e → acts_in o ≡ false
      by None h = refl
      by (Some n) h = kinds n.kind h

  none : AllStill []
  none k c e = cc

  more : (x : ℕ) (xs : List ℕ) → Still x → AllStill xs → AllStill (x ∷ xs)
  more x xs h rest zero c e = subst Still (let same : x ≡ c = cc in same) h
  more x xs h rest (suc k) c e = rest k c e

  one : (x : ℕ) → Still x → AllStill (x ∷ [])
  one x h = more x [] h none

  furthers : (args : List ℕ) → All (λ a. IsFurther u a) args → AllStill args
  furthers [] h = none
  furthers (a ∷ args) h = more a args (value a (All-head (λ x. IsFurther u x) a args h).0) (furthers args (All-tail (λ x. IsFurther u x) a args h))

  arguments : (ps : Ctypes) (f : Form) (args : List ℕ) → Arguments u ps f args → AllStill args
  arguments NoTypes Fixed [] h = none
  arguments NoTypes Fixed (a ∷ args) h = absurd h
  arguments NoTypes Variadic args h = furthers args h
  arguments NoTypes Unspecified args h = furthers args h
  arguments (MoreTypes t rest) Unspecified args h = absurd h
  arguments (MoreTypes t rest) Fixed [] h = absurd h
  arguments (MoreTypes t rest) Fixed (a ∷ args) h = more a args (value a h.0.0) (arguments rest Fixed args h.1)
  arguments (MoreTypes t rest) Variadic [] h = absurd h
  arguments (MoreTypes t rest) Variadic (a ∷ args) h = more a args (value a h.0.0) (arguments rest Variadic args h.1)

  calls : (callee t : Ctype) (args : List ℕ) → Calls u callee t args → AllStill args
  calls (PointerTo (FunctionFrom r ps f)) t args h = arguments ps f args h.1
  calls callee t args h = absurd h

  values : (t : Option Ctype) (paths : List (List PathStep)) (vs : List ℕ) → InitialValues u t paths vs → AllStill vs
  values t [] [] h = none
  values t (path ∷ paths) (v ∷ vs) h = more v vs (value v h.0) (values t paths vs h.2)
  values t [] (v ∷ vs) h = absurd h
  values t (path ∷ paths) [] h = absurd h

  -- a node that opens nothing has no statements as parts
  pub shut : (kind : NodeKind) (t : Ctype) (children : List ℕ) → RowOf u kind t children → opens kind ≡ false → AllStill children
  shut (Named o) t [] row e = none
  shut (Named o) t (c ∷ rest) row e = absurd row
  shut (Text bytes) t [] row e = none
  shut (Text bytes) t (c ∷ rest) row e = absurd row
  shut (Literal o) t [] row e = absurd row
  shut (Literal o) t (c ∷ []) row e = one c (initial c o row.1)
  shut (Literal o) t (c ∷ d ∷ rest) row e = absurd row
  shut (FunctionName o) t [] row e = none
  shut (FunctionName o) t (c ∷ rest) row e = absurd row
  shut Deref t [] row e = absurd row
  shut Deref t (c ∷ []) row e = one c (value c row.0.0)
  shut Deref t (c ∷ d ∷ rest) row e = absurd row
  shut (Member k) t [] row e = absurd row
  shut (Member k) t (c ∷ []) row e = one c (place c row.0)
  shut (Member k) t (c ∷ d ∷ rest) row e = absurd row
  shut (Number n) t [] row e = none
  shut (Number n) t (c ∷ rest) row e = absurd row
  shut NullValue t [] row e = none
  shut NullValue t (c ∷ rest) row e = absurd row
  shut Fetch t [] row e = absurd row
  shut Fetch t (c ∷ []) row e = one c (place c row.0.0)
  shut Fetch t (c ∷ d ∷ rest) row e = absurd row
  shut AddressOf t [] row e = absurd row
  shut AddressOf t (c ∷ []) row e = one c (place c row.0)
  shut AddressOf t (c ∷ d ∷ rest) row e = absurd row
  shut Decay t [] row e = absurd row
  shut Decay t (c ∷ []) row e = one c (place c row.0)
  shut Decay t (c ∷ d ∷ rest) row e = absurd row
  shut (PointerAdd minus) t [] row e = absurd row
  shut (PointerAdd minus) t (c ∷ []) row e = absurd row
  shut (PointerAdd minus) t (c ∷ d ∷ []) row e = more c (d ∷ []) (value c row.0.0) (one d (value d row.2.0))
  shut (PointerAdd minus) t (c ∷ d ∷ x ∷ rest) row e = absurd row
  shut Convert t [] row e = absurd row
  shut Convert t (c ∷ []) row e = one c (value c row.0)
  shut Convert t (c ∷ d ∷ rest) row e = absurd row
  shut Upcast t [] row e = absurd row
  shut Upcast t (c ∷ []) row e = one c (value c row.0)
  shut Upcast t (c ∷ d ∷ rest) row e = absurd row
  shut Assign t [] row e = absurd row
  shut Assign t (c ∷ []) row e = absurd row
  shut Assign t (c ∷ d ∷ []) row e = more c (d ∷ []) (place c row.0.0) (one d (value d row.1.0))
  shut Assign t (c ∷ d ∷ x ∷ rest) row e = absurd row
  shut (Update op post) t [] row e = absurd row
  shut (Update op post) t (c ∷ []) row e = absurd row
  shut (Update op post) t (c ∷ d ∷ []) row e = more c (d ∷ []) (place c row.0.0) (one d (value d row.1.0))
  shut (Update op post) t (c ∷ d ∷ x ∷ rest) row e = absurd row
  shut Choose t [] row e = absurd row
  shut Choose t (c ∷ []) row e = absurd row
  shut Choose t (c ∷ d ∷ []) row e = absurd row
  shut Choose t (c ∷ d ∷ x ∷ []) row e = more c (d ∷ x ∷ []) (value c row.0.0) (more d (x ∷ []) (value d row.1.0) (one x (value x row.2.0)))
  shut Choose t (c ∷ d ∷ x ∷ y ∷ rest) row e = absurd row
  shut Sequence t [] row e = absurd row
  shut Sequence t (c ∷ []) row e = absurd row
  shut Sequence t (c ∷ d ∷ []) row e = more c (d ∷ []) (value c row.0) (one d (value d row.1.0))
  shut Sequence t (c ∷ d ∷ x ∷ rest) row e = absurd row
  shut CallNode t [] row e = absurd row
  shut CallNode t (c ∷ args) row e = more c args (value c row.0) (calls (type_at u c) t args row.1)
  shut (MemberOfValue k) t [] row e = absurd row
  shut (MemberOfValue k) t (c ∷ []) row e = one c (value c row.0)
  shut (MemberOfValue k) t (c ∷ d ∷ rest) row e = absurd row
  shut (Arith op) t [] row e = absurd row
  shut (Arith op) t (c ∷ []) row e = one c (value c row.0)
  shut (Arith op) t (c ∷ d ∷ []) row e = more c (d ∷ []) (value c row.0) (one d (value d row.1))
  shut (Arith op) t (c ∷ d ∷ x ∷ rest) row e = absurd row
  shut (VarArgs x) t [] row e = none
  shut (VarArgs x) t (c ∷ rest) row e = absurd row
  shut NextArg t [] row e = absurd row
  shut NextArg t (c ∷ []) row e = one c (place c row.0.0)
  shut NextArg t (c ∷ d ∷ rest) row e = absurd row
  shut Expression t [] row e = absurd row
  shut Expression t (c ∷ []) row e = one c (value c row)
  shut Expression t (c ∷ d ∷ rest) row e = absurd row
  shut (Block es) t children row e = cc
  shut If t children row e = cc
  shut While t children row e = cc
  shut DoWhile t children row e = cc
  shut (For es a b) t children row e = cc
  shut Switch t children row e = cc
  shut (Case n) t children row e = cc
  shut Default t children row e = cc
  shut (Label name) t children row e = cc
  shut (Goto name) t [] row e = none
  shut (Goto name) t (c ∷ rest) row e = absurd row
  shut Break t [] row e = none
  shut Break t (c ∷ rest) row e = absurd row
  shut Continue t [] row e = none
  shut Continue t (c ∷ rest) row e = absurd row
  shut Return t [] row e = none
  shut Return t (c ∷ []) row e = one c (value c row)
  shut Return t (c ∷ d ∷ rest) row e = absurd row
  shut (Initialise o paths) t children row e = values (entity_type u (slice_get u.entities o)) paths children row
  shut Skip t [] row e = none
  shut Skip t (c ∷ rest) row e = absurd row
