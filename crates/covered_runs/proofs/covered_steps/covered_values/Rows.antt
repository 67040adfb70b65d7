-- The rows of a program's nodes over a table with more types.
use Rattle.std.proofs.Common.{◌≡◌, ◌∙◌, ◌≢◌, inl, inr, ℕ, ◌<◌, ◌≤◌, ◌^◌, Bool, true, false, All, List, [], ◌∷◌, length, reverse, Option, Some, None, IsSome, slice_get, slice_index_or, refl, sym, ap, subst}
use Rattle.c_types.specs.declared.term.Form.{Form}
use Rattle.c_types.specs.declared.term.Form.TheVariants.{Fixed, Variadic, Unspecified}
use Rattle.c_types.specs.declared.term.MemberTerm.{MemberTerm}
use Rattle.c_types.specs.declared.term.PathStep.{PathStep}
use Rattle.c_types.specs.declared.term.Term.{Term}
use Rattle.c_types.specs.Trees.{Ctype, Ctypes, NoTypes, MoreTypes, PointerTo, FunctionFrom, StructureOf}
use Rattle.c_types.specs.Paths.{part_below, type_at_path}
use Rattle.c_types.specs.Layout.{Extent}
use Rattle.c_types.specs.Table.{Table, extent_in, members_in}
use Rattle.c_types.specs.Made.{IsMade}
use Rattle.type_rules.specs.Conversions.{Agree, Converts, IsFirstOf, decayed}
use Rattle.type_rules.specs.Kinds.{IsScalar, IsInteger, IsList, IsVariadic, IsPassed}
use Rattle.type_rules.specs.Members.{IsMemberOf, tag_of, in_list, member_at, width_of}
use Rattle.type_rules.specs.Sizes.{PointsToObject}
use Rattle.core_tree.specs.declared.node.Entity.{Entity}
use Rattle.core_tree.specs.declared.node.Node.{Node}
use Rattle.core_tree.specs.declared.node.NodeKind.{NodeKind}
use Rattle.core_tree.specs.declared.node.NodeKind.TheVariants.{Named, Literal, FunctionName, Deref, Member, Fetch, AddressOf, Decay, PointerAdd, Convert, Upcast, Assign, Update, Choose, Sequence, CallNode, MemberOfValue, VarArgs, NextArg, Arith, If, While, DoWhile, For, Switch, Initialise}
use Rattle.core_tree.specs.declared.node.Program.{Program}
use Rattle.core_tree.specs.Rows.{RowOf, width_at, place_bits, entity_type, IsEntityIn, IsVariadicIn, IsFurther, Arguments, Calls, Unary, Binary, InitialValues, ForCondition, ForAfter, ForParts}
use Rattle.core_tree.specs.Typed.{CoreTrees, type_at, IsValue, trees_in}
use Rattle.obj_space.specs.Parts.{nodes_of as tree_nodes}
use Rattle.covering_laws.specs.covered_types.Whole.{IsGivenBy, IsWhole, IsHeld, HasValue}
use Rattle.covering_laws.specs.grown_programs.Grown.{with_terms, MayFollow, IsKept, with_types}
use Rattle.covering_laws.proofs.grown_programs.Numbers.{type_same}
use Rattle.covering_laws.proofs.grown_programs.Types.{part_type_same}
use Rattle.covered_runs.proofs.covered_steps.covered_values.Types.{none_some}

module _ (p : Program) (more : List Term) (made : IsMade p.types) (follow : MayFollow (length p.types.terms) more) (kept : IsKept p.types (with_terms p.types more))
    (nodes_known : (n : ℕ) (node : Node) → slice_get p.nodes.items n ≡ Some node → node.ty.0 < length p.types.terms)
    (entities_known : (e : ℕ) (x : Entity) → slice_get p.entities.items e ≡ Some x → x.ty.0 < length p.types.terms) where
  abbrev new : Table
  new = with_terms p.types more

  abbrev u : CoreTrees
  u = trees_in p

  abbrev u' : CoreTrees
  u' = trees_in (with_types p more)

  ty : (c : ℕ) → type_at u' c ≡ type_at u c
  ty c = type_same p more made follow kept nodes_known entities_known c

  -- a fact of the type of a node
  at : (P : Ctype → Type 0) (c : ℕ) → P (type_at u c) → P (type_at u' c)
  at P c h = subst P (sym (ty c)) h

  complete_same : (t : Ctype) → IsSome (extent_in p.types t) → IsSome (extent_in new t)
  complete_same t h = subst (λ (o : Option Extent). IsSome o) (sym (kept.extents t)) h

  pub whole_same : (t : Ctype) → IsWhole p.types t → IsWhole new t
  whole_same t h = record { complete = complete_same t h.complete; few = subst (λ (o : Option Extent). length (tree_nodes o) ≤ 2 ^ 24) (sym (kept.extents t)) h.few }

  pub held_same : (t : Ctype) → IsHeld p.types t → IsHeld new t
  held_same t (inl void) = inl void
  held_same t (inr whole) = inr (whole_same t whole)

  pub value_same : (kind : NodeKind) (t : Ctype) (children : List ℕ) → HasValue u kind t children → HasValue u' kind t children
  value_same CallNode t (c ∷ arguments) h = at (λ s. IsGivenBy s t) c h
  value_same CallNode t [] h = held_same t h
  value_same Choose t (c ∷ a ∷ b ∷ []) h = (ty a ∙ h.0, ty b ∙ h.1)
  value_same Choose t [] h = held_same t h
  value_same Choose t (a ∷ []) h = held_same t h
  value_same Choose t (a ∷ b ∷ []) h = held_same t h
  value_same Choose t (a ∷ b ∷ c ∷ d ∷ rest) h = held_same t h
  value_same Sequence t (a ∷ b ∷ []) h = ty b ∙ h
  value_same Sequence t [] h = held_same t h
  value_same Sequence t (a ∷ []) h = held_same t h
  value_same Sequence t (a ∷ b ∷ c ∷ rest) h = held_same t h
  value_same kind t children h = held_same t h

  -- members
  listed_known : (tag : ℕ) (o : Option (List MemberTerm)) (k : ℕ) (m : MemberTerm) → members_in p.types tag ≡ o → in_list o k ≡ Some m → m.ty.0 < length p.types.terms
  listed_known tag None k m is e = absurd (none_some e)
  listed_known tag (Some ms) k m is e = (made.members tag ms is k m e).0

  member_known : (o : Option ℕ) (k : ℕ) (m : MemberTerm) → member_at p.types o k ≡ Some m → m.ty.0 < length p.types.terms
  member_known None k m e = absurd (none_some e)
  member_known (Some tag) k m e = listed_known tag (members_in p.types tag) k m refl e

  member_same : (whole : Ctype) (k : ℕ) (t : Ctype) → IsMemberOf p.types whole k t → IsMemberOf new whole k t
  member_same whole k t h = record { member = h.member; stands = h.stands; type = kept.types h.member.ty.0 (member_known (tag_of whole) k h.member h.stands) ∙ h.type }

  first_same : (a t : Ctype) → IsFirstOf p.types a t → IsFirstOf new a t
  first_same (PointerTo (StructureOf tag)) (PointerTo first) h = member_same (StructureOf tag) 0 first h
  first_same a t h = absurd h

  points_same : (t : Ctype) → PointsToObject p.types t → PointsToObject new t
  points_same (PointerTo to) h = complete_same to h
  points_same t h = absurd h

  -- entities
  entity_by : (e : ℕ) (t : Ctype) (o : Option Entity) → slice_get p.entities.items e ≡ o → IsEntityIn u o t → IsEntityIn u' o t
  entity_by e t None is h = absurd h
  entity_by e t (Some x) is h = subst (Agree t) (sym (kept.types x.ty.0 (entities_known e x is))) h

  entity_same : (e : ℕ) (o : Option Entity) → slice_get p.entities.items e ≡ o → entity_type u' o ≡ entity_type u o
  entity_same e None is = refl
  entity_same e (Some x) is = ap (λ (t : Ctype). Some t) (kept.types x.ty.0 (entities_known e x is))

  variadic_same : (e : ℕ) (o : Option Entity) → slice_get p.entities.items e ≡ o → IsVariadicIn u o → IsVariadicIn u' o
  variadic_same e None is h = absurd h
  variadic_same e (Some x) is h = subst IsVariadic (sym (kept.types x.ty.0 (entities_known e x is))) h

  -- the widths of places
  width_same : (kind : NodeKind) (children : List ℕ) → width_at u' kind children ≡ width_at u kind children
  width_same (Member k) (q ∷ rest) = ap (λ (s : Ctype). width_of (member_at p.types (tag_of s) k)) (ty q)
  width_same (Member k) [] = refl
  width_same kind children = refl

  bits_same : (o : Option Node) → place_bits u' o ≡ place_bits u o
  bits_same None = refl
  bits_same (Some x) = width_same x.kind x.children

  -- paths of initialisers
  below_same : (t : Option Ctype) (step : PathStep) → part_below new t step ≡ part_below p.types t step
  below_same None step = refl
  below_same (Some t) step = part_type_same p.types more made follow kept t step

  path_same : (path : List PathStep) (t : Option Ctype) → type_at_path new t path ≡ type_at_path p.types t path
  path_same [] t = refl
  path_same (step ∷ rest) t = ap (λ (o : Option Ctype). type_at_path new o rest) (below_same t step) ∙ path_same rest (part_below p.types t step)

  initial_same : (t : Option Ctype) (paths : List (List PathStep)) (values : List ℕ) → InitialValues u t paths values → InitialValues u' t paths values
  initial_same t [] [] h = tt
  initial_same t (path ∷ paths) (v ∷ values) h = (h.0, path_same path t ∙ (h.1 ∙ ap (λ (s : Ctype). Some s) (sym (ty v))), initial_same t paths values h.2)
  initial_same t [] (v ∷ values) h = absurd h
  initial_same t (path ∷ paths) [] h = absurd h

  -- arguments
  further_same : (args : List ℕ) → All (λ a. IsFurther u a) args → All (λ a. IsFurther u' a) args
  further_same args h = λ k d lt. ((h k d lt).0, at IsPassed (slice_index_or args k d) (h k d lt).1)

  value : (c : ℕ) (t : Ctype) → IsValue u c t → IsValue u' c t
  value c t h = (h.0, ty c ∙ h.1)

  arguments_same : (ps : Ctypes) (f : Form) (args : List ℕ) → Arguments u ps f args → Arguments u' ps f args
  arguments_same NoTypes Fixed [] h = tt
  arguments_same NoTypes Fixed (a ∷ args) h = absurd h
  arguments_same NoTypes Variadic args h = further_same args h
  arguments_same NoTypes Unspecified args h = further_same args h
  arguments_same (MoreTypes t rest) Unspecified args h = absurd h
  arguments_same (MoreTypes t rest) Fixed (a ∷ args) h = (value a t h.0, arguments_same rest Fixed args h.1)
  arguments_same (MoreTypes t rest) Fixed [] h = absurd h
  arguments_same (MoreTypes t rest) Variadic (a ∷ args) h = (value a t h.0, arguments_same rest Variadic args h.1)
  arguments_same (MoreTypes t rest) Variadic [] h = absurd h

  calls_by : (callee t : Ctype) (args : List ℕ) → Calls u callee t args → Calls u' callee t args
  calls_by (PointerTo (FunctionFrom r ps f)) t args h = (h.0, arguments_same ps f args h.1)
  calls_by callee t args h = absurd h

  condition_same : (es : List ℕ) (b : Bool) (rest : List ℕ) → ForCondition u es b rest → ForCondition u' es b rest
  condition_same es true [] h = absurd h
  condition_same es true (c ∷ first) h = ((h.0.0, at IsScalar c h.0.1), h.1)
  condition_same es false first h = h

  after_same : (es : List ℕ) (b after : Bool) (rest : List ℕ) → ForAfter u es b after rest → ForAfter u' es b after rest
  after_same es b true [] h = absurd h
  after_same es b true (v ∷ rest) h = (h.0, condition_same es b rest h.1)
  after_same es b false rest h = condition_same es b rest h

  parts_same : (es : List ℕ) (b after : Bool) (rest : List ℕ) → ForParts u es b after rest → ForParts u' es b after rest
  parts_same es b after [] h = absurd h
  parts_same es b after (body ∷ rest) h = (h.0, after_same es b after rest h.1)

  pub row_same : (kind : NodeKind) (t : Ctype) (children : List ℕ) → RowOf u kind t children → RowOf u' kind t children
  row_same (Named e) t [] h = (entity_by e t (slice_get p.entities.items e) refl h.0, h.1)
  row_same (Literal e) t (i ∷ []) h = (entity_same e (slice_get p.entities.items e) refl ∙ h.0, h.1)
  row_same (FunctionName e) t [] h = (entity_by e t (slice_get p.entities.items e) refl h.0, h.1)
  row_same Deref t (v ∷ []) h = (value v (PointerTo t) h.0, h.1)
  row_same (Member k) t (q ∷ []) h = (h.0, at (λ s. IsMemberOf new s k t) q (member_same (type_at u q) k t h.1), h.2)
  row_same Fetch t (q ∷ []) h = ((h.0.0, ty q ∙ h.0.1), h.1)
  row_same AddressOf t (q ∷ []) h = (h.0, h.1 ∙ ap (λ (s : Ctype). PointerTo s) (sym (ty q)), bits_same (slice_get p.nodes.items q) ∙ h.2)
  row_same Decay t (q ∷ []) h = (h.0, ap decayed (ty q) ∙ h.1)
  row_same (PointerAdd minus) t (v ∷ i ∷ []) h = (value v t h.0, points_same t h.1, (h.2.0, at IsInteger i h.2.1))
  row_same Convert t (v ∷ []) h = (h.0, at (λ s. s ≢ t) v h.1, at (λ s. Converts s t) v h.2)
  row_same Upcast t (v ∷ []) h = (h.0, at (λ s. IsFirstOf new s t) v (first_same (type_at u v) t h.1))
  row_same Assign t (q ∷ v ∷ []) h = ((h.0.0, ty q ∙ h.0.1), value v t h.1, h.2)
  row_same (Update op post) t (q ∷ v ∷ []) h = ((h.0.0, ty q ∙ h.0.1), (h.1.0, at IsInteger v h.1.1), h.2)
  row_same Choose t (c ∷ a ∷ b ∷ []) h = ((h.0.0, at IsScalar c h.0.1), value a t h.1, value b t h.2)
  row_same Sequence t (a ∷ b ∷ []) h = (h.0, value b t h.1)
  row_same CallNode t (c ∷ args) h = (h.0, at (λ s. Calls u' s t args) c (calls_by (type_at u c) t args h.1))
  row_same (MemberOfValue k) t (v ∷ []) h = (h.0, at (λ s. IsMemberOf new s k t) v (member_same (type_at u v) k t h.1), h.2)
  row_same (VarArgs e) t [] h = (h.0, variadic_same e (slice_get p.entities.items e) refl h.1)
  row_same NextArg t (q ∷ []) h = ((h.0.0, at IsList q h.0.1), h.1)
  row_same (Arith op) t (a ∷ []) h = (h.0, at (λ s. Unary op s t) a h.1)
  row_same (Arith op) t (a ∷ b ∷ []) h = (h.0, h.1, at (λ s. Binary op s (type_at u' b) t) a (at (λ s. Binary op (type_at u a) s t) b h.2))
  row_same If t (c ∷ s ∷ []) h = ((h.0.0, at IsScalar c h.0.1), h.1)
  row_same If t (c ∷ s ∷ o ∷ []) h = ((h.0.0, at IsScalar c h.0.1), h.1, h.2)
  row_same While t (c ∷ s ∷ []) h = ((h.0.0, at IsScalar c h.0.1), h.1)
  row_same DoWhile t (s ∷ c ∷ []) h = ((h.0.0, at IsScalar c h.0.1), h.1)
  row_same (For es condition after) t children h = parts_same es condition after (reverse children) h
  row_same Switch t (c ∷ s ∷ []) h = ((h.0.0, at IsInteger c h.0.1), h.1)
  row_same (Initialise e paths) t children h =
      subst (λ (o : Option Ctype). InitialValues u' o paths children) (sym (entity_same e (slice_get p.entities.items e) refl)) (initial_same (entity_type u (slice_get p.entities.items e)) paths children h)
  row_same kind t children h = h
