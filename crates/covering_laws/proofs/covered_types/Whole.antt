-- Which types of a program's nodes are complete.
use Rattle.std.proofs.Common.{◌≡◌, ◌⊎◌, inl, inr, ℕ, ℤ, List, [], ◌∷◌, Option, Some, None, IsSome, refl, sym, subst}
use Rattle.std.specs.Option.{option_map}
use Rattle.std.proofs.lemmas.Bool.{false≢true}
use Rattle.c_types.specs.declared.term.MemberTerm.{MemberTerm}
use Rattle.c_types.specs.Trees.{Ctype, VoidType, BoolType, IntegerType, FloatingType, VaListType, PointerTo, ArrayOf, FunctionFrom, StructureOf, UnionOf}
use Rattle.c_types.specs.Layout.{Extent, of_members, structure_of, union_of}
use Rattle.c_types.specs.Table.{Table, type_of, extent_in, extents_in, members_in, size_below}
use Rattle.c_types.specs.Made.{IsMade, IsFlexible}
use Rattle.type_rules.specs.Members.{IsMemberOf, tag_of, in_list, member_at}
use Rattle.type_rules.specs.Conversions.{Converts, IsFirstOf}
use Rattle.core_tree.specs.declared.node.Node.{Node}
use Rattle.core_tree.specs.declared.node.Op.{Op}
use Rattle.core_tree.specs.declared.node.Op.TheVariants.{Plus, Minus, ShiftLeft, ShiftRight, Less, Greater, LessEqual, GreaterEqual, Equal, NotEqual, Complement, Not}
use Rattle.core_tree.specs.declared.node.NodeKind.{NodeKind}
use Rattle.core_tree.specs.declared.node.NodeKind.TheVariants.{Named, Text, Literal, FunctionName, Deref, Member, Number, NullValue, Fetch, AddressOf, Decay, PointerAdd, Convert, Upcast, Assign, Update, Choose, Sequence, CallNode, MemberOfValue, VarArgs, NextArg, Arith}
use Rattle.core_tree.specs.declared.node.Program.{Program}
use Rattle.core_tree.specs.Typed.{CoreTrees, PlaceNode, ValueNode, StatementNode, IsPointer, IsScalar, IsAggregate, IsList, IsStored, IsPromoted, LacksLength, Holds, decayed, sort_of, type_at, trees_in}
use Rattle.core_tree.specs.Rows.{RowOf, IsArray, Updates, Unary, Binary, Subtracts, Calls}
use Rattle.core_tree.specs.Valid.{ValidProgram, ValueSized}
use Rattle.type_rules.specs.Sizes.{HasSize, PointsToObject}
use Rattle.covering_laws.specs.covered_types.Whole.{IsWhole, IsHeld, IsGivenBy, HasValue, IsPlaced, AreWhole, HasFew, TypesWhole}

none_some : {X : Type 0} → {x : X} → ◌≡◌ {A = Option X} None (Some x) → ⊥
none_some h = cc

some_one : {X : Type 0} → {x y : X} → ◌≡◌ {A = Option X} (Some x) (Some y) → x ≡ y
some_one h = cc

place_value : PlaceNode ≡ ValueNode → ⊥
place_value h = cc

statement_value : StatementNode ≡ ValueNode → ⊥
statement_value h = cc

module _ (table : Table) where
  abbrev IsComplete : Ctype → Type 0
  IsComplete t = IsSome (extent_in table t)

  pub scalar_complete : (t : Ctype) → IsScalar t → IsComplete t
  scalar_complete BoolType h = refl
  scalar_complete (IntegerType size rank signed) h = refl
  scalar_complete (PointerTo to) h = refl
  scalar_complete VoidType (inl h) = absurd h
  scalar_complete VoidType (inr h) = absurd h
  scalar_complete FloatingType (inl h) = absurd h
  scalar_complete FloatingType (inr h) = absurd h
  scalar_complete VaListType (inl h) = absurd h
  scalar_complete VaListType (inr h) = absurd h
  scalar_complete (ArrayOf of n) (inl h) = absurd h
  scalar_complete (ArrayOf of n) (inr h) = absurd h
  scalar_complete (FunctionFrom r ps f) (inl h) = absurd h
  scalar_complete (FunctionFrom r ps f) (inr h) = absurd h
  scalar_complete (StructureOf tag) (inl h) = absurd h
  scalar_complete (StructureOf tag) (inr h) = absurd h
  scalar_complete (UnionOf tag) (inl h) = absurd h
  scalar_complete (UnionOf tag) (inr h) = absurd h

  pub list_complete : (t : Ctype) → IsList t → IsComplete t
  list_complete VaListType h = refl
  list_complete t h = absurd h

  sized_by : (o : Option Extent) → IsSome (size_below o) → IsSome o
  sized_by None h = absurd (false≢true h)
  sized_by (Some e) h = refl

  pub sized_complete : (t : Ctype) → HasSize table t → IsComplete t
  sized_complete t h = sized_by (extent_in table t) h.0

  promoted_scalar : (t : Ctype) → IsPromoted t → IsScalar t
  promoted_scalar (IntegerType size rank signed) h = inl tt
  promoted_scalar t h = absurd h

  number_scalar : (t : Ctype) (n : ℤ) → Holds t n → IsScalar t
  number_scalar BoolType n h = inl tt
  number_scalar (IntegerType size rank signed) n h = inl tt
  number_scalar t n h = absurd h

  pointer_scalar : (t : Ctype) → IsPointer t → IsScalar t
  pointer_scalar t h = inr h

  decayed_scalar : (a t : Ctype) → decayed a ≡ Some t → IsScalar t
  decayed_scalar (ArrayOf of n) t h = subst IsScalar (some_one h) (inr tt)
  decayed_scalar (FunctionFrom r ps f) t h = subst IsScalar (some_one h) (inr tt)
  decayed_scalar a t h = absurd (none_some h)

  first_scalar : (a t : Ctype) → IsFirstOf table a t → IsScalar t
  first_scalar (PointerTo (StructureOf tag)) (PointerTo first) h = inr tt
  first_scalar a t h = absurd h

  points_scalar : (t : Ctype) → PointsToObject table t → IsScalar t
  points_scalar (PointerTo to) h = inr tt
  points_scalar t h = absurd h

  -- what a conversion gives is void or a scalar
  converted : (a t : Ctype) → Converts a t → (t ≡ VoidType) ⊎ IsScalar t
  converted a VoidType h = inl refl
  converted a BoolType h = inr (inl tt)
  converted a (IntegerType size rank signed) h = inr (inl tt)
  converted a (PointerTo to) h = inr (inr tt)
  converted a t h = absurd h

  unary_scalar : (op : Op) (a t : Ctype) → Unary op a t → IsScalar t
  unary_scalar Not a t h = subst IsScalar (sym h.1) (inl tt)
  unary_scalar Plus a t h = subst IsScalar (sym h.1) (promoted_scalar a h.0)
  unary_scalar Minus a t h = subst IsScalar (sym h.1) (promoted_scalar a h.0)
  unary_scalar Complement a t h = subst IsScalar (sym h.1) (promoted_scalar a h.0)
  unary_scalar op a t h = absurd h

  subtracted_scalar : (a b t : Ctype) → Subtracts a b t → IsScalar t
  subtracted_scalar (PointerTo a) b t h = subst IsScalar (sym h.1) (inl tt)
  subtracted_scalar a b t h = subst IsScalar (sym h.2) (promoted_scalar a h.0)

  binary_scalar : (op : Op) (a b t : Ctype) → Binary op a b t → IsScalar t
  binary_scalar Minus a b t h = subtracted_scalar a b t h
  binary_scalar Not a b t h = absurd h
  binary_scalar Complement a b t h = absurd h
  binary_scalar ShiftLeft a b t h = subst IsScalar (sym h.2) (promoted_scalar a h.0)
  binary_scalar ShiftRight a b t h = subst IsScalar (sym h.2) (promoted_scalar a h.0)
  binary_scalar Less a b t h = subst IsScalar (sym h.2) (inl tt)
  binary_scalar Greater a b t h = subst IsScalar (sym h.2) (inl tt)
  binary_scalar LessEqual a b t h = subst IsScalar (sym h.2) (inl tt)
  binary_scalar GreaterEqual a b t h = subst IsScalar (sym h.2) (inl tt)
  binary_scalar Equal a b t h = subst IsScalar (sym h.2) (inl tt)
  binary_scalar NotEqual a b t h = subst IsScalar (sym h.2) (inl tt)
  binary_scalar op a b t h = subst IsScalar (sym h.2) (promoted_scalar a h.0)

-- a member's tag is complete
module _ (table : Table) (made : IsMade table) where
  complete_by : (make : List Extent → Extent) (o : Option (List MemberTerm)) (m : MemberTerm) (k : ℕ) → in_list o k ≡ Some m → IsSome (of_members make (option_map (extents_in table) o))
  complete_by make None m k h = absurd (none_some h)
  complete_by make (Some ms) m k h = refl

  whole_complete : (whole : Ctype) (k : ℕ) (m : MemberTerm) → member_at table (tag_of whole) k ≡ Some m → IsSome (extent_in table whole)
  whole_complete (StructureOf tag) k m h =
      subst (λ (o : Option (List Extent)). IsSome (of_members (structure_of (StructureOf tag)) o)) (sym (made.laid tag)) (complete_by (structure_of (StructureOf tag)) (members_in table tag) m k h)
  whole_complete (UnionOf tag) k m h =
      subst (λ (o : Option (List Extent)). IsSome (of_members (union_of (UnionOf tag)) o)) (sym (made.laid tag)) (complete_by (union_of (UnionOf tag)) (members_in table tag) m k h)
  whole_complete t k m h = absurd (none_some h)

  flexible_lacks : (t : Ctype) → IsFlexible table t → LacksLength t
  flexible_lacks (ArrayOf of None) h = tt
  flexible_lacks t h = absurd h

  among : (tag : ℕ) (o : Option (List MemberTerm)) → members_in table tag ≡ o → (k : ℕ) (m : MemberTerm) → in_list o k ≡ Some m → (LacksLength (type_of table m.ty.0) → ⊥) → IsSome (extent_in table (type_of table m.ty.0))
  among tag None is k m h long = absurd (none_some h)
  among tag (Some ms) is k m h long = elim (made.members tag ms is k m h).1.object [
    | inl complete ↦ complete
    | inr last ↦ absurd (long (flexible_lacks (type_of table m.ty.0) last.flexible))
  ]

  part_complete : (whole : Ctype) (k : ℕ) (m : MemberTerm) → member_at table (tag_of whole) k ≡ Some m → (LacksLength (type_of table m.ty.0) → ⊥) → IsSome (extent_in table (type_of table m.ty.0))
  part_complete (StructureOf tag) k m h long = among tag (members_in table tag) refl k m h long
  part_complete (UnionOf tag) k m h long = among tag (members_in table tag) refl k m h long
  part_complete t k m h long = absurd (none_some h)

  pub placed : (whole : Ctype) (k : ℕ) (t : Ctype) → IsMemberOf table whole k t → (LacksLength t → ⊥) → IsPlaced table whole t
  placed whole k t h long = record {
    part = subst (λ (s : Ctype). IsSome (extent_in table s)) h.type (part_complete whole k h.member h.stands (λ l. long (subst LacksLength h.type l)));
    whole_one = whole_complete whole k h.member h.stands;
  }

  no_array : (t : Ctype) → (IsArray t → ⊥) → LacksLength t → ⊥
  no_array (ArrayOf of n) not lacks = not tt
  no_array t not lacks = lacks

module _ (p : Program) (valid : ValidProgram p) (made : IsMade p.types) (few : HasFew p.types) where
  abbrev u : CoreTrees
  u = trees_in p

  module _ (id : ℕ) where
    abbrev t : Ctype
    t = type_of p.types id

    complete : IsSome (extent_in p.types t) → IsHeld p.types t
    complete h = inr (record { complete = h; few = few id })

    scalar : IsScalar t → IsHeld p.types t
    scalar h = complete (scalar_complete p.types t h)

    maybe_void : (t ≡ VoidType) ⊎ IsScalar t → IsHeld p.types t
    maybe_void (inl void) = inl void
    maybe_void (inr h) = scalar h

  stored_is : (node : Node) → sort_of node.kind ≡ ValueNode → ValueSized u node → IsStored (type_of p.types node.ty.0) → IsWhole p.types (type_of p.types node.ty.0)
  stored_is node sort sized (inl h) = record { complete = scalar_complete p.types (type_of p.types node.ty.0) h; few = few node.ty.0 }
  stored_is node sort sized (inr (inr h)) = record { complete = list_complete p.types (type_of p.types node.ty.0) h; few = few node.ty.0 }
  stored_is node sort sized (inr (inl h)) = record { complete = sized_complete p.types (type_of p.types node.ty.0) (sized sort h); few = few node.ty.0 }

  -- what a node of a kind gives
  module _ (id : ℕ) (sized : IsAggregate (type_of p.types id) → HasSize p.types (type_of p.types id)) where
    stored_held : IsStored (type_of p.types id) → IsHeld p.types (type_of p.types id)
    stored_held (inl h) = scalar id h
    stored_held (inr (inr h)) = complete id (list_complete p.types (type_of p.types id) h)
    stored_held (inr (inl h)) = complete id (sized_complete p.types (type_of p.types id) (sized h))

    updated : (op : Op) → Updates op (type_of p.types id) → IsHeld p.types (type_of p.types id)
    updated op (inl h) = scalar id (inl h.0)
    updated op (inr h) = scalar id (inr h.0)

    member_held : (whole : Ctype) (k : ℕ) → IsMemberOf p.types whole k (type_of p.types id) → (IsArray (type_of p.types id) → ⊥) → IsHeld p.types (type_of p.types id)
    member_held whole k h not = complete id (placed p.types made whole k (type_of p.types id) h (no_array p.types made (type_of p.types id) not)).part

    given : (callee : Ctype) (arguments : List ℕ) → Calls u callee (type_of p.types id) arguments → IsGivenBy callee (type_of p.types id)
    given (PointerTo (FunctionFrom r ps f)) arguments h = h.0
    given callee arguments h = absurd h

    value_of : (kind : NodeKind) (children : List ℕ) → sort_of kind ≡ ValueNode → RowOf u kind (type_of p.types id) children → HasValue u kind (type_of p.types id) children
    value_of (Number n) [] s row = scalar id (number_scalar p.types (type_of p.types id) n row)
    value_of (Number n) children s row = absurd row
    value_of NullValue [] s row = scalar id (inr row)
    value_of NullValue children s row = absurd row
    value_of Fetch (q ∷ []) s row = stored_held row.1
    value_of Fetch children s row = absurd row
    value_of AddressOf (q ∷ []) s row = scalar id (subst IsScalar (sym row.1) (inr tt))
    value_of AddressOf children s row = absurd row
    value_of Decay (q ∷ []) s row = scalar id (decayed_scalar p.types (type_at u q) (type_of p.types id) row.1)
    value_of Decay children s row = absurd row
    value_of (PointerAdd minus) (v ∷ i ∷ []) s row = scalar id (points_scalar p.types (type_of p.types id) row.1)
    value_of (PointerAdd minus) children s row = absurd row
    value_of Convert (v ∷ []) s row = maybe_void id (converted p.types (type_at u v) (type_of p.types id) row.2)
    value_of Convert children s row = absurd row
    value_of Upcast (v ∷ []) s row = scalar id (first_scalar p.types (type_at u v) (type_of p.types id) row.1)
    value_of Upcast children s row = absurd row
    value_of Assign (q ∷ v ∷ []) s row = stored_held row.2
    value_of Assign children s row = absurd row
    value_of (Update op post) (q ∷ v ∷ []) s row = updated op row.2
    value_of (Update op post) children s row = absurd row
    value_of Choose (c ∷ a ∷ b ∷ []) s row = (row.1.1, row.2.1)
    value_of Choose children s row = absurd row
    value_of Sequence (a ∷ b ∷ []) s row = row.1.1
    value_of Sequence children s row = absurd row
    value_of CallNode (c ∷ arguments) s row = given (type_at u c) arguments row.1
    value_of CallNode [] s row = absurd row
    value_of (MemberOfValue k) (v ∷ []) s row = member_held (type_at u v) k row.1 row.2
    value_of (MemberOfValue k) children s row = absurd row
    value_of (Arith op) (a ∷ []) s row = scalar id (unary_scalar p.types op (type_at u a) (type_of p.types id) row.1)
    value_of (Arith op) (a ∷ b ∷ []) s row = scalar id (binary_scalar p.types op (type_at u a) (type_at u b) (type_of p.types id) row.2)
    value_of (Arith op) children s row = absurd row
    value_of (VarArgs e) [] s row = complete id (list_complete p.types (type_of p.types id) row.0)
    value_of (VarArgs e) children s row = absurd row
    value_of NextArg (q ∷ []) s row = scalar id row.1
    value_of NextArg children s row = absurd row
    value_of (Named e) children s row = absurd (place_value s)
    value_of (Text bytes) children s row = absurd (place_value s)
    value_of (Literal e) children s row = absurd (place_value s)
    value_of (FunctionName e) children s row = absurd (place_value s)
    value_of Deref children s row = absurd (place_value s)
    value_of (Member k) children s row = absurd (place_value s)
    value_of kind children s row = absurd (statement_value s)

  pub whole_types : AreWhole p
  whole_types = record {
    stored = λ n node there sort h. stored_is node sort (valid.trees.measured.values n node there) h;
    values = λ n node there sort. value_of node.ty.0 (valid.trees.measured.values n node there sort) node.kind node.children sort (valid.trees.rows n node there);
    members = λ whole k t h long. placed p.types made whole k t h long;
  }

pub types_whole : TypesWhole
types_whole p valid made few = whole_types p valid made few
