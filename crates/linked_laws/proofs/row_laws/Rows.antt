-- The rows of the program's nodes.
use Rattle.std.proofs.Common.{◌≡◌, ◌∙◌, ℕ, ℤ, ◌<◌, Bool, true, false, List, [], ◌∷◌, ◌++◌, length, map, reverse, Option, Some, None, All, refl, sym, ap, subst, inl, inr}
use Rattle.std.specs.Prelude.{⊤}
use Rattle.std.specs.List.{slice_get}
use Rattle.std.proofs.lemmas.List.{map_push, reverse-append}
use Rattle.std.proofs.lemmas.Option.{slice_get_within}
use Rattle.c_types.specs.declared.term.Form.{Form}
use Rattle.c_types.specs.declared.term.Form.TheVariants.{Fixed, Variadic, Unspecified}
use Rattle.c_types.specs.Trees.{Ctype, Ctypes, NoTypes, MoreTypes, PointerTo, FunctionFrom, StructureOf}
use Rattle.c_types.specs.Table.{type_of}
use Rattle.c_types.specs.Made.{IsMade}
use Rattle.type_rules.specs.Members.{tag_of, member_at, width_of}
use Rattle.type_rules.specs.Sizes.{PointsToObject}
use Rattle.type_rules.specs.Kinds.{IsScalar, IsList, IsPassed}
use Rattle.type_rules.specs.Conversions.{IsFirstOf, Converts, decayed}
use Rattle.core_tree.specs.declared.node.Unit.{Unit}
use Rattle.core_tree.specs.declared.node.Program.{Program}
use Rattle.core_tree.specs.declared.node.Node.{Node}
use Rattle.core_tree.specs.declared.node.Entity.{Entity}
use Rattle.core_tree.specs.declared.node.Op.{Op}
use Rattle.core_tree.specs.declared.node.NodeKind.{NodeKind}
use Rattle.core_tree.specs.declared.node.NodeKind.TheVariants.{Named, Text, Literal, FunctionName, Deref, Member, Number, NullValue, Fetch, AddressOf, Decay, PointerAdd, Convert, Upcast, Assign, Update, Choose, Sequence, CallNode, MemberOfValue, Arith, VarArgs, NextArg, Expression, Block, If, While, DoWhile, For, Switch, Case, Default, Label, Goto, Break, Continue, Return, Initialise, Skip}
use Rattle.core_tree.specs.Typed.{Sort, NoNode, PlaceNode, ValueNode, StatementNode, sort_in, sort_at, type_at, IsPlace, IsValue, IsStatement, IsInteger, trees_in, trees_of}
use Rattle.core_tree.specs.Rows.{IsMember, width_at, place_bits, entity_type, IsNumeral, IsCondition, IsVariadicIn, IsFurther, Arguments, Calls, Unary, Binary, InitialisesEntity, InitialisesIn, Initialises, InitialisesOneOf, IsFirstStatement, IsExpressionNode, IsOneExpression, ForFirst, InitialValues, RowOf, NamedRow, TextRow, LiteralRow, FunctionNameRow, DerefRow, MemberRow, NumberRow, NullRow, FetchRow, AddressRow, DecayRow, PointerAddRow, ConvertRow, UpcastRow, AssignRow, UpdateRow, ChooseRow, SequenceRow, CallRow, MemberOfValueRow, VarArgsRow, NextArgRow, ArithRow, ExpressionRow, BlockRow, IfRow, WhileRow, DoWhileRow, ForCondition, ForAfter, ForParts, ForRow, SwitchRow, LabelledRow, LoneRow, ReturnRow}
use Rattle.core_tree.specs.Linkages.{HasNoLinkage, MakesUnlinked, UsesDeclared}
use Rattle.link_model.specs.Renamed.{all_renamed}
use Rattle.link_model.specs.Merged.{moved}
use Rattle.unit_link.specs.Linked.{LinkedAt}
use Rattle.unit_link.specs.Needs.{AreLinkable}
use Rattle.unit_link.specs.Places.{node_place, kind_renamed}
use Rattle.linked_laws.specs.merged_laws.Merged.{AreTables}
use Rattle.linked_laws.proofs.merged_laws.Members.{member_moved}
use Rattle.linked_laws.proofs.node_laws.Children.{child_sort, child_type}
use Rattle.linked_laws.proofs.sized_laws.Whole.{sizes_kept}
use Rattle.linked_laws.proofs.embedded_laws.Lists.{some_one, present, has_mapped, all_mapped}
use Rattle.linked_laws.proofs.embedded_laws.Renaming.{initialises_to}
use Rattle.linked_laws.proofs.embedded_laws.Entities.{stands_at}
use Rattle.linked_laws.proofs.row_laws.Types.{integer_to, pointer_to, scalar_to, list_to, stored_to, passed_to, function_to, function_back, array_back, lacks_back, void_back, holds_to, decayed_to, converts_to, updates_to, unary_to, binary_to}
use Rattle.linked_laws.proofs.row_laws.Members.{width_moved}
use Rattle.linked_laws.proofs.row_laws.Names.{use_agrees}
use Rattle.linked_laws.proofs.embedded_laws.Inside.{local_linkage}

-- a node of a sort is there
no_place : NoNode ≡ PlaceNode → ⊥
no_place e = cc

no_value : NoNode ≡ ValueNode → ⊥
no_value e = cc

no_statement : NoNode ≡ StatementNode → ⊥
no_statement e = cc

reverse_cons : (x : ℕ) (xs : List ℕ) → reverse (x ∷ xs) ≡ reverse xs ++ x ∷ []
reverse_cons x xs = reverse-append (x ∷ []) xs

map_reverse : (f : ℕ → ℕ) (xs : List ℕ) → map f (reverse xs) ≡ reverse (map f xs)
map_reverse f [] = refl
map_reverse f (x ∷ xs) = ap (map f) (reverse_cons x xs) ∙ map_push f (reverse xs) x ∙ ap (λ l. l ++ f x ∷ []) (map_reverse f xs) ∙ sym (reverse_cons (f x) (map f xs))

oneof_to : (f : ℕ → ℕ) (es : List ℕ) (kind : NodeKind) → InitialisesOneOf es kind → InitialisesOneOf (map f es) (kind_renamed f kind)
oneof_to f es (Initialise o paths) h = has_mapped f es o h
oneof_to f es kind h = absurd h

module _ {names : List (List ℕ)} (units : List Unit) (p : Program) (linkable : AreLinkable units) (tables : AreTables units) (made : IsMade p.types) (h : LinkedAt names units p) (u : ℕ) (of : Unit) (is : slice_get units u ≡ Some of) where
  abbrev here : Ctype → Ctype
  here t = moved h.numbers u t

  abbrev place : ℕ → ℕ
  place c = node_place units u c

  abbrev number : ℕ → ℕ
  number e = h.entity_numbers u e

  within : (c : ℕ) (s : Sort) → (NoNode ≡ s → ⊥) → sort_at (trees_of of) c ≡ s → c < length of.nodes.items
  within c s no_sort e = by (slice_get of.nodes.items c) refl e
    where
      by : (o : Option Node) → slice_get of.nodes.items c ≡ o → sort_in o ≡ s → c < length of.nodes.items
      by None at sort = absurd (no_sort sort)
      by (Some x) at sort = slice_get_within of.nodes.items c x at

  sort_to : (c : ℕ) (s : Sort) → (NoNode ≡ s → ⊥) → sort_at (trees_of of) c ≡ s → sort_at (trees_in p) (place c) ≡ s
  sort_to c s no_sort e = child_sort units p h u of is c (within c s no_sort e) ∙ e

  value_type : (c : ℕ) → sort_at (trees_of of) c ≡ ValueNode → type_at (trees_in p) (place c) ≡ here (type_at (trees_of of) c)
  value_type c e = child_type units p h u of is c (within c ValueNode no_value e)

  place_type : (c : ℕ) → sort_at (trees_of of) c ≡ PlaceNode → type_at (trees_in p) (place c) ≡ here (type_at (trees_of of) c)
  place_type c e = child_type units p h u of is c (within c PlaceNode no_place e)

  value_sort : (c : ℕ) → sort_at (trees_of of) c ≡ ValueNode → sort_at (trees_in p) (place c) ≡ ValueNode
  value_sort c e = sort_to c ValueNode no_value e

  place_sort : (c : ℕ) → sort_at (trees_of of) c ≡ PlaceNode → sort_at (trees_in p) (place c) ≡ PlaceNode
  place_sort c e = sort_to c PlaceNode no_place e

  value_to : (c : ℕ) (t : Ctype) → IsValue (trees_of of) c t → IsValue (trees_in p) (place c) (here t)
  value_to c t v = (value_sort c v.0, value_type c v.0 ∙ ap here v.1)

  place_to : (c : ℕ) (t : Ctype) → IsPlace (trees_of of) c t → IsPlace (trees_in p) (place c) (here t)
  place_to c t v = (place_sort c v.0, place_type c v.0 ∙ ap here v.1)

  statement_to : (c : ℕ) → IsStatement (trees_of of) c → IsStatement (trees_in p) (place c)
  statement_to c s = sort_to c StatementNode no_statement s

  numeral_to : (c : ℕ) → IsNumeral (trees_of of) c → IsNumeral (trees_in p) (place c)
  numeral_to c v = (value_sort c v.0, subst IsInteger (sym (value_type c v.0)) (integer_to (h.numbers.tag u) (type_at (trees_of of) c) v.1))

  condition_to : (c : ℕ) → IsCondition (trees_of of) c → IsCondition (trees_in p) (place c)
  condition_to c v = (value_sort c v.0, subst IsScalar (sym (value_type c v.0)) (scalar_to (h.numbers.tag u) (type_at (trees_of of) c) v.1))

  further_to : (c : ℕ) → IsFurther (trees_of of) c → IsFurther (trees_in p) (place c)
  further_to c v = (value_sort c v.0, subst IsPassed (sym (value_type c v.0)) (passed_to (h.numbers.tag u) (type_at (trees_of of) c) v.1))

  -- ---- places
  named_to : (e : ℕ) (t : Ctype) (children : List ℕ) → UsesDeclared (trees_of of) t (Named e) → NamedRow (trees_of of) e t children → NamedRow (trees_in p) (number e) (here t) (map place children)
  named_to e t [] declared row = (use_agrees units p linkable h u e of t is row.0 declared, λ f. row.1 (function_back (h.numbers.tag u) t f))
  named_to e t (c ∷ rest) declared row = absurd row

  function_name_to : (e : ℕ) (t : Ctype) (children : List ℕ) → UsesDeclared (trees_of of) t (FunctionName e) → FunctionNameRow (trees_of of) e t children → FunctionNameRow (trees_in p) (number e) (here t) (map place children)
  function_name_to e t [] declared row = (use_agrees units p linkable h u e of t is row.0 declared, function_to (h.numbers.tag u) t row.1)
  function_name_to e t (c ∷ rest) declared row = absurd row

  text_to : (bytes : List ℕ) (t : Ctype) (children : List ℕ) → TextRow bytes t children → TextRow bytes (here t) (map place children)
  text_to bytes t [] row = ap here row
  text_to bytes t (c ∷ rest) row = absurd row

  literal_type : (e : ℕ) (t : Ctype) → HasNoLinkage (slice_get of.entities.items e) → entity_type (trees_of of) (slice_get of.entities.items e) ≡ Some t → entity_type (trees_in p) (slice_get p.entities.items (number e)) ≡ Some (here t)
  literal_type e t unlinked row = by (slice_get of.entities.items e) refl unlinked row
    where
      by : (o : Option Entity) → slice_get of.entities.items e ≡ o → HasNoLinkage o → entity_type (trees_of of) o ≡ Some t → entity_type (trees_in p) (slice_get p.entities.items (number e)) ≡ Some (here t)
      by None at local type = absurd local
      by (Some x) at local type =
          let s = stands_at units p linkable h u e of x is at in
          elim s.which [
            | inl name ↦ absurd (local_linkage x local name.0)
            | inr other ↦ ap (entity_type (trees_in p)) s.there ∙ (ap (λ (k : Ctype). Some k) other.type ∙ ap (λ (k : Ctype). Some (here k)) (some_one type))
          ]

  initialises_there : (i e : ℕ) → Initialises (trees_of of) i e → Initialises (trees_in p) (place i) (number e)
  initialises_there i e init = by (slice_get of.nodes.items i) refl init
    where
      by : (o : Option Node) → slice_get of.nodes.items i ≡ o → InitialisesIn o e → Initialises (trees_in p) (place i) (number e)
      by None at its = absurd its
      by (Some z) at its =
          let n = h.nodes.each u i of z is at in
          subst (λ (o : Option Node). InitialisesIn o (number e)) (sym n.node_is)
          (subst (λ (k : NodeKind). InitialisesEntity k (number e)) (sym n.moved.kind) (initialises_to (h.entity_numbers u) z.kind e its))

  literal_to : (e : ℕ) (t : Ctype) (children : List ℕ) → HasNoLinkage (slice_get of.entities.items e) → LiteralRow (trees_of of) e t children → LiteralRow (trees_in p) (number e) (here t) (map place children)
  literal_to e t (i ∷ []) unlinked row = (literal_type e t unlinked row.0, initialises_there i e row.1)
  literal_to e t children unlinked row = absurd row

  deref_to : (t : Ctype) (children : List ℕ) → DerefRow (trees_of of) t children → DerefRow (trees_in p) (here t) (map place children)
  deref_to t (v ∷ []) row = (value_to v (PointerTo t) row.0, λ e. row.1 (void_back (h.numbers.tag u) t e))
  deref_to t children row = absurd row

  member_place : (c k : ℕ) (t : Ctype) → IsMember (trees_of of) (type_at (trees_of of) c) k t → type_at (trees_in p) (place c) ≡ here (type_at (trees_of of) c) → IsMember (trees_in p) (type_at (trees_in p) (place c)) k (here t)
  member_place c k t m type =
      subst (λ (whole : Ctype). IsMember (trees_in p) whole k (here t)) (sym type) (member_moved units h.numbers p.types tables h.types u of is (type_at (trees_of of) c) k t m)

  member_to : (k : ℕ) (t : Ctype) (children : List ℕ) → MemberRow (trees_of of) k t children → MemberRow (trees_in p) k (here t) (map place children)
  member_to k t (c ∷ []) row = (place_sort c row.0, member_place c k t row.1 (place_type c row.0), λ l. row.2 (lacks_back (h.numbers.tag u) t l))
  member_to k t children row = absurd row

  -- ---- values
  number_to : (n : ℤ) (t : Ctype) (children : List ℕ) → NumberRow n t children → NumberRow n (here t) (map place children)
  number_to n t [] row = holds_to (h.numbers.tag u) t n row
  number_to n t (c ∷ rest) row = absurd row

  null_to : (t : Ctype) (children : List ℕ) → NullRow t children → NullRow (here t) (map place children)
  null_to t [] row = pointer_to (h.numbers.tag u) t row
  null_to t (c ∷ rest) row = absurd row

  fetch_to : (t : Ctype) (children : List ℕ) → FetchRow (trees_of of) t children → FetchRow (trees_in p) (here t) (map place children)
  fetch_to t (c ∷ []) row = (place_to c t row.0, stored_to (h.numbers.tag u) t row.1)
  fetch_to t children row = absurd row

  -- a place that is no bit-field
  bits_row : (kind : NodeKind) (t : Ctype) (children : List ℕ) → RowOf (trees_of of) kind t children → width_at (trees_of of) kind children ≡ None → width_at (trees_in p) (kind_renamed (h.entity_numbers u) kind) (map place children) ≡ None
  bits_row (Member k) t (q ∷ []) row none =
      let m = row.1 in
      let width = width_moved units h.numbers p.types tables h.types u of is (type_at (trees_of of) q) k m.member m.stands in
      ap (λ (w : Ctype). width_of (member_at p.types (tag_of w) k)) (place_type q row.0) ∙ (width ∙ (sym (ap width_of m.stands) ∙ none))
  bits_row (Member k) t [] row none = refl
  bits_row (Member k) t (q ∷ r ∷ rest) row none = absurd row
  bits_row (Named e) t children row none = refl
  bits_row (FunctionName e) t children row none = refl
  bits_row (Literal e) t children row none = refl
  bits_row (Block es) t children row none = refl
  bits_row (For es c a) t children row none = refl
  bits_row (Initialise e paths) t children row none = refl
  bits_row kind t children row none = refl

  bits_there : (c : ℕ) → c < length of.nodes.items → place_bits (trees_of of) (slice_get of.nodes.items c) ≡ None → place_bits (trees_in p) (slice_get p.nodes.items (place c)) ≡ None
  bits_there c lt none =
      let (z, at) = present of.nodes.items c lt in
      let n = h.nodes.each u c of z is at in
      let own : width_at (trees_of of) z.kind z.children ≡ None = sym (ap (place_bits (trees_of of)) at) ∙ none in
      ap (place_bits (trees_in p)) n.node_is
      ∙ (ap (λ (k : NodeKind). width_at (trees_in p) k n.node.children) n.moved.kind
      ∙ (ap (λ (l : List ℕ). width_at (trees_in p) (kind_renamed (h.entity_numbers u) z.kind) l) n.moved.children
      ∙ bits_row z.kind (type_of of.types z.ty.0) z.children ((linkable.valid u of is).trees.rows c z at) own))

  address_to : (t : Ctype) (children : List ℕ) → AddressRow (trees_of of) t children → AddressRow (trees_in p) (here t) (map place children)
  address_to t (c ∷ []) row = (place_sort c row.0, ap here row.1 ∙ ap PointerTo (sym (place_type c row.0)), bits_there c (within c PlaceNode no_place row.0) row.2)
  address_to t children row = absurd row

  decay_to : (t : Ctype) (children : List ℕ) → DecayRow (trees_of of) t children → DecayRow (trees_in p) (here t) (map place children)
  decay_to t (c ∷ []) row = (place_sort c row.0, ap decayed (place_type c row.0) ∙ decayed_to (h.numbers.tag u) (type_at (trees_of of) c) t row.1)
  decay_to t children row = absurd row

  points_to : (t : Ctype) → PointsToObject of.types t → PointsToObject p.types (here t)
  points_to (PointerTo to) o = (sizes_kept units h.numbers p.types tables made h.types u of is).complete to o
  points_to t o = absurd o

  pointer_add_to : (t : Ctype) (children : List ℕ) → PointerAddRow (trees_of of) t children → PointerAddRow (trees_in p) (here t) (map place children)
  pointer_add_to t (v ∷ i ∷ []) row = (value_to v t row.0, points_to t row.1, numeral_to i row.2)
  pointer_add_to t children row = absurd row

  convert_to : (t : Ctype) (children : List ℕ) → ((c : ℕ) → here (type_at (trees_of of) c) ≡ here t → type_at (trees_of of) c ≡ t) → ConvertRow (trees_of of) t children → ConvertRow (trees_in p) (here t) (map place children)
  convert_to t (v ∷ []) once row = (
    value_sort v row.0,
    λ e. row.1 (once v (sym (value_type v row.0) ∙ e)),
    subst (λ (s : Ctype). Converts s (here t)) (sym (value_type v row.0)) (converts_to (h.numbers.tag u) (type_at (trees_of of) v) t row.2),
  )
  convert_to t children once row = absurd row

  first_moved : (a t : Ctype) → IsFirstOf of.types a t → IsFirstOf p.types (here a) (here t)
  first_moved (PointerTo (StructureOf tag)) (PointerTo first) m = member_moved units h.numbers p.types tables h.types u of is (StructureOf tag) 0 first m
  first_moved a t m = absurd m

  upcast_to : (t : Ctype) (children : List ℕ) → UpcastRow (trees_of of) t children → UpcastRow (trees_in p) (here t) (map place children)
  upcast_to t (v ∷ []) row = (value_sort v row.0, subst (λ (a : Ctype). IsFirstOf p.types a (here t)) (sym (value_type v row.0)) (first_moved (type_at (trees_of of) v) t row.1))
  upcast_to t children row = absurd row

  assign_to : (t : Ctype) (children : List ℕ) → AssignRow (trees_of of) t children → AssignRow (trees_in p) (here t) (map place children)
  assign_to t (a ∷ v ∷ []) row = (place_to a t row.0, value_to v t row.1, stored_to (h.numbers.tag u) t row.2)
  assign_to t children row = absurd row

  update_to : (op : Op) (t : Ctype) (children : List ℕ) → UpdateRow (trees_of of) op t children → UpdateRow (trees_in p) op (here t) (map place children)
  update_to op t (a ∷ v ∷ []) row = (place_to a t row.0, numeral_to v row.1, updates_to (h.numbers.tag u) op t row.2)
  update_to op t children row = absurd row

  choose_to : (t : Ctype) (children : List ℕ) → ChooseRow (trees_of of) t children → ChooseRow (trees_in p) (here t) (map place children)
  choose_to t (c ∷ a ∷ b ∷ []) row = (condition_to c row.0, value_to a t row.1, value_to b t row.2)
  choose_to t children row = absurd row

  sequence_to : (t : Ctype) (children : List ℕ) → SequenceRow (trees_of of) t children → SequenceRow (trees_in p) (here t) (map place children)
  sequence_to t (a ∷ b ∷ []) row = (value_sort a row.0, value_to b t row.1)
  sequence_to t children row = absurd row

  all_further : (args : List ℕ) → All (λ a. IsFurther (trees_of of) a) args → All (λ a. IsFurther (trees_in p) a) (map place args)
  all_further args all = all_mapped (λ a. IsFurther (trees_of of) a) (λ a. IsFurther (trees_in p) a) place args (λ a has own. further_to a own) all

  arguments_to : (ps : Ctypes) (form : Form) (args : List ℕ) → Arguments (trees_of of) ps form args → Arguments (trees_in p) (all_renamed (h.numbers.tag u) ps) form (map place args)
  arguments_to NoTypes Fixed [] row = tt
  arguments_to NoTypes Fixed (a ∷ args) row = absurd row
  arguments_to NoTypes Variadic args row = all_further args row
  arguments_to NoTypes Unspecified args row = all_further args row
  arguments_to (MoreTypes t rest) Unspecified args row = absurd row
  arguments_to (MoreTypes t rest) Fixed [] row = absurd row
  arguments_to (MoreTypes t rest) Variadic [] row = absurd row
  arguments_to (MoreTypes t rest) Fixed (a ∷ args) row = (value_to a t row.0, arguments_to rest Fixed args row.1)
  arguments_to (MoreTypes t rest) Variadic (a ∷ args) row = (value_to a t row.0, arguments_to rest Variadic args row.1)

  calls_to : (callee t : Ctype) (args : List ℕ) → Calls (trees_of of) callee t args → Calls (trees_in p) (here callee) (here t) (map place args)
  calls_to (PointerTo (FunctionFrom r ps form)) t args row = (ap here row.0, arguments_to ps form args row.1)
  calls_to callee t args row = absurd row

  call_to : (t : Ctype) (children : List ℕ) → CallRow (trees_of of) t children → CallRow (trees_in p) (here t) (map place children)
  call_to t (c ∷ args) row = (
    value_sort c row.0,
    subst (λ (callee : Ctype). Calls (trees_in p) callee (here t) (map place args)) (sym (value_type c row.0)) (calls_to (type_at (trees_of of) c) t args row.1),
  )
  call_to t [] row = absurd row

  member_of_to : (k : ℕ) (t : Ctype) (children : List ℕ) → MemberOfValueRow (trees_of of) k t children → MemberOfValueRow (trees_in p) k (here t) (map place children)
  member_of_to k t (c ∷ []) row = (value_sort c row.0, member_place c k t row.1 (value_type c row.0), λ a. row.2 (array_back (h.numbers.tag u) t a))
  member_of_to k t children row = absurd row

  arith_to : (op : Op) (t : Ctype) (children : List ℕ) → ArithRow (trees_of of) op t children → ArithRow (trees_in p) op (here t) (map place children)
  arith_to op t (a ∷ []) row = (value_sort a row.0, subst (λ (s : Ctype). Unary op s (here t)) (sym (value_type a row.0)) (unary_to (h.numbers.tag u) op (type_at (trees_of of) a) t row.1))
  arith_to op t (a ∷ b ∷ []) row = (
    value_sort a row.0,
    value_sort b row.1,
    subst (λ (s : Ctype). Binary op s (type_at (trees_in p) (place b)) (here t)) (sym (value_type a row.0))
        (subst (λ (s : Ctype). Binary op (here (type_at (trees_of of) a)) s (here t)) (sym (value_type b row.1)) (binary_to (h.numbers.tag u) op (type_at (trees_of of) a) (type_at (trees_of of) b) t row.2)),
  )
  arith_to op t children row = absurd row

  var_args_to : (e : ℕ) (t : Ctype) (children : List ℕ) → (IsVariadicIn (trees_of of) (slice_get of.entities.items e) → IsVariadicIn (trees_in p) (slice_get p.entities.items (number e))) → VarArgsRow (trees_of of) e t children
      → VarArgsRow (trees_in p) (number e) (here t) (map place children)
  var_args_to e t [] made row = (list_to (h.numbers.tag u) t row.0, made row.1)
  var_args_to e t (c ∷ rest) made row = absurd row

  next_arg_to : (t : Ctype) (children : List ℕ) → NextArgRow (trees_of of) t children → NextArgRow (trees_in p) (here t) (map place children)
  next_arg_to t (a ∷ []) row = (
    (place_sort a row.0.0, subst IsList (sym (place_type a row.0.0)) (list_to (h.numbers.tag u) (type_at (trees_of of) a) row.0.1)),
    scalar_to (h.numbers.tag u) t row.1,
  )
  next_arg_to t children row = absurd row

  -- ---- statements
  expression_to : (children : List ℕ) → ExpressionRow (trees_of of) children → ExpressionRow (trees_in p) (map place children)
  expression_to (v ∷ []) row = value_sort v row
  expression_to children row = absurd row

  block_to : (children : List ℕ) → BlockRow (trees_of of) children → BlockRow (trees_in p) (map place children)
  block_to children row = all_mapped (λ s. IsStatement (trees_of of) s) (λ s. IsStatement (trees_in p) s) place children (λ s has own. statement_to s own) row

  if_to : (children : List ℕ) → IfRow (trees_of of) children → IfRow (trees_in p) (map place children)
  if_to (c ∷ s ∷ []) row = (condition_to c row.0, statement_to s row.1)
  if_to (c ∷ s ∷ o ∷ []) row = (condition_to c row.0, statement_to s row.1, statement_to o row.2)
  if_to children row = absurd row

  while_to : (children : List ℕ) → WhileRow (trees_of of) children → WhileRow (trees_in p) (map place children)
  while_to (c ∷ s ∷ []) row = (condition_to c row.0, statement_to s row.1)
  while_to children row = absurd row

  do_while_to : (children : List ℕ) → DoWhileRow (trees_of of) children → DoWhileRow (trees_in p) (map place children)
  do_while_to (s ∷ c ∷ []) row = (condition_to c row.0, statement_to s row.1)
  do_while_to children row = absurd row

  first_statement_to : (es : List ℕ) (s : ℕ) → IsFirstStatement es (slice_get of.nodes.items s) → IsFirstStatement (map number es) (slice_get p.nodes.items (place s))
  first_statement_to es s own = by (slice_get of.nodes.items s) refl own
    where
      by : (o : Option Node) → slice_get of.nodes.items s ≡ o → IsFirstStatement es o → IsFirstStatement (map number es) (slice_get p.nodes.items (place s))
      by None at its = absurd its
      by (Some z) at its =
          let n = h.nodes.each u s of z is at in
          subst (λ (o : Option Node). IsFirstStatement (map number es) o) (sym n.node_is) (subst (InitialisesOneOf (map number es)) (sym n.moved.kind) (oneof_to (h.entity_numbers u) es z.kind its))

  expression_node_to : (s : ℕ) → IsExpressionNode (slice_get of.nodes.items s) → IsExpressionNode (slice_get p.nodes.items (place s))
  expression_node_to s own = by (slice_get of.nodes.items s) refl own
    where
      by : (o : Option Node) → slice_get of.nodes.items s ≡ o → IsExpressionNode o → IsExpressionNode (slice_get p.nodes.items (place s))
      by None at its = absurd its
      by (Some z) at its =
          let n = h.nodes.each u s of z is at in
          subst (λ (o : Option Node). IsExpressionNode o) (sym n.node_is) (n.moved.kind ∙ ap (kind_renamed (h.entity_numbers u)) its)

  one_expression_to : (first : List ℕ) → IsOneExpression (trees_of of) first → IsOneExpression (trees_in p) (map place first)
  one_expression_to (s ∷ []) own = expression_node_to s own
  one_expression_to first own = absurd own

  for_first_to : (es first : List ℕ) → ForFirst (trees_of of) es first → ForFirst (trees_in p) (map number es) (map place first)
  for_first_to es first (inl all) = inl (all_mapped (λ s. IsFirstStatement es (slice_get of.nodes.items s)) (λ s. IsFirstStatement (map number es) (slice_get p.nodes.items s)) place first (λ s has own. first_statement_to es s own) all)
  for_first_to es first (inr one) = inr (one_expression_to first one)

  for_first_back : (es first : List ℕ) → ForFirst (trees_of of) es (reverse first) → ForFirst (trees_in p) (map number es) (reverse (map place first))
  for_first_back es first own = subst (ForFirst (trees_in p) (map number es)) (map_reverse place first) (for_first_to es (reverse first) own)

  for_condition_to : (es : List ℕ) (condition : Bool) (rest : List ℕ) → ForCondition (trees_of of) es condition rest → ForCondition (trees_in p) (map number es) condition (map place rest)
  for_condition_to es true [] row = absurd row
  for_condition_to es true (c ∷ first) row = (condition_to c row.0, for_first_back es first row.1)
  for_condition_to es false first row = for_first_back es first row

  for_after_to : (es : List ℕ) (condition after : Bool) (rest : List ℕ) → ForAfter (trees_of of) es condition after rest → ForAfter (trees_in p) (map number es) condition after (map place rest)
  for_after_to es condition true [] row = absurd row
  for_after_to es condition true (v ∷ rest) row = (value_sort v row.0, for_condition_to es condition rest row.1)
  for_after_to es condition false rest row = for_condition_to es condition rest row

  for_parts_to : (es : List ℕ) (condition after : Bool) (parts : List ℕ) → ForParts (trees_of of) es condition after parts → ForParts (trees_in p) (map number es) condition after (map place parts)
  for_parts_to es condition after [] row = absurd row
  for_parts_to es condition after (body ∷ rest) row = (statement_to body row.0, for_after_to es condition after rest row.1)

  for_to : (es : List ℕ) (condition after : Bool) (children : List ℕ) → ForRow (trees_of of) es condition after children → ForRow (trees_in p) (map number es) condition after (map place children)
  for_to es condition after children row = subst (ForParts (trees_in p) (map number es) condition after) (map_reverse place children) (for_parts_to es condition after (reverse children) row)

  switch_to : (children : List ℕ) → SwitchRow (trees_of of) children → SwitchRow (trees_in p) (map place children)
  switch_to (c ∷ s ∷ []) row = (numeral_to c row.0, statement_to s row.1)
  switch_to children row = absurd row

  labelled_to : (children : List ℕ) → LabelledRow (trees_of of) children → LabelledRow (trees_in p) (map place children)
  labelled_to (s ∷ []) row = statement_to s row
  labelled_to children row = absurd row

  lone_to : (children : List ℕ) → LoneRow children → LoneRow (map place children)
  lone_to [] row = tt
  lone_to (c ∷ rest) row = absurd row

  return_to : (children : List ℕ) → ReturnRow (trees_of of) children → ReturnRow (trees_in p) (map place children)
  return_to [] row = tt
  return_to (v ∷ []) row = value_sort v row
  return_to (v ∷ w ∷ rest) row = absurd row

  -- ---- what a row needs beside itself
  abbrev pub HasInitial : NodeKind → List ℕ → Type 0
  HasInitial (Initialise e paths) children =
      InitialValues (trees_of of) (entity_type (trees_of of) (slice_get of.entities.items e)) paths children
      → InitialValues (trees_in p) (entity_type (trees_in p) (slice_get p.entities.items (number e))) paths (map place children)
  HasInitial (VarArgs e) children = IsVariadicIn (trees_of of) (slice_get of.entities.items e) → IsVariadicIn (trees_in p) (slice_get p.entities.items (number e))
  HasInitial kind children = ⊤

  pub row_to : (kind : NodeKind) (t : Ctype) (children : List ℕ) → UsesDeclared (trees_of of) t kind → MakesUnlinked (trees_of of) kind → ((c : ℕ) → here (type_at (trees_of of) c) ≡ here t → type_at (trees_of of) c ≡ t) → HasInitial kind children
      → RowOf (trees_of of) kind t children → RowOf (trees_in p) (kind_renamed (h.entity_numbers u) kind) (here t) (map place children)
  row_to (Named e) t children declared unlinked once initial row = named_to e t children declared row
  row_to (Text bytes) t children declared unlinked once initial row = text_to bytes t children row
  row_to (Literal e) t children declared unlinked once initial row = literal_to e t children unlinked row
  row_to (FunctionName e) t children declared unlinked once initial row = function_name_to e t children declared row
  row_to Deref t children declared unlinked once initial row = deref_to t children row
  row_to (Member k) t children declared unlinked once initial row = member_to k t children row
  row_to (Number n) t children declared unlinked once initial row = number_to n t children row
  row_to NullValue t children declared unlinked once initial row = null_to t children row
  row_to Fetch t children declared unlinked once initial row = fetch_to t children row
  row_to AddressOf t children declared unlinked once initial row = address_to t children row
  row_to Decay t children declared unlinked once initial row = decay_to t children row
  row_to (PointerAdd minus) t children declared unlinked once initial row = pointer_add_to t children row
  row_to Convert t children declared unlinked once initial row = convert_to t children once row
  row_to Upcast t children declared unlinked once initial row = upcast_to t children row
  row_to Assign t children declared unlinked once initial row = assign_to t children row
  row_to (Update op post) t children declared unlinked once initial row = update_to op t children row
  row_to Choose t children declared unlinked once initial row = choose_to t children row
  row_to Sequence t children declared unlinked once initial row = sequence_to t children row
  row_to CallNode t children declared unlinked once initial row = call_to t children row
  row_to (MemberOfValue k) t children declared unlinked once initial row = member_of_to k t children row
  row_to (Arith op) t children declared unlinked once initial row = arith_to op t children row
  row_to (VarArgs e) t children declared unlinked once initial row = var_args_to e t children initial row
  row_to NextArg t children declared unlinked once initial row = next_arg_to t children row
  row_to Expression t children declared unlinked once initial row = expression_to children row
  row_to (Block es) t children declared unlinked once initial row = block_to children row
  row_to If t children declared unlinked once initial row = if_to children row
  row_to While t children declared unlinked once initial row = while_to children row
  row_to DoWhile t children declared unlinked once initial row = do_while_to children row
  row_to (For es condition after) t children declared unlinked once initial row = for_to es condition after children row
  row_to Switch t children declared unlinked once initial row = switch_to children row
  row_to (Case n) t children declared unlinked once initial row = labelled_to children row
  row_to Default t children declared unlinked once initial row = labelled_to children row
  row_to (Label name) t children declared unlinked once initial row = labelled_to children row
  row_to (Goto name) t children declared unlinked once initial row = lone_to children row
  row_to Break t children declared unlinked once initial row = lone_to children row
  row_to Continue t children declared unlinked once initial row = lone_to children row
  row_to Return t children declared unlinked once initial row = return_to children row
  row_to (Initialise e paths) t children declared unlinked once initial row = initial row
  row_to Skip t children declared unlinked once initial row = lone_to children row
