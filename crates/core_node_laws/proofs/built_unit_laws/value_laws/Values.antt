-- Values of structures and unions have sizes.
use Rattle.std.proofs.Common.{arith, ◌≡◌, ℕ, ℤ, zero, suc, ◌<◌, Bool, true, false, ◌||◌, List, [], ◌∷◌, length, Option, Some, None, slice_get, get_or, refl, sym, ap, ◌∙◌, subst, inl, inr}
use Rattle.std.specs.Prelude.{is_some, option_map}
use Rattle.std.proofs.lemmas.Option.{slice_get_within, get_or_from_slice_get}
use Rattle.std.proofs.lemmas.List.Elements.{All-get_or}
use Rattle.pta_base.specs.declared.place.Place.{Place}
use Rattle.c_types.specs.declared.term.MemberTerm.{MemberTerm}
use Rattle.c_types.specs.Trees.{Ctype, StructureOf, UnionOf}
use Rattle.c_types.specs.Table.{type_of, members_in}
use Rattle.type_rules.specs.Kinds.{IsAggregate, IsList}
use Rattle.type_rules.specs.Members.{IsMemberOf, tag_of, member_at}
use Rattle.type_rules.specs.Sizes.{IsObject}
use Rattle.core_tree.specs.declared.node.Unit.{Unit}
use Rattle.core_tree.specs.declared.node.Node.{Node}
use Rattle.core_tree.specs.declared.node.Op.{Op}
use Rattle.core_tree.specs.declared.node.NodeKind.{NodeKind}
use Rattle.core_tree.specs.declared.node.NodeKind.TheVariants.{Number, NullValue, Fetch, AddressOf, Decay, PointerAdd, Convert, Upcast, Assign, Update, Choose, Sequence, CallNode, Arith, MemberOfValue, VarArgs, NextArg}
use Rattle.core_tree.specs.Typed.{trees_of, ValueNode, sort_of, sort_in, type_in, type_at, IsValue}
use Rattle.core_tree.specs.Range.{Has}
use Rattle.core_tree.specs.Rows.{RowOf, NumberRow, NullRow, AddressRow, DecayRow, PointerAddRow, ConvertRow, UpcastRow, AssignRow, UpdateRow, ChooseRow, SequenceRow, MemberOfValueRow, ArithRow, VarArgsRow, NextArgRow}
use Rattle.core_tree.specs.Valid.{InRows}
use Rattle.c_consts.specs.Core.{Core, Cores, Of}
use Rattle.c_senses.specs.Tree.{Source}
use Rattle.c_senses.specs.World.{World, extent}
use Rattle.c_senses.specs.Conversions.{operand_of, is_fetched, is_list}
use Rattle.c_senses.specs.Objects.{is_returned}
use Rattle.c_senses.specs.Rows.{world_at}
use Rattle.c_senses.specs.Sense.{sense_in}
use Rattle.c_senses.specs.Right.{SameKind, StandsBy}
use Rattle.c_initialise.specs.passed.sense_laws.Senses.{ChildrenFirst}
use Rattle.core_node_laws.specs.fetched_nodes.Holding.{Holds, OfSense}
use Rattle.core_node_laws.specs.fetched_nodes.Tested.{IsTestedKind, IsTested}
use Rattle.core_node_laws.proofs.fetched_nodes.Tested.{values_tested}
use Rattle.core_node_laws.specs.built_unit_laws.built_units.Built.{IsBuilt}
use Rattle.core_node_laws.specs.built_unit_laws.built_laws.Placed.{Stands}
use Rattle.core_node_laws.proofs.built_unit_laws.built_laws.Placed.{nodes_stand}
use Rattle.core_node_laws.specs.built_unit_laws.value_laws.Values.{MembersComplete, ValuesSized}
use Rattle.core_node_laws.proofs.built_unit_laws.value_laws.Inside.{in_body_holds}
use Rattle.core_node_laws.proofs.built_unit_laws.value_laws.Shapes.{no_number, no_integer, no_pointer, not_to_object, not_decayed, not_first, not_converted, unary_plain, binary_plain, structure_complete, union_complete, size_some}

some_one : {X : Type 0} → {x y : X} → ◌≡◌ {A = Option X} (Some x) (Some y) → x ≡ y
some_one h = cc

map_some : {A B : Type 0} (f : A → B) (o : Option A) → is_some (option_map f o) ≡ true → is_some o ≡ true
map_some f None h = h
map_some f (Some x) h = refl

module _ (s : Source) (name : List ℕ) (u : Unit) (b : IsBuilt s name u) (first : ChildrenFirst s) (rows : InRows (trees_of u)) (members : MembersComplete u.types) where
  abbrev w : World
  w = world_at s b.senses (length b.senses)

  all : (i : ℕ) → OfSense (IsTested w) (sense_in b.senses i)
  all i = values_tested s b.senses b.are_senses first i

  -- ---- what was tested at a node

  kept : (kind : NodeKind) (place : Place) (type : Ctype) (under : Cores) (other : NodeKind) → SameKind b.numbering kind other → Holds (IsTested w) (Of kind place type under) → IsTestedKind w other type
  kept Fetch place type under other same h = subst (λ (k : NodeKind). IsTestedKind w k type) same h.0
  kept CallNode place type under other same h = subst (λ (k : NodeKind). IsTestedKind w k type) same h.0
  kept kind place type under Fetch same h = cc
  kept kind place type under CallNode same h = cc
  kept kind place type under other same h = tt

  tested_at : (i : ℕ) (node : Node) → slice_get u.nodes.items i ≡ Some node → IsTestedKind w node.kind (type_of u.types node.ty.0)
  tested_at i node at =
      let h : Stands s b.senses b.numbering u i = nodes_stand s name u b i (slice_get_within u.nodes.items i node at) in
      by h.tree h.by (in_body_holds (IsTested w) s b.senses all h.tree h.in_body)
    where
      by : (c : Core) → StandsBy b.numbering u i c → Holds (IsTested w) c → IsTestedKind w node.kind (type_of u.types node.ty.0)
      by (Of kind place type under) stands holds =
          let same : stands.0 ≡ node = some_one (sym stands.1 ∙ at) in
          let alike : SameKind b.numbering kind node.kind = subst (λ (x : Node). SameKind b.numbering kind x.kind) same stands.2 in
          let typed : type ≡ type_of u.types node.ty.0 = sym stands.4 ∙ ap (λ (x : Node). type_of u.types x.ty.0) same in
          subst (λ (t : Ctype). IsTestedKind w node.kind t) typed (kept kind place type under node.kind alike holds)

  has_members : (tag : ℕ) → is_some (w.members tag) ≡ true → is_some (members_in u.types tag) ≡ true
  has_members tag h = map_some _ (members_in u.types tag) (ap is_some (sym (b.knows.members tag)) ∙ h)

  no_more : (b : Bool) → b || false ≡ true → b ≡ true
  no_more true h = refl
  no_more false h = cc

  fetched : (t : Ctype) → IsAggregate t → is_fetched w (operand_of t) || is_list t ≡ true → IsObject u.types t
  fetched (StructureOf tag) g h = structure_complete u.types tag (has_members tag (no_more (is_some (w.members tag)) h))
  fetched (UnionOf tag) g h = union_complete u.types tag (has_members tag (no_more (is_some (w.members tag)) h))
  fetched t g h = absurd g

  sized : (t : Ctype) → is_some (extent w t) ≡ true → IsObject u.types t
  sized t h = ap is_some (sym (b.knows.extents t)) ∙ h

  returned : (t : Ctype) → IsAggregate t → is_returned w t ≡ true → IsObject u.types t
  returned (StructureOf tag) g h = sized (StructureOf tag) (size_some (extent w (StructureOf tag)) h)
  returned (UnionOf tag) g h = sized (UnionOf tag) (size_some (extent w (UnionOf tag)) h)
  returned t g h = absurd g

  -- ---- by rows

  abbrev Below : Ctype → List ℕ → Type 0
  Below t children = (c : ℕ) → Has children c → IsValue (trees_of u) c t → IsAggregate t → IsObject u.types t

  assigned : (t : Ctype) (children : List ℕ) → AssignRow (trees_of u) t children → Below t children → IsAggregate t → IsObject u.types t
  assigned t (p ∷ v ∷ []) row below g = below v (1, refl) row.1 g
  assigned t children row below g = absurd row

  chosen : (t : Ctype) (children : List ℕ) → ChooseRow (trees_of u) t children → Below t children → IsAggregate t → IsObject u.types t
  chosen t (c ∷ x ∷ y ∷ []) row below g = below x (1, refl) row.1 g
  chosen t children row below g = absurd row

  sequenced : (t : Ctype) (children : List ℕ) → SequenceRow (trees_of u) t children → Below t children → IsAggregate t → IsObject u.types t
  sequenced t (x ∷ y ∷ []) row below g = below y (1, refl) row.1 g
  sequenced t children row below g = absurd row

  member_is : (o : Option ℕ) (k : ℕ) (m : MemberTerm) (t : Ctype) → member_at u.types o k ≡ Some m → type_of u.types m.ty.0 ≡ t → IsAggregate t → IsObject u.types t
  member_is None k m t e is g = cc
  member_is (Some tag) k m t e is g = subst (λ (x : Ctype). IsObject u.types x) is (members tag k m e (subst IsAggregate (sym is) g))

  member : (k : ℕ) (t : Ctype) (children : List ℕ) → MemberOfValueRow (trees_of u) k t children → IsAggregate t → IsObject u.types t
  member k t (v ∷ []) row g = let m : IsMemberOf u.types (type_at (trees_of u) v) k t = row.1 in member_is (tag_of (type_at (trees_of u) v)) k m.member t m.stands m.type g
  member k t children row g = absurd row

  number : (n : ℤ) (t : Ctype) (children : List ℕ) → NumberRow n t children → IsAggregate t → ⊥
  number n t [] row g = no_number t n g row
  number n t children row g = row

  null : (t : Ctype) (children : List ℕ) → NullRow t children → IsAggregate t → ⊥
  null t [] row g = no_pointer t g row
  null t children row g = row

  address : (t : Ctype) (children : List ℕ) → AddressRow (trees_of u) t children → IsAggregate t → ⊥
  address t (p ∷ []) row g = subst IsAggregate row.1 g
  address t children row g = row

  decay : (t : Ctype) (children : List ℕ) → DecayRow (trees_of u) t children → IsAggregate t → ⊥
  decay t (p ∷ []) row g = not_decayed (type_at (trees_of u) p) t row.1 g
  decay t children row g = row

  moved : (t : Ctype) (children : List ℕ) → PointerAddRow (trees_of u) t children → IsAggregate t → ⊥
  moved t (v ∷ i ∷ []) row g = not_to_object u.types t g row.1
  moved t children row g = row

  converted : (t : Ctype) (children : List ℕ) → ConvertRow (trees_of u) t children → IsAggregate t → ⊥
  converted t (v ∷ []) row g = not_converted (type_at (trees_of u) v) t g row.2
  converted t children row g = row

  upcast : (t : Ctype) (children : List ℕ) → UpcastRow (trees_of u) t children → IsAggregate t → ⊥
  upcast t (v ∷ []) row g = not_first u.types (type_at (trees_of u) v) t g row.1
  upcast t children row g = row

  updated : (op : Op) (t : Ctype) (children : List ℕ) → UpdateRow (trees_of u) op t children → IsAggregate t → ⊥
  updated op t (p ∷ v ∷ []) row g = elim row.2 as (λ _. ⊥) [ inl h ↦ no_integer t g h.0 | inr h ↦ no_pointer t g h.0 ]
  updated op t children row g = row

  computed : (op : Op) (t : Ctype) (children : List ℕ) → ArithRow (trees_of u) op t children → IsAggregate t → ⊥
  computed op t (x ∷ []) row g = unary_plain op (type_at (trees_of u) x) t row.1 g
  computed op t (x ∷ y ∷ []) row g = binary_plain op (type_at (trees_of u) x) (type_at (trees_of u) y) t row.2 g
  computed op t children row g = row

  no_list : (t : Ctype) → IsAggregate t → IsList t → ⊥
  no_list (StructureOf tag) g h = h
  no_list (UnionOf tag) g h = h
  no_list t g h = absurd g

  listed : (e : ℕ) (t : Ctype) (children : List ℕ) → VarArgsRow (trees_of u) e t children → IsAggregate t → ⊥
  listed e t [] row g = no_list t g row.0
  listed e t children row g = row

  next_one : (t : Ctype) (children : List ℕ) → NextArgRow (trees_of u) t children → IsAggregate t → ⊥
  next_one t (p ∷ []) row g = elim row.1 as (λ _. ⊥) [ inl h ↦ no_integer t g h | inr h ↦ no_pointer t g h ]
  next_one t children row g = row

  complete_by : (kind : NodeKind) (t : Ctype) (children : List ℕ) → RowOf (trees_of u) kind t children → IsTestedKind w kind t → Below t children → sort_of kind ≡ ValueNode → IsAggregate t → IsObject u.types t
  complete_by Fetch t children row told below v g = fetched t g told
  complete_by CallNode t children row told below v g = returned t g told
  complete_by Assign t children row told below v g = assigned t children row below g
  complete_by Choose t children row told below v g = chosen t children row below g
  complete_by Sequence t children row told below v g = sequenced t children row below g
  complete_by (MemberOfValue k) t children row told below v g = member k t children row g
  complete_by (Number n) t children row told below v g = absurd (number n t children row g)
  complete_by NullValue t children row told below v g = absurd (null t children row g)
  complete_by AddressOf t children row told below v g = absurd (address t children row g)
  complete_by Decay t children row told below v g = absurd (decay t children row g)
  complete_by (PointerAdd minus) t children row told below v g = absurd (moved t children row g)
  complete_by Convert t children row told below v g = absurd (converted t children row g)
  complete_by Upcast t children row told below v g = absurd (upcast t children row g)
  complete_by (Update op post) t children row told below v g = absurd (updated op t children row g)
  complete_by (Arith op) t children row told below v g = absurd (computed op t children row g)
  complete_by (VarArgs e) t children row told below v g = absurd (listed e t children row g)
  complete_by NextArg t children row told below v g = absurd (next_one t children row g)
  complete_by kind t children row told below v g = cc

  -- ---- node after node

  Fine : ℕ → Type 0
  Fine n = (node : Node) → slice_get u.nodes.items n ≡ Some node → sort_of node.kind ≡ ValueNode → IsAggregate (type_of u.types node.ty.0) → IsObject u.types (type_of u.types node.ty.0)

  there : (c : ℕ) (t : Ctype) (o : Option Node) → slice_get u.nodes.items c ≡ o → sort_in o ≡ ValueNode → type_in u.types o ≡ t → Fine c → IsAggregate t → IsObject u.types t
  unfolding Fine
  there c t (Some x) at v is fine g = subst (λ (z : Ctype). IsObject u.types z) is (fine x at v (subst IsAggregate (sym is) g))
  there c t None at v is fine g = cc

  fine_before : (m n : ℕ) → n < m → Fine n
  unfolding Fine
  fine_before zero n lt = absurd (omega (arith, lt))
  fine_before (suc m) n lt = λ node at v g.
      complete_by node.kind (type_of u.types node.ty.0) node.children (rows n node at) (tested_at n node at)
      (λ c has is agg.
      let less = All-get_or (λ (d : ℕ). d < n) node.children has.0 c (slice_get_within node.children has.0 c has.1) (b.ready.children n node at) in
      let same : get_or node.children has.0 c ≡ c = get_or_from_slice_get node.children has.0 c c has.1 in
      there c (type_of u.types node.ty.0) (slice_get u.nodes.items c) refl is.0 is.1 (fine_before m c (omega (arith, less, same, lt))) agg) v g

  complete : (n : ℕ) (node : Node) → slice_get u.nodes.items n ≡ Some node → sort_of node.kind ≡ ValueNode → IsAggregate (type_of u.types node.ty.0) → IsObject u.types (type_of u.types node.ty.0)
  unfolding Fine
  complete n node at v g = fine_before (suc n) n (let lt : n < suc n = omega arith in lt) node at v g

pub values_sized : ValuesSized
values_sized s name u b first rows tags members n node at v g = tags node.ty.0 (b.ready.types n node at) g (complete s name u b first rows members n node at v g)
