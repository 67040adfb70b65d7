-- What nodes take in a unit they take in the program.
use Rattle.std.proofs.Common.{arith, ◌≡◌, ◌∙◌, ℕ, ◌<◌, List, [], ◌∷◌, length, map, Option, Some, slice_get, refl, sym, ap, subst}
use Rattle.std.specs.List.{slice_index_or, All}
use Rattle.std.proofs.lemmas.Option.{slice_get_within, slice_get-get_or}
use Rattle.c_types.specs.Trees.{Ctype, PointerTo, StructureOf, ArrayOf}
use Rattle.c_types.specs.Table.{type_of}
use Rattle.core_tree.specs.declared.node.Unit.{Unit}
use Rattle.core_tree.specs.declared.node.Program.{Program}
use Rattle.core_tree.specs.declared.node.NodeKind.{NodeKind}
use Rattle.core_tree.specs.declared.node.NodeKind.TheVariants.{Named, FunctionName, Literal, Block, For, Initialise, Member, Upcast, Assign, Choose, Sequence, MemberOfValue, VarArgs, NextArg}
use Rattle.core_tree.specs.Typed.{type_at, IsValue, trees_in, trees_of}
use Rattle.core_tree.specs.Rows.{IsMember, IsFirst, IsArray, IsListPlace, RowOf}
use Rattle.type_rules.specs.Kinds.{IsList}
use Rattle.linked_laws.proofs.row_laws.Types.{list_to}
use Rattle.type_rules.specs.Conversions.{IsFirstOf}
use Rattle.link_model.specs.Units.{types_if}
use Rattle.link_model.specs.Renamed.{renamed}
use Rattle.link_model.specs.Merged.{moved}
use Rattle.unit_link.specs.Linked.{LinkedAt}
use Rattle.unit_link.specs.Needs.{AreLinkable}
use Rattle.unit_link.specs.Places.{node_place, kind_renamed}
use Rattle.linked_laws.proofs.Origins.{node_from}
use Rattle.linked_laws.specs.merged_laws.Merged.{AreTables}
use Rattle.linked_laws.proofs.merged_laws.Members.{member_moved}
use Rattle.linked_laws.specs.node_laws.Rows.{Takes, HasRows}
use Rattle.linked_laws.proofs.node_laws.Children.{child_sort, child_type}

some_one : {X : Type 0} → {x y : X} → ◌≡◌ {A = Option X} (Some x) (Some y) → x ≡ y
some_one h = cc

-- no array, with other tags
array_back : (f : ℕ → ℕ) (t : Ctype) → IsArray (renamed f t) → IsArray t
array_back f (ArrayOf of n) h = tt
array_back f t h = absurd h

-- each kind but those that name entities keeps its own name
takes_renamed : (p : Program) (f : ℕ → ℕ) (kind : NodeKind) (t : Ctype) (children : List ℕ) → Takes (trees_in p) kind t children → Takes (trees_in p) (kind_renamed f kind) t children
takes_renamed p f (Named e) t children h = tt
takes_renamed p f (FunctionName e) t children h = tt
takes_renamed p f (Literal e) t children h = tt
takes_renamed p f (Block es) t children h = tt
takes_renamed p f (For es c a) t children h = tt
takes_renamed p f (VarArgs e) t children h = tt
takes_renamed p f (Initialise e paths) t children h = tt
takes_renamed p f kind t children h = h

module _ {names : List (List ℕ)} (units : List Unit) (p : Program) (linkable : AreLinkable units) (tables : AreTables units) (h : LinkedAt names units p) (u : ℕ) (of : Unit) (is : slice_get units u ≡ Some of) where
  -- a type of the unit, with the table's tags
  abbrev here : Ctype → Ctype
  here t = moved h.numbers u t

  abbrev at_place : ℕ → ℕ
  at_place c = node_place units u c

  member_there : (c k : ℕ) (t : Ctype) → c < length of.nodes.items → IsMember (trees_of of) (type_at (trees_of of) c) k t → IsMember (trees_in p) (type_at (trees_in p) (at_place c)) k (here t)
  member_there c k t lt m =
      subst (λ (whole : Ctype). IsMember (trees_in p) whole k (here t)) (sym (child_type units p h u of is c lt))
      (member_moved units h.numbers p.types tables h.types u of is (type_at (trees_of of) c) k t m)

  value_there : (c : ℕ) (t : Ctype) → c < length of.nodes.items → IsValue (trees_of of) c t → IsValue (trees_in p) (at_place c) (here t)
  value_there c t lt v = (child_sort units p h u of is c lt ∙ v.0, child_type units p h u of is c lt ∙ ap here v.1)

  first_moved : (a t : Ctype) → IsFirstOf of.types a t → IsFirstOf p.types (here a) (here t)
  first_moved (PointerTo (StructureOf tag)) (PointerTo first) m = member_moved units h.numbers p.types tables h.types u of is (StructureOf tag) 0 first m
  first_moved a t m = absurd m

  first_there : (c : ℕ) (t : Ctype) → c < length of.nodes.items → IsFirst (trees_of of) (type_at (trees_of of) c) t → IsFirst (trees_in p) (type_at (trees_in p) (at_place c)) (here t)
  first_there c t lt m =
      subst (λ (a : Ctype). IsFirstOf p.types a (here t)) (sym (child_type units p h u of is c lt)) (first_moved (type_at (trees_of of) c) t m)

  list_there : (c : ℕ) → c < length of.nodes.items → IsListPlace (trees_of of) c → IsListPlace (trees_in p) (at_place c)
  list_there c lt v = (child_sort units p h u of is c lt ∙ v.0, subst IsList (sym (child_type units p h u of is c lt)) (list_to (h.numbers.tag u) (type_at (trees_of of) c) v.1))

  takes_there : (kind : NodeKind) (t : Ctype) (children : List ℕ) → ((k c : ℕ) → slice_get children k ≡ Some c → c < length of.nodes.items) → RowOf (trees_of of) kind t children
      → Takes (trees_in p) kind (here t) (map at_place children)
  takes_there (Member k) t (c ∷ []) lt row = member_there c k t (lt 0 c refl) row.1
  takes_there Upcast t (c ∷ []) lt row = first_there c t (lt 0 c refl) row.1
  takes_there Assign t (a ∷ c ∷ []) lt row = value_there c t (lt 1 c refl) row.1
  takes_there Choose t (a ∷ b ∷ c ∷ []) lt row = (value_there b t (lt 1 b refl) row.1, value_there c t (lt 2 c refl) row.2)
  takes_there Sequence t (a ∷ c ∷ []) lt row = value_there c t (lt 1 c refl) row.1
  takes_there (MemberOfValue k) t (c ∷ []) lt row =
      (child_sort units p h u of is c (lt 0 c refl) ∙ row.0, member_there c k t (lt 0 c refl) row.1, λ a. row.2 (array_back (h.numbers.tag u) t a))
  takes_there NextArg t (c ∷ []) lt row = list_there c (lt 0 c refl) row.0
  takes_there kind t children lt row = tt

all_at : (P : ℕ → Type 0) (xs : List ℕ) (k c : ℕ) → All P xs → slice_get xs k ≡ Some c → P c
all_at P xs k c h at =
    let lt = slice_get_within xs k c at in
    let same : slice_index_or xs k c ≡ c = some_one (sym (slice_get-get_or xs k c lt) ∙ at) in
    subst P same (h k c lt)

pub linked_rows : {names : List (List ℕ)} (units : List Unit) (p : Program) → AreLinkable units → AreTables units → LinkedAt names units p → HasRows p
linked_rows units p linkable tables h = record {
  each = λ n node at.
      let f = node_from units p h n node at in
      let valid = linkable.valid f.unit f.of f.of_is in
      let within = slice_get_within f.of.nodes.items f.number f.own f.own_is in
      let row = takes_there units p linkable tables h f.unit f.of f.of_is f.own.kind (type_of f.of.types f.own.ty.0) f.own.children
      (λ k c there. let less = all_at (λ b. b < f.number) f.own.children k c (valid.trees.in_range.children f.number f.own f.own_is) there in omega arith) (valid.trees.rows f.number f.own f.own_is) in
      let type : type_of p.types node.ty.0 ≡ moved h.numbers f.unit (type_of f.of.types f.own.ty.0) =
      f.moved.type ∙ ap (λ (o : Option Unit). moved h.numbers f.unit (type_of (types_if o) f.own.ty.0)) f.of_is in
      subst (λ (kind : NodeKind). Takes (trees_in p) kind (type_of p.types node.ty.0) node.children) (sym f.moved.kind)
      (subst (λ (t : Ctype). Takes (trees_in p) (kind_renamed (h.entity_numbers f.unit) f.own.kind) t node.children) (sym type)
      (subst (λ (l : List ℕ). Takes (trees_in p) (kind_renamed (h.entity_numbers f.unit) f.own.kind) (moved h.numbers f.unit (type_of f.of.types f.own.ty.0)) l) (sym f.moved.children)
      (takes_renamed p (h.entity_numbers f.unit) f.own.kind (moved h.numbers f.unit (type_of f.of.types f.own.ty.0)) (map (node_place units f.unit) f.own.children) row)));
}
