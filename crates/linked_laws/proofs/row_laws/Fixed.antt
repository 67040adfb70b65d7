-- What is fixed in a unit is fixed in the program.
use Rattle.std.proofs.Common.{◌≡◌, ◌∙◌, ℕ, ℤ, List, [], ◌∷◌, map, Option, Some, None, is_some, refl, sym, ap, subst, inl, inr}
use Rattle.std.specs.List.{slice_get}
use Rattle.std.proofs.lemmas.Option.{slice_get_within}
use Rattle.c_types.specs.Trees.{Ctype, PointerTo, StructureOf, ArrayOf, FunctionFrom, BoolType, IntegerType}
use Rattle.c_types.specs.Table.{type_of}
use Rattle.type_rules.specs.Conversions.{decayed}
use Rattle.core_tree.specs.declared.node.Unit.{Unit}
use Rattle.core_tree.specs.declared.node.Program.{Program}
use Rattle.core_tree.specs.declared.node.Node.{Node}
use Rattle.core_tree.specs.declared.node.Entity.{Entity}
use Rattle.core_tree.specs.declared.node.NodeKind.{NodeKind}
use Rattle.core_tree.specs.declared.node.NodeKind.TheVariants.{Named, Text, Literal, FunctionName, Deref, Member, Number, NullValue, AddressOf, Decay, PointerAdd, Convert, Upcast, Choose, Arith, Block, For, Initialise}
use Rattle.core_tree.specs.Typed.{CoreTrees, type_in, type_at, IsInteger, IsPointer, Holds, trees_in, trees_of}
use Rattle.core_tree.specs.Rows.{IsFirst, PointsToComplete, InitialisesEntity, InitialisesIn, Initialises, RowOf}
use Rattle.core_tree.specs.Valid.{Valid, IsLocal, KindIs, IsStaticIn, IsStaticEntity, IsNumber, MakesNumber, FixedNumber, plain, made, FixedPlace, text, function, object, literal, member, target, FixedPointer, null, address, decay, upcast, converted, moved as moved_by, IsFixed, LivesForTheRun, HoldsFixed, FixedStatics}
use Rattle.link_model.specs.Units.{types_if}
use Rattle.link_model.specs.Merged.{moved}
use Rattle.unit_link.specs.Linked.{LinkedAt}
use Rattle.unit_link.specs.Needs.{AreLinkable}
use Rattle.unit_link.specs.Places.{node_place, kind_renamed}
use Rattle.linked_laws.proofs.node_laws.Children.{child_type}
use Rattle.linked_laws.specs.alike_laws.Alike.{IsClosed}
use Rattle.link_model.specs.filled_units.Filled.{AreFilled}
use Rattle.linked_laws.proofs.embedded_laws.Lists.{mapped_at, all_mapped}
use Rattle.linked_laws.proofs.embedded_laws.Nodes.{each_node}
use Rattle.linked_laws.proofs.embedded_laws.Entities.{stands_at, bodied_moves}
use Rattle.linked_laws.proofs.row_laws.Types.{integer_to, pointer_to}

number_to : (f : ℕ → ℕ) (kind : NodeKind) → IsNumber kind → IsNumber (kind_renamed f kind)
number_to f (Number n) h = tt
number_to f kind h = absurd h

makes_to : (f : ℕ → ℕ) (kind : NodeKind) → MakesNumber kind → MakesNumber (kind_renamed f kind)
makes_to f (Arith op) h = tt
makes_to f Choose h = tt
makes_to f Convert h = tt
makes_to f kind h = absurd h

-- types of fixed values are closed
integer_closed : (t : Ctype) → IsInteger t → IsClosed t
integer_closed BoolType h = tt
integer_closed (IntegerType size rank signed) h = tt
integer_closed t h = absurd h

pointer_closed : (t : Ctype) → IsPointer t → IsClosed t
pointer_closed (PointerTo to) h = tt
pointer_closed t h = absurd h

holds_integer : (t : Ctype) (n : ℤ) → Holds t n → IsInteger t
holds_integer BoolType n h = tt
holds_integer (IntegerType size rank signed) n h = tt
holds_integer t n h = absurd h

decayed_closed : (s t : Ctype) → decayed s ≡ Some t → IsClosed t
decayed_closed (ArrayOf of n) t e = subst IsClosed (let q : PointerTo of ≡ t = cc in q) tt
decayed_closed (FunctionFrom r ps f) t e = subst IsClosed (let q : PointerTo (FunctionFrom r ps f) ≡ t = cc in q) tt
decayed_closed s t e = absurd (let bad : ⊥ = cc in bad)

first_closed : (u : CoreTrees) (a t : Ctype) → IsFirst u a t → IsClosed t
first_closed u (PointerTo (StructureOf tag)) (PointerTo first) h = tt
first_closed u a t h = absurd h

points_closed : (u : CoreTrees) (t : Ctype) → PointsToComplete u t → IsClosed t
points_closed u (PointerTo to) h = tt
points_closed u t h = absurd h

number_closed : (u : CoreTrees) (kind : NodeKind) (t : Ctype) (children : List ℕ) → IsNumber kind → RowOf u kind t children → IsClosed t
number_closed u (Number n) t [] its row = integer_closed t (holds_integer t n row)
number_closed u (Number n) t (c ∷ rest) its row = absurd row
number_closed u kind t children its row = absurd its

module _ (of : Unit) (valid : Valid (trees_of of)) where
  row_at : (n : ℕ) (kind : NodeKind) (children : List ℕ) → KindIs (trees_of of) n kind children → RowOf (trees_of of) kind (type_at (trees_of of) n) children
  row_at n kind children (node, at, kind_is, children_are) =
      subst (λ (o : Option Node). RowOf (trees_of of) kind (type_in of.types o) children) (sym at)
      (subst (λ (k : NodeKind). RowOf (trees_of of) k (type_of of.types node.ty.0) children) kind_is
      (subst (λ (l : List ℕ). RowOf (trees_of of) node.kind (type_of of.types node.ty.0) l) children_are (valid.rows n node at)))

  number_type : (c : ℕ) → FixedNumber (trees_of of) c → IsClosed (type_at (trees_of of) c)
  number_type c (plain {node = node} at its) =
      subst (λ (o : Option Node). IsClosed (type_in of.types o)) (sym at) (number_closed (trees_of of) node.kind (type_of of.types node.ty.0) node.children its (valid.rows c node at))
  number_type c (made {node = node} at makes integer each) = subst (λ (o : Option Node). IsClosed (type_in of.types o)) (sym at) (integer_closed (type_of of.types node.ty.0) integer)

  pointer_type : (c : ℕ) → FixedPointer (trees_of of) c → IsClosed (type_at (trees_of of) c)
  pointer_type c (null k) = pointer_closed (type_at (trees_of of) c) (row_at c NullValue [] k)
  pointer_type c (address {p = q} k f) = subst IsClosed (sym (row_at c AddressOf (q ∷ []) k).1) tt
  pointer_type c (decay {p = q} k f) = decayed_closed (type_at (trees_of of) q) (type_at (trees_of of) c) (row_at c Decay (q ∷ []) k).1
  pointer_type c (upcast {v = v} k f) = first_closed (trees_of of) (type_at (trees_of of) v) (type_at (trees_of of) c) (row_at c Upcast (v ∷ []) k).1
  pointer_type c (converted k pointer f) = pointer_closed (type_at (trees_of of) c) pointer
  pointer_type c (moved_by {v = v} {i = i} {minus = minus} k f g) = points_closed (trees_of of) (type_at (trees_of of) c) (row_at c (PointerAdd minus) (v ∷ i ∷ []) k).1

  pub fixed_closed : (c : ℕ) → IsFixed (trees_of of) c → IsClosed (type_at (trees_of of) c)
  fixed_closed c (inl f) = number_type c f
  fixed_closed c (inr f) = pointer_type c f

module _ {names : List (List ℕ)} (units : List Unit) (p : Program) (linkable : AreLinkable units) (h : LinkedAt names units p) where
  module _ (u : ℕ) (of : Unit) (is : slice_get units u ≡ Some of) where
    abbrev place : ℕ → ℕ
    place c = node_place units u c

    number_fixed : {n : ℕ} → FixedNumber (trees_of of) n → FixedNumber (trees_in p) (place n)
    number_fixed {n} (plain {node = node} at its) =
        let m = h.nodes.each u n of node is at in
        plain m.node_is (subst IsNumber (sym m.moved.kind) (number_to (h.entity_numbers u) node.kind its))
    number_fixed {n} (made {node = node} at makes integer each) =
        let m = h.nodes.each u n of node is at in
        let type : type_of p.types m.node.ty.0 ≡ moved h.numbers u (type_of of.types node.ty.0) = m.moved.type ∙ ap (λ (o : Option Unit). moved h.numbers u (type_of (types_if o) node.ty.0)) is in
        made m.node_is (subst MakesNumber (sym m.moved.kind) (makes_to (h.entity_numbers u) node.kind makes)) (subst IsInteger (sym type) (integer_to (h.numbers.tag u) (type_of of.types node.ty.0) integer))
        (λ k c there.
        let (d, own, d_is) = mapped_at place node.children k c (sym (ap (λ (l : List ℕ). slice_get l k) m.moved.children) ∙ there) in
        subst (FixedNumber (trees_in p)) d_is (number_fixed (each k d own)))

    kind_to : (n : ℕ) (kind : NodeKind) (children : List ℕ) → KindIs (trees_of of) n kind children → KindIs (trees_in p) (place n) (kind_renamed (h.entity_numbers u) kind) (map place children)
    kind_to n kind children (node, at, kind_is, children_are) =
        let m = h.nodes.each u n of node is at in
        (m.node, m.node_is, m.moved.kind ∙ ap (kind_renamed (h.entity_numbers u)) kind_is, m.moved.children ∙ ap (map place) children_are)

    static_to : (e : ℕ) → IsStaticEntity (trees_of of) e → IsStaticEntity (trees_in p) (h.entity_numbers u e)
    static_to e static = by (slice_get of.entities.items e) refl static
      where
        by : (o : Option Entity) → slice_get of.entities.items e ≡ o → IsStaticIn o → IsStaticEntity (trees_in p) (h.entity_numbers u e)
        by None at its = absurd its
        by (Some x) at its =
            let s = stands_at units p linkable h u e of x is at in
            subst (λ (o : Option Entity). IsStaticIn o) (sym s.there) (λ local. elim s.which [
              | inl name ↦ (let m = name.1 in m.name.external.lasting (subst IsLocal m.name.moves.storage local))
              | inr other ↦ its (subst IsLocal other.moves.storage local)
            ])

    pointer_there : (n : ℕ) (kind : NodeKind) (children : List ℕ) → KindIs (trees_of of) n kind children → IsPointer (type_at (trees_of of) n) → IsPointer (type_at (trees_in p) (place n))
    pointer_there n kind children (node, at, kind_is, children_are) pointer =
        subst IsPointer (sym (child_type units p h u of is n (slice_get_within of.nodes.items n node at))) (pointer_to (h.numbers.tag u) (type_at (trees_of of) n) pointer)

    mutual
      place_fixed : {n : ℕ} → FixedPlace (trees_of of) n → FixedPlace (trees_in p) (place n)
      place_fixed {n} (text {bytes = bytes} k) = text (kind_to n (Text bytes) [] k)
      place_fixed {n} (function {e = e} k) = function (kind_to n (FunctionName e) [] k)
      place_fixed {n} (object {e = e} k static) = object (kind_to n (Named e) [] k) (static_to e static)
      place_fixed {n} (literal {e = e} {i = i} k static) = literal (kind_to n (Literal e) (i ∷ []) k) (static_to e static)
      place_fixed {n} (member {k = m} {p = q} k f) = member (kind_to n (Member m) (q ∷ []) k) (place_fixed f)
      place_fixed {n} (target {v = v} k f) = target (kind_to n Deref (v ∷ []) k) (pointer_fixed f)

      pointer_fixed : {n : ℕ} → FixedPointer (trees_of of) n → FixedPointer (trees_in p) (place n)
      pointer_fixed {n} (null k) = null (kind_to n NullValue [] k)
      pointer_fixed {n} (address {p = q} k f) = address (kind_to n AddressOf (q ∷ []) k) (place_fixed f)
      pointer_fixed {n} (decay {p = q} k f) = decay (kind_to n Decay (q ∷ []) k) (place_fixed f)
      pointer_fixed {n} (upcast {v = v} k f) = upcast (kind_to n Upcast (v ∷ []) k) (pointer_fixed f)
      pointer_fixed {n} (converted {v = v} k pointer f) = converted (kind_to n Convert (v ∷ []) k) (pointer_there n Convert (v ∷ []) k pointer) (pointer_fixed f)
      pointer_fixed {n} (moved_by {v = v} {i = i} {minus = minus} k f g) = moved_by (kind_to n (PointerAdd minus) (v ∷ i ∷ []) k) (pointer_fixed f) (number_fixed g)

    fixed_to : (n : ℕ) → IsFixed (trees_of of) n → IsFixed (trees_in p) (place n)
    fixed_to n (inl f) = inl (number_fixed f)
    fixed_to n (inr f) = inr (pointer_fixed f)

    module _ (filled : AreFilled units) where
      -- what an initialiser initialises is itself in the program
      lives_back : (i e : ℕ) → Initialises (trees_of of) i e → LivesForTheRun (slice_get p.entities.items (h.entity_numbers u e)) → LivesForTheRun (slice_get of.entities.items e)
      lives_back i e init lives =
          let (x, at, body, no_function, no_declared) = (filled.each u of is).each i e init in
          let s = stands_at units p linkable h u e of x is at in
          let moves = bodied_moves units p linkable h u e of x s.entity is at s.there (ap is_some body) in
          subst (λ (o : Option Entity). LivesForTheRun o) (sym at) (sym moves.storage ∙ subst (λ (o : Option Entity). LivesForTheRun o) s.there lives)

      holds_to : (i : ℕ) (kind : NodeKind) (children : List ℕ) → ((e : ℕ) → InitialisesEntity kind e → Initialises (trees_of of) i e) → HoldsFixed (trees_of of) kind children → HoldsFixed (trees_in p) (kind_renamed (h.entity_numbers u) kind) (map place children)
      holds_to i (Initialise e paths) children init own = λ lives. all_mapped (λ c. IsFixed (trees_of of) c) (λ c. IsFixed (trees_in p) c) place children (λ c has f. fixed_to c f) (own (lives_back i e (init e refl) lives))
      holds_to i (Named e) children init own = tt
      holds_to i (FunctionName e) children init own = tt
      holds_to i (Literal e) children init own = tt
      holds_to i (Block es) children init own = tt
      holds_to i (For es c a) children init own = tt
      holds_to i kind children init own = tt

  pub fixed_statics : AreFilled units → FixedStatics (trees_in p)
  fixed_statics filled = each_node units p linkable h (λ n node. HoldsFixed (trees_in p) node.kind node.children) (λ u i of x m is x_at m_at moves.
      subst (λ (k : NodeKind). HoldsFixed (trees_in p) k m.children) (sym moves.kind)
      (subst (λ (l : List ℕ). HoldsFixed (trees_in p) (kind_renamed (h.entity_numbers u) x.kind) l) (sym moves.children)
      (holds_to u of is filled i x.kind x.children (λ e init. subst (λ (o : Option Node). InitialisesIn o e) (sym x_at) init) ((linkable.valid u of is).trees.fixed i x x_at))))
