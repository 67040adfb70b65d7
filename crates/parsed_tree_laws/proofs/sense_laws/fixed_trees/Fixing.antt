-- From fixed trees to fixed nodes.
use Rattle.std.proofs.Common.{◌≡◌, ◌∙◌, ℕ, zero, suc, Bool, true, false, List, [], ◌∷◌, Option, Some, None, slice_get, refl, sym, ap, subst, inl, inr}
use Rattle.std.specs.Prelude.{⊤}
use Rattle.std.proofs.lemmas.Bool.{and_parts, or_cases, not-true}
use Rattle.c_types.specs.Trees.{Ctype, BoolType, IntegerType, PointerTo}
use Rattle.c_types.specs.Table.{type_of}
use Rattle.c_conversions.specs.passed.core_tree.declared.node.Unit.{Unit}
use Rattle.c_conversions.specs.passed.core_tree.declared.node.Node.{Node}
use Rattle.c_conversions.specs.passed.core_tree.declared.node.NodeKind.{NodeKind}
use Rattle.c_conversions.specs.passed.core_tree.declared.node.NodeKind.TheVariants.{Named, Text, Literal, FunctionName, Deref, Member, Number, NullValue, AddressOf, Decay, PointerAdd, Convert, Upcast, Choose, Arith}
use Rattle.c_conversions.specs.passed.core_tree.Typed.{CoreTrees, trees_of, type_at, type_in, IsInteger, IsPointer}
use Rattle.c_conversions.specs.passed.core_tree.Rows.{RowOf}
use Rattle.c_conversions.specs.passed.core_tree.Valid.{InRows, IsStaticEntity, IsNumber, MakesNumber, FixedNumber, FixedPlace, FixedPointer, plain, made, text, function, object, literal, member, target, null, address, decay, upcast, converted, moved}
use Rattle.c_senses.specs.passed.c_consts.Core.{Core, Cores, Of, NoCores, MoreCores}
use Rattle.c_senses.specs.Initialised.{is_integer_type, is_pointer_type, is_fixed_number, are_fixed_numbers, is_fixed_place, is_fixed_pointer, first_place, first_pointer, first_moved}
use Rattle.c_senses.specs.Right.{Numbering, SameKind, StandsBy, AllStandBy}
use Rattle.parsed_tree_laws.specs.sense_laws.fixed_trees.Fixed.{TreesAreFixed}

some_one : {X : Type 0} → {x y : X} → ◌≡◌ {A = Option X} (Some x) (Some y) → x ≡ y
some_one h = cc

none_some : {X : Type 0} → {x : X} → ◌≡◌ {A = Option X} None (Some x) → ⊥
none_some h = cc

abbrev IsNone : List ℕ → Type 0
IsNone [] = ⊤
IsNone is = ⊥

abbrev IsOne : List ℕ → Type 0
IsOne (i ∷ []) = ⊤
IsOne is = ⊥

abbrev IsTwo : List ℕ → Type 0
IsTwo (i ∷ j ∷ []) = ⊤
IsTwo is = ⊥

no_more : (is : List ℕ) → IsNone is → is ≡ []
no_more [] h = refl
no_more (i ∷ is) h = absurd h

one_alone : (is : List ℕ) (j : ℕ) (more : List ℕ) → is ≡ j ∷ more → IsOne is → is ≡ j ∷ []
one_alone is j more e h = by more (subst IsOne e h) e
  where
    by : (rest : List ℕ) → IsOne (j ∷ rest) → is ≡ j ∷ rest → is ≡ j ∷ []
    by [] k f = f
    by (m ∷ rest) k f = absurd k

integer_is : (t : Ctype) → is_integer_type t ≡ true → IsInteger t
integer_is BoolType h = tt
integer_is (IntegerType size rank signed) h = tt
integer_is t h = cc

pointer_is : (t : Ctype) → is_pointer_type t ≡ true → IsPointer t
pointer_is (PointerTo to) h = tt
pointer_is t h = cc

module _ (u : CoreTrees) where
  text_none : (bytes : List ℕ) (t : Ctype) (is : List ℕ) → RowOf u (Text bytes) t is → IsNone is
  text_none bytes t [] h = tt
  text_none bytes t (i ∷ is) h = absurd h

  function_none : (e : ℕ) (t : Ctype) (is : List ℕ) → RowOf u (FunctionName e) t is → IsNone is
  function_none e t [] h = tt
  function_none e t (i ∷ is) h = absurd h

  named_none : (e : ℕ) (t : Ctype) (is : List ℕ) → RowOf u (Named e) t is → IsNone is
  named_none e t [] h = tt
  named_none e t (i ∷ is) h = absurd h

  null_none : (t : Ctype) (is : List ℕ) → RowOf u NullValue t is → IsNone is
  null_none t [] h = tt
  null_none t (i ∷ is) h = absurd h

  literal_one : (e : ℕ) (t : Ctype) (is : List ℕ) → RowOf u (Literal e) t is → (i : ℕ) × (is ≡ i ∷ [])
  literal_one e t [] h = absurd h
  literal_one e t (i ∷ []) h = (i, refl)
  literal_one e t (i ∷ j ∷ is) h = absurd h

  member_one : (k : ℕ) (t : Ctype) (is : List ℕ) → RowOf u (Member k) t is → IsOne is
  member_one k t [] h = absurd h
  member_one k t (i ∷ []) h = tt
  member_one k t (i ∷ j ∷ is) h = absurd h

  deref_one : (t : Ctype) (is : List ℕ) → RowOf u Deref t is → IsOne is
  deref_one t [] h = absurd h
  deref_one t (i ∷ []) h = tt
  deref_one t (i ∷ j ∷ is) h = absurd h

  address_one : (t : Ctype) (is : List ℕ) → RowOf u AddressOf t is → IsOne is
  address_one t [] h = absurd h
  address_one t (i ∷ []) h = tt
  address_one t (i ∷ j ∷ is) h = absurd h

  decay_one : (t : Ctype) (is : List ℕ) → RowOf u Decay t is → IsOne is
  decay_one t [] h = absurd h
  decay_one t (i ∷ []) h = tt
  decay_one t (i ∷ j ∷ is) h = absurd h

  upcast_one : (t : Ctype) (is : List ℕ) → RowOf u Upcast t is → IsOne is
  upcast_one t [] h = absurd h
  upcast_one t (i ∷ []) h = tt
  upcast_one t (i ∷ j ∷ is) h = absurd h

  convert_one : (t : Ctype) (is : List ℕ) → RowOf u Convert t is → IsOne is
  convert_one t [] h = absurd h
  convert_one t (i ∷ []) h = tt
  convert_one t (i ∷ j ∷ is) h = absurd h

  moved_two : (minus : Bool) (t : Ctype) (is : List ℕ) → RowOf u (PointerAdd minus) t is → (i j : ℕ) × (is ≡ i ∷ j ∷ [])
  moved_two minus t [] h = absurd h
  moved_two minus t (i ∷ []) h = absurd h
  moved_two minus t (i ∷ j ∷ []) h = (i, j, refl)
  moved_two minus t (i ∷ j ∷ k ∷ is) h = absurd h

module _ (n : Numbering) where
  named_kind : (d : ℕ) (other : NodeKind) → SameKind n (Named d) other → (e : ℕ) × (other ≡ Named e) × (n d ≡ Some e)
  named_kind d (Named e) h = (e, refl, h)
  named_kind d other h = cc

  literal_kind : (d : ℕ) (other : NodeKind) → SameKind n (Literal d) other → (e : ℕ) × (other ≡ Literal e) × (n d ≡ Some e)
  literal_kind d (Literal e) h = (e, refl, h)
  literal_kind d other h = cc

  function_kind : (d : ℕ) (other : NodeKind) → SameKind n (FunctionName d) other → (e : ℕ) × (other ≡ FunctionName e)
  function_kind d (FunctionName e) h = (e, refl)
  function_kind d other h = cc

module _ (n : Numbering) (u : Unit) (automatic : ℕ → Bool) (rows : InRows (trees_of u)) (static : (d e : ℕ) → n d ≡ Some e → automatic d ≡ false → IsStaticEntity (trees_of u) e) where
  abbrev t : CoreTrees
  t = trees_of u

  row : (i : ℕ) (node : Node) (kind : NodeKind) → slice_get u.nodes.items i ≡ Some node → node.kind ≡ kind → RowOf t kind (type_of u.types node.ty.0) node.children
  row i node kind at is = subst (λ (k : NodeKind). RowOf t k (type_of u.types node.ty.0) node.children) is (rows i node at)

  make : (type : Ctype) (i : ℕ) (node : Node) → slice_get u.nodes.items i ≡ Some node → MakesNumber node.kind → type_of u.types node.ty.0 ≡ type → is_integer_type type ≡ true
      → ((k c : ℕ) → slice_get node.children k ≡ Some c → FixedNumber t c) → FixedNumber t i
  make type i node at makes typed integer each = made at makes (subst IsInteger (sym typed) (integer_is type integer)) each

  mutual
    number_at : (c : Core) (i : ℕ) → StandsBy n u i c → is_fixed_number c ≡ true → FixedNumber t i
    number_at (Of (Number z) place type under) i stands h = plain stands.1 (subst IsNumber stands.2 tt)
    number_at (Of (Arith op) place type under) i stands h =
        let both = and_parts (is_integer_type type) (are_fixed_numbers under) h in
        make type i stands.0 stands.1 (subst MakesNumber stands.2 tt) stands.4 both.0 (λ k c child. numbers_at under stands.0.children k c stands.5 both.1 child)
    number_at (Of Choose place type under) i stands h =
        let both = and_parts (is_integer_type type) (are_fixed_numbers under) h in
        make type i stands.0 stands.1 (subst MakesNumber stands.2 tt) stands.4 both.0 (λ k c child. numbers_at under stands.0.children k c stands.5 both.1 child)
    number_at (Of Convert place type under) i stands h =
        let both = and_parts (is_integer_type type) (are_fixed_numbers under) h in
        make type i stands.0 stands.1 (subst MakesNumber stands.2 tt) stands.4 both.0 (λ k c child. numbers_at under stands.0.children k c stands.5 both.1 child)
    number_at (Of kind place type under) i stands h = cc

    numbers_at : (cs : Cores) (is : List ℕ) (k c : ℕ) → AllStandBy n u is cs → are_fixed_numbers cs ≡ true → slice_get is k ≡ Some c → FixedNumber t c
    numbers_at NoCores is k c all h at = absurd (none_some (sym (ap (λ (l : List ℕ). slice_get l k) all) ∙ at))
    numbers_at (MoreCores first rest) is zero c all h at =
        let same : all.0 ≡ c = some_one (sym (ap (λ (l : List ℕ). slice_get l 0) all.2) ∙ at) in
        subst (FixedNumber t) same (number_at first all.0 all.3 (and_parts (is_fixed_number first) (are_fixed_numbers rest) h).0)
    numbers_at (MoreCores first rest) is (suc k) c all h at =
        numbers_at rest all.1 k c all.4 (and_parts (is_fixed_number first) (are_fixed_numbers rest) h).1 (sym (ap (λ (l : List ℕ). slice_get l (suc k)) all.2) ∙ at)

  mutual
    place_at : (c : Core) (i : ℕ) → StandsBy n u i c → is_fixed_place automatic c ≡ true → FixedPlace t i
    place_at (Of (Text bytes) place type under) i stands h =
        text (stands.0, stands.1, sym stands.2, no_more stands.0.children (text_none t bytes _ stands.0.children (row i stands.0 (Text bytes) stands.1 (sym stands.2))))
    place_at (Of (FunctionName d) place type under) i stands h =
        let k = function_kind n d stands.0.kind stands.2 in
        function (stands.0, stands.1, k.1, no_more stands.0.children (function_none t k.0 _ stands.0.children (row i stands.0 (FunctionName k.0) stands.1 k.1)))
    place_at (Of (Named d) place type under) i stands h =
        let k = named_kind n d stands.0.kind stands.2 in
        object (stands.0, stands.1, k.1, no_more stands.0.children (named_none t k.0 _ stands.0.children (row i stands.0 (Named k.0) stands.1 k.1))) (static d k.0 k.2 (not-true (automatic d) h))
    place_at (Of (Literal d) place type under) i stands h =
        let k = literal_kind n d stands.0.kind stands.2 in
        let one = literal_one t k.0 _ stands.0.children (row i stands.0 (Literal k.0) stands.1 k.1) in
        literal (stands.0, stands.1, k.1, one.1) (static d k.0 k.2 (not-true (automatic d) h))
    place_at (Of (Member k) place type under) i stands h =
        let p = place_first under stands.0.children stands.5 h in
        member (stands.0, stands.1, sym stands.2, one_alone stands.0.children p.0 p.1 p.2 (member_one t k _ stands.0.children (row i stands.0 (Member k) stands.1 (sym stands.2)))) p.3
    place_at (Of Deref place type under) i stands h =
        let p = pointer_first under stands.0.children stands.5 h in
        target (stands.0, stands.1, sym stands.2, one_alone stands.0.children p.0 p.1 p.2 (deref_one t _ stands.0.children (row i stands.0 Deref stands.1 (sym stands.2)))) p.3
    place_at (Of kind place type under) i stands h = cc

    place_first : (cs : Cores) (is : List ℕ) → AllStandBy n u is cs → first_place automatic cs ≡ true → (j : ℕ) × (more : List ℕ) × (is ≡ j ∷ more) × FixedPlace t j
    place_first NoCores is all h = cc
    place_first (MoreCores c rest) is all h = (all.0, all.1, all.2, place_at c all.0 all.3 h)

    pointer_first : (cs : Cores) (is : List ℕ) → AllStandBy n u is cs → first_pointer automatic cs ≡ true → (j : ℕ) × (more : List ℕ) × (is ≡ j ∷ more) × FixedPointer t j
    pointer_first NoCores is all h = cc
    pointer_first (MoreCores c rest) is all h = (all.0, all.1, all.2, pointer_at c all.0 all.3 h)

    pointer_at : (c : Core) (i : ℕ) → StandsBy n u i c → is_fixed_pointer automatic c ≡ true → FixedPointer t i
    pointer_at (Of NullValue place type under) i stands h =
        null (stands.0, stands.1, sym stands.2, no_more stands.0.children (null_none t _ stands.0.children (row i stands.0 NullValue stands.1 (sym stands.2))))
    pointer_at (Of AddressOf place type under) i stands h =
        let p = place_first under stands.0.children stands.5 h in
        address (stands.0, stands.1, sym stands.2, one_alone stands.0.children p.0 p.1 p.2 (address_one t _ stands.0.children (row i stands.0 AddressOf stands.1 (sym stands.2)))) p.3
    pointer_at (Of Decay place type under) i stands h =
        let p = place_first under stands.0.children stands.5 h in
        decay (stands.0, stands.1, sym stands.2, one_alone stands.0.children p.0 p.1 p.2 (decay_one t _ stands.0.children (row i stands.0 Decay stands.1 (sym stands.2)))) p.3
    pointer_at (Of Upcast place type under) i stands h =
        let p = pointer_first under stands.0.children stands.5 (and_parts (is_pointer_type type) (first_pointer automatic under) h).1 in
        upcast (stands.0, stands.1, sym stands.2, one_alone stands.0.children p.0 p.1 p.2 (upcast_one t _ stands.0.children (row i stands.0 Upcast stands.1 (sym stands.2)))) p.3
    pointer_at (Of Convert place type under) i stands h =
        let both = and_parts (is_pointer_type type) (first_pointer automatic under) h in
        let p = pointer_first under stands.0.children stands.5 both.1 in
        let pointer : IsPointer (type_at t i) = subst (λ (o : Option Node). IsPointer (type_in u.types o)) (sym stands.1) (subst IsPointer (sym stands.4) (pointer_is type both.0)) in
        converted (stands.0, stands.1, sym stands.2, one_alone stands.0.children p.0 p.1 p.2 (convert_one t _ stands.0.children (row i stands.0 Convert stands.1 (sym stands.2)))) pointer p.3
    pointer_at (Of (PointerAdd minus) place type under) i stands h =
        let two = moved_two t minus _ stands.0.children (row i stands.0 (PointerAdd minus) stands.1 (sym stands.2)) in
        let p = moved_first under stands.0.children stands.5 h two.0 two.1 two.2 in
        moved (stands.0, stands.1, sym stands.2, two.2) p.0 p.1
    pointer_at (Of kind place type under) i stands h = cc

    moved_first : (cs : Cores) (is : List ℕ) → AllStandBy n u is cs → first_moved automatic cs ≡ true → (v j : ℕ) → is ≡ v ∷ j ∷ [] → FixedPointer t v × FixedNumber t j
    moved_first NoCores is all h v j e = cc
    moved_first (MoreCores c rest) is all h v j e =
        let both = and_parts (is_fixed_pointer automatic c) (are_fixed_numbers rest) h in
        let first : all.0 ≡ v = some_one (ap (λ (l : List ℕ). slice_get l 0) (sym all.2 ∙ e)) in
        let second : slice_get all.1 0 ≡ Some j = ap (λ (l : List ℕ). slice_get l 1) (sym all.2 ∙ e) in
        (subst (FixedPointer t) first (pointer_at c all.0 all.3 both.0), numbers_at rest all.1 0 j all.4 both.1 second)

pub trees_fixed : TreesAreFixed
trees_fixed n u automatic rows static c i stands h = elim (or_cases (is_fixed_number c) (is_fixed_pointer automatic c) h) [
  | inl number ↦ inl (number_at n u automatic rows static c i stands number)
  | inr pointer ↦ inr (pointer_at n u automatic rows static c i stands pointer)
]
