-- The parts of structures and unions of a table.
use Rattle.std.proofs.Common.{arith, ◌≡◌, ◌<◌, ℕ, zero, suc, ◌+◌, List, [], ◌∷◌, refl, ap, sym, ◌∙◌, subst, Option, Some, None, slice_get, map, true, false, eqb, IsSome, drop, inl, inr, add-one, eq-eqb}
use Rattle.std.specs.Option.{option_map}
use Rattle.c_types.specs.declared.term.MemberTerm.{MemberTerm}
use Rattle.c_types.specs.declared.term.PathStep.TheVariants.{Member}
use Rattle.c_types.specs.Trees.{Ctype, VoidType, BoolType, IntegerType, FloatingType, VaListType, PointerTo, ArrayOf, FunctionFrom, StructureOf, UnionOf}
use Rattle.c_types.specs.Table.{Table, type_of, look_in, members_in, extents_in, extent_in}
use Rattle.c_types.specs.Made.{IsMade, IsFlexible, IsMember}
use Rattle.c_inits.specs.Shapes.{Shape, Fields, Elements, Structured, Overlaid, Field}
use Rattle.c_inits.specs.Parts.{shape_at, shape_in as shape_in_fields, first_part, first_field, next_part, next_field, Apart, Distinct, DistinctIn}
use Rattle.c_inits.specs.Made.{Look, shape_of, shape_for, with_field, fields_of}
use Rattle.c_inits.specs.Tables.{IsFilled, part_of, fillable, shape_in, type_shape, HasShape, fields_from, AreComplete, IsMemberType, or_void, members_from, tag_fields}
use Rattle.c_inits.specs.Designated.{HasFields}
use Rattle.c_inits.proofs.Fillable.{filled, is_there, there_map, shape_there, Agree}
use Rattle.c_inits.proofs.Onward.{chosen, chosen_not}

is_some_there : {A : Type 0} (o : Option A) → is_there o ≡ true → IsSome o
is_some_there None e = cc
is_some_there (Some x) e = refl

there_is_some : {A : Type 0} (o : Option A) → IsSome o → is_there o ≡ true
there_is_some None e = cc
there_is_some (Some x) e = refl

some_is : {A : Type 0} (x y : A) → ◌≡◌ {A = Option A} (Some x) (Some y) → x ≡ y
some_is x y e = cc

no_value : {A : Type 0} (o : Option A) → o ≡ None → IsSome o → ⊥
no_value None e h = cc
no_value (Some x) e h = cc

plain_type : (look : Look) (t : Ctype) → IsSome (shape_of look t) → IsMemberType look t
plain_type look (ArrayOf of None) h = tt
plain_type look (ArrayOf of (Some n)) h = h
plain_type look VoidType h = h
plain_type look BoolType h = h
plain_type look (IntegerType size rank signed) h = h
plain_type look FloatingType h = h
plain_type look VaListType h = h
plain_type look (PointerTo to) h = h
plain_type look (FunctionFrom r ps f) h = h
plain_type look (StructureOf tag) h = h
plain_type look (UnionOf tag) h = h

flexible_type : (table : Table) (t : Ctype) → IsFlexible table t → IsMemberType (fillable table) t
flexible_type table (ArrayOf of None) h = tt
flexible_type table (ArrayOf of (Some n)) h = absurd h
flexible_type table VoidType h = absurd h
flexible_type table BoolType h = absurd h
flexible_type table (IntegerType size rank signed) h = absurd h
flexible_type table FloatingType h = absurd h
flexible_type table VaListType h = absurd h
flexible_type table (PointerTo to) h = absurd h
flexible_type table (FunctionFrom r ps f) h = absurd h
flexible_type table (StructureOf tag) h = absurd h
flexible_type table (UnionOf tag) h = absurd h

-- the field that a member is, before some others, or these alone
abbrev pub one : (name : Option (List ℕ)) (t : Ctype) (bits : Option ℕ) (n : ℕ) (o : Option Shape) (rest : Fields) → Fields
one name t bits n o rest = with_field (record { name = name; type = t; bits = bits }) n o rest

abbrev pub many : Table → ℕ → List MemberTerm → Fields
many table n ms = fields_of (fillable table) n (map (part_of table) ms)

-- what holds of the others, and of a field before them, holds of the member with them
pub by_member : (P : Fields → Type 0) (name : Option (List ℕ)) (bits : Option ℕ) (t : Ctype) (n : ℕ) (o : Option Shape) (rest : Fields) → P rest → ((s : Shape) → P (Field name n s rest)) → P (one name t bits n o rest)
by_member P name bits t n None rest skip field = skip
by_member P None (Some b) t n (Some s) rest skip field = skip
by_member P None None t n (Some s) rest skip field = field s
by_member P (Some own) bits t n (Some s) rest skip field = field s

by_field : (P : Fields → Type 0) (m : MemberTerm) (t : Ctype) (n : ℕ) (o : Option Shape) (rest : Fields) → P rest → ((name : Option (List ℕ)) (s : Shape) → P (Field name n s rest)) → P (one m.name t m.bits n o rest)
by_field P m t n o rest skip field = by_member P m.name m.bits t n o rest skip (field m.name)

-- the members of a position on do not name what is before
before : (table : Table) (n m : ℕ) (ms : List MemberTerm) → m < n → shape_in_fields (many table n ms) m [] ≡ None
before table n m [] lt = refl
before table n m (x ∷ ms) lt =
    let later = before table (suc n) m ms (omega (arith, lt)) in
    let other : eqb n m ≡ false = grind (arith, lt) in
    by_field (λ fs. shape_in_fields fs m [] ≡ None) x (type_of table x.ty.0) n (shape_of (fillable table) (type_of table x.ty.0)) (many table (suc n) ms)
    later (λ name s. chosen_not (eqb n m) _ _ other ∙ later)

-- the field behind one that stands there is the first of those behind its position
next_at : (table : Table) (n j m : ℕ) (ms : List MemberTerm) → m ≡ n + j → IsSome (shape_in_fields (many table n ms) m []) → next_field (many table n ms) m ≡ first_field (many table (suc m) (drop (suc j) ms))
next_at table n j m [] e some = cc
next_at table n zero m (x ∷ ms) e some =
    let same : n ≡ m = omega (arith, e) in
    let none = before table (suc n) m ms (omega (arith, e)) in
    by_field (λ fs. IsSome (shape_in_fields fs m []) → next_field fs m ≡ first_field (many table (suc m) ms)) x (type_of table x.ty.0) n (shape_of (fillable table) (type_of table x.ty.0)) (many table (suc n) ms)
    (λ h. absurd (no_value (shape_in_fields (many table (suc n) ms) m []) none h))
    (λ name s h. chosen (eqb n m) _ _ (eq-eqb n m same) ∙ ap (λ i. first_field (many table (suc i) ms)) same)
    some
next_at table n (suc j) m (x ∷ ms) e some =
    let lt : n < m = omega (arith, e) in
    let other : eqb n m ≡ false = grind (arith, lt) in
    let later = λ (h : IsSome (shape_in_fields (many table (suc n) ms) m [])). next_at table (suc n) j m ms (omega (arith, e)) h in
    by_field (λ fs. IsSome (shape_in_fields fs m []) → next_field fs m ≡ first_field (many table (suc m) (drop (suc j) ms))) x (type_of table x.ty.0) n (shape_of (fillable table) (type_of table x.ty.0)) (many table (suc n) ms)
    later
    (λ name s h. chosen_not (eqb n m) _ _ other ∙ later (subst (λ (o : Option Shape). IsSome o) (chosen_not (eqb n m) _ _ other) h))
    some

-- a member that can be initialised stands among the fields under its position
pub standing : (table : Table) (n j m : ℕ) (ms : List MemberTerm) (x : MemberTerm) → m ≡ n + j → slice_get ms j ≡ Some x → IsFilled table x true → shape_in_fields (many table n ms) m [] ≡ Some (or_void (shape_of (fillable table) (type_of table x.ty.0)))
standing table n j m [] x e at h = cc
standing table n zero m (y ∷ ms) x e at h =
    let same : n ≡ m = omega (arith, e) in
    let r : y ≡ x = some_is y x at in
    ap (λ z. shape_in_fields (many table n (z ∷ ms)) m []) r ∙ ap (λ fs. shape_in_fields fs m []) (h n (many table (suc n) ms)) ∙ chosen (eqb n m) _ _ (eq-eqb n m same)
standing table n (suc j) m (y ∷ ms) x e at h =
    let lt : n < m = omega (arith, e) in
    let other : eqb n m ≡ false = grind (arith, lt) in
    let later = standing table (suc n) j m ms x (omega (arith, e)) at h in
    by_field (λ fs. shape_in_fields fs m [] ≡ Some (or_void (shape_of (fillable table) (type_of table x.ty.0)))) y (type_of table y.ty.0) n (shape_of (fillable table) (type_of table y.ty.0)) (many table (suc n) ms)
    later (λ name s. chosen_not (eqb n m) _ _ other ∙ later)

-- each position stands once
apart : (table : Table) (n m : ℕ) (ms : List MemberTerm) → m < n → Apart (many table n ms) m
apart table n m [] lt = tt
apart table n m (x ∷ ms) lt =
    let later = apart table (suc n) m ms (omega (arith, lt)) in
    let other : eqb m n ≡ false = grind (arith, lt) in
    by_field (λ fs. Apart fs m) x (type_of table x.ty.0) n (shape_of (fillable table) (type_of table x.ty.0)) (many table (suc n) ms) later (λ name s. (other, later))

distinct : (table : Table) (n : ℕ) (ms : List MemberTerm) → Distinct (many table n ms)
distinct table n [] = tt
distinct table n (x ∷ ms) =
    let later = distinct table (suc n) ms in
    by_field Distinct x (type_of table x.ty.0) n (shape_of (fillable table) (type_of table x.ty.0)) (many table (suc n) ms) later (λ name s. (apart table (suc n) n ms (omega arith), later))

module _ (table : Table) (made : IsMade table) where
  agree : Agree (fillable table) (look_in table)
  agree tag =
      ap is_there (filled table made tag) ∙ there_map (λ ms. fields_of (fillable table) 0 (map (part_of table) ms)) (members_in table tag)
      ∙ sym (ap is_there (made.laid tag) ∙ there_map (extents_in table) (members_in table tag))

  -- what has a size has a shape
  pub has_shape : (t : Ctype) → IsSome (extent_in table t) → IsSome (shape_of (fillable table) t)
  has_shape t h = is_some_there (shape_of (fillable table) t) (shape_there (fillable table) (look_in table) agree t ∙ there_is_some (extent_in table t) h)

  member_type : (tag : ℕ) (ms : List MemberTerm) (k : ℕ) (m : MemberTerm) → IsMember table tag ms k m → IsMemberType (fillable table) (type_of table m.ty.0)
  member_type tag ms k m h =
      elim h.object [
        | inl p ↦ plain_type (fillable table) (type_of table m.ty.0) (has_shape (type_of table m.ty.0) p)
        | inr p ↦ flexible_type table (type_of table m.ty.0) p.flexible
      ]

  pub complete_members : (tag : ℕ) (ms : List MemberTerm) → members_in table tag ≡ Some ms → AreComplete table ms
  complete_members tag ms e = record {
    known = λ k m at. (made.members tag ms e k m at).0;
    each = λ k m at. member_type tag ms k m (made.members tag ms e k m at).1;
  }

  module _ (limit id tag : ℕ) where
    abbrev whole : (Fields → Shape) → Option (List MemberTerm) → Option Shape
    whole shape members = option_map shape (option_map (fields_from table 0) members)

    structure : type_of table id ≡ StructureOf tag → shape_in table limit id ≡ whole (Structured (StructureOf tag)) (members_in table tag)
    structure e = ap (shape_for (fillable table) limit) e ∙ ap (option_map (Structured (StructureOf tag))) (filled table made tag)

    union : type_of table id ≡ UnionOf tag → shape_in table limit id ≡ whole (Overlaid (UnionOf tag)) (members_in table tag)
    union e = ap (shape_for (fillable table) limit) e ∙ ap (option_map (Overlaid (UnionOf tag))) (filled table made tag)

    pub structure_first : type_of table id ≡ StructureOf tag → HasShape table limit id → first_part (type_shape table limit id) ≡ first_field (tag_fields table 0 tag)
    structure_first e some = go (members_in table tag) (structure e)
      where
        go : (o : Option (List MemberTerm)) → shape_in table limit id ≡ whole (Structured (StructureOf tag)) o → first_part (type_shape table limit id) ≡ first_field (members_from table 0 o)
        go None at = absurd (no_value (shape_in table limit id) at some)
        go (Some ms) at = ap (λ s. first_part (or_void s)) at

    pub union_first : type_of table id ≡ UnionOf tag → HasShape table limit id → first_part (type_shape table limit id) ≡ first_field (tag_fields table 0 tag)
    union_first e some = go (members_in table tag) (union e)
      where
        go : (o : Option (List MemberTerm)) → shape_in table limit id ≡ whole (Overlaid (UnionOf tag)) o → first_part (type_shape table limit id) ≡ first_field (members_from table 0 o)
        go None at = absurd (no_value (shape_in table limit id) at some)
        go (Some ms) at = ap (λ s. first_part (or_void s)) at

    pub structure_next : type_of table id ≡ StructureOf tag → HasShape table limit id → (k : ℕ) → IsSome (shape_at (type_shape table limit id) (Member k ∷ [])) →
        next_part (type_shape table limit id) (Member k) ≡ first_field (tag_fields table (k + 1) tag)
    structure_next e some k within = go (members_in table tag) (structure e)
      where
        go : (o : Option (List MemberTerm)) → shape_in table limit id ≡ whole (Structured (StructureOf tag)) o → next_part (type_shape table limit id) (Member k) ≡ first_field (members_from table (k + 1) o)
        go None at = absurd (no_value (shape_in table limit id) at some)
        go (Some ms) at =
            let here : IsSome (shape_in_fields (fields_from table 0 ms) k []) = subst (λ (s : Option Shape). IsSome (shape_at (or_void s) (Member k ∷ []))) at within in
            ap (λ s. next_part (or_void s) (Member k)) at ∙ next_at table 0 k k ms (omega arith) here
            ∙ ap (λ n. first_field (fields_of (fillable table) n (map (part_of table) (drop n ms)))) (sym (add-one k))

    pub structure_fields : type_of table id ≡ StructureOf tag → HasShape table limit id → HasFields (type_shape table limit id) (tag_fields table 0 tag)
    structure_fields e some = go (members_in table tag) (structure e)
      where
        go : (o : Option (List MemberTerm)) → shape_in table limit id ≡ whole (Structured (StructureOf tag)) o → HasFields (type_shape table limit id) (members_from table 0 o)
        go None at = absurd (no_value (shape_in table limit id) at some)
        go (Some ms) at = subst (λ s. HasFields (or_void s) (fields_from table 0 ms)) (sym at) refl

    pub union_fields : type_of table id ≡ UnionOf tag → HasShape table limit id → HasFields (type_shape table limit id) (tag_fields table 0 tag)
    union_fields e some = go (members_in table tag) (union e)
      where
        go : (o : Option (List MemberTerm)) → shape_in table limit id ≡ whole (Overlaid (UnionOf tag)) o → HasFields (type_shape table limit id) (members_from table 0 o)
        go None at = absurd (no_value (shape_in table limit id) at some)
        go (Some ms) at = subst (λ s. HasFields (or_void s) (fields_from table 0 ms)) (sym at) refl

  -- numbers of members are distinct in each shape of the table
  pub distinct_in : (limit id : ℕ) → DistinctIn (type_shape table limit id)
  distinct_in limit id = by_type (type_of table id)
    where
      fields : (tag : ℕ) (o : Option (List MemberTerm)) → DistinctIn (or_void (option_map (Structured (StructureOf tag)) (option_map (fields_from table 0) o)))
      fields tag None = tt
      fields tag (Some ms) = distinct table 0 ms

      array : (t : Ctype) (n : ℕ) (o : Option Shape) → DistinctIn (or_void (option_map (λ s. Elements t s n) o))
      array t n None = tt
      array t n (Some s) = tt

      overlaid : (tag : ℕ) (o : Option Fields) → DistinctIn (or_void (option_map (Overlaid (UnionOf tag)) o))
      overlaid tag None = tt
      overlaid tag (Some fs) = tt

      by_type : (t : Ctype) → DistinctIn (or_void (shape_for (fillable table) limit t))
      by_type VoidType = tt
      by_type BoolType = tt
      by_type (IntegerType size rank signed) = tt
      by_type FloatingType = tt
      by_type VaListType = tt
      by_type (PointerTo to) = tt
      by_type (ArrayOf of None) = array (ArrayOf of None) limit (shape_of (fillable table) of)
      by_type (ArrayOf of (Some n)) = array (ArrayOf of (Some n)) n (shape_of (fillable table) of)
      by_type (FunctionFrom result parameters form) = tt
      by_type (StructureOf tag) = subst (λ o. DistinctIn (or_void (option_map (Structured (StructureOf tag)) o))) (sym (filled table made tag)) (fields tag (members_in table tag))
      by_type (UnionOf tag) = overlaid tag (fillable table tag)
