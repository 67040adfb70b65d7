-- What can be initialised in a table in which one tag more is complete.
use Rattle.std.proofs.Common.{arith, ◌≡◌, ℕ, zero, suc, List, [], ◌∷◌, refl, ap, sym, ◌∙◌, Option, Some, None, slice_get, map, Bool, true, false, cond, eqb, IsSome, inl, inr}
use Rattle.std.proofs.lemmas.Bool.{eqb-true}
use Rattle.std.specs.Option.{option_map}
use Rattle.c_types.specs.declared.term.MemberTerm.{MemberTerm}
use Rattle.c_types.specs.Trees.{Ctype, VoidType, BoolType, IntegerType, FloatingType, VaListType, PointerTo, ArrayOf, FunctionFrom, StructureOf, UnionOf}
use Rattle.c_types.specs.Layout.{extent_of, member_extent}
use Rattle.c_types.specs.Table.{Table, type_of, look_in, extents_in, members_in}
use Rattle.c_types.specs.Made.{IsMade, IsFlexible, IsMember}
use Rattle.c_inits.specs.Shapes.{Shape, Fields}
use Rattle.c_inits.specs.Made.{Part, Look, shape_of, fields_of, with_field}
use Rattle.c_inits.specs.Tables.{part_of, parts_in, fillable}
use Rattle.c_inits.proofs.Fillable.{is_there, there_map, Agree, shape_there, shape_more, filled, only_fillable, either_of}
use Rattle.unit_walk.proofs.filling_laws.Complete.{was_there}

some_is : {A : Type 0} (x y : A) → ◌≡◌ {A = Option A} (Some x) (Some y) → x ≡ y
some_is x y e = cc

by_parts : (table : Table) (f : List Part → Fields) (o : Option (List MemberTerm)) → option_map (λ ms. f (map (part_of table) ms)) o ≡ option_map f (parts_in table o)
by_parts table f None = refl
by_parts table f (Some ms) = refl

-- by the parts of each tag
filled_parts : (table : Table) (made : IsMade table) (tag : ℕ) → fillable table tag ≡ option_map (fields_of (fillable table) 0) (parts_in table (members_in table tag))
filled_parts table made tag = filled table made tag ∙ by_parts table (fields_of (fillable table) 0) (members_in table tag)

-- what has a shape has the same one in a look that knows more
none_flexible : (look more : Look) (table : Table) (u : Ctype) → IsFlexible table u → shape_of look u ≡ shape_of more u
none_flexible look more table (ArrayOf of None) h = refl
none_flexible look more table (ArrayOf of (Some n)) h = absurd h
none_flexible look more table VoidType h = absurd h
none_flexible look more table BoolType h = absurd h
none_flexible look more table (IntegerType size rank signed) h = absurd h
none_flexible look more table FloatingType h = absurd h
none_flexible look more table VaListType h = absurd h
none_flexible look more table (PointerTo to) h = absurd h
none_flexible look more table (FunctionFrom r ps f) h = absurd h
none_flexible look more table (StructureOf tag) h = absurd h
none_flexible look more table (UnionOf tag) h = absurd h

shape_stays : (look more : Look) → ((tag : ℕ) (fs : Fields) → look tag ≡ Some fs → more tag ≡ Some fs) → (t : Ctype) → is_there (shape_of look t) ≡ true → shape_of look t ≡ shape_of more t
shape_stays look more knows t there = go (shape_of look t) refl
  where
    go : (o : Option Shape) → shape_of look t ≡ o → shape_of look t ≡ shape_of more t
    go (Some s) at = at ∙ sym (shape_more look more knows t s at)
    go None at = absurd (let bad : false ≡ true = sym (ap is_there at) ∙ there in cc)

there_some : {A : Type 0} (o : Option A) → IsSome o → is_there o ≡ true
there_some None h = cc
there_some (Some x) h = refl

-- members whose shapes are the same
fields_same : (table : Table) (look more : Look) (n : ℕ) (ms : List MemberTerm) → ((k : ℕ) (m : MemberTerm) → slice_get ms k ≡ Some m → shape_of look (type_of table m.ty.0) ≡ shape_of more (type_of table m.ty.0)) →
    fields_of look n (map (part_of table) ms) ≡ fields_of more n (map (part_of table) ms)
fields_same table look more n [] h = refl
fields_same table look more n (m ∷ ms) h =
    ap (λ (o : Option Shape). with_field (part_of table m) n o (fields_of look (suc n) (map (part_of table) ms))) (h 0 m refl)
    ∙ ap (λ (fs : Fields). with_field (part_of table m) n (shape_of more (type_of table m.ty.0)) fs) (fields_same table look more (suc n) ms (λ k x at. h (suc k) x at))

-- each of two equal images
each_same : {A B : Type 0} (f g : A → B) (xs : List A) → map f xs ≡ map g xs → (k : ℕ) (x : A) → slice_get xs k ≡ Some x → f x ≡ g x
each_same f g [] e k x at = cc
each_same f g (y ∷ ys) e zero x at = let first : f y ≡ g y = cc in let r : y ≡ x = some_is y x at in sym (ap f r) ∙ first ∙ ap g r
each_same f g (y ∷ ys) e (suc k) x at = let rest : map f ys ≡ map g ys = cc in each_same f g ys rest k x at

mapped_at : {A B : Type 0} (f : A → B) (xs : List A) (k : ℕ) (x : A) → slice_get xs k ≡ Some x → slice_get (map f xs) k ≡ Some (f x)
mapped_at f [] k x at = cc
mapped_at f (y ∷ ys) zero x at = ap (option_map f) at
mapped_at f (y ∷ ys) (suc k) x at = mapped_at f ys k x at

-- a table in which one tag more is complete
pub record IsOneMore (old new : Table) (tag : ℕ) (parts : List Part) : Type 0 where
  pub open_before : members_in old tag ≡ None
  pub members : (t : ℕ) → parts_in new (members_in new t) ≡ cond (eqb tag t) (Some parts) (parts_in old (members_in old t))
  pub look : (t : ℕ) → look_in new t ≡ cond (eqb tag t) (Some (map (member_extent (look_in old)) (map (λ (p : Part). p.type) parts))) (look_in old t)

eqb_own : (n : ℕ) → eqb n n ≡ true
eqb_own n = grind (arith)

module _ (old new : Table) (made_old : IsMade old) (made_new : IsMade new) (tag : ℕ) (parts : List Part) (h : IsOneMore old new tag parts) where
  abbrev before : Look
  before = fillable old

  abbrev now : Fields
  now = fields_of before 0 parts

  -- what could be initialised, and the tag's members
  abbrev pub one_more : Look
  one_more t = either_of (before t) (cond (eqb tag t) (Some now) None)

  knows : (t : ℕ) (fs : Fields) → before t ≡ Some fs → one_more t ≡ Some fs
  knows t fs e = ap (λ (o : Option Fields). either_of o (cond (eqb tag t) (Some now) None)) e

  there_members : {B : Type 0} (f : List MemberTerm → B) (t : ℕ) (o : Option B) → o ≡ option_map f (members_in old t) → is_there o ≡ is_there (members_in old t)
  there_members f t o e = ap is_there e ∙ there_map f (members_in old t)

  agree : Agree before (look_in old)
  agree t = there_members (λ ms. fields_of before 0 (map (part_of old) ms)) t (before t) (filled old made_old t) ∙ sym (there_members (extents_in old) t (look_in old t) (made_old.laid t))

  -- a member that was complete, or an array without a length
  was_shaped : (t : Ctype) → is_there (extent_of (look_in old) t) ≡ true → shape_of before t ≡ shape_of one_more t
  was_shaped t there = shape_stays before one_more knows t (shape_there before (look_in old) agree t ∙ there)

  old_member : (t : ℕ) (ms : List MemberTerm) (k : ℕ) (m : MemberTerm) → IsMember old t ms k m → shape_of before (type_of old m.ty.0) ≡ shape_of one_more (type_of old m.ty.0)
  old_member t ms k m is = elim is.object [
    | inl p ↦ was_shaped (type_of old m.ty.0) (there_some (extent_of (look_in old) (type_of old m.ty.0)) p)
    | inr p ↦ none_flexible before one_more old (type_of old m.ty.0) p.flexible
  ]

  old_fields : (t : ℕ) (o : Option (List MemberTerm)) → members_in old t ≡ o → option_map (fields_of before 0) (parts_in old o) ≡ option_map (fields_of one_more 0) (parts_in old o)
  old_fields t None e = refl
  old_fields t (Some ms) e = ap Some (fields_same old before one_more 0 ms (λ k m at. old_member t ms k m (made_old.members t ms e k m at).1))

  -- the new tag's members
  new_parts : parts_in new (members_in new tag) ≡ Some parts
  new_parts = h.members tag ∙ ap (λ (b : Bool). cond b (Some parts) (parts_in old (members_in old tag))) (eqb_own tag)

  module _ (ms : List MemberTerm) (are : members_in new tag ≡ Some ms) where
    parts_are : map (part_of new) ms ≡ parts
    parts_are = some_is _ _ (sym (ap (parts_in new) are) ∙ new_parts)

    types_are : (xs : List MemberTerm) → map (λ (p : Part). p.type) (map (part_of new) xs) ≡ map (λ (m : MemberTerm). type_of new m.ty.0) xs
    types_are [] = refl
    types_are (x ∷ xs) = ap (λ (l : List Ctype). type_of new x.ty.0 ∷ l) (types_are xs)

    extents_are : map (member_extent (look_in old)) (map (λ (m : MemberTerm). type_of new m.ty.0) ms) ≡ map (member_extent (look_in new)) (map (λ (m : MemberTerm). type_of new m.ty.0) ms)
    extents_are = some_is _ _ (
        ap (λ (l : List Ctype). Some (map (member_extent (look_in old)) l)) (sym (types_are ms) ∙ ap (map (λ (p : Part). p.type)) parts_are)
        ∙ sym (h.look tag ∙ ap (λ (b : Bool). cond b (Some (map (member_extent (look_in old)) (map (λ (p : Part). p.type) parts))) (look_in old tag)) (eqb_own tag))
        ∙ made_new.laid tag ∙ ap (option_map (extents_in new)) are)

    new_member : (k : ℕ) (m : MemberTerm) → slice_get ms k ≡ Some m → shape_of before (type_of new m.ty.0) ≡ shape_of one_more (type_of new m.ty.0)
    new_member k m at =
        let t : Ctype = type_of new m.ty.0 in
        let same = each_same (member_extent (look_in old)) (member_extent (look_in new)) (map (λ (m : MemberTerm). type_of new m.ty.0) ms) extents_are k t (mapped_at (λ (m : MemberTerm). type_of new m.ty.0) ms k m at) in
        let is : IsMember new tag ms k m = (made_new.members tag ms are k m at).1 in
        elim is.object [
          | inl p ↦ was_shaped t (was_there (look_in old) (look_in new) t same p)
          | inr p ↦ none_flexible before one_more new t p.flexible
        ]

    now_is : now ≡ fields_of one_more 0 parts
    now_is = ap (fields_of before 0) (sym parts_are) ∙ fields_same new before one_more 0 ms new_member ∙ ap (fields_of one_more 0) parts_are

  now_stays : (o : Option (List MemberTerm)) → members_in new tag ≡ o → now ≡ fields_of one_more 0 parts
  now_stays None are = absurd (let bad : ◌≡◌ {A = Option (List Part)} None (Some parts) = sym (ap (parts_in new) are) ∙ new_parts in cc)
  now_stays (Some ms) are = now_is ms are

  says : (t : ℕ) → one_more t ≡ option_map (fields_of one_more 0) (parts_in new (members_in new t))
  says t = by (eqb tag t) refl ∙ ap (option_map (fields_of one_more 0)) (sym (h.members t))
    where
      by : (b : Bool) → eqb tag t ≡ b → one_more t ≡ option_map (fields_of one_more 0) (cond (eqb tag t) (Some parts) (parts_in old (members_in old t)))
      by true e =
          let none : before t ≡ None = ap before (sym (eqb-true tag t e)) ∙ filled_parts old made_old tag ∙ ap (λ (o : Option (List MemberTerm)). option_map (fields_of before 0) (parts_in old o)) h.open_before in
          ap (λ (o : Option Fields). either_of o (cond (eqb tag t) (Some now) None)) none
          ∙ ap (λ (b : Bool). cond b (Some now) None) e
          ∙ ap Some (now_stays (members_in new tag) refl)
          ∙ ap (λ (b : Bool). option_map (fields_of one_more 0) (cond b (Some parts) (parts_in old (members_in old t)))) (sym e)
      by false e =
          ap (λ (b : Bool). either_of (before t) (cond b (Some now) None)) e
          ∙ either_none (before t)
          ∙ filled_parts old made_old t
          ∙ old_fields t (members_in old t) refl
          ∙ ap (λ (b : Bool). option_map (fields_of one_more 0) (cond b (Some parts) (parts_in old (members_in old t)))) (sym e)
        where
          either_none : (o : Option Fields) → either_of o None ≡ o
          either_none None = refl
          either_none (Some x) = refl

  pub fillable_more : (t : ℕ) → one_more t ≡ fillable new t
  fillable_more t = only_fillable new made_new one_more (λ u. says u ∙ sym (by_parts new (fields_of one_more 0) (members_in new u))) t
