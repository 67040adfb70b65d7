-- Members that can be initialised, as fields of a shape.
use Rattle.std.proofs.Common.{arith, ◌≡◌, ◌<◌, ◌≤◌, ℕ, zero, suc, ◌+◌, List, [], ◌∷◌, refl, ap, sym, ◌∙◌, subst, Option, Some, None, slice_get, get_or, map, Bool, true, false, IsSome, length, drop, drop-cons, add-one}
use Rattle.std.proofs.lemmas.Option.{slice_get_read}
use Rattle.c_types.specs.declared.term.MemberTerm.{MemberTerm}
use Rattle.c_types.specs.declared.term.PathStep.TheVariants.{Member}
use Rattle.c_types.specs.Trees.{Ctype, VoidType, BoolType, IntegerType, FloatingType, VaListType, PointerTo, ArrayOf, FunctionFrom, StructureOf, UnionOf}
use Rattle.c_types.specs.Table.{Table, type_of}
use Rattle.c_inits.specs.Shapes.{Shape, Fields, Scalar, NoFields, Field}
use Rattle.c_inits.specs.Parts.{first_field}
use Rattle.c_inits.specs.Made.{Look, shape_of, shape_for, with_field, fields_of}
use Rattle.c_inits.specs.Made as made
use Rattle.c_inits.specs.Tables.{part_of, fillable, shape_in, type_shape, HasShape, fields_from, IsFilled, AreComplete, or_void}
use Rattle.c_inits.specs.Cursor.{IsPart}

-- a shape for an object is a shape
pub for_of : (look : Look) (limit : ℕ) (t : Ctype) (s : Shape) → shape_of look t ≡ Some s → shape_for look limit t ≡ Some s
for_of look limit (ArrayOf of None) s e = cc
for_of look limit (ArrayOf of (Some n)) s e = e
for_of look limit VoidType s e = e
for_of look limit BoolType s e = e
for_of look limit (IntegerType size rank signed) s e = e
for_of look limit FloatingType s e = e
for_of look limit VaListType s e = e
for_of look limit (PointerTo to) s e = e
for_of look limit (FunctionFrom r ps f) s e = e
for_of look limit (StructureOf tag) s e = e
for_of look limit (UnionOf tag) s e = e

pub some_is_there : {A : Type 0} (o : Option A) (x : A) → o ≡ Some x → IsSome o
some_is_there o x e = rw e refl

pub is_there_some : (o : Option Shape) → IsSome o → o ≡ Some (or_void o)
is_there_some None h = cc
is_there_some (Some s) h = refl

pub void_of : (o : Option Shape) (s : Shape) → o ≡ Some s → or_void o ≡ s
void_of o s e = ap or_void e

-- what a member without a length stands for among fields
there : (name : Option (List ℕ)) (p : made.Part) (o : Option Shape) → ((k : ℕ) (rest : Fields) → with_field p k o rest ≡ Field name k (or_void o) rest) → IsSome o
there name p None h = let e : NoFields ≡ Field name 0 (Scalar VoidType) NoFields = h 0 NoFields in cc
there name p (Some s) h = refl

pub filled_shape : (table : Table) (m : MemberTerm) → IsFilled table m true → IsSome (shape_of (fillable table) (type_of table m.ty.0))
filled_shape table m h = there m.name (part_of table m) (shape_of (fillable table) (type_of table m.ty.0)) h

-- a member at its position
pub fields_at : (table : Table) (k : ℕ) (ms : List MemberTerm) (m : MemberTerm) → k < length ms → m ≡ get_or ms k m →
    fields_from table k ms ≡ with_field (part_of table m) k (shape_of (fillable table) (type_of table m.ty.0)) (fields_from table (k + 1) ms)
fields_at table k ms m lt e =
    let here : drop k ms ≡ m ∷ drop (k + 1) ms = drop-cons ms k m lt ∙ ap (λ x. x ∷ drop (suc k) ms) (sym e) ∙ ap (λ n. m ∷ drop n ms) (sym (add-one k)) in
    ap (λ xs. fields_of (fillable table) k (map (part_of table) xs)) here
    ∙ ap (λ n. with_field (part_of table m) k (shape_of (fillable table) (type_of table m.ty.0)) (fields_of (fillable table) n (map (part_of table) (drop (k + 1) ms)))) (sym (add-one k))

drop_all : (ms : List MemberTerm) (k : ℕ) → length ms ≤ k → drop k ms ≡ []
drop_all [] zero le = refl
drop_all [] (suc k) le = refl
drop_all (m ∷ ms) zero le = absurd (omega (arith, le))
drop_all (m ∷ ms) (suc k) le = drop_all ms k (omega (arith, le))

pub no_fields : (table : Table) (k : ℕ) (ms : List MemberTerm) → length ms ≤ k → fields_from table k ms ≡ NoFields
no_fields table k ms le = ap (λ xs. fields_of (fillable table) k (map (part_of table) xs)) (drop_all ms k le)

pub pass_member : (table : Table) (k : ℕ) (ms : List MemberTerm) (m : MemberTerm) (filled : Bool) → k < length ms → m ≡ get_or ms k m → IsFilled table m filled → filled ≡ false → fields_from table k ms ≡ fields_from table (k + 1) ms
pass_member table k ms m filled lt e h f =
    fields_at table k ms m lt e ∙ (subst (λ b. IsFilled table m b) f h) k (fields_from table (k + 1) ms)

-- a member that can be initialised is a field with the shape of its type
module _ (table : Table) (limit k : ℕ) (ms : List MemberTerm) (m : MemberTerm) (filled : Bool) (complete : AreComplete table ms) (lt : k < length ms) (e : m ≡ get_or ms k m) (h : IsFilled table m filled) (f : filled ≡ true) where
  pub certain : IsFilled table m true
  certain = subst (λ b. IsFilled table m b) f h

  whole : shape_in table limit m.ty.0 ≡ Some (or_void (shape_of (fillable table) (type_of table m.ty.0)))
  whole =
      for_of (fillable table) limit (type_of table m.ty.0) (or_void (shape_of (fillable table) (type_of table m.ty.0)))
      (is_there_some (shape_of (fillable table) (type_of table m.ty.0)) (filled_shape table m certain))

  pub member_shaped : HasShape table limit m.ty.0
  member_shaped = some_is_there (shape_in table limit m.ty.0) (or_void (shape_of (fillable table) (type_of table m.ty.0))) whole

  pub member_known : m.ty.0 < length table.terms
  member_known = complete.known k m (slice_get_read ms (length ms) k m refl lt e)

  pub member_field : fields_from table k ms ≡ Field m.name k (type_shape table limit m.ty.0) (fields_from table (k + 1) ms)
  member_field =
      fields_at table k ms m lt e ∙ certain k (fields_from table (k + 1) ms)
      ∙ ap (λ s. Field m.name k s (fields_from table (k + 1) ms)) (sym (void_of (shape_in table limit m.ty.0) (or_void (shape_of (fillable table) (type_of table m.ty.0))) whole))

  pub member_at : slice_get ms k ≡ Some m
  member_at = slice_get_read ms (length ms) k m refl lt e

  pub member_shape : or_void (shape_of (fillable table) (type_of table m.ty.0)) ≡ type_shape table limit m.ty.0
  member_shape = sym (void_of (shape_in table limit m.ty.0) (or_void (shape_of (fillable table) (type_of table m.ty.0))) whole)

  pub take_member : IsPart table limit (first_field (fields_from table k ms)) (Member k) m.ty.0
  take_member = record { is = ap first_field member_field; known = member_known; shaped = member_shaped }
