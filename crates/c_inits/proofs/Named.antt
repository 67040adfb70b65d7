-- Members by their names.
use Rattle.std.proofs.Common.{arith, ◌≡◌, ◌<◌, ◌≤◌, ℕ, ◌+◌, Bool, true, false, ◌&&◌, eqb, refl, ap, sym, ◌∙◌, List, [], ◌∷◌, ◌++◌, length, get_or, Option, Some, None, is_none, is_some, not, append_assoc}
use Rattle.std.specs.Str.{bytes_eq}
use Rattle.c_types.specs.declared.term.MemberTerm.{MemberTerm}
use Rattle.c_types.specs.declared.term.PathStep.{PathStep}
use Rattle.c_types.specs.declared.term.PathStep.TheVariants.{Member}
use Rattle.c_types.specs.Table.{Table, type_of}
use Rattle.c_inits.specs.Shapes.{Shape, Fields, Scalar, Elements, Structured, Overlaid, Field, SubObject, Path}
use Rattle.c_inits.specs.Parts.{shape_at, shape_in}
use Rattle.c_inits.specs.Made.{shape_of}
use Rattle.c_inits.specs.Initial.{same_name, has_name, own, in_unnamed, named, or_else, moved}
use Rattle.c_inits.specs.Tables.{fillable, type_shape, fields_from, AreComplete, IsFilled}
use Rattle.c_inits.specs.Designated.{IsStep, LeadsTo, HasFields}
use Rattle.c_inits.proofs.Onward.{chosen, chosen_not}
use Rattle.c_inits.proofs.Filled.{fields_at, pass_member, member_field, member_known, member_shaped, member_at, member_shape, certain, no_fields}
use Rattle.c_inits.proofs.Tags.{by_member, standing}

-- texts are compared byte by byte
pub same_bytes : (a b : List ℕ) → bytes_eq a b ≡ same_name a b
same_bytes [] [] = refl
same_bytes [] (y ∷ b) = refl
same_bytes (x ∷ a) [] = refl
same_bytes (x ∷ a) (y ∷ b) = ap (λ t. eqb x y && t) (same_bytes a b)

-- a member of another name
pub pass_other : (table : Table) (k : ℕ) (ms : List MemberTerm) (m : MemberTerm) (name : List ℕ) (test : Bool) → k < length ms → m ≡ get_or ms k m → test ≡ has_name m.name name → test ≡ false →
    own (fields_from table k ms) name ≡ own (fields_from table (k + 1) ms) name
pass_other table k ms m name test lt e h f =
    ap (λ fs. own fs name) (fields_at table k ms m lt e)
    ∙ by_member (λ fs. own fs name ≡ own (fields_from table (k + 1) ms) name) m.name m.bits (type_of table m.ty.0) k (shape_of (fillable table) (type_of table m.ty.0)) (fields_from table (k + 1) ms)
    refl (λ s. chosen_not (has_name m.name name) _ _ (sym h ∙ f))

pub pass_unfilled : (table : Table) (k : ℕ) (ms : List MemberTerm) (m : MemberTerm) (name : List ℕ) (filled : Bool) → k < length ms → m ≡ get_or ms k m → IsFilled table m filled → filled ≡ false →
    own (fields_from table k ms) name ≡ own (fields_from table (k + 1) ms) name
pass_unfilled table k ms m name filled lt e h f = ap (λ fs. own fs name) (pass_member table k ms m filled lt e h f)

-- a member that can be initialised stands under its position among all fields
pub stands_at : (table : Table) (limit k : ℕ) (ms : List MemberTerm) (m : MemberTerm) (filled : Bool) → AreComplete table ms → k < length ms → m ≡ get_or ms k m → IsFilled table m filled → filled ≡ true →
    shape_in (fields_from table 0 ms) k [] ≡ Some (type_shape table limit m.ty.0)
stands_at table limit k ms m filled complete lt e fill f =
    standing table 0 k k ms m (omega arith) (member_at table limit k ms m filled complete lt e fill f) (certain table limit k ms m filled complete lt e fill f)
    ∙ ap (λ s. Some s) (member_shape table limit k ms m filled complete lt e fill f)

-- the member of that name
pub take_own : (table : Table) (limit k : ℕ) (ms : List MemberTerm) (m : MemberTerm) (name : List ℕ) (test filled : Bool) → AreComplete table ms → k < length ms → m ≡ get_or ms k m → test ≡ has_name m.name name → test ≡ true → IsFilled table m filled → filled ≡ true →
    IsStep table limit (fields_from table 0 ms) (own (fields_from table k ms) name) (Member k) m.ty.0
take_own table limit k ms m name test filled complete lt e h t fill f = record {
  is =
      ap (λ fs. own fs name) (member_field table limit k ms m filled complete lt e fill f)
      ∙ chosen (has_name m.name name) _ _ (sym h ∙ t);
  position = k;
  member = refl;
  within = stands_at table limit k ms m filled complete lt e fill f;
  known = member_known table limit k ms m filled complete lt e fill f;
  shaped = member_shaped table limit k ms m filled complete lt e fill f;
}

pub no_own : (table : Table) (k : ℕ) (ms : List MemberTerm) (name : List ℕ) → length ms ≤ k → own (fields_from table k ms) name ≡ None
no_own table k ms name le = ap (λ fs. own fs name) (no_fields table k ms le)

-- a structure or union by its fields
pub named_in : (s : Shape) (fs : Fields) (name : List ℕ) → HasFields s fs → named s name ≡ or_else (own fs name) (in_unnamed fs name)
named_in (Scalar type) fs name h = absurd h
named_in (Elements type of length) fs name h = absurd h
named_in (Structured type list) fs name h = ap (λ l. or_else (own l name) (in_unnamed l name)) h
named_in (Overlaid type list) fs name h = ap (λ l. or_else (own l name) (in_unnamed l name)) h

pub shape_of_member : (s : Shape) (fs : Fields) (k : ℕ) → HasFields s fs → shape_at s (Member k ∷ []) ≡ shape_in fs k []
shape_of_member (Scalar type) fs k h = absurd h
shape_of_member (Elements type of length) fs k h = absurd h
shape_of_member (Structured type list) fs k h = ap (λ l. shape_in l k []) h
shape_of_member (Overlaid type list) fs k h = ap (λ l. shape_in l k []) h

-- a member with a name of its own, and one in which there is no such member
pub pass_named : (table : Table) (k : ℕ) (ms : List MemberTerm) (m : MemberTerm) (name : List ℕ) (unnamed : Bool) → k < length ms → m ≡ get_or ms k m → unnamed ≡ is_none m.name → unnamed ≡ false →
    in_unnamed (fields_from table k ms) name ≡ in_unnamed (fields_from table (k + 1) ms) name
pass_named table k ms m name unnamed lt e h f =
    ap (λ fs. in_unnamed fs name) (fields_at table k ms m lt e)
    ∙ by_member (λ fs. in_unnamed fs name ≡ in_unnamed (fields_from table (k + 1) ms) name) m.name m.bits (type_of table m.ty.0) k (shape_of (fillable table) (type_of table m.ty.0)) (fields_from table (k + 1) ms)
    refl (λ s. go m.name s (sym h ∙ f))
  where
    go : (own_name : Option (List ℕ)) (s : Shape) → is_none own_name ≡ false → in_unnamed (Field own_name k s (fields_from table (k + 1) ms)) name ≡ in_unnamed (fields_from table (k + 1) ms) name
    go (Some n) s e = refl
    go None s e = cc

pub skip_unfilled : (table : Table) (k : ℕ) (ms : List MemberTerm) (m : MemberTerm) (name : List ℕ) (filled : Bool) → k < length ms → m ≡ get_or ms k m → IsFilled table m filled → filled ≡ false →
    in_unnamed (fields_from table k ms) name ≡ in_unnamed (fields_from table (k + 1) ms) name
skip_unfilled table k ms m name filled lt e h f = ap (λ fs. in_unnamed fs name) (pass_member table k ms m filled lt e h f)

pub no_unnamed : (table : Table) (k : ℕ) (ms : List MemberTerm) (name : List ℕ) → length ms ≤ k → in_unnamed (fields_from table k ms) name ≡ None
no_unnamed table k ms name le = ap (λ fs. in_unnamed fs name) (no_fields table k ms le)

module _ (table : Table) (limit k : ℕ) (ms : List MemberTerm) (m : MemberTerm) (name : List ℕ) (unnamed filled : Bool) (complete : AreComplete table ms) (lt : k < length ms) (e : m ≡ get_or ms k m) (h : unnamed ≡ is_none m.name) (t : unnamed ≡ true) (fill : IsFilled table m filled) (f : filled ≡ true) where
  pub unnamed_at : in_unnamed (fields_from table k ms) name ≡ or_else (moved (Member k ∷ []) (named (type_shape table limit m.ty.0) name)) (in_unnamed (fields_from table (k + 1) ms) name)
  unnamed_at = ap (λ fs. in_unnamed fs name) (member_field table limit k ms m filled complete lt e fill f) ∙ go m.name (sym h ∙ t)
    where
      go : (own_name : Option (List ℕ)) → is_none own_name ≡ true → in_unnamed (Field own_name k (type_shape table limit m.ty.0) (fields_from table (k + 1) ms)) name ≡ or_else (moved (Member k ∷ []) (named (type_shape table limit m.ty.0) name)) (in_unnamed (fields_from table (k + 1) ms) name)
      go None e = refl
      go (Some n) e = cc

  pub pass_searched : named (type_shape table limit m.ty.0) name ≡ None → in_unnamed (fields_from table k ms) name ≡ in_unnamed (fields_from table (k + 1) ms) name
  pass_searched none = unnamed_at ∙ ap (λ o. or_else (moved (Member k ∷ []) o) (in_unnamed (fields_from table (k + 1) ms) name)) none

  pub take_searched : (before middle after : Path) (next : ℕ) → middle ≡ before ++ Member k ∷ [] → LeadsTo table limit (named (type_shape table limit m.ty.0) name) middle after next → LeadsTo table limit (in_unnamed (fields_from table k ms) name) before after next
  take_searched before middle after next at found = record {
    way = Member k ∷ found.way;
    is = unnamed_at ∙ ap (λ o. or_else (moved (Member k ∷ []) o) (in_unnamed (fields_from table (k + 1) ms) name)) found.is;
    along = found.along ∙ ap (λ p. p ++ found.way) at ∙ append_assoc before (Member k ∷ []) found.way;
  }

-- one step to an own member
pub leads_to_own : (table : Table) (limit : ℕ) (s : Shape) (fs : Fields) (name : List ℕ) (step : PathStep) (next : ℕ) (before after : Path) → HasFields s fs → IsStep table limit fs (own fs name) step next → after ≡ before ++ step ∷ [] →
    LeadsTo table limit (named s name) before after next
leads_to_own table limit s fs name step next before after h found at = record {
  way = step ∷ [];
  is = named_in s fs name h ∙ ap (λ o. or_else o (in_unnamed fs name)) found.is;
  along = at;
}

pub own_within : (table : Table) (limit : ℕ) (s : Shape) (fs : Fields) (place : Option SubObject) (step : PathStep) (next : ℕ) → HasFields s fs → IsStep table limit fs place step next → shape_at s (step ∷ []) ≡ Some (type_shape table limit next)
own_within table limit s fs place step next h found = ap (λ p. shape_at s (p ∷ [])) found.member ∙ shape_of_member s fs found.position h ∙ found.within

pub none_test : {A : Type 0} (o : Option A) (b : Bool) → is_some o ≡ not b → b ≡ is_none o
none_test o true h = sym (ap not h)
none_test o false h = sym (ap not h)
