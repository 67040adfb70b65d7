-- One location more in an index.
use Rattle.std.proofs.Common.{arith, ◌≡◌, ℕ, zero, suc, ◌+◌, ◌<◌, ◌&&◌, true, false, nat_eq, Bool, cond, List, [], ◌∷◌, Option, Some, None, IsSome, MatchOption, length, get_or, slice_get, refl, ap, sym, ◌∙◌, subst}
use Rattle.std.specs.Option.{is_some}
use Rattle.std.specs.Cmp.{both_tied}
use Rattle.std.specs.Bool.{nat_lt}
use Rattle.std.specs.declared.cmp.Ordering.{Ordering}
use Rattle.std.specs.declared.cmp.Ordering.TheVariants.{Less, Equal, Greater}
use Rattle.std.specs.Ordering.{nat_cmp, ordering_then, is_eq}
use Rattle.std.specs.Str.{bytes_eq}
use Rattle.std.specs.Cmp.Lexicographic.{bytes_decides}
use Rattle.std.proofs.lemmas.Bool.{cases_Bool, cases_lt, cond-true, cond-false}
use Rattle.std.proofs.lemmas.Bool.Decides.{nat_tests}
use Rattle.std.proofs.Common.{inl, inr}
use mathlib.Core.Logic.{⊎_elim, ◌⊎◌}
use Rattle.c_types.specs.Index.{number_at}
use Rattle.c_types.specs.declared.key.ObjectKey.{ObjectKey}
use Rattle.c_types.specs.declared.key.ObjectKey.TheVariants.{Entity, Text, Call, Library, Star, Function, Varargs, Outside}
use Rattle.obj_space.specs.declared.location.Location.{Location}
use Rattle.c_types.specs.declared.term.PathStep.{PathStep}
use Rattle.c_types.specs.Table.{Table}
use Rattle.obj_space.specs.Spots.{IsSpot, spot_by}
use Rattle.obj_space.specs.Found.{HasName, HasKey, NoObject, IsFirst, AreNames, kind_of, number_of, same_object, kept_with}

is_eq-cond : (less same : Bool) → (less ≡ true → same ≡ false) → same ≡ is_eq (cond less Less (cond same Equal Greater))
is_eq-cond true same h = h refl
is_eq-cond false true h = refl
is_eq-cond false false h = refl

tied : (a b : ℕ) → nat_eq a b ≡ is_eq (nat_cmp a b)
tied a b = is_eq-cond (nat_lt a b) (nat_eq a b) (λ less. grind (arith, nat_tests))

-- two numbers are compared as equal where both are
pub is_eq-pair : (a b c d : ℕ) → is_eq (ordering_then (nat_cmp a b) (nat_cmp c d)) ≡ (nat_eq a b && nat_eq c d)
is_eq-pair a b c d = sym (both_tied (nat_eq a b) (nat_eq c d) (nat_cmp a b) (nat_cmp c d) (tied a b) (tied c d))

-- the location in a position
pub at_place : (space : List Location) (l : ℕ) (x : Location) → l < length space → x ≡ get_or space l x → slice_get space l ≡ Some x
at_place [] l x lt is = absurd (omega arith)
at_place (y ∷ space) zero x lt is = ap (λ (z : Location). Some z) (sym is)
at_place (y ∷ space) (suc l) x lt is = at_place space l x (omega arith) is

-- below the next number
below_next : (l n : ℕ) → l < n + 1 → (l < n) ⊎ (l ≡ n)
below_next l n h = ⊎_elim (λ less. inl less) (λ more. let e : l ≡ n = omega arith in inr e) (cases_lt l n)

one_of : {A : Type 0} (a b : A) → Some a ≡ Some b → a ≡ b
one_of a b h = cc

module _ (names new : List (List ℕ × ℕ)) (space : List Location) (n : ℕ) (x : Location) (at : slice_get space n ≡ Some x)
    (here : number_at new x.name ≡ Some n) (others : (q : List ℕ) → (x.name ≡ q → ⊥) → number_at new q ≡ number_at names q) (old : AreNames names space n) where
  apart : (q : List ℕ) → bytes_eq x.name q ≡ false → x.name ≡ q → ⊥
  apart q differs e = let yes = (bytes_decides x.name q).1 e in cc

  found : (q : List ℕ) (l : ℕ) → number_at new q ≡ Some l → HasName space l q
  found q l h =
      ⊎_elim
      (λ y.
      let same : x.name ≡ q = (bytes_decides x.name q).0 y in
      let is : n ≡ l = one_of n l (sym here ∙ (ap (number_at new) same ∙ h)) in
      subst (λ (m : ℕ). HasName space m q) is (x, at, same))
      (λ f. old.found q l (sym (others q (apart q f)) ∙ h))
      (cases_Bool (bytes_eq x.name q))

  each_before : (y : Location) → IsSome (number_at names y.name) → IsSome (number_at new y.name)
  each_before y h =
      ⊎_elim
      (λ e. ap is_some (sym (ap (number_at new) ((bytes_decides x.name y.name).0 e)) ∙ here))
      (λ f. ap is_some (others y.name (apart y.name f)) ∙ h)
      (cases_Bool (bytes_eq x.name y.name))

  pub names_more : AreNames new space (n + 1)
  names_more = record {
    found = found;
    each = λ l y lt is.
        ⊎_elim
        (λ less. each_before y (old.each l y less is))
        (λ e.
        let same : x ≡ y = one_of x y (sym at ∙ (ap (λ (k : ℕ). slice_get space k) (sym e) ∙ is)) in
        ap is_some (ap (λ (z : Location). number_at new z.name) (sym same) ∙ here))
        (below_next l n lt);
  }

-- an object by its kind and number
object_by : ℕ → ℕ → ObjectKey
object_by zero k = Entity k
object_by (suc zero) k = Text k
object_by (suc (suc zero)) k = Call k
object_by (suc (suc (suc zero))) k = Library k
object_by (suc (suc (suc (suc zero)))) k = Star k
object_by (suc (suc (suc (suc (suc zero))))) k = Function k
object_by (suc (suc (suc (suc (suc (suc zero)))))) k = Varargs k
object_by (suc (suc (suc (suc (suc (suc (suc n))))))) k = Outside

object_back : (a : ObjectKey) → object_by (kind_of a) (number_of a) ≡ a
unfolding object_by
object_back (Entity e) = refl
object_back (Text n) = refl
object_back (Call n) = refl
object_back (Library k) = refl
object_back (Star k) = refl
object_back (Function k) = refl
object_back (Varargs e) = refl
object_back Outside = refl

both : (a b c d : ℕ) → (nat_eq a b && nat_eq c d) ≡ true → (a ≡ b) × (c ≡ d)
both a b c d h = (grind (arith, nat_tests), grind (arith, nat_tests))

pub same_is : (a b : ObjectKey) → same_object a b ≡ true → a ≡ b
same_is a b h =
    let e = both (kind_of a) (kind_of b) (number_of a) (number_of b) h in
    sym (object_back a) ∙ (ap (λ (k : ℕ). object_by k (number_of a)) e.0 ∙ (ap (object_by (kind_of b)) e.1 ∙ object_back b))

pub same_self : (a b : ObjectKey) → a ≡ b → same_object a b ≡ true
same_self a b h =
    let kinds : kind_of a ≡ kind_of b = ap kind_of h in
    let numbers : number_of a ≡ number_of b = ap number_of h in
    grind (arith, nat_tests)

module _ (old new : ObjectKey → Option ℕ) (space : List Location) (n : ℕ) (x : Location) (at : slice_get space n ≡ Some x) where
  abbrev NoneBelow : ObjectKey → ℕ → Type 0
  NoneBelow key m = (l : ℕ) → l < m → HasKey space l key → ⊥

  abbrev First : Option ℕ → ObjectKey → ℕ → Type 0
  First o key m = MatchOption o (NoneBelow key m) (λ l. IsFirst space key l)

  -- none below the next number, where the one there is another object's
  none_next : (key : ObjectKey) → (x.key ≡ key → ⊥) → NoneBelow key n → NoneBelow key (n + 1)
  none_next key other none l lt has =
      ⊎_elim
      (λ less. none l less has)
      (λ e.
      let same : x ≡ has.0 = one_of x has.0 (sym at ∙ (ap (λ (k : ℕ). slice_get space k) (sym e) ∙ has.1)) in
      other (ap (λ (z : Location). z.key) same ∙ has.2))
      (below_next l n lt)

  stays : (key : ObjectKey) (o : Option ℕ) → (o ≡ None → x.key ≡ key → ⊥) → First o key n → First o key (n + 1)
  stays key None other h = none_next key (other refl) h
  stays key (Some m) other h = h

  -- a first location is kept where there is one, and the new one where there is none
  kept : (m : Option ℕ) → old x.key ≡ m → ((other : ObjectKey) → new other ≡ kept_with (is_some m) (same_object x.key other) n (old other))
      → ((key : ObjectKey) → First (old key) key n) → (key : ObjectKey) → First (new key) key (n + 1)
  kept (Some m) there after before key =
      subst (λ (o : Option ℕ). First o key (n + 1)) (sym (after key))
      (stays key (old key) (λ none e. let bad : Some m ≡ None = sym there ∙ (ap old e ∙ none) in cc) (before key))
  kept None none after before key =
      ⊎_elim
      (λ y.
      let same : x.key ≡ key = same_is x.key key y in
      let nothing : NoneBelow key n = subst (λ (o : Option ℕ). First o key n) (sym (ap old same) ∙ none) (before key) in
      subst (λ (o : Option ℕ). First o key (n + 1)) (sym (after key ∙ cond-true (same_object x.key key) (Some n) (old key) y))
      (record { here = (x, at, same); before = nothing }))
      (λ f.
      subst (λ (o : Option ℕ). First o key (n + 1)) (sym (after key ∙ cond-false (same_object x.key key) (Some n) (old key) f))
      (stays key (old key) (λ empty e. let yes = same_self x.key key e in cc) (before key)))
      (cases_Bool (same_object x.key key))

  pub firsts_more : ((other : ObjectKey) → new other ≡ kept_with (is_some (old x.key)) (same_object x.key other) n (old other))
      → ((key : ObjectKey) → First (old key) key n) → (key : ObjectKey) → First (new key) key (n + 1)
  firsts_more after before = kept (old x.key) refl after before

-- a location is below their number
pub below_count : (space : List Location) (l : ℕ) (x : Location) → slice_get space l ≡ Some x → l < length space
below_count [] l x h = cc
below_count (y ∷ space) zero x h = omega arith
below_count (y ∷ space) (suc l) x h = let less = below_count space l x h in omega arith

pub first_of_all : (space : List Location) (key : ObjectKey) (o : Option ℕ) → MatchOption o ((l : ℕ) → l < length space → HasKey space l key → ⊥) (λ l. IsFirst space key l)
    → MatchOption o (NoObject space key) (λ l. IsFirst space key l)
first_of_all space key None none = λ l has. none l (below_count space l has.0 has.1) has
first_of_all space key (Some l) first = first

-- there is one first location
first_once : (space : List Location) (key : ObjectKey) (a b : ℕ) → IsFirst space key a → IsFirst space key b → a ≡ b
first_once space key a b at bt =
    ⊎_elim
    (λ less. absurd (bt.before a less at.here))
    (λ more. ⊎_elim (λ less. absurd (at.before b less bt.here)) (λ other. omega arith) (cases_lt b a))
    (cases_lt a b)

pub spot_of : (space : List Location) (table : Table) (key : ObjectKey) (path : List PathStep) (first : ℕ) (result : Option ℕ) → IsFirst space key first
    → ((l : Location) → slice_get space first ≡ Some l → result ≡ spot_by table first l path) → IsSpot space table key path result
spot_of space table key path first result is gives = record {
  none = λ nothing. absurd (nothing first is.here);
  some = λ l location here at.
      let same : first ≡ l = first_once space key first l is here in
      subst (λ (k : ℕ). result ≡ spot_by table k location path) same (gives location (ap (λ (k : ℕ). slice_get space k) same ∙ at));
}

pub no_spot : (space : List Location) (table : Table) (key : ObjectKey) (path : List PathStep) → NoObject space key → IsSpot space table key path None
no_spot space table key path nothing = record {
  none = λ other. refl;
  some = λ l location here at. absurd (nothing l here.here);
}
