-- Each declared type of a name agrees with the type of the program's object or function.
use Rattle.std.proofs.Common.{arith, ◌≡◌, ◌≢◌, ◌∙◌, ℕ, zero, suc, ◌<◌, ◌≤◌, Bool, true, false, cond, List, [], ◌∷◌, ◌++◌, Contains, length, map, take, Option, Some, None, refl, sym, ap, subst, inl, inr}
use Rattle.std.specs.Prelude.{fold}
use Rattle.std.specs.List.{slice_get, filter}
use Rattle.std.specs.Option.{option_map_or}
use Rattle.std.specs.Str.{bytes_eq}
use Rattle.std.specs.Cmp.Lexicographic.{bytes_decides}
use Rattle.std.proofs.lemmas.Bool.{cases_Bool, cases_lt, false≢true}
use Rattle.std.proofs.lemmas.Option.{slice_get_within, slice_get-get_or}
use Rattle.c_types.specs.declared.term.Form.{Form}
use Rattle.c_types.specs.declared.term.Form.TheVariants.{Fixed, Variadic, Unspecified}
use Rattle.c_types.specs.Trees.{Ctype, Ctypes, ArrayOf, FunctionFrom}
use Rattle.type_rules.specs.Kinds.{IsVariadic}
use Rattle.type_rules.specs.Conversions.{Agree}
use Rattle.type_rules.specs.Sizes.{with_one}
use Rattle.link_names.specs.declared.declared.Declared.{Declared}
use Rattle.link_names.specs.Externals.{Joined, item_of, name_at, declared_type, is_named}
use Rattle.link_names.specs.Together.{composite, together, of_name, type_together, linked_type}
use Rattle.link_names.specs.Faults.{IsClean, AreClean}
use Rattle.linked_laws.proofs.alike_laws.Deciding.{agree_stable}

some_one : {X : Type 0} → {x y : X} → ◌≡◌ {A = Option X} (Some x) (Some y) → x ≡ y
some_one h = cc

-- what a declared type is to the type that some declarations give together: the same, or it lacks the list or the length
abbrev pub Fits : Ctype → Ctype → Type 0
Fits (FunctionFrom r ps Unspecified) (FunctionFrom q qs g) = r ≡ q
Fits (ArrayOf a None) (ArrayOf b n) = a ≡ b
Fits d t = d ≡ t

fits_self : (t : Ctype) → Fits t t
fits_self (FunctionFrom r ps Unspecified) = refl
fits_self (FunctionFrom r ps Fixed) = refl
fits_self (FunctionFrom r ps Variadic) = refl
fits_self (ArrayOf a None) = refl
fits_self (ArrayOf a (Some n)) = refl
fits_self t = refl

fits_same : (t x : Ctype) → t ≡ x → Fits x t
fits_same t x e = subst (λ (y : Ctype). Fits y t) e (fits_self t)

fits_function : (d r : Ctype) (ps : Ctypes) (q : Ctype) (qs : Ctypes) (g : Form) → Fits d (FunctionFrom r ps Unspecified) → r ≡ q → Fits d (FunctionFrom q qs g)
fits_function (FunctionFrom s ss Unspecified) r ps q qs g k e = k ∙ e
fits_function (FunctionFrom s ss Fixed) r ps q qs g k e = absurd (let bad : ⊥ = cc in bad)
fits_function (FunctionFrom s ss Variadic) r ps q qs g k e = absurd (let bad : ⊥ = cc in bad)
fits_function (ArrayOf a None) r ps q qs g k e = absurd (let bad : ⊥ = cc in bad)
fits_function (ArrayOf a (Some n)) r ps q qs g k e = absurd (let bad : ⊥ = cc in bad)
fits_function d r ps q qs g k e = absurd (let bad : ⊥ = cc in bad)

fits_array : (d a b : Ctype) (n : Option ℕ) → Fits d (ArrayOf a None) → a ≡ b → Fits d (ArrayOf b n)
fits_array (ArrayOf c None) a b n k e = k ∙ e
fits_array (ArrayOf c (Some m)) a b n k e = absurd (let bad : ⊥ = cc in bad)
fits_array (FunctionFrom s ss Unspecified) a b n k e = absurd (let bad : ⊥ = cc in bad)
fits_array (FunctionFrom s ss Fixed) a b n k e = absurd (let bad : ⊥ = cc in bad)
fits_array (FunctionFrom s ss Variadic) a b n k e = absurd (let bad : ⊥ = cc in bad)
fits_array d a b n k e = absurd (let bad : ⊥ = cc in bad)

-- one type more
fits_composite : (d t x : Ctype) → Agree t x → Fits d t → Fits d (composite t x)
fits_composite d (FunctionFrom r ps Unspecified) (FunctionFrom q qs g) h k = fits_function d r ps q qs g k h
fits_composite d (FunctionFrom r ps Unspecified) x h k = absurd (let no_way : ⊥ = cc in no_way)
fits_composite d (ArrayOf a None) (ArrayOf b n) h k = fits_array d a b n k h
fits_composite d (ArrayOf a None) x h k = absurd (let no_way : ⊥ = cc in no_way)
fits_composite d t x h k = k

fits_last : (t x : Ctype) → Agree t x → Fits x (composite t x)
fits_last (FunctionFrom r ps Unspecified) x h = fits_self x
fits_last (ArrayOf a None) x h = fits_self x
fits_last (FunctionFrom r ps Fixed) (FunctionFrom q qs Unspecified) h = sym h
fits_last (FunctionFrom r ps Variadic) (FunctionFrom q qs Unspecified) h = sym h
fits_last (ArrayOf a (Some m)) (ArrayOf b None) h = sym h
fits_last t x h = fits_same t x h

-- what fits agrees
agree_self : (t : Ctype) → Agree t t
agree_self (FunctionFrom r ps Unspecified) = refl
agree_self (FunctionFrom r ps Fixed) = refl
agree_self (FunctionFrom r ps Variadic) = refl
agree_self (ArrayOf a None) = refl
agree_self (ArrayOf a (Some n)) = refl
agree_self t = refl

agree_fits : (d t : Ctype) → Fits d t → Agree d t
agree_fits (FunctionFrom r ps Unspecified) (FunctionFrom q qs g) k = k
agree_fits (ArrayOf a None) (ArrayOf b n) k = k
agree_fits d t k = subst (Agree d) k (agree_self d)

with_one_agrees : (d t : Ctype) → Fits d t → Agree d (with_one t)
with_one_agrees d (ArrayOf a None) k = agree_fits d (ArrayOf a (Some 1)) (fits_array d a a (Some 1) k refl)
with_one_agrees d t k = agree_fits d t k

-- a function that is defined with ()
open_agrees : (s : Ctype) (ss : Ctypes) (g : Form) (r : Ctype) (ps : Ctypes) → s ≡ r → Agree (FunctionFrom s ss g) (FunctionFrom r ps Unspecified)
open_agrees s ss Unspecified r ps e = e
open_agrees s ss Fixed r ps e = e
open_agrees s ss Variadic r ps e = e

fits_open : (d q : Ctype) (qs : Ctypes) (g : Form) (r : Ctype) (ps : Ctypes) → Fits d (FunctionFrom q qs g) → r ≡ q → Agree d (FunctionFrom r ps Unspecified)
fits_open (FunctionFrom s ss Unspecified) q qs g r ps k e = k ∙ sym e
fits_open (FunctionFrom s ss Fixed) q qs g r ps k e = subst (λ (y : Ctype). Agree y (FunctionFrom r ps Unspecified)) (sym k) (open_agrees q qs g r ps (sym e))
fits_open (FunctionFrom s ss Variadic) q qs g r ps k e = subst (λ (y : Ctype). Agree y (FunctionFrom r ps Unspecified)) (sym k) (open_agrees q qs g r ps (sym e))
fits_open (ArrayOf a None) q qs g r ps k e = absurd (let bad : ⊥ = cc in bad)
fits_open (ArrayOf a (Some n)) q qs g r ps k e = absurd (let bad : ⊥ = cc in bad)
fits_open d q qs g r ps k e = absurd (let bad : ⊥ = cc in bad)

own_agrees : (d r : Ctype) (ps : Ctypes) (t : Ctype) → Fits (FunctionFrom r ps Unspecified) t → Fits d t → Agree d (FunctionFrom r ps Unspecified)
own_agrees d r ps (FunctionFrom q qs g) o k = fits_open d q qs g r ps k o
own_agrees d r ps t o k = absurd (let bad : ⊥ = cc in bad)

-- a declared type agrees with the one that the program's object or function has
pub linked_agrees : (body defined : Bool) (d own t : Ctype) → Fits own t → Fits d t → Agree d (linked_type body defined own t)
linked_agrees true true d (FunctionFrom r ps Unspecified) t o k = own_agrees d r ps t o k
linked_agrees true false d (FunctionFrom r ps Unspecified) t o k = own_agrees d r ps t o k
linked_agrees true true d own t o k = with_one_agrees d t k
linked_agrees true false d own t o k = agree_fits d t k
linked_agrees false true d own t o k = with_one_agrees d t k
linked_agrees false false d own t o k = agree_fits d t k

-- a type that is variadic is so in the program, where it is the one of what makes the name
pub linked_variadic : (body defined : Bool) (own t : Ctype) → IsVariadic own → Fits own t → IsVariadic (linked_type body defined own t)
linked_variadic body defined (FunctionFrom r ps Variadic) t h fits = subst (λ (y : Ctype). IsVariadic (linked_type body defined (FunctionFrom r ps Variadic) y)) fits (by body defined)
  where
    by : (a b : Bool) → IsVariadic (linked_type a b (FunctionFrom r ps Variadic) (FunctionFrom r ps Variadic))
    by true true = tt
    by true false = tt
    by false true = tt
    by false false = tt
linked_variadic body defined own t h fits = absurd h

-- one declaration more
fold_push : (f : Ctype → Ctype → Ctype) (a : Ctype) (xs : List Ctype) (t : Ctype) → fold f a (xs ++ t ∷ []) ≡ f (fold f a xs) t
fold_push f a [] t = refl
fold_push f a (x ∷ xs) t = fold_push f (f a x) xs t

map_push : (f : Declared → Ctype) (xs : List Declared) (x : Declared) → map f (xs ++ x ∷ []) ≡ map f xs ++ f x ∷ []
map_push f [] x = refl
map_push f (y ∷ xs) x = ap (λ (l : List Ctype). f y ∷ l) (map_push f xs x)

filter_in : (p : Declared → Bool) (xs : List Declared) (x : Declared) → p x ≡ true → filter p (xs ++ x ∷ []) ≡ filter p xs ++ x ∷ []
filter_in p [] x e = ap (λ b. cond b (x ∷ []) []) e
filter_in p (y ∷ xs) x e = elim (cases_Bool (p y)) [
  | inl its ↦
      ap (λ b. cond b (y ∷ filter p (xs ++ x ∷ [])) (filter p (xs ++ x ∷ []))) its
      ∙ (ap (λ (l : List Declared). y ∷ l) (filter_in p xs x e) ∙ sym (ap (λ b. cond b (y ∷ filter p xs) (filter p xs) ++ x ∷ []) its))
  | inr not_its ↦
      ap (λ b. cond b (y ∷ filter p (xs ++ x ∷ [])) (filter p (xs ++ x ∷ []))) not_its
      ∙ (filter_in p xs x e ∙ sym (ap (λ b. cond b (y ∷ filter p xs) (filter p xs) ++ x ∷ []) not_its))
]

filter_out : (p : Declared → Bool) (xs : List Declared) (x : Declared) → p x ≡ false → filter p (xs ++ x ∷ []) ≡ filter p xs
filter_out p [] x e = ap (λ b. cond b (x ∷ []) []) e
filter_out p (y ∷ xs) x e = ap (λ (l : List Declared). cond (p y) (y ∷ l) l) (filter_out p xs x e)

take_one : (xs : List Declared) (n : ℕ) (x : Declared) → slice_get xs n ≡ Some x → take (suc n) xs ≡ take n xs ++ x ∷ []
take_one [] n x e = cc
take_one (y ∷ ys) zero x e = ap (λ (z : Declared). z ∷ []) (some_one e)
take_one (y ∷ ys) (suc n) x e = ap (λ (zs : List Declared). y ∷ zs) (take_one ys n x e)

take_whole : (xs : List Declared) → take (length xs) xs ≡ xs
take_whole [] = refl
take_whole (x ∷ xs) = ap (λ (zs : List Declared). x ∷ zs) (take_whole xs)

present : (xs : List Declared) (k : ℕ) → k < length xs → (x : Declared) × (slice_get xs k ≡ Some x)
present [] k lt = absurd (omega arith)
present (x ∷ xs) zero lt = (x, refl)
present (x ∷ xs) (suc k) lt = present xs k (omega arith)

named_by : (o : Option (List ℕ)) (name : List ℕ) → option_map_or (λ other. bytes_eq other name) o false ≡ true → o ≡ Some name
named_by None name e = absurd (false≢true e)
named_by (Some other) name e = ap Some ((bytes_decides other name).0 e)

module _ (j : Joined) (ds : List Declared) (name : List ℕ) (clean : AreClean j ds (length ds)) where
  -- the declarations of the name among the first so many fit the type that they give together
  record AreAlike (k : ℕ) : Type 0 where
    none : of_name j.units name (take k ds) ≡ [] → (i : ℕ) (d : Declared) → i < k → slice_get ds i ≡ Some d → is_named j.units name d ≡ true → ⊥
    same : (i : ℕ) (d : Declared) → i < k → slice_get ds i ≡ Some d → is_named j.units name d ≡ true → Fits (declared_type j d) (type_together j name (take k ds))

  agrees : (k : ℕ) (x : Declared) → slice_get ds k ≡ Some x → is_named j.units name x ≡ true → of_name j.units name (take k ds) ≢ [] → Agree (type_together j name (take k ds)) (declared_type j x)
  agrees k x at named some =
      let lt = slice_get_within ds k x at in
      let c : IsClean j ds (take k ds) x = clean.each k x lt at in
      let is = named_by (name_at j.units (item_of x)) name named in
      agree_stable (type_together j name (take k ds)) (declared_type j x) (λ ne. c.agrees name is (inr (record { some = some; types = ne })))

  by_list : (k : ℕ) (x : Declared) → slice_get ds k ≡ Some x → is_named j.units name x ≡ true → AreAlike k → (list : List Declared) → of_name j.units name (take k ds) ≡ list → AreAlike (suc k)
  by_list k x at named before [] is =
      let now : of_name j.units name (take (suc k) ds) ≡ x ∷ [] = ap (of_name j.units name) (take_one ds k x at) ∙ (filter_in (is_named j.units name) (take k ds) x named ∙ ap (λ (l : List Declared). l ++ x ∷ []) is) in
      let new : type_together j name (take (suc k) ds) ≡ declared_type j x = ap (λ (l : List Declared). together (map (declared_type j) l)) now in
      record {
        none = λ e i d lt there its. let bad : x ∷ [] ≡ [] = sym now ∙ e in cc;
        same = λ i d lt there its. elim (cases_lt i k) [
          | inl less ↦ absurd (before.none is i d less there its)
          | inr ge ↦
              let here : i ≡ k = omega arith in
              let one : d ≡ x = some_one (sym there ∙ (ap (slice_get ds) here ∙ at)) in
              subst (λ (y : Ctype). Fits (declared_type j d) y) (sym new) (subst (λ (z : Declared). Fits (declared_type j z) (declared_type j x)) (sym one) (fits_self (declared_type j x)))
        ];
      }
  by_list k x at named before (y ∷ ys) is =
      let now : of_name j.units name (take (suc k) ds) ≡ (y ∷ ys) ++ x ∷ [] = ap (of_name j.units name) (take_one ds k x at) ∙ (filter_in (is_named j.units name) (take k ds) x named ∙ ap (λ (l : List Declared). l ++ x ∷ []) is) in
      let old : type_together j name (take k ds) ≡ together (map (declared_type j) (y ∷ ys)) = ap (λ (l : List Declared). together (map (declared_type j) l)) is in
      let new : type_together j name (take (suc k) ds) ≡ composite (type_together j name (take k ds)) (declared_type j x) =
      ap (λ (l : List Declared). together (map (declared_type j) l)) now
      ∙ (ap (fold composite (declared_type j y)) (map_push (declared_type j) ys x)
      ∙ (fold_push composite (declared_type j y) (map (declared_type j) ys) (declared_type j x) ∙ sym (ap (λ (t : Ctype). composite t (declared_type j x)) old))) in
      let alike = agrees k x at named (λ e. let bad : y ∷ ys ≡ [] = sym is ∙ e in cc) in
      record {
        none = λ e i d lt there its. let bad : y ∷ (ys ++ x ∷ []) ≡ [] = sym now ∙ e in cc;
        same = λ i d lt there its. elim (cases_lt i k) [
          | inl less ↦ subst (λ (t : Ctype). Fits (declared_type j d) t) (sym new) (fits_composite (declared_type j d) (type_together j name (take k ds)) (declared_type j x) alike (before.same i d less there its))
          | inr ge ↦
              let here : i ≡ k = omega arith in
              let one : d ≡ x = some_one (sym there ∙ (ap (slice_get ds) here ∙ at)) in
              subst (λ (t : Ctype). Fits (declared_type j d) t) (sym new)
              (subst (λ (z : Declared). Fits (declared_type j z) (composite (type_together j name (take k ds)) (declared_type j x))) (sym one) (fits_last (type_together j name (take k ds)) (declared_type j x) alike))
        ];
      }

  other : (k : ℕ) (x : Declared) → slice_get ds k ≡ Some x → is_named j.units name x ≡ false → AreAlike k → AreAlike (suc k)
  other k x at not_named before =
      let now : of_name j.units name (take (suc k) ds) ≡ of_name j.units name (take k ds) = ap (of_name j.units name) (take_one ds k x at) ∙ filter_out (is_named j.units name) (take k ds) x not_named in
      let type : type_together j name (take (suc k) ds) ≡ type_together j name (take k ds) = ap (λ (l : List Declared). together (map (declared_type j) l)) now in
      let no : (d : Declared) → d ≡ x → is_named j.units name d ≡ true → ⊥ = λ d e its. false≢true (sym not_named ∙ (sym (ap (is_named j.units name) e) ∙ its)) in
      record {
        none = λ e i d lt there its. elim (cases_lt i k) [
          | inl less ↦ before.none (sym now ∙ e) i d less there its
          | inr ge ↦ no d (let here : i ≡ k = omega arith in some_one (sym there ∙ (ap (slice_get ds) here ∙ at))) its
        ];
        same = λ i d lt there its. elim (cases_lt i k) [
          | inl less ↦ subst (λ (t : Ctype). Fits (declared_type j d) t) (sym type) (before.same i d less there its)
          | inr ge ↦ absurd (no d (let here : i ≡ k = omega arith in some_one (sym there ∙ (ap (slice_get ds) here ∙ at))) its)
        ];
      }

  alike : (k : ℕ) → k ≤ length ds → AreAlike k
  alike zero le = record { none = λ e i d lt there its. omega arith; same = λ i d lt there its. absurd (omega arith) }
  alike (suc k) le =
      let (x, at) = present ds k (omega arith) in
      let before = alike k (omega arith) in
      elim (cases_Bool (is_named j.units name x)) [
        | inl its ↦ by_list k x at its before (of_name j.units name (take k ds)) refl
        | inr not_its ↦ other k x at not_its before
      ]

  pub all_fit : (d : Declared) → Contains ds d → is_named j.units name d ≡ true → Fits (declared_type j d) (type_together j name ds)
  all_fit d (i, lt, e) its =
      subst (λ (l : List Declared). Fits (declared_type j d) (type_together j name l)) (take_whole ds) ((alike (length ds) (omega arith)).same i d lt (slice_get-get_or ds i d lt ∙ ap Some e) its)
