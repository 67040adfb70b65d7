-- The place of a thing in a row of lists.
use Rattle.std.proofs.Common.{◌≡◌, ℕ, zero, suc, ◌+◌, ◌-◌, ◌<◌, ◌≤◌, Option, Some, None, List, [], ◌∷◌, ◌++◌, length, take, refl, sym, ap, subst, ◌∙◌, arith, inl, inr}
use Rattle.std.specs.List.{slice_get, flat_map, sum_by}
use Rattle.std.proofs.lemmas.Bool.{cases_lt}
use Rattle.std.proofs.lemmas.List.Sums.{sum_by-cons}
use Rattle.std.proofs.lemmas.Option.{slice_get_within}

none_some : {X : Type 0} → {x : X} → ◌≡◌ {A = Option X} None (Some x) → ⊥
none_some h = cc

one_of : {X : Type 0} → {x y : X} → ◌≡◌ {A = Option X} (Some x) (Some y) → x ≡ y
one_of h = cc

pub get_left : {X : Type 0} (xs ys : List X) (k : ℕ) → k < length xs → slice_get (xs ++ ys) k ≡ slice_get xs k
get_left [] ys k lt = absurd (omega arith)
get_left (x ∷ xs) ys zero lt = refl
get_left (x ∷ xs) ys (suc k) lt = get_left xs ys k (omega arith)

pub get_right : {X : Type 0} (xs ys : List X) (k n : ℕ) → n ≡ length xs + k → slice_get (xs ++ ys) n ≡ slice_get ys k
get_right [] ys k n e = let same : n ≡ k = omega arith in ap (slice_get ys) same
get_right (x ∷ xs) ys k zero e = absurd (omega arith)
get_right (x ∷ xs) ys k (suc n) e = get_right xs ys k n (omega arith)

-- how many things stand before a list
abbrev pub before : {X A : Type 0} → (X → List A) → List X → ℕ → ℕ
before f xs i = sum_by (λ x. length (f x)) (take i xs)

next_list : {X A : Type 0} (f : X → List A) (z : X) (zs : List X) (i : ℕ) → before f (z ∷ zs) (suc i) ≡ length (f z) + before f zs i
next_list f z zs i = sum_by-cons (λ x. length (f x)) z (take i zs)

pub at_place : {X A : Type 0} (f : X → List A) (xs : List X) (i j g : ℕ) (y : X) (x : A) → slice_get xs i ≡ Some y → slice_get (f y) j ≡ Some x → g ≡ before f xs i + j → slice_get (flat_map f xs) g ≡ Some x
at_place f [] i j g y x at there e = absurd (none_some at)
at_place f (z ∷ zs) zero j g y x at there e =
    let same : z ≡ y = one_of at in
    let here : slice_get (f z) j ≡ Some x = ap (λ w. slice_get (f w) j) same ∙ there in
    let place : g ≡ j = omega arith in
    ap (slice_get (f z ++ flat_map f zs)) place ∙ (get_left (f z) (flat_map f zs) j (slice_get_within (f z) j x here) ∙ here)
at_place f (z ∷ zs) (suc i) j g y x at there e =
    let more = next_list f z zs i in
    get_right (f z) (flat_map f zs) (before f zs i + j) g (omega arith) ∙ at_place f zs i j (before f zs i + j) y x at there refl

-- the list and the place in it of a thing of the row
pub record IsPlace {X A : Type 0} (f : X → List A) (xs : List X) (g : ℕ) (x : A) : Type 0 where
  pub list : ℕ
  pub number : ℕ
  pub of : X
  pub of_is : slice_get xs list ≡ Some of
  pub is : slice_get (f of) number ≡ Some x
  pub place : g ≡ before f xs list + number

place_next : {X A : Type 0} (f : X → List A) (z : X) (zs : List X) (g k : ℕ) (x : A) → g ≡ length (f z) + k → IsPlace f zs k x → IsPlace f (z ∷ zs) g x
place_next f z zs g k x e p =
    let more = next_list f z zs p.list in
    let q = p.place in
    record { list = suc p.list; number = p.number; of = p.of; of_is = p.of_is; is = p.is; place = omega arith }

pub place_of : {X A : Type 0} (f : X → List A) (xs : List X) (g : ℕ) (x : A) → slice_get (flat_map f xs) g ≡ Some x → IsPlace f xs g x
place_of f [] g x at = absurd (none_some at)
place_of f (z ∷ zs) g x at = elim (cases_lt g (length (f z))) [
  | inl lt ↦ record { list = 0; number = g; of = z; of_is = refl; is = sym (get_left (f z) (flat_map f zs) g lt) ∙ at; place = omega arith }
  | inr ge ↦
      let k = g - length (f z) in
      let e : g ≡ length (f z) + k = omega arith in
      place_next f z zs g k x e (place_of f zs k x (sym (get_right (f z) (flat_map f zs) k g e) ∙ at))
]

-- things at one place are one
pub place_once : {X A : Type 0} (f : X → List A) (xs : List X) (i j k l : ℕ) (y z : X) (v w : A) → slice_get xs i ≡ Some y → slice_get (f y) j ≡ Some v → slice_get xs k ≡ Some z → slice_get (f z) l ≡ Some w
    → before f xs i + j ≡ before f xs k + l → (i ≡ k) × (j ≡ l)
place_once f [] i j k l y z v w a b c d e = absurd (none_some a)
place_once f (x ∷ xs) zero j zero l y z v w a b c d e = (refl, (omega arith))
place_once f (x ∷ xs) zero j (suc k) l y z v w a b c d e =
    let more = next_list f x xs k in
    let within = slice_get_within (f x) j v (ap (λ m. slice_get (f m) j) (one_of a) ∙ b) in
    absurd (omega arith)
place_once f (x ∷ xs) (suc i) j zero l y z v w a b c d e =
    let more = next_list f x xs i in
    let within = slice_get_within (f x) l w (ap (λ m. slice_get (f m) l) (one_of c) ∙ d) in
    absurd (omega arith)
place_once f (x ∷ xs) (suc i) j (suc k) l y z v w a b c d e =
    let more = next_list f x xs i in
    let other = next_list f x xs k in
    let p = place_once f xs i j k l y z v w a b c d (omega arith) in
    (ap suc p.0, p.1)
