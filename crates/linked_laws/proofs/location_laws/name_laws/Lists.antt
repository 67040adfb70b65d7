-- What holds of each element, and of each and each later one, by recursion on the list.
use Rattle.std.proofs.Common.{arith, ◌≡◌, ℕ, zero, suc, ◌<◌, List, [], ◌∷◌, ◌++◌, map, Some, sym, subst}
use Rattle.std.specs.Bool.{⊤}
use Rattle.std.specs.List.{slice_get, flat_map}
use Rattle.std.proofs.lemmas.List.Concat.{flat_map-cons}

abbrev pub Every : {X : Type 0} → (X → Type 0) → List X → Type 0
Every P [] = ⊤
Every P (x ∷ xs) = P x × Every P xs

abbrev pub Pairs : {X : Type 0} → (X → X → Type 0) → List X → Type 0
Pairs R [] = ⊤
Pairs R (x ∷ xs) = Every (R x) xs × Pairs R xs

pub every_weaker : {X : Type 0} (P Q : X → Type 0) (xs : List X) → ((x : X) → P x → Q x) → Every P xs → Every Q xs
every_weaker P Q [] f h = tt
every_weaker P Q (x ∷ xs) f (here, more) = (f x here, every_weaker P Q xs f more)

pub every_all : {X : Type 0} (P : X → Type 0) (xs : List X) → ((x : X) → P x) → Every P xs
every_all P [] f = tt
every_all P (x ∷ xs) f = (f x, every_all P xs f)

pub every_append : {X : Type 0} (P : X → Type 0) (xs ys : List X) → Every P xs → Every P ys → Every P (xs ++ ys)
every_append P [] ys h k = k
every_append P (x ∷ xs) ys (here, more) k = (here, every_append P xs ys more k)

pub every_map : {X Y : Type 0} (P : Y → Type 0) (f : X → Y) (xs : List X) → Every (λ x. P (f x)) xs → Every P (map f xs)
every_map P f [] h = tt
every_map P f (x ∷ xs) (here, more) = (here, every_map P f xs more)

pub pairs_weaker : {X : Type 0} (R S : X → X → Type 0) (xs : List X) → ((x y : X) → R x y → S x y) → Pairs R xs → Pairs S xs
pairs_weaker R S [] f h = tt
pairs_weaker R S (x ∷ xs) f (here, more) = (every_weaker (R x) (S x) xs (f x) here, pairs_weaker R S xs f more)

pub pairs_append : {X : Type 0} (R : X → X → Type 0) (xs ys : List X) → Pairs R xs → Pairs R ys → Every (λ x. Every (R x) ys) xs → Pairs R (xs ++ ys)
pairs_append R [] ys h k c = k
pairs_append R (x ∷ xs) ys (here, more) k (across, rest) = (every_append (R x) xs ys here across, pairs_append R xs ys more k rest)

pub pairs_map : {X Y : Type 0} (R : Y → Y → Type 0) (f : X → Y) (xs : List X) → Pairs (λ x y. R (f x) (f y)) xs → Pairs R (map f xs)
pairs_map R f [] h = tt
pairs_map R f (x ∷ xs) (here, more) = (every_map (R (f x)) f xs here, pairs_map R f xs more)

pub every_at : {X : Type 0} (P : X → Type 0) (xs : List X) (k : ℕ) (x : X) → Every P xs → slice_get xs k ≡ Some x → P x
every_at P [] k x h e = cc
every_at P (y ∷ xs) zero x (here, more) e = let same : y ≡ x = cc in subst P same here
every_at P (y ∷ xs) (suc k) x (here, more) e = every_at P xs k x more e

pub pairs_at : {X : Type 0} (R : X → X → Type 0) (xs : List X) (i j : ℕ) (x y : X) → Pairs R xs → i < j → slice_get xs i ≡ Some x → slice_get xs j ≡ Some y → R x y
pairs_at R [] i j x y h lt e f = cc
pairs_at R (z ∷ xs) zero zero x y h lt e f = absurd (omega arith)
pairs_at R (z ∷ xs) zero (suc j) x y (here, more) lt e f = let same : z ≡ x = cc in subst (λ w. R w y) same (every_at (R z) xs j y here f)
pairs_at R (z ∷ xs) (suc i) zero x y h lt e f = absurd (omega arith)
pairs_at R (z ∷ xs) (suc i) (suc j) x y (here, more) lt e f = pairs_at R xs i j x y more (omega arith) e f

-- lists one after another
pub every_flat : {X Y : Type 0} (P : Y → Type 0) (f : X → List Y) (xs : List X) → Every (λ x. Every P (f x)) xs → Every P (flat_map f xs)
every_flat P f [] h = tt
every_flat P f (x ∷ xs) (here, more) = subst (Every P) (sym (flat_map-cons f x xs)) (every_append P (f x) (flat_map f xs) here (every_flat P f xs more))

every_joined : {X Y : Type 0} (R : X → Y → Type 0) (xs : List X) (ys zs whole : List Y) → whole ≡ ys ++ zs → Every (λ x. Every (R x) ys) xs → Every (λ x. Every (R x) zs) xs → Every (λ x. Every (R x) whole) xs
every_joined R [] ys zs whole e h k = tt
every_joined R (x ∷ xs) ys zs whole e (h, hs) (k, ks) = (subst (Every (R x)) (sym e) (every_append (R x) ys zs h k), every_joined R xs ys zs whole e hs ks)

-- what holds across all elements of two lists
pub across_flat : {X Y : Type 0} (R : Y → Y → Type 0) (f : X → List Y) (x : X) (xs : List X) → Every (λ y. Every (λ a. Every (R a) (f y)) (f x)) xs
    → Every (λ a. Every (R a) (flat_map f xs)) (f x)
across_flat R f x [] h = every_all (λ a. Every (R a) (flat_map f [])) (f x) (λ a. tt)
across_flat R f x (y ∷ xs) (here, more) = every_joined R (f x) (f y) (flat_map f xs) (flat_map f (y ∷ xs)) (flat_map-cons f y xs) here (across_flat R f x xs more)

pub pairs_flat : {X Y : Type 0} (R : Y → Y → Type 0) (f : X → List Y) (xs : List X) → Every (λ x. Pairs R (f x)) xs
    → Pairs (λ x y. Every (λ a. Every (R a) (f y)) (f x)) xs → Pairs R (flat_map f xs)
pairs_flat R f [] h k = tt
pairs_flat R f (x ∷ xs) (here, more) (later, rest) =
    subst (Pairs R) (sym (flat_map-cons f x xs))
    (pairs_append R (f x) (flat_map f xs) here (pairs_flat R f xs more rest) (across_flat R f x xs later))
