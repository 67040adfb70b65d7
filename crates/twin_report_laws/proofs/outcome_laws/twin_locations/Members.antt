-- Members of lists.
use Rattle.std.proofs.Common.{◌≡◌, ◌⊎◌, ℕ, zero, suc, List, [], ◌∷◌, ◌++◌, map, Some, refl, sym, ap, subst, inl, inr}
use Rattle.std.specs.List.{slice_get, flat_map}
use Rattle.twin_report_laws.proofs.outcome_laws.twin_locations.Options.{some_one, none_some}

abbrev pub Member : {X : Type 0} → List X → X → Type 0
Member [] x = ⊥
Member (y ∷ ys) x = (y ≡ x) ⊎ Member ys x

pub member_at : {X : Type 0} (xs : List X) (i : ℕ) (x : X) → slice_get xs i ≡ Some x → Member xs x
member_at [] i x at = absurd (none_some at)
member_at (y ∷ xs) zero x at = inl (some_one at)
member_at (y ∷ xs) (suc i) x at = inr (member_at xs i x at)

pub at_member : {X : Type 0} (xs : List X) (x : X) → Member xs x → (i : ℕ) × (slice_get xs i ≡ Some x)
at_member [] x h = absurd h
at_member (y ∷ xs) x (inl same) = (0, ap Some same)
at_member (y ∷ xs) x (inr h) = (let (i, at) = at_member xs x h in (suc i, at))

pub member_left : {X : Type 0} (xs ys : List X) (x : X) → Member xs x → Member (xs ++ ys) x
member_left [] ys x h = absurd h
member_left (z ∷ xs) ys x (inl same) = inl same
member_left (z ∷ xs) ys x (inr h) = inr (member_left xs ys x h)

pub member_right : {X : Type 0} (xs ys : List X) (x : X) → Member ys x → Member (xs ++ ys) x
member_right [] ys x h = h
member_right (z ∷ xs) ys x h = inr (member_right xs ys x h)

pub member_split : {X : Type 0} (xs ys : List X) (x : X) → Member (xs ++ ys) x → Member xs x ⊎ Member ys x
member_split [] ys x h = inr h
member_split (z ∷ xs) ys x (inl same) = inl (inl same)
member_split (z ∷ xs) ys x (inr h) = elim (member_split xs ys x h) [ inl a ↦ inl (inr a) | inr b ↦ inr b ]

pub member_map : {X Y : Type 0} (f : X → Y) (xs : List X) (y : Y) → Member (map f xs) y → (x : X) × Member xs x × (f x ≡ y)
member_map f [] y h = absurd h
member_map f (x ∷ xs) y (inl same) = (x, inl refl, same)
member_map f (x ∷ xs) y (inr h) = (let (z, there, is) = member_map f xs y h in (z, inr there, is))

pub map_member : {X Y : Type 0} (f : X → Y) (xs : List X) (x : X) → Member xs x → Member (map f xs) (f x)
map_member f [] x h = absurd h
map_member f (y ∷ xs) x (inl same) = inl (ap f same)
map_member f (y ∷ xs) x (inr h) = inr (map_member f xs x h)

pub member_flat : {X Y : Type 0} (f : X → List Y) (xs : List X) (y : Y) → Member (flat_map f xs) y → (x : X) × Member xs x × Member (f x) y
member_flat f [] y h = absurd h
member_flat f (x ∷ xs) y h = elim (member_split (f x) (flat_map f xs) y h) [
  | inl here ↦ (x, inl refl, here)
  | inr later ↦ (let (z, there, is) = member_flat f xs y later in (z, inr there, is))
]

pub flat_member : {X Y : Type 0} (f : X → List Y) (xs : List X) (x : X) (y : Y) → Member xs x → Member (f x) y → Member (flat_map f xs) y
flat_member f [] x y h k = absurd h
flat_member f (z ∷ xs) x y (inl same) k = member_left (f z) (flat_map f xs) y (subst (λ w. Member (f w) y) (sym same) k)
flat_member f (z ∷ xs) x y (inr h) k = member_right (f z) (flat_map f xs) y (flat_member f xs x y h k)
