-- Lists side by side.
use Rattle.std.proofs.Common.{◌≡◌, ℕ, zero, suc, List, [], ◌∷◌, ◌++◌, map, Some, refl, subst, inl, inr}
use Rattle.std.specs.List.{slice_get, flat_map, AllZip}
use Rattle.twin_report_laws.proofs.outcome_laws.twin_locations.Options.{some_one, none_some}
use Rattle.twin_report_laws.proofs.outcome_laws.twin_locations.Members.{Member}

pub at_zip : {A B : Type 0} (R : A → B → Type 0) (xs : List A) (ys : List B) (i : ℕ) (x : A) → AllZip R xs ys → slice_get xs i ≡ Some x → (y : B) × (slice_get ys i ≡ Some y) × R x y
at_zip R [] [] i x h at = absurd (none_some at)
at_zip R [] (b ∷ ys) i x h at = absurd h
at_zip R (a ∷ xs) [] i x h at = absurd h
at_zip R (a ∷ xs) (b ∷ ys) zero x h at = (b, refl, subst (λ z. R z b) (some_one at) h.0)
at_zip R (a ∷ xs) (b ∷ ys) (suc i) x h at = at_zip R xs ys i x h.1 at

pub zip_append : {A B : Type 0} (R : A → B → Type 0) (rs : List A) (bs : List B) (xs : List A) (ys : List B) → AllZip R rs bs → AllZip R xs ys → AllZip R (rs ++ xs) (bs ++ ys)
zip_append R [] [] xs ys h k = k
zip_append R [] (b ∷ bs) xs ys h k = absurd h
zip_append R (a ∷ rs) [] xs ys h k = absurd h
zip_append R (a ∷ rs) (b ∷ bs) xs ys h k = (h.0, zip_append R rs bs xs ys h.1 k)

pub zip_flat : {A B C D : Type 0} (R : A → B → Type 0) (S : C → D → Type 0) (f : A → List C) (g : B → List D) → ((x : A) (y : B) → R x y → AllZip S (f x) (g y))
    → (xs : List A) (ys : List B) → AllZip R xs ys → AllZip S (flat_map f xs) (flat_map g ys)
zip_flat R S f g each [] [] h = tt
zip_flat R S f g each [] (y ∷ ys) h = absurd h
zip_flat R S f g each (x ∷ xs) [] h = absurd h
zip_flat R S f g each (x ∷ xs) (y ∷ ys) h = zip_append S (f x) (g y) (flat_map f xs) (flat_map g ys) (each x y h.0) (zip_flat R S f g each xs ys h.1)

pub zip_maps : {A B C D : Type 0} (R : A → B → Type 0) (S : C → D → Type 0) (f : A → C) (g : B → D) → ((x : A) (y : B) → R x y → S (f x) (g y)) → (xs : List A) (ys : List B) → AllZip R xs ys → AllZip S (map f xs) (map g ys)
zip_maps R S f g each [] [] h = tt
zip_maps R S f g each [] (y ∷ ys) h = absurd h
zip_maps R S f g each (x ∷ xs) [] h = absurd h
zip_maps R S f g each (x ∷ xs) (y ∷ ys) h = (each x y h.0, zip_maps R S f g each xs ys h.1)

-- each item and itself
pub zip_self : {A : Type 0} (R : A → A → Type 0) (xs : List A) → ((x : A) → Member xs x → R x x) → AllZip R xs xs
zip_self R [] h = tt
zip_self R (x ∷ xs) h = (h x (inl refl), zip_self R xs (λ y there. h y (inr there)))
