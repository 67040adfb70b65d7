-- Lists of numbers, and of what has numbers.
use Rattle.std.proofs.Common.{arith, ◌≡◌, ◌∙◌, ℕ, zero, suc, ◌<◌, List, [], ◌∷◌, length, map, Option, Some, None, refl, sym, ap, subst}
use Rattle.std.specs.List.{slice_get, slice_index_or, All}
use Rattle.std.proofs.lemmas.Option.{slice_get_within, slice_get-get_or}
use Rattle.std.proofs.lemmas.List.Elements.{All-map}
use Rattle.core_tree.specs.Rows.{Has}

pub some_one : {X : Type 0} → {x y : X} → ◌≡◌ {A = Option X} (Some x) (Some y) → x ≡ y
some_one h = cc

pub none_some : {X : Type 0} → {x : X} → ◌≡◌ {A = Option X} None (Some x) → ⊥
none_some h = cc

pub present : {X : Type 0} (xs : List X) (k : ℕ) → k < length xs → (x : X) × (slice_get xs k ≡ Some x)
present [] k lt = absurd (omega arith)
present (x ∷ xs) zero lt = (x, refl)
present (x ∷ xs) (suc k) lt = present xs k (omega arith)

-- what stands at a place of a mapped list
pub mapped_at : (f : ℕ → ℕ) (xs : List ℕ) (k c : ℕ) → slice_get (map f xs) k ≡ Some c → (a : ℕ) × (slice_get xs k ≡ Some a) × (f a ≡ c)
mapped_at f [] k c at = absurd (none_some at)
mapped_at f (x ∷ xs) zero c at = (x, refl, some_one at)
mapped_at f (x ∷ xs) (suc k) c at = mapped_at f xs k c at

pub mapped_to : (f : ℕ → ℕ) (xs : List ℕ) (k a : ℕ) → slice_get xs k ≡ Some a → slice_get (map f xs) k ≡ Some (f a)
mapped_to f [] k a at = absurd (none_some at)
mapped_to f (x ∷ xs) zero a at = ap (λ (y : ℕ). Some (f y)) (some_one at)
mapped_to f (x ∷ xs) (suc k) a at = mapped_to f xs k a at

pub has_mapped : (f : ℕ → ℕ) (xs : List ℕ) (a : ℕ) → Has xs a → Has (map f xs) (f a)
has_mapped f xs a (k, at) = (k, mapped_to f xs k a at)

-- a fact of each element
pub all_at : (P : ℕ → Type 0) (xs : List ℕ) (k c : ℕ) → All P xs → slice_get xs k ≡ Some c → P c
all_at P xs k c h at =
    let lt = slice_get_within xs k c at in
    let same : slice_index_or xs k c ≡ c = some_one (sym (slice_get-get_or xs k c lt) ∙ at) in
    subst P same (h k c lt)

pub all_mapped : (P Q : ℕ → Type 0) (f : ℕ → ℕ) (xs : List ℕ) → ((x : ℕ) → Has xs x → P x → Q (f x)) → All P xs → All Q (map f xs)
all_mapped P Q f xs g h = All-map Q f xs (λ k d lt. g (slice_index_or xs k d) (k, slice_get-get_or xs k d lt) (h k d lt))
