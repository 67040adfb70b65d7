-- Lists that get one item more.
use Rattle.std.proofs.Common.{◌≡◌, ℕ, ◌+◌, ◌<◌, ◌≤◌, Bool, true, false, List, [], ◌∷◌, ◌++◌, length, get_or, map, Contains, refl, sym, ◌∙◌, ap, subst, arith, below_more}
use Rattle.std.specs.List.{list_any, range_with_len}
use Rattle.std.proofs.Math.ListN.{get_or-append}
use Rattle.std.proofs.lemmas.List.{get_or_push, length-append}
use Rattle.std.proofs.lemmas.List.Folds.{Any-from_list_any, list_any_at}
use Rattle.std.proofs.lemmas.List.FromFn.{get_or-map-range_with_len, length-map-range_with_len, map-range_with_len_more}

-- a fact of each item with its place
pub each_pushed : {X : Type 0} (P : ℕ → X → Type 0) (xs ys : List X) (x d : X) (n : ℕ) → ys ≡ xs ++ x ∷ [] → length xs ≡ n → ((k : ℕ) → k < n → P k (get_or xs k d)) → P n x
    → (k : ℕ) → k < n + 1 → P k (get_or ys k d)
each_pushed P xs ys x d n is e below here =
    below_more (λ k. P k (get_or ys k d)) n
    (λ k lt. let within : k < length xs = omega arith in subst (P k) (sym (ap (λ zs. get_or zs k d) is ∙ get_or-append xs (x ∷ []) d k within)) (below k lt))
    (subst (P n) (sym (ap (λ zs. get_or zs n d) is ∙ get_or_push xs x d n e)) here)

pub length_pushed : {X : Type 0} (xs ys : List X) (x : X) (n : ℕ) → ys ≡ xs ++ x ∷ [] → length xs ≡ n → length ys ≡ n + 1
length_pushed xs ys x n is e = ap length is ∙ (simp length-append (omega arith))

-- a list that is computed from places
pub read_map : {X : Type 0} (f : ℕ → X) (n i : ℕ) (xs : List X) (d : X) → xs ≡ map f (range_with_len 0 n) → i < n → get_or xs i d ≡ f i
read_map f n i xs d e lt = ap (λ ys. get_or ys i d) e ∙ get_or-map-range_with_len f 0 n i i d lt (omega arith)

pub map_pushed : {X : Type 0} (f : ℕ → X) (n : ℕ) (xs ys : List X) (x : X) → xs ≡ map f (range_with_len 0 n) → ys ≡ xs ++ x ∷ [] → x ≡ f n → ys ≡ map f (range_with_len 0 (n + 1))
map_pushed f n xs ys x e is value = is ∙ (ap (λ zs. zs ++ x ∷ []) e ∙ (ap (λ z. map f (range_with_len 0 n) ++ z ∷ []) value ∙ sym (map-range_with_len_more f 0 n n (omega arith))))

-- whether some item passes a test
pub any_in : {X : Type 0} (p : X → Bool) (xs : List X) → list_any p xs ≡ true → (x : X) × Contains xs x × (p x ≡ true)
any_in p xs h = let a = Any-from_list_any p xs h in (a.1, (a.0, a.2, a.3), a.4)

pub in_any : {X : Type 0} (p : X → Bool) (xs : List X) (x : X) → Contains xs x → p x ≡ true → list_any p xs ≡ true
in_any p xs x h holds = list_any_at p xs h.0 x h.1 (ap p h.2 ∙ holds)

-- a list of one number
pub one_item : (xs : List ℕ) → 1 ≤ length xs → length xs < 2 → xs ≡ get_or xs 0 0 ∷ []
one_item [] least most = absurd (omega arith)
one_item (x ∷ []) least most = refl
one_item (x ∷ y ∷ xs) least most = absurd (omega arith)
