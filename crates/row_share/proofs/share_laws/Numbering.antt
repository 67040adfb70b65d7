-- New numbers of the rows below one, and the steps of loops that map and filter.
use Rattle.std.proofs.Common.{◌≡◌, ℕ, ◌+◌, ◌<◌, ◌≤◌, Bool, true, false, cond, eqb, leb, List, [], ◌∷◌, ◌++◌, map, take, length, get_or, Some, slice_get, refl, sym, ◌∙◌, ap, subst, inl, inr, arith, add-one}
use Rattle.std.specs.List.{filter}
use Rattle.std.proofs.lemmas.Bool.{cases_eq, and_left, and_right, lt-leb, ne_eqb}
use Rattle.std.proofs.lemmas.List.{map_more, get_or_append_left, get_or_push, append-nil, length-append}
use Rattle.std.proofs.lemmas.List.Elements.{filter-append}
use Rattle.std.proofs.lemmas.Option.{get_or_from_slice_get, slice_get_within}
use Rattle.row_share.specs.share_laws.Renumbering.{new_row, own_below, is_own}

-- the same for the rows below one
pub record AreNumbersBelow (start : ℕ) (of row : List ℕ) (n : ℕ) : Type 0 where
  pub count : length row ≡ n
  pub locations : (old : ℕ) → old < n → old < start → new_row row old ≡ old
  pub own : (old : ℕ) → old < n → start ≤ old → get_or of old 0 ≡ old → new_row row old ≡ start + own_below start of old
  pub others : (old : ℕ) → old < n → start ≤ old → new_row row old ≡ new_row row (get_or of old 0)

pub map_step : {X Y : Type 0} (f : X → Y) (xs : List X) (i : ℕ) (x : X) (y : Y) (ys ys' : List Y) → slice_get xs i ≡ Some x → y ≡ f x → ys ≡ map f (take i xs) → ys' ≡ ys ++ y ∷ [] → ys' ≡ map f (take (i + 1) xs)
map_step {X} {Y} f xs i x y ys ys' at is old new =
    new ∙ ap (λ (zs : List Y). zs ++ y ∷ []) old ∙ ap (λ (z : Y). map f (take i xs) ++ z ∷ []) (is ∙ ap f (sym (get_or_from_slice_get xs i x x at))) ∙ sym (map_more f xs i x (slice_get_within xs i x at))

filter_step : {X Y : Type 0} (f : X → Y) (p : Y → Bool) (xs : List X) (i : ℕ) (x : X) → slice_get xs i ≡ Some x → filter p (map f (take (i + 1) xs)) ≡ filter p (map f (take i xs)) ++ cond (p (f x)) (f x ∷ []) []
filter_step {X} {Y} f p xs i x at =
    ap (filter p) (sym (map_step f xs i x (f x) (map f (take i xs)) (map f (take i xs) ++ f x ∷ []) at refl refl refl)) ∙ filter-append p (map f (take i xs)) (f x ∷ [])

pub keep_step : {X Y : Type 0} (f : X → Y) (p : Y → Bool) (xs : List X) (i : ℕ) (x : X) (y : Y) (ys ys' : List Y) → slice_get xs i ≡ Some x → y ≡ f x → p y ≡ true → ys ≡ filter p (map f (take i xs)) → ys' ≡ ys ++ y ∷ [] → ys' ≡ filter p (map f (take (i + 1) xs))
keep_step {X} {Y} f p xs i x y ys ys' at is passes old new =
    new ∙ ap (λ (zs : List Y). zs ++ y ∷ []) old ∙ ap (λ (z : Y). filter p (map f (take i xs)) ++ z ∷ []) is
    ∙ ap (λ (b : Bool). filter p (map f (take i xs)) ++ cond b (f x ∷ []) []) (sym (ap p (sym is) ∙ passes)) ∙ sym (filter_step f p xs i x at)

pub drop_step : {X Y : Type 0} (f : X → Y) (p : Y → Bool) (xs : List X) (i : ℕ) (x : X) (y : Y) (ys ys' : List Y) → slice_get xs i ≡ Some x → y ≡ f x → p y ≡ false → ys ≡ filter p (map f (take i xs)) → ys' ≡ ys → ys' ≡ filter p (map f (take (i + 1) xs))
drop_step {X} {Y} f p xs i x y ys ys' at is fails old new =
    new ∙ old ∙ sym (append-nil (filter p (map f (take i xs))))
    ∙ ap (λ (b : Bool). filter p (map f (take i xs)) ++ cond b (f x ∷ []) []) (sym (ap p (sym is) ∙ fails)) ∙ sym (filter_step f p xs i x at)

pub own_step : (start : ℕ) (of : List ℕ) (n : ℕ) → own_below start of (n + 1) ≡ own_below start of n + cond (is_own start of n) 1 0
own_step start of n = ap (own_below start of) (add-one n)

pub own_not : (start : ℕ) (of : List ℕ) (n : ℕ) → is_own start of n ≡ false → own_below start of (n + 1) ≡ own_below start of n
own_not start of n lacks = own_step start of n ∙ ap (λ (b : Bool). own_below start of n + cond b 1 0) lacks ∙ (let m = own_below start of n in let e : m + 0 ≡ m = omega arith in e)

pub own_is : (start : ℕ) (of : List ℕ) (n : ℕ) → is_own start of n ≡ true → own_below start of (n + 1) ≡ own_below start of n + 1
own_is start of n is = own_step start of n ∙ ap (λ (b : Bool). own_below start of n + cond b 1 0) is

pub below_not : (start : ℕ) (of : List ℕ) (n : ℕ) → n < start → is_own start of n ≡ false
below_not start of n lt = and_left (leb start n) (eqb (get_or of n 0) n) (lt-leb start n lt)

pub other_not : (start : ℕ) (of : List ℕ) (n : ℕ) → (get_or of n 0 ≡ n → ⊥) → is_own start of n ≡ false
other_not start of n apart = and_right (leb start n) (eqb (get_or of n 0) n) (ne_eqb (get_or of n 0) n apart)

-- a number pushed
pub numbers_push : (start : ℕ) (of row : List ℕ) (n new : ℕ) → AreNumbersBelow start of row n → ((old : ℕ) → old < n + 1 → get_or of old 0 ≤ old)
    → (n < start → new ≡ n) → (start ≤ n → get_or of n 0 ≡ n → new ≡ start + own_below start of n) → (start ≤ n → get_or of n 0 < n → new ≡ new_row row (get_or of n 0))
    → AreNumbersBelow start of (row ++ new ∷ []) (n + 1)
numbers_push start of row n new old small low own other =
    let long = old.count in
    let before : (k : ℕ) → k < n → new_row (row ++ new ∷ []) k ≡ new_row row k = λ k lt. get_or_append_left row (new ∷ []) k k (omega arith) in
    let here : new_row (row ++ new ∷ []) n ≡ new = get_or_push row new n n long in
    record {
      count = length-append row (new ∷ []) ∙ ap (λ (m : ℕ). m + 1) long;
      locations = λ k lt l. elim (cases_eq k n) [
        | inl same ↦ ap (new_row (row ++ new ∷ [])) same ∙ here ∙ low (omega arith) ∙ sym same
        | inr apart ↦ before k (omega arith) ∙ old.locations k (omega arith) l
      ];
      own = λ k lt above is. elim (cases_eq k n) [
        | inl same ↦ ap (new_row (row ++ new ∷ [])) same ∙ here ∙ own (omega arith) (subst (λ (j : ℕ). get_or of j 0 ≡ j) same is) ∙ ap (λ (j : ℕ). start + own_below start of j) (sym same)
        | inr apart ↦ before k (omega arith) ∙ old.own k (omega arith) above is
      ];
      others = λ k lt above. elim (cases_eq k n) [
        | inl same ↦ subst (λ (j : ℕ). new_row (row ++ new ∷ []) j ≡ new_row (row ++ new ∷ []) (get_or of j 0)) (sym same) (elim (cases_eq (get_or of n 0) n) [
          | inl own ↦ ap (new_row (row ++ new ∷ [])) (sym own)
          | inr apart ↦ (let le = small n (omega arith) in let less : get_or of n 0 < n = omega arith in
              here ∙ other (omega arith) less ∙ sym (before (get_or of n 0) less))
        ])
        | inr apart ↦ (let le = small k lt in before k (omega arith) ∙ old.others k (omega arith) above ∙ sym (before (get_or of k 0) (omega arith)))
      ];
    }
