-- The classes in which nodes begin.
use Rattle.std.proofs.Common.{arith, ◌≡◌, ℕ, suc, ◌+◌, ◌-◌, ◌<◌, inl, inr, List, [], ◌∷◌, ◌++◌, length, length-append, map, get_or, ap, sym, ◌∙◌, All}
use Rattle.std.specs.Option.{option_map}
use Rattle.std.proofs.Math.ListN.{get_or-append}
use Rattle.std.proofs.lemmas.Bool.{cases_lt}
use Rattle.std.proofs.lemmas.List.{length-map}
use Rattle.std.proofs.lemmas.List.Elements.{All-from_get_or}
use Rattle.std.proofs.lemmas.Option.{slice_get-map, slice_get-get_or, get_or_from_slice_get}
use Rattle.c_types.specs.Table.{Table}
use Rattle.link_model.specs.link_types.Leaders.{AreLeaders}
use Rattle.link_merge.specs.Codes.{AreFirstIds}
use Rattle.link_merge.specs.Kids.{begun}
use Rattle.link_merge.proofs.Codes.{first_if_same}

right : (xs ys : List ℕ) (k : ℕ) → get_or (xs ++ ys) (length xs + k) 0 ≡ get_or ys k 0
right [] ys k = (let none : 0 + k ≡ k = omega arith in ap (λ n. get_or ys n 0) none)
right (x ∷ xs) ys k =
    let next : length (x ∷ xs) + k ≡ suc (length xs + k) = omega arith in
    ap (λ n. get_or (x ∷ xs ++ ys) n 0) next ∙ right xs ys k

get_mapped : (f : ℕ → ℕ) (xs : List ℕ) (k : ℕ) → k < length xs → get_or (map f xs) k 0 ≡ f (get_or xs k 0)
get_mapped f xs k lt = get_or_from_slice_get (map f xs) k (f (get_or xs k 0)) 0 (slice_get-map f xs k ∙ ap (option_map f) (slice_get-get_or xs k 0 lt))

pub begun_many : (leaders firsts : List ℕ) → length (begun leaders firsts) ≡ length leaders + length firsts
begun_many leaders firsts =
    let a = length-append leaders (map (λ k. length leaders + k) firsts) in
    let b = length-map firsts (λ k. length leaders + k) in
    omega arith

begun_left : (leaders firsts : List ℕ) (x : ℕ) → x < length leaders → get_or (begun leaders firsts) x 0 ≡ get_or leaders x 0
begun_left leaders firsts x lt = get_or-append leaders (map (λ k. length leaders + k) firsts) 0 x lt

begun_right : (leaders firsts : List ℕ) (k : ℕ) → k < length firsts → get_or (begun leaders firsts) (length leaders + k) 0 ≡ length leaders + get_or firsts k 0
begun_right leaders firsts k lt = right leaders (map (λ n. length leaders + n) firsts) k ∙ get_mapped (λ n. length leaders + n) firsts k lt

pub begun_within : (leaders firsts : List ℕ) → AreLeaders leaders → All (λ k. k < length firsts) firsts → All (λ l. l < length (begun leaders firsts)) (begun leaders firsts)
begun_within leaders firsts lead within = All-from_get_or (λ l. l < length (begun leaders firsts)) (begun leaders firsts) 0 each
  where
    each : (x : ℕ) → x < length (begun leaders firsts) → get_or (begun leaders firsts) x 0 < length (begun leaders firsts)
    each x lt = elim (cases_lt x (length leaders)) [
      | inl less ↦
          let many = begun_many leaders firsts in
          let here = begun_left leaders firsts x less in
          let below = lead.below x less in
          omega arith
      | inr ge ↦
          let many = begun_many leaders firsts in
          let k = x - length leaders in
          let place : x ≡ length leaders + k = omega arith in
          let at : get_or (begun leaders firsts) x 0 ≡ length leaders + get_or firsts k 0 = ap (λ n. get_or (begun leaders firsts) n 0) place ∙ begun_right leaders firsts k (omega arith) in
          let below = within k 0 (omega arith) in
          omega arith
    ]

pub begun_itself : (leaders firsts : List ℕ) → AreLeaders leaders → All (λ k. k < length firsts) firsts → ((k : ℕ) → k < length firsts → get_or firsts (get_or firsts k 0) 0 ≡ get_or firsts k 0)
    → (x : ℕ) → x < length (begun leaders firsts) → get_or (begun leaders firsts) (get_or (begun leaders firsts) x 0) 0 ≡ get_or (begun leaders firsts) x 0
begun_itself leaders firsts lead within itself x lt = elim (cases_lt x (length leaders)) [
  | inl less ↦
      let here = begun_left leaders firsts x less in
      let below = lead.below x less in
      ap (λ n. get_or (begun leaders firsts) n 0) here ∙ (begun_left leaders firsts (get_or leaders x 0) (omega arith) ∙ (lead.itself x less ∙ sym here))
  | inr ge ↦
      let many = begun_many leaders firsts in
      let k = x - length leaders in
      let place : x ≡ length leaders + k = omega arith in
      let lk : k < length firsts = omega arith in
      let at : get_or (begun leaders firsts) x 0 ≡ length leaders + get_or firsts k 0 = ap (λ n. get_or (begun leaders firsts) n 0) place ∙ begun_right leaders firsts k lk in
      ap (λ n. get_or (begun leaders firsts) n 0) at ∙ (begun_right leaders firsts (get_or firsts k 0) (within k 0 lk) ∙ (ap (λ n. length leaders + n) (itself k lk) ∙ sym at))
]

-- the first same types
pub firsts_within : (table : Table) (firsts : List ℕ) → AreFirstIds table firsts → All (λ k. k < length firsts) firsts
firsts_within table firsts are =
    let all = are.all in
    All-from_get_or (λ k. k < length firsts) firsts 0 (λ i lt. (let known = (are.each i (omega arith)).known in omega arith))

pub firsts_itself : (table : Table) (firsts : List ℕ) → AreFirstIds table firsts → (k : ℕ) → k < length firsts → get_or firsts (get_or firsts k 0) 0 ≡ get_or firsts k 0
firsts_itself table firsts are k lt =
    let all = are.all in
    let first = are.each k (omega arith) in
    first_if_same table firsts are (get_or firsts k 0) k first.known (omega arith) first.same
