-- The rows of library names by their numbers.
use Rattle.std.proofs.Common.{arith, ◌≡◌, ◌∙◌, ℕ, zero, suc, ◌+◌, ◌-◌, ◌<◌, ◌&&◌, Bool, true, false, cond, List, [], ◌∷◌, drop, take, Option, Some, None, refl, sym, ap, inl, inr}
use Rattle.std.specs.List.{slice_get, list_all}
use Rattle.std.specs.Str.{bytes_eq}
use Rattle.std.specs.Cmp.Lexicographic.{bytes_decides}
use Rattle.std.proofs.lemmas.Bool.{cases_lt, false≢true}
use Rattle.lib_summaries.specs.Table.{Row, Numbered, rows, find_from, summary_of}
use Rattle.link_names.specs.Shape.{is_function_shape}
use Rattle.covered_runs.specs.covered_programs.library_names.Names.{NumbersKnown}

none_some : {X : Type 0} → {x : X} → ◌≡◌ {A = Option X} None (Some x) → ⊥
none_some h = cc

some_one : {X : Type 0} → {x y : X} → ◌≡◌ {A = Option X} (Some x) (Some y) → x ≡ y
some_one h = cc

-- what is found from a number on stands there
record StandsFrom (n : ℕ) (table : List Row) (own : List ℕ) (found : Numbered) : Type 0 where
  at : ℕ
  number : found.number ≡ n + at
  row : slice_get table at ≡ Some found.row
  name : found.row.name ≡ own

found_there : (n : ℕ) (table : List Row) (name : List ℕ) (found : Numbered) → find_from n table name ≡ Some found → StandsFrom n table name found
found_there n [] name found h = absurd (none_some h)
found_there n (r ∷ rest) name found h = by (bytes_eq r.name name) refl h (found_there (n + 1) rest name found)
  where
    by : (b : Bool) → bytes_eq r.name name ≡ b → cond b (Some (record { number = n; row = r })) (find_from (n + 1) rest name) ≡ Some found
        → (find_from (n + 1) rest name ≡ Some found → StandsFrom (n + 1) rest name found) → StandsFrom n (r ∷ rest) name found
    by true is e f =
        let same : (let x : Numbered = record { number = n; row = r } in x) ≡ found = some_one e in
        record {
          at = 0;
          number = sym (ap (λ (x : Numbered). x.number) same) ∙ (let z : n ≡ n + 0 = omega arith in z);
          row = ap (λ (x : Numbered). Some x.row) same;
          name = sym (ap (λ (x : Numbered). x.row.name) same) ∙ (bytes_decides r.name name).0 is;
        }
    by false is e f =
        let s = f e in
        record { at = suc s.at; number = s.number ∙ (let z : (n + 1) + s.at ≡ n + suc s.at = omega arith in z); row = s.row; name = s.name }

first_true : (a b : Bool) → (a && b) ≡ true → a ≡ true
first_true true b e = refl
first_true false b e = absurd (false≢true e)

second_true : (a b : Bool) → (a && b) ≡ true → b ≡ true
second_true true b e = e
second_true false b e = absurd (false≢true e)

get_dropped : (k : ℕ) (xs : List Row) (j : ℕ) → slice_get xs (k + j) ≡ slice_get (drop k xs) j
get_dropped zero xs j = ap (slice_get xs) (let z : 0 + j ≡ j = omega arith in z)
get_dropped (suc k) [] j = refl
get_dropped (suc k) (x ∷ xs) j = ap (slice_get (x ∷ xs)) (let z : suc k + j ≡ suc (k + j) = omega arith in z) ∙ get_dropped k xs j

-- the last rows are those of objects
objects_last : (j : ℕ) (row : Row) → slice_get (drop 55 rows) j ≡ Some row → is_function_shape row.shape ≡ false
unfolding rows
objects_last zero row h = sym (ap (λ (x : Row). is_function_shape x.shape) (some_one h))
objects_last (suc zero) row h = sym (ap (λ (x : Row). is_function_shape x.shape) (some_one h))
objects_last (suc (suc zero)) row h = sym (ap (λ (x : Row). is_function_shape x.shape) (some_one h))
objects_last (suc (suc (suc j))) row h = absurd (none_some h)

-- the others are those of functions
pub row_taken : (k n : ℕ) (xs : List Row) (x : Row) → slice_get xs k ≡ Some x → k < n → list_all (λ (r : Row). is_function_shape r.shape) (take n xs) ≡ true → is_function_shape x.shape ≡ true
row_taken k n [] x at lt all = absurd (none_some at)
row_taken k zero (y ∷ ys) x at lt all = absurd (omega arith)
row_taken zero (suc n) (y ∷ ys) x at lt all = ap (λ (r : Row). is_function_shape r.shape) (sym (some_one at)) ∙ first_true (is_function_shape y.shape) (list_all (λ (r : Row). is_function_shape r.shape) (take n ys)) all
row_taken (suc k) (suc n) (y ∷ ys) x at lt all = row_taken k n ys x at (omega arith) (second_true (is_function_shape y.shape) (list_all (λ (r : Row). is_function_shape r.shape) (take n ys)) all)

functions_first : list_all (λ (r : Row). is_function_shape r.shape) (take 55 rows) ≡ true
unfolding rows
functions_first = refl

pub numbers_known : NumbersKnown
unfolding summary_of
numbers_known name found h =
    let s = found_there 0 rows name found h in
    let number : found.number ≡ s.at = s.number ∙ (let z : 0 + s.at ≡ s.at = omega arith in z) in
    let row_is : slice_get rows found.number ≡ Some found.row = ap (slice_get rows) number ∙ s.row in
    record {
      row_is = row_is;
      name_is = s.name;
      function = λ lt. row_taken found.number 55 rows found.row row_is lt functions_first;
      below = λ e. elim (cases_lt found.number 55) [
        | inl less ↦ less
        | inr more ↦
            let split : found.number ≡ 55 + (found.number - 55) = omega arith in
            absurd
            (false≢true
            (sym (objects_last (found.number - 55) found.row (sym (get_dropped 55 rows (found.number - 55)) ∙ (ap (slice_get rows) (sym split) ∙ row_is))) ∙ e))
      ];
    }
