-- First specifiers, one node more at a time, and the places of tags among them.
use Rattle.std.proofs.Common.{arith, ◌≡◌, ℕ, ◌+◌, ◌<◌, Bool, true, false, ◌&&◌, List, [], ◌∷◌, ◌++◌, append-nil, Some, None, cond, refl, ap, ◌∙◌, length}
use Rattle.std.specs.Prelude.{◌==◌, not, nat_lt, slice_index, position}
use Rattle.std.specs.List.{position_or_len}
use Rattle.std.proofs.lemmas.Bool.{lt-ltb, le-ltb, eqb-true, eq-eqb, and_parts}
use Rattle.std.proofs.lemmas.List.Sums.{position_or_len_is}
use Rattle.c_grammar.specs.Productions.{p_struct}
use Rattle.c_senses.specs.Tree.{Source, is_a, any_where, numbers_from}
use Rattle.c_senses.specs.Tags.{tag_declared}
use Rattle.c_tags.specs.tag_numbers.Ordered.{is_first, first_specifiers}
use Rattle.c_tags.proofs.tag_numbers.Listing.{all_next, any_here, any_found}

-- a specifier before a node that has its tag
abbrev pub Same : Source → ℕ → ℕ → Bool
Same s i j = is_a s p_struct j && (tag_declared s j == tag_declared s i)

module _ (s : Source) (i : ℕ) where
  pub first_not : is_first s i ≡ false → first_specifiers s (i + 1) ≡ first_specifiers s i
  first_not e = all_next (is_first s) i ∙ (ap (λ (b : Bool). first_specifiers s i ++ cond b (i ∷ []) []) e ∙ append-nil (first_specifiers s i))

  pub first_here : is_first s i ≡ true → first_specifiers s (i + 1) ≡ first_specifiers s i ++ i ∷ []
  first_here e = all_next (is_first s) i ∙ ap (λ (b : Bool). first_specifiers s i ++ cond b (i ∷ []) []) e

  -- it is none where it is no specifier, or an earlier one has its tag, and else it is one
  pub not_structure : is_a s p_struct i ≡ false → is_first s i ≡ false
  not_structure e = ap (λ (b : Bool). b && not (any_where (Same s i) (numbers_from 0 i))) e

  pub not_again : (j : ℕ) → j < i → is_a s p_struct j ≡ true → tag_declared s j ≡ tag_declared s i → is_first s i ≡ false
  not_again j lt structure same =
      let passes : Same s i j ≡ true = ap (λ (b : Bool). b && (tag_declared s j == tag_declared s i)) structure ∙ eq-eqb (tag_declared s j) (tag_declared s i) same in
      ap (λ (b : Bool). is_a s p_struct i && not b) (any_here (Same s i) i j lt passes) ∙ none (is_a s p_struct i)
    where
      none : (b : Bool) → (b && false) ≡ false
      none true = refl
      none false = refl

  pub is_new : is_a s p_struct i ≡ true → ((j : ℕ) → j < i → is_a s p_struct j ≡ true → tag_declared s j ≡ tag_declared s i → ⊥) → is_first s i ≡ true
  is_new structure differ = ap (λ (b : Bool). b && not (any_where (Same s i) (numbers_from 0 i))) structure ∙ by (any_where (Same s i) (numbers_from 0 i)) refl
    where
      by : (b : Bool) → any_where (Same s i) (numbers_from 0 i) ≡ b → not b ≡ true
      by false e = refl
      by true e =
          let (j, lt, both) = any_found (Same s i) i e in
          let parts = and_parts (is_a s p_struct j) (tag_declared s j == tag_declared s i) both in
          absurd (differ j lt parts.0 (eqb-true (tag_declared s j) (tag_declared s i) parts.1))

-- the place of what stands at one place alone
pub place_is : (p : ℕ → Bool) (xs : List ℕ) (k : ℕ) → k < length xs → p (slice_index xs k) ≡ true → ((j : ℕ) → j < k → p (slice_index xs j) ≡ false) → position p xs ≡ Some k
place_is p xs k lt here before =
    let e : position_or_len p xs ≡ k = position_or_len_is p xs k 0 (omega arith) before (λ _. here) in
    ap (λ (n : ℕ). cond (nat_lt n (length xs)) (Some n) None) e ∙ ap (λ (b : Bool). cond b (Some k) None) (lt-ltb k (length xs) lt)

pub no_place : (p : ℕ → Bool) (xs : List ℕ) → ((j : ℕ) → j < length xs → p (slice_index xs j) ≡ false) → position p xs ≡ None
no_place p xs none =
    let e : position_or_len p xs ≡ length xs = position_or_len_is p xs (length xs) 0 (omega arith) none (λ h. absurd (omega arith)) in
    ap (λ (n : ℕ). cond (nat_lt n (length xs)) (Some n) None) e ∙ ap (λ (b : Bool). cond b (Some (length xs)) None) (le-ltb (length xs) (length xs) (omega arith))
