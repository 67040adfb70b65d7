-- The edges of a book by the row that they leave.
use Rattle.std.proofs.Common.{◌≡◌, ℕ, Bool, true, false, MatchBool, cond, eqb, Vec, Global, List, [], ◌∷◌, ◌++◌, map, slice_get, Contains, true≢false, refl, sym, ap, ◌∙◌, inl, inr, arith, eqb-true, eq-eqb}
use Rattle.std.specs.List.{filter}
use Rattle.std.proofs.lemmas.List.{map-append}
use Rattle.std.proofs.lemmas.List.Elements.{filter-append, Contains-append_left, Contains-append_right, Contains-append_cases}
use Rattle.std.proofs.lemmas.Option.{same_Some}
use Rattle.sol_model.proofs.Members.{at_Contains}
use Rattle.edge_book.specs.Leaving.{listed, targets_of, IsIndexed}

abbrev from_row : ℕ → ℕ × ℕ → Bool
from_row row edge = eqb edge.0 row

abbrev to_row : ℕ × ℕ → ℕ
to_row edge = edge.1

one : (x y : ℕ) → x ≡ y → Contains (x ∷ []) y
one x y e = (0, omega arith, e)

pub only_one : {X : Type 0} (x y : X) → Contains (x ∷ []) y → x ≡ y
only_one x y h =
    let w = at_Contains (x ∷ []) y h in
    let first : w.0 ≡ 0 = (let lt = w.1 in omega arith) in
    sym (same_Some y x (sym w.2 ∙ ap (slice_get (x ∷ [])) first))

-- a target of a row's edge is listed
pub target_listed : (row to : ℕ) (book : List (ℕ × ℕ)) → Contains book (row, to) → Contains (targets_of row book) to
target_listed row to [] h = absurd (let l = h.1 in omega arith)
target_listed row to (e ∷ es) h =
    let P : Bool → Type 0 = λ b. Contains (map to_row (cond b (e ∷ filter (from_row row) es) (filter (from_row row) es))) to in
    let Q : Bool → Type 0 = λ b. eqb e.0 row ≡ b → P b in
    elim (eqb e.0 row) as Q [
      | true ↦ λ yes. elim (Contains-append_cases (e ∷ []) es (row, to) h) [
        | inl here ↦ Contains-append_left (e.1 ∷ []) (targets_of row es) to (one e.1 to (ap to_row (only_one e (row, to) here)))
        | inr there ↦ Contains-append_right (e.1 ∷ []) (targets_of row es) to (target_listed row to es there)
      ]
      | false ↦ λ no. elim (Contains-append_cases (e ∷ []) es (row, to) h) [
        | inl here ↦ absurd (true≢false (sym (eq-eqb e.0 row (ap (λ (p : ℕ × ℕ). p.0) (only_one e (row, to) here))) ∙ no))
        | inr there ↦ target_listed row to es there
      ]
    ] refl

-- and nothing else
pub listed_target : (row to : ℕ) (book : List (ℕ × ℕ)) → Contains (targets_of row book) to → Contains book (row, to)
listed_target row to [] h = absurd (let l = h.1 in omega arith)
listed_target row to (e ∷ es) h =
    let P : Bool → Type 0 = λ b. eqb e.0 row ≡ b → Contains (map to_row (cond b (e ∷ filter (from_row row) es) (filter (from_row row) es))) to → Contains (e ∷ es) (row, to) in
    elim (eqb e.0 row) as P [
      | true ↦ λ yes has. elim (Contains-append_cases (e.1 ∷ []) (targets_of row es) to has) [
        | inl here ↦ Contains-append_left (e ∷ []) es (row, to) (0, omega arith, (λ i. (eqb-true e.0 row yes i, only_one e.1 to here i)))
        | inr there ↦ Contains-append_right (e ∷ []) es (row, to) (listed_target row to es there)
      ]
      | false ↦ λ no has. Contains-append_right (e ∷ []) es (row, to) (listed_target row to es has)
    ] refl h

-- one edge more
pub targets_push : (row a b : ℕ) (book : List (ℕ × ℕ)) → targets_of row (book ++ (a, b) ∷ []) ≡ targets_of row book ++ cond (eqb a row) (b ∷ []) []
targets_push row a b book =
    ap (map to_row) (filter-append (from_row row) book ((a, b) ∷ [])) ∙ map-append to_row (filter (from_row row) book) (filter (from_row row) ((a, b) ∷ []))
    ∙ ap (λ (xs : List ℕ). targets_of row book ++ xs) (elim (eqb a row) as (λ (t : Bool). map to_row (cond t ((a, b) ∷ []) []) ≡ cond t (b ∷ []) []) [ true ↦ refl | false ↦ refl ])

-- a set that got a new pair
pub pushed : (old new : List (ℕ × ℕ)) (key : ℕ × ℕ) (b : Bool) → MatchBool b (new ≡ old ++ key ∷ []) (new ≡ old) → b ≡ true → new ≡ old ++ key ∷ []
pushed old new key true m e = m
pushed old new key false m e = absurd (true≢false (sym e))

-- the lists of a book with one edge more
pub indexed_push : (old mid new : List (Vec ℕ Global)) (keys more : List (ℕ × ℕ)) (a b : ℕ) → IsIndexed old keys → ((row : ℕ) → listed mid row ≡ listed old row)
    → ((row : ℕ) → listed new row ≡ listed mid row ++ cond (eqb a row) (b ∷ []) []) → more ≡ keys ++ (a, b) ∷ [] → IsIndexed new more
indexed_push old mid new keys more a b indexed same pushed e row =
    pushed row ∙ ap (λ (xs : List ℕ). xs ++ cond (eqb a row) (b ∷ []) []) (same row ∙ indexed row) ∙ sym (targets_push row a b keys) ∙ ap (targets_of row) (sym e)
