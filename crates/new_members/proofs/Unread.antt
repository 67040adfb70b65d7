-- A row that no constraint reads.
use Rattle.std.proofs.Common.{◌≡◌, ◌⊎◌, ◌↔◌, ℕ, ◌/◌, ◌≤◌, List, length, Some, Contains, sym, ap, ◌∙◌, subst, inl, inr, arith}
use Rattle.std.proofs.lemmas.Bool.{cases_lt}
use Rattle.std.specs.List.{range_with_len}
use Rattle.sol_model.specs.declared.system.System.{System}
use Rattle.sol_model.specs.Families.{Family, Has}
use Rattle.sol_model.specs.Solutions.{IsEdge}
use Rattle.sol_model.specs.Systems.{IsLocation, location_count}
use Rattle.sol_model.proofs.Members.{Contains-at, at_Contains, at_range}
use Rattle.edge_book.specs.Leaving.{targets_of}
use Rattle.edge_book.proofs.Targets.{target_listed}
use Rattle.new_members.specs.News.{AreAmong, IsFact, IsGrown, IsIn, IsReader, Renews}
use Rattle.new_members.proofs.Splitting.{unread_edge, unread_fact}

-- a row without targets among the readers has no reader
pub no_reader : (S : System) (row : ℕ) (readers : List (ℕ × ℕ)) (items : List ℕ) → length items ≡ 0 → items ≡ targets_of row readers
    → ((at number : ℕ) → (Contains readers (at, number) ↔ IsReader S at number)) → (number : ℕ) → IsReader S row number → ⊥
no_reader S row readers items none are iff number reads =
    let listed : Contains items number = subst (λ (xs : List ℕ). Contains xs number) (sym are) (target_listed row number readers ((iff row number).1 reads)) in
    absurd (let l = listed.1 in omega arith)

-- what the row has is among all locations
grown_all : (S : System) (F G : Family) (row : ℕ) (words : List ℕ) → ((r l : ℕ) → Has G r l → Has F r l ⊎ ((r ≡ row) × IsIn words l)) → ((l : ℕ) → IsIn words l → IsLocation S l)
    → IsGrown F G row (range_with_len 0 (location_count S))
grown_all S F G row words adds known r l h = elim (adds r l h) [
  | inl old ↦ inl old
  | inr now ↦ inr (now.0, Contains-at (range_with_len 0 (location_count S)) l l (at_range 0 (location_count S) l (known l now.1) ∙ ap (λ (k : ℕ). Some k) (omega arith)))
]

-- no rule demands another edge
pub same_edges : (S : System) (F G : Family) (row : ℕ) (words : List ℕ) → ((r l : ℕ) → Has G r l → Has F r l ⊎ ((r ≡ row) × IsIn words l)) → ((l : ℕ) → IsIn words l → IsLocation S l)
    → ((number : ℕ) → IsReader S row number → ⊥) → (book : List (ℕ × ℕ)) → Renews book book (IsEdge S F) (IsEdge S G)
same_edges S F G row words adds known none book = record {
  stays = λ a b h. h;
  sound = λ a b h. inl h;
  whole = λ a b e. (let n = at_Contains S.constraints e.0 e.1 in
      inl (e.0, e.1, unread_edge S F G row (range_with_len 0 (location_count S)) (grown_all S F G row words adds known) e.0 a b (λ reads. none n.0 (e.0, n.2, reads)) e.2));
}

-- nor another fact
pub same_facts : (S : System) (F G : Family) (row : ℕ) (words : List ℕ) → ((r l : ℕ) → Has G r l → Has F r l ⊎ ((r ≡ row) × IsIn words l)) → ((l : ℕ) → IsIn words l → IsLocation S l)
    → ((number : ℕ) → IsReader S row number → ⊥) → (facts : List (ℕ × ℕ)) → Renews facts facts (IsFact S F) (IsFact S G)
same_facts S F G row words adds known none facts = record {
  stays = λ a b h. h;
  sound = λ a b h. inl h;
  whole = λ a b e. (let n = at_Contains S.constraints e.0 e.1 in
      inl (e.0, e.1, unread_fact S F G row (range_with_len 0 (location_count S)) (grown_all S F G row words adds known) e.0 a b (λ reads. none n.0 (e.0, n.2, reads)) e.2));
}

-- where no word has anything new, the row has all
pub nothing_new : (F : Family) (row first end : ℕ) (words : List ℕ) → end ≤ first → AreAmong F row words first end → (r l : ℕ) → (Has F r l ↔ (Has F r l ⊎ ((r ≡ row) × IsIn words l)))
nothing_new F row first end words none among r l = (
  λ h. inl h,
  λ h. elim h [
    | inl old ↦ old
    | inr new ↦ subst (λ (n : ℕ). Has F n l) (sym new.0) (elim (cases_lt (l / 64) first) [
      | inl before ↦ among l new.1 (inl before)
      | inr past ↦ among l new.1 (inr (omega arith))
    ])
  ],
)
