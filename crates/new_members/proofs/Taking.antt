-- What a book takes in for one constraint, as edges of one kind.
use Rattle.std.proofs.Common.{◌≡◌, ℕ, Bool, true, false, cond, not, List, [], ◌∷◌, ◌++◌, Contains, MatchBool, sym, ap, ◌∙◌, subst, inl, inr, arith}
use Rattle.std.specs.List.{filter, list_any}
use Rattle.std.proofs.lemmas.Bool.{cases_Bool}
use Rattle.std.proofs.lemmas.List.{append-nil}
use Rattle.std.proofs.lemmas.List.Elements.{All-filter, All-contains, Contains-get_or, Contains-append_left, Contains-append_right, Contains-append_cases, Contains-push, Contains-push_cases}
use Rattle.std.proofs.lemmas.Map.Views.{Contains-from_any}
use Rattle.sol_model.specs.declared.system.System.{System}
use Rattle.sol_model.specs.declared.system.Constraint.{Constraint}
use Rattle.sol_model.specs.Families.{Family}
use Rattle.sol_model.specs.Rules.{DemandsEdge}
use Rattle.edge_book.specs.Edges.{same_pair, TakesPairs}
use Rattle.edge_book.proofs.Pairs.{pair_exact}
use Rattle.edge_book.proofs.Targets.{only_one}
use Rattle.new_members.specs.News.{Takes}

filter_has : (test : ℕ × ℕ → Bool) (xs : List (ℕ × ℕ)) (p : ℕ × ℕ) → Contains (filter test xs) p → Contains xs p
filter_has test xs p h = All-contains (λ x. Contains xs x) (filter test xs) p (All-filter test (λ x. Contains xs x) xs (λ k d lt. Contains-get_or xs k d lt)) h

filter_keeps : (test : ℕ × ℕ → Bool) (xs : List (ℕ × ℕ)) (p : ℕ × ℕ) → Contains xs p → test p ≡ true → Contains (filter test xs) p
filter_keeps test [] p h t = absurd (let l = h.1 in omega arith)
filter_keeps test (x ∷ xs) p h t = elim (Contains-append_cases (x ∷ []) xs p h) [
  | inl here ↦ (let e : x ≡ p = only_one x p here in let holds : test x ≡ true = ap test e ∙ t in
      subst (λ (b : Bool). Contains (cond b (x ∷ filter test xs) (filter test xs)) p) (sym holds) (Contains-append_left (x ∷ []) (filter test xs) p here))
  | inr there ↦ (let rest = filter_keeps test xs p there t in
      elim (test x) as (λ (b : Bool). Contains (cond b (x ∷ filter test xs) (filter test xs)) p) [ true ↦ Contains-append_right (x ∷ []) (filter test xs) p rest | false ↦ rest ])
]

pub takes_pairs : (S : System) (F : Family) (constraint : Constraint) (old new : List (ℕ × ℕ)) (count : ℕ) → TakesPairs S F constraint old new count → Takes old new (DemandsEdge S F constraint)
takes_pairs S F constraint old new count t =
    let test : ℕ × ℕ → Bool = λ pair. not (list_any (same_pair pair) old) in
    record {
      kept = (filter test t.pairs, t.book);
      gains = λ a b. (
        λ h. elim (Contains-append_cases old (filter test t.pairs) (a, b) (subst (λ (xs : List (ℕ × ℕ)). Contains xs (a, b)) t.book h)) [
          | inl o ↦ inl o
          | inr n ↦ inr ((t.demanded.all a b).0 (filter_has test t.pairs (a, b) n))
        ],
        λ h. subst (λ (xs : List (ℕ × ℕ)). Contains xs (a, b)) (sym t.book) (elim h [
          | inl o ↦ Contains-append_left old (filter test t.pairs) (a, b) o
          | inr d ↦ elim (cases_Bool (list_any (same_pair (a, b)) old)) [
            | inl holds ↦ Contains-append_left old (filter test t.pairs) (a, b) (Contains-from_any pair_exact (a, b) old holds)
            | inr fails ↦ Contains-append_right old (filter test t.pairs) (a, b) (filter_keeps test t.pairs (a, b) ((t.demanded.all a b).1 d) (ap not fails))
          ]
        ]),
      );
    }

-- one edge
pub takes_one : (old new : List (ℕ × ℕ)) (from to : ℕ) (b : Bool) → MatchBool b (new ≡ old ++ (from, to) ∷ []) (new ≡ old) → MatchBool b (Contains old (from, to) → ⊥) (Contains old (from, to)) → Takes old new (λ a b. (a ≡ from) × (b ≡ to))
takes_one old new from to true e fails = record {
  kept = ((from, to) ∷ [], e);
  gains = λ a b. (
    λ h. elim (Contains-push_cases old (from, to) (a, b) (subst (λ (xs : List (ℕ × ℕ)). Contains xs (a, b)) e h)) [
      | inl o ↦ inl o
      | inr n ↦ inr (ap (λ (p : ℕ × ℕ). p.0) (sym n), ap (λ (p : ℕ × ℕ). p.1) (sym n))
    ],
    λ h. subst (λ (xs : List (ℕ × ℕ)). Contains xs (a, b)) (sym e) (elim h [
      | inl o ↦ Contains-append_left old ((from, to) ∷ []) (a, b) o
      | inr n ↦ subst (λ (p : ℕ × ℕ). Contains (old ++ (from, to) ∷ []) p) (λ i. (sym n.0 i, sym n.1 i)) (Contains-push old (from, to))
    ]),
  );
}
takes_one old new from to false e has = record {
  kept = ([], e ∙ sym (append-nil old));
  gains = λ a b. (
    λ h. inl (subst (λ (xs : List (ℕ × ℕ)). Contains xs (a, b)) e h),
    λ h. subst (λ (xs : List (ℕ × ℕ)). Contains xs (a, b)) (sym e) (elim h [
      | inl o ↦ o
      | inr n ↦ subst (Contains old) (λ i. (sym n.0 i, sym n.1 i)) has
    ]),
  );
}
