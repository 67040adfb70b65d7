-- The work of the worked system.
use Rattle.std.proofs.Common.{◌≡◌, ◌≢◌, ◌⊎◌, ℕ, ◌<◌, ◌&&◌, eqb, ltb, List, [], ◌∷◌, refl, sym, ap, subst, inl, inr, arith, eqb-true}
use Rattle.std.proofs.lemmas.Bool.{and_parts, cases_eq, ltb-true}
use Rattle.sol_model.specs.declared.system.Constraint.{Constraint}
use Rattle.sol_model.specs.declared.system.Constraint.TheVariants.{Address, Copy}
use Rattle.sol_model.specs.Families.{Family, Has}
use Rattle.sol_model.specs.Rules.{DemandsEdge, Satisfies}
use Rattle.sol_model.specs.Solutions.{IsClosed, IsEdge}
use Rattle.work_rounds.specs.Ring.{ring, ring_sets, RingWork}
use Rattle.round_pieces.proofs.Sums.{In, in_list, list_has, list_apart}

-- what a Copy and an Address ask for holds of the sets
copy_met : (from to : ℕ) → ((location : ℕ) → Has ring_sets from location → Has ring_sets to location) → Satisfies ring ring_sets (Copy from to)
copy_met from to kept = record {
  edges = λ a b d location h. subst (λ (n : ℕ). Has ring_sets n location) (sym d.1) (kept location (subst (λ (n : ℕ). Has ring_sets n location) d.0 h));
  facts = λ row location d. absurd d;
}

ring_closed : IsClosed ring ring_sets
ring_closed constraint listed = met (in_list ring.constraints constraint listed)
  where
    met : In constraint ring.constraints → Satisfies ring ring_sets constraint
    met (inl e) = subst (Satisfies ring ring_sets) (sym e) (copy_met 2 1 (λ location h. h))
    met (inr (inl e)) = subst (Satisfies ring ring_sets) (sym e) (copy_met 3 2 (λ location h. h))
    met (inr (inr (inl e))) = subst (Satisfies ring ring_sets) (sym e) (copy_met 1 3 (λ location h. h))
    met (inr (inr (inr (inl e)))) = subst (Satisfies ring ring_sets) (sym e) record {
      edges = λ a b d. absurd d;
      facts = λ row location d. (subst (λ (n : ℕ). Has ring_sets n location) (sym d.0) (subst (Has ring_sets 3) (sym d.1) refl));
    }
    met (inr (inr (inr (inr none)))) = absurd none

module _ (G : Family) (closed : IsClosed ring G) where
  third : Has G 3 0
  third = (closed (Address 3 0) (list_has ring.constraints (Address 3 0) (inr (inr (inr (inl refl)))))).facts 3 0 (refl, refl)

  second : Has G 2 0
  second = (closed (Copy 3 2) (list_has ring.constraints (Copy 3 2) (inr (inl refl)))).edges 3 2 (refl, refl) 0 third

  first : Has G 1 0
  first = (closed (Copy 2 1) (list_has ring.constraints (Copy 2 1) (inl refl))).edges 2 1 (refl, refl) 0 second

  one_of : (row : ℕ) → 0 < row → row < 4 → (row ≡ 1) ⊎ ((row ≡ 2) ⊎ (row ≡ 3))
  one_of row some few = elim (cases_eq row 1) [
    | inl e ↦ inl e
    | inr ne ↦ elim (cases_eq row 2) [ inl e ↦ inr (inl e) | inr other ↦ inr (inr (omega arith)) ]
  ]

  within : (row location : ℕ) → Has ring_sets row location → Has G row location
  within row location h =
      let p = and_parts (ltb 0 row && ltb row 4) (eqb location 0) h in
      let q = and_parts (ltb 0 row) (ltb row 4) p.0 in
      subst (Has G row) (sym (eqb-true location 0 p.1)) (elim (one_of row (ltb-true 0 row q.0) (ltb-true row 4 q.1)) [
        | inl e ↦ subst (λ (n : ℕ). Has G n 0) (sym e) first
        | inr more ↦ elim more [
          | inl e ↦ subst (λ (n : ℕ). Has G n 0) (sym e) second
          | inr e ↦ subst (λ (n : ℕ). Has G n 0) (sym e) third
        ]
      ])

abbrev edges : List (ℕ × ℕ)
edges = (2, 1) ∷ (3, 2) ∷ (1, 3) ∷ []

differ : (a b c d : ℕ) → a ≢ c → ◌≢◌ {A = ℕ × ℕ} (a, b) (c, d)
differ a b c d ne e = ne (ap (λ (p : ℕ × ℕ). p.0) e)

copied : (constraint : Constraint) (a b : ℕ) → In constraint ring.constraints → DemandsEdge ring ring_sets constraint a b → In (a, b) edges
copied constraint a b (inl e) d = let p = subst (λ (c : Constraint). DemandsEdge ring ring_sets c a b) e d in inl (λ i. (p.0 i, p.1 i))
copied constraint a b (inr (inl e)) d = let p = subst (λ (c : Constraint). DemandsEdge ring ring_sets c a b) e d in inr (inl (λ i. (p.0 i, p.1 i)))
copied constraint a b (inr (inr (inl e))) d = let p = subst (λ (c : Constraint). DemandsEdge ring ring_sets c a b) e d in inr (inr (inl (λ i. (p.0 i, p.1 i))))
copied constraint a b (inr (inr (inr (inl e)))) d = absurd (subst (λ (c : Constraint). DemandsEdge ring ring_sets c a b) e d)
copied constraint a b (inr (inr (inr (inr none)))) d = absurd none

an_edge : (a b : ℕ) → In (a, b) edges → IsEdge ring ring_sets a b
an_edge a b (inl e) = (Copy 2 1, list_has ring.constraints (Copy 2 1) (inl refl), (ap (λ (p : ℕ × ℕ). p.0) e, ap (λ (p : ℕ × ℕ). p.1) e))
an_edge a b (inr (inl e)) = (Copy 3 2, list_has ring.constraints (Copy 3 2) (inr (inl refl)), (ap (λ (p : ℕ × ℕ). p.0) e, ap (λ (p : ℕ × ℕ). p.1) e))
an_edge a b (inr (inr (inl e))) = (Copy 1 3, list_has ring.constraints (Copy 1 3) (inr (inr (inl refl))), (ap (λ (p : ℕ × ℕ). p.0) e, ap (λ (p : ℕ × ℕ). p.1) e))
an_edge a b (inr (inr (inr none))) = absurd none

pub ring_work : RingWork
ring_work = (
  record { closed = ring_closed; below = λ G closed row location h. within G closed row location h },
  record {
    edges = edges;
    once = list_apart edges (
      λ i. elim i [ inl e ↦ differ 2 1 3 2 (omega arith) e | inr more ↦ elim more [ inl e ↦ differ 2 1 1 3 (omega arith) e | inr none ↦ none ] ],
      (λ i. elim i [ inl e ↦ differ 3 2 1 3 (omega arith) e | inr none ↦ none ], (λ none. none, tt)),
    );
    all = λ a b. (λ c. an_edge a b (in_list edges (a, b) c), λ e. list_has edges (a, b) (copied e.0 a b (in_list ring.constraints e.0 e.1) e.2));
    sum = refl;
  },
)
