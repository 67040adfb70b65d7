-- Which nodes stand beneath a node, by their numbers.
use Rattle.std.proofs.Common.{arith, ◌≡◌, ◌<◌, ◌≤◌, ℕ, suc, ◌⊎◌, inl, inr, nat_eq, nat_lt, Bool, true, false, List, ◌∷◌, refl, sym, subst}
use Rattle.std.proofs.lemmas.Bool.{eqb-true, eqb-false, ltb-true}
use Rattle.std.proofs.lemmas.Bool.Decides.{nat_tests}
use Rattle.c_grammar.specs.Terminals.{contains}
use Rattle.c_senses.specs.Tree.{Source, children_at}
use Rattle.core_node_laws.proofs.built_unit_laws.passed.core_node_laws.standing_laws.Climbing.{in_list}
use Rattle.core_node_laws.specs.count_laws.passed.parsed_tree_laws.span_laws.Spans.{Spans, over, Runs, no_more, one_more}
use Rattle.core_node_laws.specs.count_laws.passed.parsed_tree_laws.ordered_parts.Ordered.{IsPart, Beneath, itself, under}
use Rattle.declaration_laws.proofs.definition_laws.own_initialisers.Searching.{member, head_in, next_in}

not_before : (x y : ℕ) → nat_lt x y ≡ false → y ≤ x
not_before x y e = grind (arith, nat_tests, e)

module _ (s : Source) where
  mutual
    pub spans_le : (low i : ℕ) → Spans s low i → low ≤ i
    spans_le low i (over runs) = runs_le low (children_at s i) i runs

    pub runs_le : (low : ℕ) (list : List ℕ) (high : ℕ) → Runs s low list high → low ≤ high
    runs_le low list high no_more = omega arith
    runs_le low list high (one_more {c = c} {rest = rest} span runs) = let a = spans_le low c span in let b = runs_le (suc c) rest high runs in omega (arith, a, b)

  -- a part is not below what its node spans
  runs_low : (low : ℕ) (list : List ℕ) (high x : ℕ) → Runs s low list high → contains list x ≡ true → low ≤ x
  runs_low low list high x no_more h = cc
  runs_low low list high x (one_more {c = c} {rest = rest} span runs) h = by (member c x rest h) (λ more. runs_low (suc c) rest high x runs more)
    where
      first : low ≤ c
      first = spans_le low c span

      by : (c ≡ x) ⊎ (contains rest x ≡ true) → (contains rest x ≡ true → suc c ≤ x) → low ≤ x
      by (inl same) later = let le = first in omega (arith, le, same)
      by (inr more) later = let deep = later more in let le = first in omega (arith, le, deep)

  pub part_low : (low i x : ℕ) → Spans s low i → contains (children_at s i) x ≡ true → low ≤ x
  part_low low i x (over runs) h = runs_low low (children_at s i) i x runs h

  -- what stands beneath a part stands beneath the node
  pub beneath_part : (i c k : ℕ) → IsPart s i c → Beneath s c k → Beneath s i k
  beneath_part i c k part itself = under part itself
  beneath_part i c k part (under {q = q} of below) = under of (beneath_part i c q part below)

  mutual
    in_spans : (low i k : ℕ) → Spans s low i → low ≤ k → k ≤ i → Beneath s i k
    in_spans low i k (over runs) lo hi = by (nat_eq i k) refl (λ lt. in_runs low (children_at s i) i k runs lo lt)
      where
        by : (b : Bool) → nat_eq i k ≡ b → (k < i → (c : ℕ) × (contains (children_at s i) c ≡ true) × Beneath s c k) → Beneath s i k
        by true e deep = subst (λ (x : ℕ). Beneath s i x) (eqb-true i k e) itself
        by false e deep = let differ = eqb-false i k e in let at = deep (omega (arith, hi, differ)) in beneath_part i at.0 k (in_list (children_at s i) at.0 at.1) at.2

    in_runs : (low : ℕ) (list : List ℕ) (high k : ℕ) → Runs s low list high → low ≤ k → k < high → (c : ℕ) × (contains list c ≡ true) × Beneath s c k
    in_runs low list high k no_more lo hi = absurd (omega (arith, lo, hi))
    in_runs low list high k (one_more {c = c} {rest = rest} span runs) lo hi = by (nat_lt c k) refl (λ lt. in_runs (suc c) rest high k runs lt hi) (λ le. in_spans low c k span lo le)
      where
        by : (b : Bool) → nat_lt c k ≡ b → (suc c ≤ k → (x : ℕ) × (contains rest x ≡ true) × Beneath s x k) → (k ≤ c → Beneath s c k) → (x : ℕ) × (contains (c ∷ rest) x ≡ true) × Beneath s x k
        by true e later here = let lt = ltb-true c k e in let found = later (omega (arith, lt)) in (found.0, next_in c found.0 rest found.1, found.2)
        by false e later here = (c, head_in c rest, here (not_before c k e))

  pub within_part : (low i k : ℕ) → Spans s low i → low ≤ k → k < i → (c : ℕ) × (contains (children_at s i) c ≡ true) × Beneath s c k
  within_part low i k (over runs) lo hi = in_runs low (children_at s i) i k runs lo hi

  -- beneath a node: itself, or beneath one of its parts
  pub top_down : (i k : ℕ) → Beneath s i k → (i ≡ k) ⊎ ((c : ℕ) × IsPart s i c × Beneath s c k)
  top_down i k itself = inl refl
  top_down i k (under {q = q} {c = c} of below) = by (top_down i q below)
    where
      by : (i ≡ q) ⊎ ((d : ℕ) × IsPart s i d × Beneath s d q) → (i ≡ c) ⊎ ((d : ℕ) × IsPart s i d × Beneath s d c)
      by (inl same) = inr (c, subst (λ (x : ℕ). IsPart s x c) (sym same) of, itself)
      by (inr more) = inr (more.0, more.1, under of more.2)
