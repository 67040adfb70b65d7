-- What is between two nodes below a node is below it.
use Rattle.std.proofs.Common.{arith, ◌≡◌, ◌<◌, ◌≤◌, ℕ, suc, nat_lt, nat_eq, ◌||◌, Bool, true, false, List, ◌∷◌, length, refl, sym, ap, subst, ◌⊎◌, inl, inr}
use Rattle.std.proofs.lemmas.Bool.{eqb-true, eqb-false, ltb-true, ltb-false}
use Rattle.c_grammar.specs.Terminals.{contains}
use Rattle.c_senses.specs.Tree.{Source, children_at}
use Rattle.core_node_laws.specs.count_laws.passed.parsed_tree_laws.span_laws.Spans.{Spans, Runs, over, no_more, one_more, Spanned}
use Rattle.declaration_laws.specs.declared_type_laws.owner_laws.passed.definition_laws.scope_laws.Beneath.{Beneath, part, deeper}
use Rattle.declaration_laws.proofs.declared_type_laws.owner_laws.passed.definition_laws.scope_laws.Tree.{further}
use Rattle.declaration_laws.proofs.declared_type_laws.owner_laws.passed.definition_laws.scope_laws.Scopes.{equal}

abbrev pub IsPart : Source → ℕ → ℕ → Type 0
IsPart s i c = contains (children_at s i) c ≡ true

module _ (s : Source) where
  mutual
    spans_low : (low i : ℕ) → Spans s low i → low ≤ i
    spans_low low i (over runs) = runs_low low (children_at s i) i runs

    runs_low : (low : ℕ) (ks : List ℕ) (high : ℕ) → Runs s low ks high → low ≤ high
    runs_low low ks high no_more = omega arith
    runs_low low ks high (one_more {c = c} {rest = rest} spans runs) =
        let one = spans_low low c spans in let two = runs_low (suc c) rest high runs in omega (arith, one, two)

  record Spanning (low c high : ℕ) : Type 0 where
    from : ℕ
    least : low ≤ from
    spans : Spans s from c
    small : c < high

  run_of : (low : ℕ) (ks : List ℕ) (high c : ℕ) → Runs s low ks high → contains ks c ≡ true → Spanning low c high
  run_of low ks high c no_more h = cc
  run_of low ks high c (one_more {c = k} {rest = rest} spans runs) h = by (nat_eq k c) refl h (λ f. run_of (suc k) rest high c runs f)
    where
      up : Spanning (suc k) c high → Spanning low c high
      up r = record { from = r.from; least = (let one = r.least in let two = spans_low low k spans in omega (arith, one, two)); spans = r.spans; small = r.small }

      by : (b : Bool) → nat_eq k c ≡ b → (b || contains rest c) ≡ true → (contains rest c ≡ true → Spanning (suc k) c high) → Spanning low c high
      by true e f later =
          let same : k ≡ c = eqb-true k c e in
          record { from = low; least = omega arith; spans = subst (λ (x : ℕ). Spans s low x) same spans; small = (let lt = runs_low (suc k) rest high runs in omega (arith, lt, same)) }
      by false e f later = up (later f)

  child_of : (low i c : ℕ) → Spans s low i → IsPart s i c → Spanning low c i
  child_of low i c (over runs) h = run_of low (children_at s i) i c runs h

  -- what is below a node has a number in its span
  in_span : (p a low : ℕ) → Beneath (IsPart s) p a → Spans s low p → Spanning low a p
  in_span p a low (part r) spans = child_of low p a spans r
  in_span p a low (deeper {i = i} b r) spans =
      let up = in_span p i low b spans in
      let own = child_of up.from i a up.spans r in
      record { from = own.from; least = (let one = up.least in let two = own.least in omega (arith, one, two)); spans = own.spans; small = (let one = up.small in let two = own.small in omega (arith, one, two)) }

  record Inside (ks : List ℕ) (b : ℕ) : Type 0 where
    child : ℕ
    is : contains ks child ≡ true
    at : (b ≡ child) ⊎ Beneath (IsPart s) child b

  -- and what has such a number is below it
  mutual
    span_below : (low p b : ℕ) → Spans s low p → low ≤ b → b < p → Beneath (IsPart s) p b
    span_below low p b (over runs) least small = place (run_below low (children_at s p) p b runs least small)
      where
        place : Inside (children_at s p) b → Beneath (IsPart s) p b
        place h = by h.at
          where
            by : (b ≡ h.child) ⊎ Beneath (IsPart s) h.child b → Beneath (IsPart s) p b
            by (inl same) = part (subst (λ (x : ℕ). IsPart s p x) (sym same) h.is)
            by (inr under) = further (IsPart s) p h.child b (part h.is) under

    run_below : (low : ℕ) (ks : List ℕ) (high b : ℕ) → Runs s low ks high → low ≤ b → b < high → Inside ks b
    run_below low ks high b no_more least small = absurd (omega (arith, least, small))
    run_below low ks high b (one_more {c = k} {rest = rest} spans runs) least small =
        by (nat_lt b k) refl (nat_eq b k) refl (λ lt. span_below low k b spans least lt) (λ le. run_below (suc k) rest high b runs le small)
      where
        head : contains (k ∷ rest) k ≡ true
        head = ap (λ (x : Bool). x || contains rest k) (equal k)

        or_more : (x y : Bool) → y ≡ true → (x || y) ≡ true
        or_more true y e = refl
        or_more false y e = e

        by : (x : Bool) → nat_lt b k ≡ x → (y : Bool) → nat_eq b k ≡ y → (b < k → Beneath (IsPart s) k b) → (suc k ≤ b → Inside rest b) → Inside (k ∷ rest) b
        by true less y e below behind = record { child = k; is = head; at = inr (below (ltb-true b k less)) }
        by false more true same below behind = record { child = k; is = head; at = inl (eqb-true b k same) }
        by false more false differ below behind =
            let le : k ≤ b = ltb-false b k more in
            let other = eqb-false b k differ in
            let r = behind (omega (arith, le, other)) in
            record { child = r.child; is = or_more (nat_eq k r.child) (contains rest r.child) r.is; at = r.at }

  pub between : Spanned s → (p a b c : ℕ) → p < length s.nodes → Beneath (IsPart s) p a → Beneath (IsPart s) p c → a ≤ b → b ≤ c → Beneath (IsPart s) p b
  between spanned p a b c lt one two first last =
      let own = spanned.each p lt in
      let x = in_span p a own.0 one own.1 in
      let y = in_span p c own.0 two own.1 in
      let low = spans_low x.from a x.spans in
      let least = x.least in
      let small = y.small in
      span_below own.0 p b own.1 (omega (arith, low, least, first)) (omega (arith, last, small))
