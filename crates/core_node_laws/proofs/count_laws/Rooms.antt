-- Sums over the numbers of nodes.
use Rattle.std.proofs.Common.{arith, ◌≡◌, ◌<◌, ◌≤◌, ◌+◌, ◌-◌, ℕ, zero, suc, Bool, true, false, List, [], ◌∷◌, Some, None, slice_get, take, get_or, refl, sym, ap, ◌∙◌, subst}
use Rattle.std.specs.Prelude.{◌==◌, if◌then◌else◌}
use Rattle.std.proofs.lemmas.Bool.{eqb-true}
use Rattle.c_grammar.specs.Productions.{p_post}
use Rattle.c_senses.specs.Tree.{Source, is_a, is_leaf, children_at, left_of, first_where}
use Rattle.c_senses.specs.Sense.{Sense, Nothing}
use Rattle.parsed_tree_laws.specs.span_laws.Spans.{Spans, over, Runs, no_more, one_more, weights}
use Rattle.core_node_laws.specs.count_laws.count_rows.Counts.{Count, count_of}
use Rattle.core_node_laws.specs.count_laws.count_rows.Covers.{IsIn}
use Rattle.core_node_laws.specs.count_laws.Counting.{sum_below}

-- a sum over a list
abbrev pub sum_of : (ℕ → ℕ) → List ℕ → ℕ
sum_of G [] = 0
sum_of G (c ∷ rest) = G c + sum_of G rest

-- the senses before a node have no more than all
pub taken_less : (n : Count) (xs : List Sense) (i c : ℕ) → count_of n (get_or (take i xs) c Nothing) ≤ count_of n (get_or xs c Nothing)
taken_less n [] zero c = omega arith
taken_less n [] (suc i) c = omega arith
taken_less n (x ∷ xs) zero c = omega arith
taken_less n (x ∷ xs) (suc i) zero = omega arith
taken_less n (x ∷ xs) (suc i) (suc c) = taken_less n xs i c

-- a node of one production is of no other
pub apart : (s : Source) (p q c : ℕ) → (p == q) ≡ false → is_a s p c ≡ true → is_a s q c ≡ false
apart s p q c differ e = ap (λ (x : ℕ). x == q) (eqb-true _ p e) ∙ differ

module _ (s : Source) where
  mutual
    pub runs_in : (low : ℕ) (list : List ℕ) (high c : ℕ) → Runs s low list high → IsIn list c → c < high
    runs_in low list high c no_more (k, at) = cc
    runs_in low list high c (one_more {c = d} {rest = rest} span runs) (zero, at) = let same : d ≡ c = cc in let up = runs_le (suc d) rest high runs in omega (arith, same, up)
    runs_in low list high c (one_more {c = d} {rest = rest} span runs) (suc k, at) = runs_in (suc d) rest high c runs (k, at)

    pub spans_le : (low i : ℕ) → Spans s low i → low ≤ i
    spans_le low i (over runs) = runs_le low (children_at s i) i runs

    pub runs_le : (low : ℕ) (list : List ℕ) (high : ℕ) → Runs s low list high → low ≤ high
    runs_le low list high no_more = omega arith
    runs_le low list high (one_more {c = c} {rest = rest} span runs) = let a = spans_le low c span in let b = runs_le (suc c) rest high runs in omega (arith, a, b)

no_run : (s : Source) (low : ℕ) (list : List ℕ) (high : ℕ) → list ≡ [] → Runs s low list high → low ≡ high
no_run s low list high e no_more = refl
no_run s low list high e (one_more span runs) = cc

leaf_at : (s : Source) → ((c : ℕ) → is_leaf s c ≡ true → children_at s c ≡ []) → (z c : ℕ) → is_leaf s c ≡ true → Spans s z c → z ≡ c
leaf_at s leaves z c leafy (over runs) = no_run s z (children_at s c) c (leaves c leafy) runs

-- nodes that begin with a leaf begin at its number
pub begins_at : (s : Source) → ((c : ℕ) → is_leaf s c ≡ true → children_at s c ≡ []) → (z : ℕ) (list : List ℕ) (high c : ℕ) (more : List ℕ) → list ≡ c ∷ more → is_leaf s c ≡ true → Runs s z list high → z ≡ c
begins_at s leaves z list high c more e leafy no_more = cc
begins_at s leaves z list high c more e leafy (one_more {c = d} span runs) = let same : d ≡ c = cc in leaf_at s leaves z d (ap (is_leaf s) same ∙ leafy) span ∙ same

-- between bounds for what rows make and what bodies have, over the numbers from one on up to another: there is room for so many
module _ (bound : ℕ → ℕ) (bodies : ℕ → ℕ) where
  abbrev pub Room : ℕ → ℕ → ℕ → Type 0
  Room k low high = k + (sum_below bodies high + sum_below bound low) ≤ sum_below bound high + sum_below bodies low

  pub room_none : (low : ℕ) → Room 0 low low
  room_none low = omega arith

  pub room_then : (k l low mid high : ℕ) → Room k low mid → Room l mid high → Room (k + l) low high
  room_then k l low mid high h g = omega (arith, h, g)

  pub room_less : (k l low high : ℕ) → k ≤ l → Room l low high → Room k low high
  room_less k l low high le h = omega (arith, le, h)

  module _ (s : Source) (N : ℕ → ℕ) where
    -- what follows a primary has what is on its left beside what stands under it
    abbrev pub extra : ℕ → ℕ → ℕ
    extra low i = if is_a s p_post i then N (left_of s low) else 0

    pub record Claim (i : ℕ) : Type 0 where
      pub balance : (low : ℕ) → Spans s low i → Room 0 low (suc i)
      pub most : (low : ℕ) → Spans s low i → N i + (sum_below bodies (suc i) + sum_below bound low) ≤ (sum_below bound (suc i) + sum_below bodies low) + extra low i

    pub plain_room : (i low : ℕ) → Claim i → Spans s low i → is_a s p_post i ≡ false → Room (N i) low (suc i)
    plain_room i low c span e = by (is_a s p_post i) e (c.most low span)
      where
        by : (b : Bool) → b ≡ false → N i + (sum_below bodies (suc i) + sum_below bound low) ≤ (sum_below bound (suc i) + sum_below bodies low) + (if b then N (left_of s low) else 0) → Room (N i) low (suc i)
        by true e h = cc
        by false e h = omega (arith, h)

    module _ (i : ℕ) (below : (j : ℕ) → j < i → Claim j) where
      pub balance_run : (low : ℕ) (list : List ℕ) (high : ℕ) → Runs s low list high → high ≤ i → Room 0 low high
      balance_run low list high no_more le = omega arith
      balance_run low list high (one_more {c = c} {rest = rest} span runs) le =
          let up = runs_le s (suc c) rest high runs in
          let here = (below c (omega (arith, up, le))).balance low span in
          let later = balance_run (suc c) rest high runs le in
          omega (arith, here, later)

      -- a sum of what parts have, each within its own span
      pub sum_run : (G : ℕ → ℕ) (low : ℕ) (list : List ℕ) (high : ℕ) → Runs s low list high → high ≤ i → ((c z : ℕ) → IsIn list c → c < i → Spans s z c → Room (G c) z (suc c)) → Room (sum_of G list) low high
      sum_run G low list high no_more le each = omega arith
      sum_run G low list high (one_more {c = c} {rest = rest} span runs) le each =
          let up = runs_le s (suc c) rest high runs in
          let here = each c low (0, refl) (omega (arith, up, le)) span in
          let later = sum_run G (suc c) rest high runs le (λ d z at lt sp. each d z (suc at.0, at.1) lt sp) in
          omega (arith, here, later)

      -- the first that passes a test
      pub first_run : (G : ℕ → ℕ) (test : ℕ → Bool) (low : ℕ) (list : List ℕ) (high : ℕ) → Runs s low list high → high ≤ i → ((c z : ℕ) → IsIn list c → c < i → test c ≡ true → Spans s z c → Room (G c) z (suc c))
          → Room (elim (first_where test list) as (λ _. ℕ) [ None ↦ 0 | Some c ↦ G c ]) low high
      first_run G test low list high no_more le each = omega arith
      first_run G test low list high (one_more {c = c} {rest = rest} span runs) le each =
          let up = runs_le s (suc c) rest high runs in
          by (test c) refl (omega (arith, up, le)) (balance_run (suc c) rest high runs le) (first_run G test (suc c) rest high runs le (λ d z at lt t sp. each d z (suc at.0, at.1) lt t sp))
        where
          by : (b : Bool) → test c ≡ b → c < i → Room 0 (suc c) high → Room (elim (first_where test rest) as (λ _. ℕ) [ None ↦ 0 | Some d ↦ G d ]) (suc c) high
              → Room (elim (if b then Some c else first_where test rest) as (λ _. ℕ) [ None ↦ 0 | Some d ↦ G d ]) low high
          by true e lt rest_room later = let here = each c low (0, refl) lt e span in omega (arith, here, rest_room)
          by false e lt rest_room later = let here = (below c lt).balance low span in omega (arith, here, later)

      module _ (leaves : (c : ℕ) → is_leaf s c ≡ true → children_at s c ≡ []) where
        leaf_span : (z c : ℕ) → is_leaf s c ≡ true → Spans s z c → z ≡ c
        leaf_span z c leafy (over runs) = no_run s z (children_at s c) c (leaves c leafy) runs

        pub one_leaf : (z c : ℕ) → is_leaf s c ≡ true → Spans s z c → z ≡ c
        one_leaf z c leafy span = leaf_span z c leafy span

        -- each one in a list of parts, where what follows a primary has what is before it
        pub walk : (low z w : ℕ) (list : List ℕ) (high : ℕ) → Runs s z list high → high ≤ i → Room 0 low z → (1 ≤ w → Room (N (z - 1)) low z) → (2 ≤ w → Room (N (left_of s z)) low z)
            → ((k c : ℕ) → slice_get list k ≡ Some c → is_a s p_post c ≡ true → 2 ≤ w + weights s (take k list)) → (c : ℕ) → IsIn list c → Room (N c) low high
        walk low z w list high no_more le balance one left behind c (k, at) = cc
        walk low z w list high (one_more {c = d} {rest = rest} span runs) le balance one left behind c at =
            let up = runs_le s (suc d) rest high runs in
            let claim = below d (omega (arith, up, le)) in
            let here = claim.balance z span in
            let own : Room (N d) low (suc d) = by_post (is_a s p_post d) refl claim in
            let more : Room 0 low (suc d) = omega (arith, balance, here) in
            let rest_room = balance_run (suc d) rest high runs le in
            by at (omega (arith, own, rest_room)) (λ l. walk low (suc d) (w + (if is_leaf s d then 1 else 2)) rest high runs le more (λ _. let last : suc d - 1 ≡ d = omega arith in subst (λ (x : ℕ). Room (N x) low (suc d)) (sym last) own)
            (λ heavy. new_left (is_leaf s d) refl heavy own here)
            (λ k x e is. let h = behind (suc k) x e is in omega (arith, h)) c l)
          where
            by_post : (b : Bool) → is_a s p_post d ≡ b → Claim d → Room (N d) low (suc d)
            by_post true is claim =
                let two = behind 0 d refl is in
                let before = left (omega (arith, two)) in
                let h = subst (λ (b : Bool). N d + (sum_below bodies (suc d) + sum_below bound z) ≤ (sum_below bound (suc d) + sum_below bodies z) + (if b then N (left_of s z) else 0)) is (claim.most z span) in
                omega (arith, before, h)
            by_post false is claim = let h = plain_room d z claim span is in omega (arith, balance, h)

            by_leaf : (b : Bool) → is_leaf s d ≡ b → 2 ≤ w + (if b then 1 else 2) → Room (N d) low (suc d) → Room 0 z (suc d) → Room (N (if b then suc d - 2 else suc d - 1)) low (suc d)
            by_leaf true leafy heavy own here =
                let same = leaf_span z d leafy span in
                let before = one (omega (arith, heavy)) in
                let two : z - 1 ≡ suc d - 2 = omega (arith, same) in
                subst (λ (x : ℕ). Room (N x) low (suc d)) two (omega (arith, before, here))
            by_leaf false leafy heavy own here = let last : suc d - 1 ≡ d = omega arith in subst (λ (x : ℕ). Room (N x) low (suc d)) (sym last) own

            new_left : (b : Bool) → is_leaf s d ≡ b → 2 ≤ w + (if b then 1 else 2) → Room (N d) low (suc d) → Room 0 z (suc d) → Room (N (left_of s (suc d))) low (suc d)
            new_left b leafy heavy own here =
                let last : suc d - 1 ≡ d = omega arith in
                let is : is_leaf s (suc d - 1) ≡ b = ap (is_leaf s) last ∙ leafy in
                let value : left_of s (suc d) ≡ (if b then suc d - 2 else suc d - 1) = ap (λ (x : Bool). if x then suc d - 2 else suc d - 1) is in
                subst (λ (x : ℕ). Room (N x) low (suc d)) (sym value) (by_leaf b leafy heavy own here)

            by : IsIn (d ∷ rest) c → Room (N d) low high → (IsIn rest c → Room (N c) low high) → Room (N c) low high
            by (zero, e) h k = let same : d ≡ c = cc in subst (λ (x : ℕ). Room (N x) low high) same h
            by (suc j, e) h k = k (j, e)
