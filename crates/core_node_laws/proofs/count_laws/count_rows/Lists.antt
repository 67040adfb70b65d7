-- Sums over lists of nodes.
use Rattle.std.proofs.Common.{arith, ℕ, suc, ◌+◌, ◌≤◌, ◌≡◌, ◌∙◌, refl, ap, Bool, true, false, List, [], ◌∷◌, Option, Some, None}
use Rattle.std.specs.Prelude.{◌==◌, if◌then◌else◌}
use Rattle.c_grammar.specs.Productions.{p_statement, p_expression}
use Rattle.std.proofs.lemmas.Bool.{eqb-true}
use Rattle.c_senses.specs.Tree.{Source, production_at, is_a, all_where, first_where, last_where, last_or}
use Rattle.c_senses.specs.Sense.{Sense, last_of}
use Rattle.core_node_laws.specs.count_laws.count_rows.Counts.{Count, count_of, total}
use Rattle.core_node_laws.specs.count_laws.count_rows.Covers.{IsIn}

pub in_head : (c : ℕ) (rest : List ℕ) → IsIn (c ∷ rest) c
in_head c rest = (0, refl)

pub in_tail : (x c : ℕ) (rest : List ℕ) → IsIn rest c → IsIn (x ∷ rest) c
in_tail x c rest h = (suc h.0, h.1)

pub last_in : (first : ℕ) (rest : List ℕ) → IsIn (first ∷ rest) (last_of first rest)
last_in first [] = (0, refl)
last_in first (y ∷ rest) = in_tail first (last_of y rest) (y ∷ rest) (last_in y rest)

pub last_where_in : (test : ℕ → Bool) (list : List ℕ) (c : ℕ) → last_where test list ≡ Some c → IsIn list c
last_where_in test [] c e = cc
last_where_in test (x ∷ xs) c e = by (last_where test xs) refl (test x) e (λ k. last_where_in test xs c k)
  where
    by : (o : Option ℕ) → last_where test xs ≡ o → (b : Bool) → last_or o (if b then Some x else None) ≡ Some c → (last_where test xs ≡ Some c → IsIn xs c) → IsIn (x ∷ xs) c
    by (Some y) h b e k = in_tail x c xs (k (h ∙ e))
    by None h true e k = let same : x ≡ c = cc in (0, ap Some same)
    by None h false e k = cc

module _ (n : Count) (sense : ℕ → Sense) where
  abbrev pub N : ℕ → ℕ
  N c = count_of n (sense c)

  abbrev pub T : List ℕ → ℕ
  T list = total n sense list

  pub all_where_less : (test : ℕ → Bool) (list : List ℕ) → T (all_where test list) ≤ T list
  all_where_less test [] = omega arith
  all_where_less test (x ∷ xs) = by (test x) (all_where_less test xs)
    where
      by : (b : Bool) → T (all_where test xs) ≤ T xs → T (if b then x ∷ all_where test xs else all_where test xs) ≤ T (x ∷ xs)
      by true h = omega (arith, h)
      by false h = omega (arith, h)

  -- an option's sense
  abbrev pub of_some : Option ℕ → ℕ
  of_some None = 0
  of_some (Some c) = N c

-- a node of one production is of no other
pub apart : (s : Source) (p q c : ℕ) → (p == q) ≡ false → is_a s p c ≡ true → is_a s q c ≡ false
apart s p q c differ e = ap (λ (x : ℕ). x == q) (eqb-true (production_at s c) p e) ∙ differ

module _ (n : Count) (s : Source) (sense : ℕ → Sense) where
  -- of those that are no statements
  abbrev pub U : List ℕ → ℕ
  U [] = 0
  U (c ∷ rest) = (if is_a s p_statement c then 0 else N n sense c) + U rest

  pub split : (list : List ℕ) → U list + T n sense (all_where (is_a s p_statement) list) ≤ T n sense list
  split [] = omega arith
  split (c ∷ rest) = by (is_a s p_statement c) (split rest)
    where
      by : (b : Bool) → U rest + T n sense (all_where (is_a s p_statement) rest) ≤ T n sense rest
          → ((if b then 0 else N n sense c) + U rest) + T n sense (if b then c ∷ all_where (is_a s p_statement) rest else all_where (is_a s p_statement) rest) ≤ T n sense (c ∷ rest)
      by true h = omega (arith, h)
      by false h = omega (arith, h)

  pub outside : (c : ℕ) (rest : List ℕ) → is_a s p_statement c ≡ false → N n sense c + U rest ≤ U (c ∷ rest)
  outside c rest e = by (is_a s p_statement c) e
    where
      by : (b : Bool) → b ≡ false → N n sense c + U rest ≤ (if b then 0 else N n sense c) + U rest
      by true e = cc
      by false e = omega arith

  pub later : (c : ℕ) (rest : List ℕ) → U rest ≤ U (c ∷ rest)
  later c rest = omega arith

  -- the first expression
  pub first_less : (list : List ℕ) → of_some n sense (first_where (is_a s p_expression) list) ≤ U list
  first_less [] = omega arith
  first_less (c ∷ rest) = by (is_a s p_expression c) refl (first_less rest)
    where
      by : (b : Bool) → is_a s p_expression c ≡ b → of_some n sense (first_where (is_a s p_expression) rest) ≤ U rest → of_some n sense (if b then Some c else first_where (is_a s p_expression) rest) ≤ U (c ∷ rest)
      by true e h = let k = outside c rest (apart s p_expression p_statement c refl e) in omega (arith, k)
      by false e h = let k = later c rest in omega (arith, h, k)
